use mathlib.Core.Path.{◌≡◌, refl, ap, ◌∙◌}
use mathlib.Core.Bool.{false}
use Prim.Native.Nat.{◌<◌}
use native.Mathlib.Omega.{arith}
use lib.ListN.{length, get_or, take, length-set, length-take}
use lib.Seq.{get_or-take}
use Rattle.states.specs.States.{byte}
use Rattle.states.proofs.Placed.{laid_none, laid_more, written_all}
use borrow.Author.Rules.{rules}
use Rattle.states.proofs.marks_into.Goals as goal

pub loop-i-init : goal.loop-i-init
loop-i-init c = (laid_none _ _, refl)

pub loop-i-preserved : goal.loop-i-preserved
loop-i-preserved c =
    let l = c.loop-i in
    let s = c.args in
    let n = c.min-n.result in
    let long : length s.marks ≡ 128 = search rules in
    let inside : l.i < n = omega (arith, length-take n s.marks) in
    let lent : l.i < length s.out.now = omega (arith, c.min-n.ensures) in
    let own : c.from.result ≡ byte (get_or (take n s.marks) l.i false) = search rules in (
      laid_more _ s.out.now l.i _ l.out lent l.invariant.0 (own ∙ ap byte (get_or-take n s.marks l.i false inside)),
      simp length-set l.invariant.1,
    )

pub returns : goal.returns
returns c =
    let l = c.loop-i in
    let s = c.args in
    let long : length s.marks ≡ 128 = search rules in
    l.invariant.0 ∙ written_all s.marks s.out.now l.i long (omega (arith, c.min-n.ensures, length-take c.min-n.result s.marks))
