use mathlib.Core.Path.{◌≡◌, refl, ap, ◌∙◌}
use mathlib.Core.Bool.{cond, false}
use Prim.Native.Nat.{◌<◌, min}
use native.Mathlib.Omega.{arith}
use lib.ListN.{length, get_or, length-set, length-take}
use lib.Seq.{get_or-take}
use Rattle.names.specs.Limits.{contenders}
use Rattle.states.proofs.Placed.{laid_none, out_more, out_all}
use borrow.Author.Rules.{rules}
use Rattle.states.proofs.mark_out.Goals as goal

pub loop-i-init : goal.loop-i-init
loop-i-init c = (laid_none _ _, refl)

pub loop-i-preserved : goal.loop-i-preserved
loop-i-preserved c =
    let l = c.loop-i in
    let s = c.args in
    let n = c.min-n.result in
    let long : length s.marks ≡ 128 = search rules in
    let inside : l.i < n = omega (arith, length-take n s.marks) in
    let few : l.i < min s.count contenders = omega (arith, c.min-n.ensures, c.min.ensures) in
    let lent : l.i < length s.out.now = omega (arith, c.min-n.ensures) in (
      out_more s.count s.marks s.out.now l.i _ l.out few lent l.invariant.0 (c.kept.ensures ∙ ap (λ m. cond m (get_or l.out l.i 0) 0) (get_or-take n s.marks l.i false inside)),
      simp length-set l.invariant.1,
    )

pub returns : goal.returns
returns c =
    let l = c.loop-i in
    let s = c.args in
    let long : length s.marks ≡ 128 = search rules in
    l.invariant.0 ∙ out_all s.count s.marks s.out.now l.i (omega (arith, c.min-n.ensures, c.min.ensures, length-take c.min-n.result s.marks))
