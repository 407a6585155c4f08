use mathlib.Core.Path.{◌≡◌, sym, ap, ap₂, ◌∙◌}
use mathlib.Core.Bool.{false}
use Prim.Native.Nat.{◌<◌}
use native.Mathlib.Omega.{arith}
use lib.ListN.{length, set, length-take}
use lib.Seq.{get_or-take}
use Rattle.laws.specs.Lists.{rows}
use Rattle.tournament_state.specs.Refusals.{none}
use Rattle.tournament_state.proofs.Places.{lay_over, lay_kept}
use Rattle.tournament.specs.Rule.{bit_at, is_in, in_with_zero, silenced_at}
use Rattle.tournament.proofs.Turns.{out_on_one, kept_on_zero}
use borrow.Author.Rules.{rules}
use Rattle.tournament.proofs.silenced.Goals as goal
use Rattle.tournament.proofs.silenced.Goals.{then-bit-eq1, else-bit-eq1}

pub loop-i-init : goal.loop-i-init
unfolding rows
loop-i-init c = search rules

pub loop-i-preserved : goal.loop-i-preserved
loop-i-preserved c =
    let l = c.loop-i in
    let t = c.args.t.now in
    let f = in_with_zero t c.args.k in
    let m : length t.marks ≡ 128 = search rules in
    let p : length t.priorities ≡ 128 = search rules in
    let few = c.requires.few in
    let inside : l.i < t.count = omega (arith, length-take t.count t.priorities) in
    let b = c.bit.ensures ∙ ap (bit_at t.bits c.args.k) (get_or-take t.count t.priorities l.i none inside) in (
      omega arith,
      elim c.if-bit-eq1.branch [
        | then-bit-eq1 w ↦ w.marks-is ∙ ap₂ (λ ms m. set ms l.i m) l.invariant.1 (sym (out_on_one (is_in t l.i) _ (sym b ∙ w.if-bit-eq1.true))) ∙ lay_over f t.marks false l.i (omega arith)
        | else-bit-eq1 w ↦ w.marks-is ∙ l.invariant.1 ∙ lay_kept f t.marks false l.i (omega arith) (kept_on_zero _ _ (λ z. w.if-bit-eq1.false (b ∙ z)))
      ],
    )

pub returns : goal.returns
unfolding silenced_at
returns c =
    let l = c.loop-i in
    let t = c.args.t.now in
    let p : length t.priorities ≡ 128 = search rules in
    let few = c.requires.few in
    let e : l.i ≡ t.count = omega (arith, length-take t.count t.priorities) in
    rw (← e) l.invariant.1
