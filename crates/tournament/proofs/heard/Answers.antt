use mathlib.Core.Path.{◌≡◌, refl, sym, ap, ◌∙◌}
use mathlib.Core.Bool.{true}
use Prim.Native.Nat.{◌<◌}
use native.Mathlib.Omega.{arith}
use borrow.Author.Rules.{rules}
use borrow.Author.Tests.{eq-eqb}
use lib.ListN.{length, length-take}
use lib.Seq.{get_or-take}
use Rattle.laws.proofs.Rows.{some_at, some_none}
use Rattle.tournament_state.specs.Refusals.{none}
use Rattle.tournament.specs.Rule.{bit_at, has_zero, in_with_zero, heard_at}
use Rattle.tournament.proofs.heard.Goals as goal

pub returns-then-low : goal.returns-then-low
unfolding heard_at
returns-then-low c =
    let i = c.loop-i.i in
    let k = c.args.k in
    let t = c.args.t.now in
    let few = c.requires.few in
    let inside : i < t.count = omega (arith, length-take t.count t.priorities) in
    let b = c.bit-low.ensures ∙ ap (bit_at t.bits k) (get_or-take t.count t.priorities i none inside) in
    let zero : has_zero t k i ≡ true = eq-eqb _ _ (sym b ∙ c.if-low.true) in
    sym (some_at (in_with_zero t k) t.count i inside (rw (c.if-t-i.true, zero) refl))

pub returns : goal.returns
unfolding heard_at
returns c =
    let t = c.args.t.now in
    let few = c.requires.few in
    let long : length t.priorities ≡ 128 = search rules in
    sym (some_none (in_with_zero t c.args.k) t.count c.loop-i.i c.loop-i.invariant (omega (arith, length-take t.count t.priorities)))
