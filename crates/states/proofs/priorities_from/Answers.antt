use mathlib.Core.Path.{ap, ◌∙◌}
use Prim.Native.Nat.{ℕ, ◌<◌}
use native.Mathlib.Omega.{arith}
use lib.ListN.{set, length-take}
use lib.Seq.{get_or-take}
use Rattle.tournament_state.specs.Refusals.{priority}
use Rattle.states.proofs.Placed.{filled_more, filled_all}
use Rattle.states.proofs.priorities_from.Goals as goal

pub loop-i-preserved : goal.loop-i-preserved
loop-i-preserved c =
    let l = c.loop-i in
    let lent = c.args.priorities.now in
    let n = c.min-n.result in
    let inside : l.i < n = omega (arith, length-take n lent) in
    ap (λ (x : ℕ). set l.places l.i (priority x)) (get_or-take n lent l.i 0 inside)
    ∙ filled_more priority lent l.i l.places (omega (arith, c.min-n.ensures)) (omega (arith, c.min-n.ensures)) l.invariant

pub returns : goal.returns
returns c =
    let l = c.loop-i in
    let lent = c.args.priorities.now in
    l.invariant ∙ filled_all priority lent l.i (omega (arith, c.min-n.ensures, length-take c.min-n.result lent))
