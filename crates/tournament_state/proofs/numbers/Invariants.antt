-- The first i numbers stand in their places, one more each turn. Assumes nothing.
use mathlib.Core.Path.{◌≡◌}
use mathlib.Core.List.{◌++◌}
use Prim.Native.Nat.{◌-◌, ◌≤◌}
use lib.ListN.{get_or, replicate}
use Rattle.laws.specs.Lists.{rows}
use Rattle.tournament_state.specs.Refusals.{number, none}
use Rattle.tournament_state.proofs.numbers.Given as goal

abbrev pub invariant-loop-i : goal.invariant-loop-i
invariant-loop-i l = (l.i ≤ 128) × (l.out ≡ rows l.i (λ k. number (get_or l.priorities k none)) ++ replicate (128 - l.i) 0)

abbrev pub decreases-loop-i : goal.decreases-loop-i
decreases-loop-i l = 128 - l.i
