-- After i turns the first i places have the first i priorities that are lent. Assumes nothing.
use mathlib.Core.Path.{◌≡◌}
use mathlib.Core.List.{map}
use Rattle.names.specs.Limits.{contenders}
use Rattle.laws.proofs.Placed.{placed_to}
use Rattle.tournament_state.specs.Refusals.{none, priority}
use Rattle.states.proofs.priorities_from.Given as goal

abbrev pub invariant-loop-i : goal.invariant-loop-i
invariant-loop-i l = l.places ≡ placed_to contenders none (map priority l.priorities) l.i
