-- After i turns the first i places have the first i marks that are lent. Assumes nothing.
use mathlib.Core.Path.{◌≡◌}
use mathlib.Core.List.{map}
use mathlib.Core.Bool.{false}
use Rattle.names.specs.Limits.{contenders}
use Rattle.laws.proofs.Placed.{placed_to}
use Rattle.states.specs.States.{mark}
use Rattle.states.proofs.marks_from.Given as goal

abbrev pub invariant-loop-i : goal.invariant-loop-i
invariant-loop-i l = l.places ≡ placed_to contenders false (map mark l.marks) l.i
