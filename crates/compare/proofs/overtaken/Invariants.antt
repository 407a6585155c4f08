-- Whether one of the rows so far overtakes row k. Assumes nothing.
use Rattle.std.proofs.Common.{◌≡◌}
use Rattle.laws.specs.Rows.{some}
use Rattle.compare.specs.private.Moves.{overtakes_by}
use Rattle.compare.proofs.overtaken.Given as goal

abbrev pub invariant-loop-j : goal.invariant-loop-j
invariant-loop-j l = l.overtaking ≡ some (overtakes_by l.was l.is l.k) l.j
