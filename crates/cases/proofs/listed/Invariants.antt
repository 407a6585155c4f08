-- There are no more lines than bytes, and each of those that are gone is counted once. Assumes nothing.
use Rattle.std.proofs.Common.{◌+◌, ◌≤◌, length}
use Rattle.pairs.specs.Lines.{lines_left}
use Rattle.cases.proofs.listed.Given as goal

abbrev pub invariant-loop-names : goal.invariant-loop-names
invariant-loop-names g l =
    (goal.iterator-loop-names g).can_next l.names-iterator
    × (goal.iterator-loop-names g).is_finite l.names-iterator
    × (l.same + l.different + length (lines_left l.names-iterator) ≤ length l.list)
