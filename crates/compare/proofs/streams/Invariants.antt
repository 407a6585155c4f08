-- No row so far is changed, and the numbers that each had and has are in their places. Assumes nothing.
use Rattle.std.proofs.Common.{◌≡◌, Ok, map}
use Rattle.names.specs.Limits.{streams}
use Rattle.laws.proofs.Placed.{placed_to}
use Rattle.compare.specs.Changes.{first_change}
use Rattle.compare.specs.private.Moves.{priority_of, number_then, of_row}
use Rattle.compare.proofs.streams.Given as goal

abbrev pub invariant-loop-k : goal.invariant-loop-k
invariant-loop-k l =
    record {
      unchanged : first_change (of_row l.old l.new) l.k ≡ Ok tt;
      was : l.was ≡ placed_to streams 0 (map (number_then l.old) l.new) l.k;
      is : l.is ≡ placed_to streams 0 (map priority_of l.new) l.k;
    }
