-- The labels of the streams so far are in their places. Assumes nothing.
use Rattle.std.proofs.Common.{◌≡◌, map}
use Rattle.names.specs.Limits.{streams}
use Rattle.laws.proofs.Placed.{placed_to}
use Rattle.compare.specs.private.Moves.{label_of}
use Rattle.compare.proofs.labels_of.Given as goal

abbrev pub invariant-loop-k : goal.invariant-loop-k
invariant-loop-k l = l.labels ≡ placed_to streams 0 (map label_of l.streams) l.k
