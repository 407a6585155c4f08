-- No gap so far wants more partners than there are. Assumes nothing.
use Rattle.std.proofs.Common.{◌≡◌, Ok}
use Rattle.compare.specs.Changes.{first_change}
use Rattle.compare.specs.private.Moves.{gap_by}
use Rattle.compare.proofs.noise.Given as goal

abbrev pub invariant-loop-k : goal.invariant-loop-k
invariant-loop-k l = first_change (gap_by l.old l.new) l.k ≡ Ok tt
