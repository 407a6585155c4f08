-- No row so far was overtaken. Assumes nothing.
use Rattle.std.proofs.Common.{◌≡◌, Ok}
use Rattle.compare.specs.Changes.{first_change}
use Rattle.compare.specs.private.Moves.{urgency_by}
use Rattle.compare.proofs.order.Given as goal

abbrev pub invariant-loop-k : goal.invariant-loop-k
invariant-loop-k l = first_change (urgency_by l.new l.was l.is) l.k ≡ Ok tt
