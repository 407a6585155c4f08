-- After each turn the smallest so far is known.
use Prim.Native.Nat.{◌+◌}
use Rattle.answers.proofs.Cheapest.{SoFar}
use Rattle.answers.proofs.own.cheapest.Given as goal

abbrev pub invariant-loop-cost : goal.invariant-loop-cost
invariant-loop-cost l = SoFar l.costs l.from l.to (l.from + l.cost-index) l.least
