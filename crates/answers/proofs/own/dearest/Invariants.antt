-- After each turn the largest so far is known, and it is small.
use mathlib.Core.Path.{◌≡◌}
use Prim.Native.Nat.{◌+◌, ◌≤◌}
use Rattle.terms.specs.Gathered.{cost}
use Rattle.answers.specs.private.Gather.{largest_in}
use Rattle.answers.proofs.own.dearest.Given as goal

abbrev pub invariant-loop-cost : goal.invariant-loop-cost
invariant-loop-cost l = (l.most ≡ largest_in l.costs l.from (l.from + l.cost-index)) × (l.most ≤ cost)
