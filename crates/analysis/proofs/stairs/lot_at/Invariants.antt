-- Each turn takes one stair on to x: the sum gains its rise, the edge goes on by as many periods, and the nearest is no farther than it.
use mathlib.Core.Path.{◌≡◌}
use Prim.Native.Nat.{◌+◌}
use Rattle.analysis.specs.private.Stairs.{height, Gone, NoEdgeBefore}
use Rattle.analysis.proofs.stairs.lot_at.Given as goal

abbrev pub invariant-loop-k : goal.invariant-loop-k
invariant-loop-k l =
    (l.total + height l.costs l.periods l.initial.edges l.from l.x ≡ l.sum + height l.costs l.periods l.initial.edges l.k l.x) × Gone l.periods l.initial.edges l.edges l.from l.k l.x × NoEdgeBefore l.nearest l.edges l.from l.k
