-- A chain from `from`: each turn is one evaluation, and it stands still at the least fixed point, which is no higher than where the side stops rising.
use Prim.Native.Nat.{◌+◌, ◌-◌}
use Rattle.names.specs.Limits.{ticks}
use Rattle.laws.proofs.Chain.{Climb}
use Rattle.analysis.specs.private.Fitting.{stairs_in}
use Rattle.analysis.specs.private.Stairs.{height, start, Near}
use Rattle.analysis.specs.private.Chains.{side, RestKept}
use Rattle.analysis.proofs.stairs.Climber.settled.Given as goal

abbrev pub invariant-loop-x : goal.invariant-loop-x
invariant-loop-x g l =
    let t = l.fitting.terms in
    let n = stairs_in l.fitting in
    Climb (side t.costs.now t.periods.now l.initial.self.edges n l.base l.sum) l.from l.x × RestKept t.costs.now t.periods.now l.self.edges n (λ y. l.sum + height t.costs.now t.periods.now l.initial.self.edges n (y + start)) l.x l.total
    × Near l.self n

abbrev pub decreases-loop-x : goal.decreases-loop-x
decreases-loop-x g l = ticks - l.x
