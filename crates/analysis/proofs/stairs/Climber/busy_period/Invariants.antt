-- The chain from 1: each turn adds up the rest and i's own part, which is L's right side at x. It stands still at the least positive L, or passes the limit.
use Prim.Native.Nat.{◌-◌, ◌^◌}
use Rattle.analysis.specs.private.Fitting.{terms_in, stairs_in}
use Rattle.analysis.specs.private.Stairs.{Near}
use Rattle.analysis.specs.private.Chains.{rest_L, RestKept}
use Rattle.analysis.proofs.Chains.{BusyChain}
use Rattle.analysis.proofs.stairs.Climber.busy_period.Given as goal

abbrev pub invariant-loop-x : goal.invariant-loop-x
invariant-loop-x g l =
    let t = l.fitting.terms in
    BusyChain t.row (terms_in l.fitting) l.own l.evaluations l.x × RestKept t.costs.now t.periods.now l.self.edges (stairs_in l.fitting) (rest_L (terms_in l.fitting)) l.x l.rest × Near l.self (stairs_in l.fitting)

abbrev pub decreases-loop-x : goal.decreases-loop-x
decreases-loop-x g l = 2 ^ 32 - l.x
