-- Where the nearest edge is not passed none is, so nothing rises and all stays.
use native.Mathlib.Omega.{arith}
use Rattle.analysis.specs.private.Stairs.{NoEdgeBefore}
use Rattle.analysis.proofs.Climbing.{gone_still, height_still}
use Rattle.analysis.proofs.stairs.Climber.climbed_lot.Given.{Over}
use Rattle.analysis.proofs.stairs.Climber.climbed_lot.Goals as goal
use Rattle.analysis.proofs.stairs.Climber.climbed_lot.Goals.{Then-x-self}

-- no edge of the lot is passed
still : (g : Over) (c : Then-x-self g) → let a = c.args in NoEdgeBefore a.x a.self.now.edges a.from a.to
still g c k h l = omega (arith, c.if-x-self.true, c.requires.no_edge_before k h l)

pub returns-then-x-self-clause-risen : goal.returns-then-x-self-clause-risen
returns-then-x-self-clause-risen g c =
    let a = c.args in
    record {
      gained = omega (arith, height_still a.fitting.terms.costs.now a.fitting.terms.periods.now a.self.now.edges a.x a.from a.to c.requires.due.up (still g c));
      gone = gone_still _ _ _ _ _ (still g c);
    }
