-- Each turn takes one lot on to x; the sum has gained what all stairs up to there rise by.
use mathlib.Core.Path.{◌≡◌}
use Prim.Native.Nat.{◌+◌, ◌*◌, min}
use Rattle.analysis.specs.private.Fitting.{stairs_in}
use Rattle.analysis.specs.private.Stairs.{height, lot, Gone, Near}
use Rattle.analysis.proofs.stairs.Climber.climbed.Given as goal

abbrev pub invariant-loop-b : goal.invariant-loop-b
invariant-loop-b g l =
    let t = l.fitting.terms in
    (l.from ≡ min l.n (l.b * lot)) × (l.total ≡ l.sum + height t.costs.now t.periods.now l.initial.self.edges l.from l.x) × Gone t.periods.now l.initial.self.edges l.self.edges 0 l.from l.x × Near l.self (stairs_in l.fitting)
