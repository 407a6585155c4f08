use mathlib.Core.Path.{◌≡◌}
use native.Mathlib.Omega.{arith}
use Rattle.bound.specs.Bound.{side_L}
use Rattle.analysis.specs.private.Chains.{alone_terms}
use Rattle.analysis.proofs.Chains.{busy_start, busy_rises, busy_found, busy_more, busy_beyond}
use Rattle.terms.proofs.Fit.{fit_sound}
use Rattle.analysis.proofs.Sides.{side_L_alone}
use Rattle.analysis.proofs.alone.busy_alone.Goals as goal
use Rattle.analysis.proofs.alone.busy_alone.Goals.{After-own_at-own, At-loop-x, Start}

-- the function's entry, seen from the loop, and the loop, seen from the turn's evaluation
abbrev begun : At-loop-x → Start
begun c = c.before.before

abbrev round : After-own_at-own → At-loop-x
round c = c.before.before

-- the evaluation is L's right side at x
evaluated : (c : After-own_at-own) → let g = (begun (round c)).args.fitting.terms.row in c.own_at-own.result.sum ≡ side_L (alone_terms g) (round c).loop-x.x
evaluated c = omega (arith, c.own_at-own.ensures.sum_value, side_L_alone (begun (round c)).args.fitting.terms.row (round c).loop-x.x)

pub loop-x-init : goal.loop-x-init
loop-x-init c = busy_start (fit_sound _ _ _ c.args.fitting.fit.row) c.own_start-own.ensures

pub returns-then-y-x : goal.returns-then-y-x
returns-then-y-x c =
    busy_found (round (goal.at.returns-then-y-x c).After-own_at-own).loop-x.invariant (evaluated (goal.at.returns-then-y-x c).After-own_at-own) c.loop-x-test.true c.if-y-x.true

pub loop-x-smaller : goal.loop-x-smaller
loop-x-smaller c =
    omega (arith, busy_rises (round (goal.at.loop-x-smaller c).After-own_at-own).loop-x.invariant (evaluated (goal.at.loop-x-smaller c).After-own_at-own), c.loop-x-test.true, c.if-y-x.false)

pub loop-x-preserved : goal.loop-x-preserved
loop-x-preserved c =
    busy_more (round (goal.at.loop-x-preserved c).After-own_at-own).loop-x.invariant (evaluated (goal.at.loop-x-preserved c).After-own_at-own) c.loop-x-test.true c.if-y-x.false c.own_at-own.ensures.own_kept_2

pub returns : goal.returns
returns c = busy_beyond c.loop-x.invariant (omega arith)
