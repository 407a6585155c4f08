-- As many periods as x has passed, at their cost: the sum is B and i's own part at x, and what is kept stays so.
use Prim.Native.Nat.{◌+◌, ◌*◌}
use Rattle.analysis.specs.private.Chains.{OwnKept}
use Rattle.analysis.proofs.Chains.{own_on}
use Rattle.analysis.proofs.searches.own_at.Goals as goal
use Rattle.analysis.proofs.searches.own_at.Goals.{After-periods_past-d}

-- the sum and the edge after it
on : (c : After-periods_past-d)
    → let a = c.args in
    let g = a.fitting.terms.row in
    OwnKept g (record { edge = a.own.edge + c.periods_past-d.result * g.period; sum = a.own.sum + c.periods_past-d.result * g.cost }) a.x
on c = own_on c.args.fitting.terms.row c.args.own c.args.x _ c.periods_past-d.ensures c.args.fitting.fit.row c.requires.x_le_ticks c.requires.own_kept

pub returns-clause-own_kept_2 : goal.returns-clause-own_kept_2
returns-clause-own_kept_2 c = on (goal.at.returns-clause-own_kept_2 c).After-periods_past-d
