-- Without a master node V comes first and a release joins while it lasts; in slots H does, and none joins. Assumes nothing.
use Rattle.costs.proofs.Costs.{of_self, of_slots}
use Rattle.costs.proofs.overheads_of.Goals as goal

pub returns-then-t-eq0 : goal.returns-then-t-eq0
returns-then-t-eq0 c =
    of_self c.args.t c.u_of-u.ensures c.if-t-eq0.true c.v_of-lead.ensures

pub returns : goal.returns
returns c =
    rw (c.from.ensures, c.from-2.ensures) (of_slots c.args.t c.u_of-u.ensures c.if-t-eq0.false)
