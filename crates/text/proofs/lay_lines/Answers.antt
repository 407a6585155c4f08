use native.Mathlib.Omega.{arith}
use Rattle.plan.specs.Plan.{blank}
use Rattle.text.specs.Listing.{lines_from}
use Rattle.text.proofs.Laying.{is, none, then, last}
use Rattle.text.proofs.Rows.{lines_more}
use Rattle.text.proofs.lay_lines.Goals as goal

pub loop-k-init : goal.loop-k-init
unfolding lines_from
loop-k-init g c = none _ _ (omega arith)

pub loop-k-preserved : goal.loop-k-preserved
loop-k-preserved g c =
    let l = c.loop-k in
    is (lines_more (g.T.Told.line c.args.told.now) l.k c.args.streams.now blank (omega arith))
    (then l.invariant (last c.lay_line-next.ensures) (omega arith))
