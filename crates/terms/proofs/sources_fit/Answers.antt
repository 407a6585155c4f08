use mathlib.Core.Path.{sym}
use Rattle.laws.proofs.Lists.{every_none, every_more}
use Rattle.terms.proofs.sources_fit.Goals as goal

pub loop-k-init : goal.loop-k-init
loop-k-init c = sym (every_none _)

pub loop-k-preserved : goal.loop-k-preserved
loop-k-preserved c =
    let l = c.loop-k in
    every_more _ l.k l.all c.source_fits-all.result l.invariant c.source_fits-all.ensures
