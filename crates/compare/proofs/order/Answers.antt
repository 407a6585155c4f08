use Rattle.std.proofs.Common.{◌∙◌, sym, ap, arith, not}
use Rattle.compare.specs.private.Moves.{urgency_by}
use Rattle.compare.proofs.First.{change_none, change_more, change_here, must_true, must_false}
use Rattle.compare.proofs.order.Goals as goal

pub loop-k-init : goal.loop-k-init
loop-k-init c = change_none _

pub returns-then-overtaken : goal.returns-then-overtaken
returns-then-overtaken c =
    let a = c.args in
    sym (change_here (urgency_by a.new.now a.was.now a.is.now) _ c.loop-k.k _ (omega arith) c.loop-k.invariant (must_false _ _ (ap not (sym c.overtaken.ensures ∙ c.if-overtaken.true))))

pub loop-k-preserved : goal.loop-k-preserved
loop-k-preserved c =
    let a = c.args in
    change_more (urgency_by a.new.now a.was.now a.is.now) c.loop-k.k c.loop-k.invariant (must_true _ _ (ap not (sym c.overtaken.ensures ∙ c.if-overtaken.false)))
