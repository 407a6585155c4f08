use Rattle.std.proofs.Common.{◌∙◌, sym, arith}
use borrow.Author.Tests.{ltb-true, ltb-false}
use Rattle.compare.specs.private.Moves.{gap_by}
use Rattle.compare.proofs.First.{change_none, change_more, change_here, no_reason, a_reason}
use Rattle.compare.proofs.noise.Goals as goal

pub loop-k-init : goal.loop-k-init
loop-k-init c = change_none _

pub returns-then-outnumbered : goal.returns-then-outnumbered
returns-then-outnumbered c =
    let a = c.args in
    sym (change_here (gap_by a.old.now a.new.now) _ c.loop-k.k _ (omega arith) c.loop-k.invariant (a_reason _ _ _ (ltb-true _ _ (sym c.outnumbered.ensures ∙ c.if-outnumbered.true))))

pub loop-k-preserved : goal.loop-k-preserved
loop-k-preserved c =
    let a = c.args in
    change_more (gap_by a.old.now a.new.now) c.loop-k.k c.loop-k.invariant (no_reason _ _ _ (ltb-false _ _ (sym c.outnumbered.ensures ∙ c.if-outnumbered.false)))
