-- Fewer marks than priorities are refused, and else what comes back and the lent bytes are those of the start on the priorities. Assumes nothing.
use mathlib.Core.Path.{◌≡◌, sym, ap, ◌∙◌}
use lib.ListN.{length}
use Rattle.tournament.specs.Answers.{nobody, start_of}
use Rattle.outside.specs.Outside.{stepped_by, start_from, start_bytes}
use Rattle.outside.proofs.Fewer.{start_fewer, start_enough}
use Rattle.outside.proofs.livnakesh_start.Goals as goal
use Rattle.outside.proofs.livnakesh_start.Goals.{After-start}

-- where enough are lent, it is the tournament's own start
own : (c : After-start) → let a = c.args in start_from a.bits a.priorities.now a.marks.now ≡ c.start.result
own c =
    let a = c.args in
    start_enough a.bits a.priorities.now a.marks.now c.if-marks-n.false
    ∙ ap (start_of a.bits (length a.priorities.now)) (sym c.priorities_from.ensures)
    ∙ sym c.start.ensures

pub returns-then-marks-n-clause-value : goal.returns-then-marks-n-clause-value
returns-then-marks-n-clause-value c =
    let a = c.args in
    c.at_phase.ensures ∙ ap (λ o. stepped_by o nobody) (sym (start_fewer a.bits a.priorities.now a.marks.now c.if-marks-n.true))

pub returns-then-marks-n-clause-marks_after : goal.returns-then-marks-n-clause-marks_after
returns-then-marks-n-clause-marks_after c =
    let a = c.args in
    ap (λ o. start_bytes o a.marks.now) (sym (start_fewer a.bits a.priorities.now a.marks.now c.if-marks-n.true))

pub returns-in-Ok-clause-value : goal.returns-in-Ok-clause-value
returns-in-Ok-clause-value c =
    let e = own (goal.at.returns-in-Ok-clause-value c).After-start ∙ c.in-Ok.is in
    c.at_phase-in-Ok.ensures ∙ ap (λ o. stepped_by o nobody) (sym e)

pub returns-in-Ok-clause-marks_after : goal.returns-in-Ok-clause-marks_after
returns-in-Ok-clause-marks_after c =
    let e = own (goal.at.returns-in-Ok-clause-marks_after c).After-start ∙ c.in-Ok.is in
    c.marks_into.ensures ∙ ap (λ o. start_bytes o c.args.marks.now) (sym e)

pub returns-in-Err-clause-value : goal.returns-in-Err-clause-value
returns-in-Err-clause-value c =
    let e = own (goal.at.returns-in-Err-clause-value c).After-start ∙ c.in-Err.is in
    c.refused_at.ensures ∙ ap (λ o. stepped_by o nobody) (sym e)

pub returns-in-Err-clause-marks_after : goal.returns-in-Err-clause-marks_after
returns-in-Err-clause-marks_after c =
    let e = own (goal.at.returns-in-Err-clause-marks_after c).After-start ∙ c.in-Err.is in
    ap (λ o. start_bytes o c.args.marks.now) (sym e)
