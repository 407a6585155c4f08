-- Fewer marks than priorities are refused, and else what comes back and the lent bytes are those of the step of the lent state. Assumes nothing.
use mathlib.Core.Path.{◌≡◌, sym, ap, ◌∙◌}
use Rattle.tournament_state.specs.declared.Tournament.{Tournament}
use Rattle.tournament.specs.Answers.{step_of}
use Rattle.std.specs.Prelude.{Err}
use Rattle.states.specs.States.{state_from}
use Rattle.outside.specs.Outside.{stepped_by, step_from, step_bytes}
use Rattle.outside.proofs.Fewer.{six, step_fewer, step_enough}
use Rattle.outside.proofs.livnakesh_step.Goals as goal
use Rattle.outside.proofs.livnakesh_step.Goals.{After-step}

-- where enough are lent, it is the tournament's own step
own : (c : After-step) → let a = c.args in step_from a.bits a.phase a.at a.priorities.now a.marks.now ≡ c.step.result
own c =
    let a = c.args in
    step_enough a.bits a.phase a.at a.priorities.now a.marks.now c.if-marks-priorities.false ∙ ap step_of (sym c.state_from-t.ensures) ∙ sym c.step.ensures

pub returns-then-marks-priorities-clause-value : goal.returns-then-marks-priorities-clause-value
returns-then-marks-priorities-clause-value c =
    let a = c.args in
    let e = sym (step_fewer a.bits a.phase a.at a.priorities.now a.marks.now c.if-marks-priorities.true) in
    c.at_phase.ensures ∙ ap (λ (t : Tournament). stepped_by six t) c.state_from-t.ensures ∙ ap (λ o. stepped_by o (state_from a.bits a.phase a.at a.priorities.now a.marks.now)) e

pub returns-then-marks-priorities-clause-marks_after : goal.returns-then-marks-priorities-clause-marks_after
returns-then-marks-priorities-clause-marks_after c =
    let a = c.args in
    ap (λ o. step_bytes o a.marks.now) (sym (step_fewer a.bits a.phase a.at a.priorities.now a.marks.now c.if-marks-priorities.true))

pub returns-in-Ok-clause-value : goal.returns-in-Ok-clause-value
returns-in-Ok-clause-value c =
    let e = own (goal.at.returns-in-Ok-clause-value c).After-step ∙ c.in-Ok.is in
    let a = c.args in
    c.at_phase-in-Ok.ensures ∙ ap (λ o. stepped_by o (state_from a.bits a.phase a.at a.priorities.now a.marks.now)) (sym e)

pub returns-in-Ok-clause-marks_after : goal.returns-in-Ok-clause-marks_after
returns-in-Ok-clause-marks_after c =
    let e = own (goal.at.returns-in-Ok-clause-marks_after c).After-step ∙ c.in-Ok.is in
    c.mark_out.ensures ∙ ap (λ o. step_bytes o c.args.marks.now) (sym e)

pub returns-in-Err-clause-value : goal.returns-in-Err-clause-value
returns-in-Err-clause-value c =
    let e = own (goal.at.returns-in-Err-clause-value c).After-step ∙ c.in-Err.is in
    let a = c.args in
    c.refused_at.ensures ∙ ap (λ (t : Tournament). stepped_by (Err c.in-Err.r) t) c.state_from-t.ensures ∙ ap (λ o. stepped_by o (state_from a.bits a.phase a.at a.priorities.now a.marks.now)) (sym e)

pub returns-in-Err-clause-marks_after : goal.returns-in-Err-clause-marks_after
returns-in-Err-clause-marks_after c =
    let e = own (goal.at.returns-in-Err-clause-marks_after c).After-step ∙ c.in-Err.is in
    ap (λ o. step_bytes o c.args.marks.now) (sym e)
