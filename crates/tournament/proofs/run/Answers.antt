use mathlib.Core.Path.{◌≡◌, sym, ap, ◌∙◌}
use native.Mathlib.Omega.{arith}
use Rattle.std.specs.Prelude.{Ok, Err}
use Rattle.tournament.specs.Rule.{next, steps}
use Rattle.tournament.specs.Answers.{judged_of, run_of}
use Rattle.tournament.proofs.Readiness.{ready_fine, ready_steps, steps_more, outcome_fine, outcome_refused}
use borrow.Author.Rules.{rules}
use Rattle.tournament.proofs.run.Goals as goal
use Rattle.tournament.proofs.run.Goals.{In_ok-judged}

judged_fine : (c : In_ok-judged) → judged_of c.args.t ≡ Ok tt
judged_fine c = sym c.judged.ensures ∙ c.in_ok-judged.was

pub returns-in_err-judged : goal.returns-in_err-judged
unfolding run_of
returns-in_err-judged c =
    let e : c.from_residual.result ≡ Err c.in_err-judged.field-0.0 = search rules in
    e ∙ outcome_refused _ (sym c.judged.ensures ∙ c.in_err-judged.was)

pub loop-init : goal.loop-init
unfolding steps
loop-init c = search rules

pub next-requires : goal.next-requires
next-requires c =
    let l = c.loop in
    rw l.invariant.1 (ready_steps _ (ready_fine _ (judged_fine (goal.at.next-requires c).In_ok-judged)) l.counter)

pub loop-preserved : goal.loop-preserved
loop-preserved c =
    let l = c.loop in
    (omega arith, c.next.ensures ∙ ap next l.invariant.1 ∙ sym (steps_more l.counter _))

pub returns : goal.returns
unfolding run_of
returns c =
    let l = c.loop in
    let t = c.args.t in
    let e : l.counter ≡ t.bits = omega arith in
    outcome_fine (judged_fine (goal.at.returns c).In_ok-judged) (l.invariant.1 ∙ ap (λ k. steps k t) e)
