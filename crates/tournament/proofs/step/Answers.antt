-- A state that is not refused is ready for a step. Assumes nothing.
use mathlib.Core.Path.{◌≡◌, sym, ◌∙◌}
use Rattle.std.specs.Prelude.{Ok, Err}
use Rattle.tournament.specs.Answers.{judged_of, step_of}
use Rattle.tournament.proofs.Readiness.{ready_fine, outcome_fine, outcome_refused}
use borrow.Author.Rules.{rules}
use Rattle.tournament.proofs.step.Goals as goal
use Rattle.tournament.proofs.step.Goals.{In_ok-judged}

judged_fine : (c : In_ok-judged) → judged_of c.args.t ≡ Ok tt
judged_fine c = sym c.judged.ensures ∙ c.in_ok-judged.was

pub returns-in_err-judged : goal.returns-in_err-judged
unfolding step_of
returns-in_err-judged c =
    let e : c.from_residual.result ≡ Err c.in_err-judged.field-0.0 = search rules in
    e ∙ outcome_refused _ (sym c.judged.ensures ∙ c.in_err-judged.was)

pub next-requires : goal.next-requires
next-requires c = ready_fine _ (judged_fine (goal.at.next-requires c).In_ok-judged)

pub returns : goal.returns
unfolding step_of
returns c = outcome_fine (judged_fine (goal.at.returns c).In_ok-judged) c.next.ensures
