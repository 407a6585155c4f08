-- A start meets the verdict on its own state first. Assumes nothing.
use mathlib.Core.Path.{◌≡◌, sym, ◌∙◌}
use Rattle.tournament_state.specs.declared.Phase.TheVariants.{AtBit}
use Rattle.std.specs.Prelude.{Ok, Err}
use Rattle.tournament_state.specs.Refusals.{verdict_of}
use Rattle.tournament_state.proofs.Meaning.{fine_passed}
use Rattle.tournament.specs.Answers.{start_of}
use Rattle.tournament.proofs.Readiness.{outcome_fine, outcome_refused}
use borrow.Author.Rules.{rules}
use Rattle.tournament.proofs.start.Goals as goal
use Rattle.tournament.proofs.start.Goals.{In_ok-verdict}

verdict_fine : (c : In_ok-verdict) → let a = c.args in verdict_of a.bits a.count a.priorities (AtBit 1) ≡ Ok tt
verdict_fine c = sym c.verdict.ensures ∙ c.in_ok-verdict.was

pub returns-in_err-verdict : goal.returns-in_err-verdict
unfolding start_of
returns-in_err-verdict c =
    let e : c.from_residual.result ≡ Err c.in_err-verdict.field-0.0 = search rules in
    e ∙ outcome_refused _ (sym c.verdict.ensures ∙ c.in_err-verdict.was)

pub begun-requires : goal.begun-requires
begun-requires c =
    let a = c.args in
    (fine_passed a.bits a.count a.priorities (AtBit 1) (verdict_fine c)).few

pub returns : goal.returns
unfolding start_of
returns c = outcome_fine (verdict_fine (goal.at.returns c).In_ok-verdict) c.begun.ensures
