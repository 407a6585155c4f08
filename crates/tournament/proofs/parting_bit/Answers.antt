-- Two priorities that are not refused fit and differ. Assumes nothing.
use mathlib.Core.Path.{◌≡◌, sym, ◌∙◌}
use Rattle.std.specs.Prelude.{Ok, Err}
use Rattle.tournament_state.specs.Refusals.{pair_verdict_of}
use Rattle.tournament_state.proofs.Meaning.{fine_if_playable_pair}
use Rattle.tournament.specs.Answers.{parting_of}
use Rattle.tournament.proofs.Readiness.{outcome_fine, outcome_refused}
use borrow.Author.Rules.{rules}
use Rattle.tournament.proofs.parting_bit.Goals as goal
use Rattle.tournament.proofs.parting_bit.Goals.{In_ok-pair_verdict}

pair_fine : (c : In_ok-pair_verdict) → let a = c.args in pair_verdict_of a.bits a.a a.b ≡ Ok tt
pair_fine c = sym c.pair_verdict.ensures ∙ c.in_ok-pair_verdict.was

pub returns-in_err-pair_verdict : goal.returns-in_err-pair_verdict
unfolding parting_of
returns-in_err-pair_verdict c =
    let e : c.from_residual.result ≡ Err c.in_err-pair_verdict.field-0.0 = search rules in
    e ∙ outcome_refused _ (sym c.pair_verdict.ensures ∙ c.in_err-pair_verdict.was)

pub first_difference-requires : goal.first_difference-requires
first_difference-requires c = (fine_if_playable_pair _ _ _).0 (pair_fine c)

pub returns : goal.returns
unfolding parting_of
returns c = outcome_fine (pair_fine (goal.at.returns c).In_ok-pair_verdict) c.first_difference.ensures
