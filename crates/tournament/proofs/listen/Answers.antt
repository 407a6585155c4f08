-- A state that is not refused stands at one of its bits, or is finished and hears nothing. Assumes nothing.
use mathlib.Core.Path.{◌≡◌, sym, ap, ◌∙◌}
use mathlib.Core.Bool.{false}
use mathlib.Core.Logic.{◌⊎◌, inl, inr}
use Rattle.std.specs.Prelude.{Ok, Err}
use Rattle.names.specs.declared.Row.{Row}
use Rattle.tournament_state.specs.declared.Phase.TheVariants.{Finished, NoWinner}
use Rattle.tournament_state.specs.declared.Tournament.{Tournament}
use Rattle.tournament.specs.Answers.{judged_of, heard_now, carrier_of}
use Rattle.tournament.proofs.Readiness.{ready_fine, ready_bit, outcome_fine, outcome_refused}
use borrow.Author.Rules.{rules}
use Rattle.tournament.proofs.listen.Goals as goal
use Rattle.tournament.proofs.listen.Goals.{In_ok-judged}

judged_fine : (c : In_ok-judged) → judged_of c.args.t ≡ Ok tt
judged_fine c = sym c.judged.ensures ∙ c.in_ok-judged.was

pub returns-in_err-judged : goal.returns-in_err-judged
unfolding carrier_of
returns-in_err-judged c =
    let e : c.from_residual.result ≡ Err c.in_err-judged.field-0.0 = search rules in
    e ∙ outcome_refused _ (sym c.judged.ensures ∙ c.in_err-judged.was)

-- at no bit none is heard
nothing : (t : Tournament) → ((row : Row) × (t.phase ≡ Finished row)) ⊎ (t.phase ≡ NoWinner) → false ≡ heard_now t t.phase
nothing t (inl (row, e)) = sym (ap (heard_now t) e)
nothing t (inr e) = sym (ap (heard_now t) e)

pub heard-requires : goal.heard-requires
heard-requires c =
    ready_bit _ _ (ready_fine _ (judged_fine (goal.at.heard-requires c).In_ok-judged)) c.in-AtBit.is

pub returns-in-AtBit : goal.returns-in-AtBit
unfolding carrier_of
returns-in-AtBit c =
    outcome_fine (judged_fine (goal.at.returns-in-AtBit c).In_ok-judged) (c.heard.ensures ∙ sym (ap (heard_now c.args.t) c.in-AtBit.is))

pub returns-in-Finished : goal.returns-in-Finished
unfolding carrier_of
returns-in-Finished c =
    outcome_fine (judged_fine (goal.at.returns-in-Finished c).In_ok-judged) (nothing _ c.in-Finished.is)
