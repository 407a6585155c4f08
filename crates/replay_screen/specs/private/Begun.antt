-- What laying a tournament asks of its state, and the private functions' answers.
use Rattle.std.specs.Prelude.{◌≡◌, Bool, false, List, ◌++◌, ℕ, ◌-◌, eqb, length, get_or, replicate}
use Rattle.names.specs.declared.Priority.{Priority}
use Rattle.names.specs.Limits.{contenders}
use Rattle.laws.specs.Lists.{rows}
use Rattle.tournament_state.specs.declared.Phase.{Phase, TheVariants.AtBit, TheVariants.Finished, TheVariants.NoWinner}
use Rattle.tournament_state.specs.declared.Tournament.{Tournament}
use Rattle.names.specs.declared.Refusal.{Refusal}
use Rattle.std.specs.Prelude.{Result, Ok}
use Rattle.std.specs.Result.{result_unwrap_or}
use Rattle.tournament_state.specs.Refusals.{none}
use Rattle.tournament.specs.Rule.{begun_of}
use Rattle.tournament.specs.Answers.{judged_of, parting_of}

-- a state that a start hands out
pub record Begun (t : Tournament) : Type 0 where
  pub judged : judged_of t ≡ Ok tt
  pub long : length t.priorities ≡ contenders
  pub start : t ≡ begun_of t.bits t.count t.priorities

-- whether a carrier is heard: one that is refused is not, and in such a state none is refused
abbrev pub is_heard : Result Bool Refusal → Bool
is_heard answer = result_unwrap_or answer false

-- the winner's priority
abbrev pub won_with : List Priority → Phase → Priority
won_with places (Finished row) = get_or places row.0 none
won_with places (AtBit k) = none
won_with places NoWinner = none

-- the bit at which two priorities part, or 0
abbrev pub bit_of : Result ℕ Refusal → ℕ
bit_of answer = result_unwrap_or answer 0

-- the bit at which a contender goes silent
unfoldable pub silent_bit : ℕ → Priority → Priority → ℕ
silent_bit NB p won = bit_of (parting_of NB p won)

-- marks for the contenders that go silent at bit k
unfoldable pub silent_at : Tournament → Priority → ℕ → List Bool
silent_at t won k = rows t.count (λ i. eqb (silent_bit t.bits (get_or t.priorities i none) won) k) ++ replicate (contenders - t.count) false
