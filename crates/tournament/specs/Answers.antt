-- What each call answers: the refusal of document 01, or what it was asked for by the rule.
use Rattle.std.specs.Prelude.{◌≡◌, false, not, List, ◌↔◌, ℕ, ◌+◌, ◌-◌, ◌^◌, ◌≤◌, ◌<◌, eqb, replicate}
use Rattle.std.specs.Int.Bits.{bit_xor}
use Rattle.std.specs.Int.Count.{count_leading_zeros}
use Rattle.names.specs.declared.Priority.{Priority}
use Rattle.names.specs.declared.Refusal.{Refusal}
use Rattle.names.specs.Limits.{contenders}
use Rattle.laws.specs.Search.{first, or_zero}
use Rattle.std.specs.Prelude.{Bool, Result, Ok, Err}
use Rattle.judge.specs.Table.{Checked}
use Rattle.tournament_state.specs.declared.Phase.{Phase, TheVariants.AtBit, TheVariants.Finished, TheVariants.NoWinner}
use Rattle.tournament_state.specs.declared.Tournament.{Tournament}
use Rattle.tournament_state.specs.Refusals.{number, none, verdict_of, pair_verdict_of, PlayablePair}
use Rattle.tournament.specs.Rule.{bit_at, begun_of, heard_at, next, steps}

-- the verdict on a state
abbrev pub judged_of : Tournament → Checked
judged_of t = verdict_of t.bits t.count t.priorities t.phase

-- a call answers its refusal, or what was asked for: a refused one hands out no state, ..
abbrev pub outcome : {A : Type 0} → Checked → A → Result A Refusal
outcome (Ok _) after = Ok after
outcome (Err refusal) after = Err refusal

-- .. so that its caller is left with the state as it was
abbrev pub left : Result Tournament Refusal → Tournament → Tournament
left (Ok after) before = after
left (Err refusal) before = before

-- whether a call was fine, or why not
abbrev pub checked : {A : Type 0} → Result A Refusal → Checked
checked (Ok _) = Ok tt
checked (Err refusal) = Err refusal

-- a start's caller has no state before it: no bits, no contenders, no winner
abbrev pub nobody : Tournament
nobody = record { bits = 0; count = 0; priorities = replicate contenders none; marks = replicate contenders false; phase = NoWinner }

-- a start meets 7, 8 and 9 as its state would
unfoldable pub start_of : ℕ → ℕ → List Priority → Result Tournament Refusal
start_of NB n places = outcome (verdict_of NB n places (AtBit 1)) (begun_of NB n places)

unfoldable pub step_of : Tournament → Result Tournament Refusal
step_of t = outcome (judged_of t) (next t)

-- all steps to the end: NB are enough from any bit, since a finished tournament stays as it is
unfoldable pub run_of : Tournament → Result Tournament Refusal
run_of t = outcome (judged_of t) (steps t.bits t)

-- whether a carrier is heard at the state's bit; at no bit, none is
abbrev pub heard_now : Tournament → Phase → Bool
heard_now t (AtBit k) = heard_at t k
heard_now t (Finished row) = false
heard_now t NoWinner = false

unfoldable pub carrier_of : Tournament → Result Bool Refusal
carrier_of t = outcome (judged_of t) (heard_now t t.phase)

-- At which bit two priorities part: the first bit from the top, counted from 1, at which they differ (0, no bit's number, if there is none)
unfoldable pub parting_bit : ℕ → Priority → Priority → ℕ
parting_bit NB a b = or_zero (first (λ k. not (eqb (bit_at NB k a) (bit_at NB k b))) 1 NB)

-- here 8 and 9 apply, with rows 0 and 1
unfoldable pub parting_of : ℕ → Priority → Priority → Result ℕ Refusal
parting_of NB a b = outcome (pair_verdict_of NB a b) (parting_bit NB a b)

-- ---- What is proved of the parting bit in proofs/Parts.antt, for every bit count at once.

-- d is the first bit from the top, counted from 1, at which they differ
pub record FirstDifference (NB : ℕ) (a b : Priority) (d : ℕ) : Type 0 where
  pub from : 1 ≤ d
  pub to : d ≤ NB
  pub differ : bit_at NB d a ≡ bit_at NB d b → ⊥
  pub first : (j : ℕ) → 1 ≤ j → j < d → bit_at NB j a ≡ bit_at NB j b

-- the parting bit of two priorities that fit and differ is d exactly if d is that bit
abbrev pub PartingIsFirst : Type 0
PartingIsFirst =
    (NB : ℕ) (a b : Priority) → number a < 2 ^ NB → number b < 2 ^ NB → (number a ≡ number b → ⊥)
    → (d : ℕ) → (parting_bit NB a b ≡ d) ↔ FirstDifference NB a b d

-- so a call answers d exactly if both fit in 1 to 32 bits, they differ, and d is that bit
abbrev pub PartingAnswer : Type 0
PartingAnswer = (NB : ℕ) (a b : Priority) (d : ℕ) → (parting_of NB a b ≡ Ok d) ↔ (PlayablePair NB a b × FirstDifference NB a b d)

-- The workshop's rule: it writes the two under each other and counts the equal bits at the top. In w bits, NB or more, they are the
-- leading zeros of the exclusive-or; ..
abbrev pub equal_at_top : ℕ → Priority → Priority → ℕ
equal_at_top w a b = count_leading_zeros w (bit_xor (number a) (number b))

-- .. less w - NB, as many as stand above bit 1, plus 1, they give the bit
abbrev pub PartingByLeadingZeros : Type 0
PartingByLeadingZeros =
    (w NB : ℕ) (a b : Priority) → NB ≤ w → number a < 2 ^ NB → number b < 2 ^ NB → (number a ≡ number b → ⊥)
    → (w - NB ≤ equal_at_top w a b) × (parting_bit NB a b ≡ equal_at_top w a b - (w - NB) + 1)
