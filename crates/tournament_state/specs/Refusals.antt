-- Document 01, "When the answer is no": refusals 7, 8 and 9 of a tournament, as the lines of its table in their order.
-- The contenders' priorities stand in row order; NB is the bit count, n the number of contenders.
use Rattle.std.specs.Prelude.{◌≡◌, Bool, true, not, ◌&&◌, List, [], ◌∷◌, map, ◌↔◌, ℕ, ◌^◌, ◌≤◌, ◌<◌, leb, ltb, length, get_or, take}
use Rattle.names.specs.declared.Priority.{Priority}
use Rattle.std.specs.Prelude.{Option, Some, Ok, Err}
use Rattle.judge.specs.Table.{Checked}
use Rattle.names.specs.declared.Refusal.{Refusal}
use Rattle.names.specs.declared.Row.{Row}
use Rattle.names.specs.Limits.{contenders, bits}
use Rattle.laws.specs.Search.{first}
use Rattle.repeats.specs.Repeats.{as_row, first_repeat, Repeats}
use Rattle.judge.specs.Table.{Line, judge, unless, row_in, FirstGiven}
use Rattle.tournament_state.specs.declared.Phase.{Phase, TheVariants.AtBit, TheVariants.Finished, TheVariants.NoWinner}

-- a priority as a number, a number as a priority, and the priority of an unused place
abbrev pub number : Priority → ℕ
number p = p.0

abbrev pub priority : ℕ → Priority
priority p = record { 0 = p }

abbrev pub none : Priority
none = priority 0

-- x is 1 to most
abbrev pub one_to : ℕ → ℕ → Bool
one_to most x = leb 1 x && leb x most

abbrev pub fits_in : ℕ → Priority → Bool
fits_in NB p = ltb (number p) (2 ^ NB)

-- the lowest row whose priority does not fit in the bits
unfoldable pub lowest_unfit : ℕ → List Priority → Option Row
lowest_unfit NB ps = as_row (first (λ i. not (fits_in NB (get_or ps i none))) 0 (length ps))

-- the bit number is one of the bits; the winner's row is a contender's
abbrev pub phase_inside : ℕ → ℕ → Phase → Bool
phase_inside NB n (AtBit k) = one_to NB k
phase_inside NB n (Finished row) = ltb row.0 n
phase_inside NB n NoWinner = true

-- the lowest row whose priority an earlier row has
abbrev pub lowest_repeat : List Priority → Option Row
lowest_repeat ps = first_repeat (map number ps)

-- a state: 7, the contenders; 8, the bit count, a priority, the bit number or the winner's row; 9, two have one priority
abbrev pub state_lines : ℕ → ℕ → List Priority → Phase → List Line
state_lines NB n places phase =
    record { number = 7; place = unless (one_to contenders n) }
    ∷ record { number = 8; place = unless (one_to bits NB) }
    ∷ record { number = 8; place = row_in (lowest_unfit NB (take n places)) }
    ∷ record { number = 8; place = unless (phase_inside NB n phase) }
    ∷ record { number = 9; place = row_in (lowest_repeat (take n places)) }
    ∷ []

unfoldable pub verdict_of : ℕ → ℕ → List Priority → Phase → Checked
verdict_of NB n places phase = judge (state_lines NB n places phase)

-- two priorities alone, in rows 0 and 1
abbrev pub pair_lines : ℕ → Priority → Priority → List Line
pair_lines NB a b =
    record { number = 8; place = unless (one_to bits NB) }
    ∷ record { number = 8; place = row_in (lowest_unfit NB (a ∷ b ∷ [])) }
    ∷ record { number = 9; place = row_in (lowest_repeat (a ∷ b ∷ [])) }
    ∷ []

unfoldable pub pair_verdict_of : ℕ → Priority → Priority → Checked
pair_verdict_of NB a b = judge (pair_lines NB a b)

-- ---- What the verdict on a state means, in statements about numbers; proved in proofs/Meaning.antt.

-- the number in row i
abbrev pub number_at : List Priority → ℕ → ℕ
number_at ps i = number (get_or ps i none)

-- a state is refused r exactly if r is the first of its lines that is given, ..
abbrev pub StateRefused : Type 0
StateRefused =
    (NB n : ℕ) (places : List Priority) (phase : Phase) (r : Refusal)
    → (verdict_of NB n places phase ≡ Err r) ↔ FirstGiven (state_lines NB n places phase) r

-- .. and so are two priorities alone
abbrev pub PairRefused : Type 0
PairRefused = (NB : ℕ) (a b : Priority) (r : Refusal) → (pair_verdict_of NB a b ≡ Err r) ↔ FirstGiven (pair_lines NB a b) r

-- the place of 8 for a priority is a row exactly if it is the lowest whose priority does not fit
abbrev pub PlaceOfEight : Type 0
PlaceOfEight =
    (NB : ℕ) (ps : List Priority) (row : Row)
    → (lowest_unfit NB ps ≡ Some row)
    ↔ ((row.0 < length ps) × (2 ^ NB ≤ number_at ps row.0) × ((j : ℕ) → j < row.0 → number_at ps j < 2 ^ NB))

-- the place of 9 is a row exactly if it is the lowest that repeats an earlier row
abbrev pub PlaceOfNine : Type 0
PlaceOfNine =
    (ps : List Priority) (row : Row)
    → (lowest_repeat ps ≡ Some row) ↔ (Repeats (map number ps) row.0 × ((j : ℕ) → Repeats (map number ps) j → row.0 ≤ j))

-- 1 to 128 contenders with distinct priorities that fit in NB bits
pub record Fair (NB n : ℕ) (places : List Priority) : Type 0 where
  pub some : 1 ≤ n
  pub few : n ≤ contenders
  pub fit : (i : ℕ) → i < n → number_at places i < 2 ^ NB
  pub distinct : (i j : ℕ) → i < n → j < n → number_at places i ≡ number_at places j → i ≡ j

-- the bit number is one of the bits; the winner's row is a contender's
abbrev pub PhaseWithin : ℕ → ℕ → Phase → Type 0
PhaseWithin NB n (AtBit k) = (1 ≤ k) × (k ≤ NB)
PhaseWithin NB n (Finished row) = row.0 < n
PhaseWithin NB n NoWinner = Unit {0}

pub record Playable (NB n : ℕ) (places : List Priority) (phase : Phase) : Type 0 where
  pub fair : Fair NB n places
  pub from : 1 ≤ NB
  pub to : NB ≤ bits
  pub within : PhaseWithin NB n phase

-- a state of 128 places is not refused exactly if it is playable
abbrev pub FineIfPlayable : Type 0
FineIfPlayable =
    (NB n : ℕ) (places : List Priority) (phase : Phase) → length places ≡ contenders
    → (verdict_of NB n places phase ≡ Ok tt) ↔ Playable NB n places phase

-- two priorities alone are not refused exactly if both fit in the bits and they differ
pub record PlayablePair (NB : ℕ) (a b : Priority) : Type 0 where
  pub from : 1 ≤ NB
  pub to : NB ≤ bits
  pub first_fits : number a < 2 ^ NB
  pub second_fits : number b < 2 ^ NB
  pub differ : number a ≡ number b → ⊥

abbrev pub FineIfPlayablePair : Type 0
FineIfPlayablePair = (NB : ℕ) (a b : Priority) → (pair_verdict_of NB a b ≡ Ok tt) ↔ PlayablePair NB a b
