-- The tournament's facts, each as document 01 says it, for every bit count NB. `places` are the 128 priorities that a start is lent, n is
-- the number of contenders. In this order: from a start; a step, at every bit of any state; the end of any state; calls.
use Rattle.std.specs.Prelude.{◌≡◌, true, false, List, ◌↔◌, ℕ, zero, suc, ◌+◌, ◌≤◌, ◌<◌, eqb, ltb, length, get_or}
use Rattle.names.specs.declared.Priority.{Priority}
use Rattle.names.specs.Limits.{contenders}
use Rattle.tournament_state.specs.declared.Phase.TheVariants.{AtBit, Finished, NoWinner}
use Rattle.tournament_state.specs.declared.Tournament.{Tournament}
use Rattle.std.specs.Prelude.{Ok}
use Rattle.tournament_state.specs.Refusals.{none, number_at, Fair}
use Rattle.tournament.specs.Rule.{bit_at, begun_of, is_in, heard_at, winner_of, next, steps}
use Rattle.tournament.specs.Answers.{judged_of, left, parting_bit, start_of, step_of, run_of}

-- ---- from a start with 1 to 128 contenders with distinct priorities that fit
pub record Start (NB n : ℕ) (places : List Priority) : Type 0 where
  pub bits : 1 ≤ NB
  pub long : length places ≡ contenders
  pub fair : Fair NB n places

-- the state after k steps
abbrev pub after : ℕ → ℕ → List Priority → ℕ → Tournament
after NB n places k = steps k (begun_of NB n places)

-- row w has the smallest priority
pub record Smallest (n : ℕ) (places : List Priority) (w : ℕ) : Type 0 where
  pub among : w < n
  pub below : (i : ℕ) → i < n → (i ≡ w → ⊥) → number_at places w < number_at places i

-- the run ends with the smallest priority as its one winner: it alone is marked at the end, so neither "no winner" nor "several" happens
pub record Won (NB n : ℕ) (places : List Priority) (w : ℕ) : Type 0 where
  pub smallest : Smallest n places w
  pub ends : (after NB n places NB).phase ≡ Finished (record { 0 = w })
  pub alone : (i : ℕ) → i < n → is_in (after NB n places NB) i ≡ eqb i w

abbrev pub SmallestWins : Type 0
SmallestWins = (NB n : ℕ) (places : List Priority) → Start NB n places → (w : ℕ) × Won NB n places w

-- a loser goes silent exactly at the first bit where it differs from the winner, which is the parting bit: in while fewer steps
-- are done, out from then on
abbrev pub LoserGoesSilent : Type 0
LoserGoesSilent =
    (NB n : ℕ) (places : List Priority) → Start NB n places → (w i : ℕ) → Smallest n places w → i < n → (i ≡ w → ⊥)
    → (k : ℕ) → k ≤ NB → is_in (after NB n places k) i ≡ ltb k (parting_bit NB (get_or places i none) (get_or places w none))

-- the winner never does
abbrev pub WinnerStaysIn : Type 0
WinnerStaysIn =
    (NB n : ℕ) (places : List Priority) → Start NB n places → (w : ℕ) → Smallest n places w → (k : ℕ) → k ≤ NB
    → is_in (after NB n places k) w ≡ true

-- bit after bit: after k steps, k below NB, it is at bit k + 1
abbrev pub BitAfterBit : Type 0
BitAfterBit = (NB n : ℕ) (places : List Priority) (k : ℕ) → k < NB → (after NB n places k).phase ≡ AtBit (k + 1)

-- unused places are priority 0 and marked out after a start, and stay so
abbrev pub UnusedAtStart : Type 0
UnusedAtStart =
    (NB n : ℕ) (places : List Priority) (k i : ℕ) → n ≤ i
    → (get_or (after NB n places k).priorities i none ≡ none) × (is_in (after NB n places k) i ≡ false)

-- ---- a step, at every bit of any state
-- row i has a 0 at bit k
abbrev pub ZeroAt : Tournament → ℕ → ℕ → Type 0
ZeroAt t k i = bit_at t.bits k (get_or t.priorities i none) ≡ 0

pub record Handled (t : Tournament) (k : ℕ) : Type 0 where
  -- a carrier is heard exactly if some marked contender has a 0 there
  pub carrier : (heard_at t k ≡ true) ↔ ((i : ℕ) × (i < t.count) × (is_in t i ≡ true) × ZeroAt t k i)
  -- a contender stays in exactly if it was in and, where a carrier is heard, has a 0 there
  pub marks : (i : ℕ) → i < t.count → (is_in (next t) i ≡ true) ↔ ((is_in t i ≡ true) × (heard_at t k ≡ true → ZeroAt t k i))
  -- no unused place is touched, and no priority
  pub unused : (i : ℕ) → t.count ≤ i → is_in (next t) i ≡ is_in t i
  pub priorities : (next t).priorities ≡ t.priorities
  pub count : (next t).count ≡ t.count
  pub bits : (next t).bits ≡ t.bits
  -- on to the next bit; after bit NB it is finished
  pub goes_on : k < t.bits → (next t).phase ≡ AtBit (k + 1)
  pub ends : k ≡ t.bits → (next t).phase ≡ winner_of t.count (next t).marks

abbrev pub StepHandlesOneBit : Type 0
StepHandlesOneBit = (t : Tournament) (k : ℕ) → t.phase ≡ AtBit k → Handled t k

-- a step of a finished tournament changes nothing
abbrev pub FinishedStays : Type 0
FinishedStays = (t : Tournament) → ((k : ℕ) → t.phase ≡ AtBit k → ⊥) → left (step_of t) t ≡ t

-- ---- the end of any state, made up or not
abbrev pub NoneMarkedNoWinner : Type 0
NoneMarkedNoWinner =
    (t : Tournament) → t.phase ≡ AtBit t.bits → ((next t).phase ≡ NoWinner) ↔ ((i : ℕ) → i < t.count → is_in (next t) i ≡ false)

-- row r is the lowest marked row
pub record LowestMarked (t : Tournament) (r : ℕ) : Type 0 where
  pub among : r < t.count
  pub marked : is_in t r ≡ true
  pub lowest : (i : ℕ) → i < r → is_in t i ≡ false

abbrev pub LowestMarkedWins : Type 0
LowestMarkedWins =
    (t : Tournament) (r : ℕ) → t.phase ≡ AtBit t.bits → ((next t).phase ≡ Finished (record { 0 = r })) ↔ LowestMarked (next t) r

-- ---- calls
-- what is not refused is not refused after a step
abbrev pub NotRefusedLater : Type 0
NotRefusedLater = (t : Tournament) → length t.priorities ≡ contenders → judged_of t ≡ Ok tt → judged_of (next t) ≡ Ok tt

-- so a run is NB calls of a step, refused or not, ..
unfoldable pub calls : ℕ → Tournament → Tournament
calls zero t = t
calls (suc k) t = left (step_of (calls k t)) (calls k t)

abbrev pub RunIsCalls : Type 0
RunIsCalls = (t : Tournament) → length t.priorities ≡ contenders → left (run_of t) t ≡ calls t.bits t

-- .. and where it is not refused, it has come to the end
abbrev pub RunEnds : Type 0
RunEnds = (t : Tournament) → judged_of t ≡ Ok tt → (k : ℕ) → (left (run_of t) t).phase ≡ AtBit k → ⊥

-- a start that is not refused, and hands out t, is won by the smallest priority
pub record WonByCalls (n : ℕ) (places : List Priority) (t : Tournament) (w : ℕ) : Type 0 where
  pub smallest : Smallest n places w
  pub end : Tournament
  pub accepted : run_of t ≡ Ok end
  pub ends : end.phase ≡ Finished (record { 0 = w })

abbrev pub StartThenRun : Type 0
StartThenRun =
    (NB n : ℕ) (places : List Priority) → length places ≡ contenders → (t : Tournament) → start_of NB n places ≡ Ok t
    → (w : ℕ) × WonByCalls n places t w
