-- The rule of the tournament, in document 01's words and order, over a state of any size and any bit count.
use Rattle.std.specs.Prelude.{Bool, true, false, ◌&&◌, cond, List, ◌++◌, ℕ, zero, suc, ◌+◌, ◌-◌, ◌/◌, ◌%◌, ◌^◌, eqb, get_or, take, drop, replicate}
use Rattle.names.specs.declared.Priority.{Priority}
use Rattle.names.specs.Limits.{contenders}
use Rattle.std.specs.Prelude.{Option, Some, None}
use Rattle.laws.specs.Lists.{rows}
use Rattle.laws.specs.Search.{first}
use Rattle.laws.specs.Rows.{some}
use Rattle.tournament_state.specs.declared.Phase.{Phase, TheVariants.AtBit, TheVariants.Finished, TheVariants.NoWinner}
use Rattle.tournament_state.specs.declared.Tournament.{Tournament}
use Rattle.tournament_state.specs.Refusals.{number, none}

-- Bits are numbered 1 to NB from the top, so bit k has the weight 2^(NB - k)
abbrev pub bit_at : ℕ → ℕ → Priority → ℕ
bit_at NB k p = number p / 2 ^ (NB - k) % 2

-- A start marks all in and is at bit 1. It leaves the unused of the 128 places at priority 0 and marked out
unfoldable pub begun_of : ℕ → ℕ → List Priority → Tournament
begun_of NB n places = record {
  bits = NB;
  count = n;
  priorities = take n places ++ replicate (contenders - n) none;
  marks = replicate n true ++ replicate (contenders - n) false;
  phase = AtBit 1;
}

-- the mark of row i: true is in
abbrev pub is_in : Tournament → ℕ → Bool
is_in t i = get_or t.marks i false

-- row i has a 0 at bit k
abbrev pub has_zero : Tournament → ℕ → ℕ → Bool
has_zero t k i = eqb (bit_at t.bits k (get_or t.priorities i none)) 0

-- row i is in and has a 0 at bit k
abbrev pub in_with_zero : Tournament → ℕ → ℕ → Bool
in_with_zero t k i = is_in t i && has_zero t k i

-- At a bit, a carrier is heard if some marked contender has a 0 there
unfoldable pub heard_at : Tournament → ℕ → Bool
heard_at t k = some (in_with_zero t k) t.count

-- If so, each marked contender with a 1 there is marked out (no other place is touched); ..
unfoldable pub silenced_at : Tournament → ℕ → List Bool
silenced_at t k = rows t.count (in_with_zero t k) ++ drop t.count t.marks

-- .. if none is heard, no mark changes
unfoldable pub marks_after : Tournament → ℕ → List Bool
marks_after t k = cond (heard_at t k) (silenced_at t k) t.marks

-- If none is marked at its end, it finishes with no winner; if several are, with the lowest marked row
unfoldable pub lowest_marked : ℕ → List Bool → Option ℕ
lowest_marked n marks = first (λ i. get_or marks i false) 0 n

abbrev pub finished_by : Option ℕ → Phase
finished_by (Some i) = Finished (record { 0 = i })
finished_by None = NoWinner

unfoldable pub winner_of : ℕ → List Bool → Phase
winner_of n marks = finished_by (lowest_marked n marks)

-- Each step handles one bit; after the step at bit NB it is finished. A step of a finished tournament hands back the state unchanged
unfoldable pub next_at : Tournament → Phase → Tournament
next_at t (AtBit k) = record {
  bits = t.bits;
  count = t.count;
  priorities = t.priorities;
  marks = marks_after t k;
  phase = cond (eqb k t.bits) (winner_of t.count (marks_after t k)) (AtBit (k + 1));
}
next_at t (Finished row) = t
next_at t NoWinner = t

abbrev pub next : Tournament → Tournament
next t = next_at t t.phase

-- so many steps
unfoldable pub steps : ℕ → Tournament → Tournament
steps zero t = t
steps (suc k) t = next (steps k t)
