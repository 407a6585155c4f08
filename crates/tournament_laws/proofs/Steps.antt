-- A step, at every bit of any state, and its end: the definitions, row by row. Assumes nothing.
use mathlib.Core.Path.{◌≡◌, refl, sym, ap, ◌∙◌}
use mathlib.Core.Bool.{Bool, true, false, cond, true≢false}
use mathlib.Core.List.{List}
use mathlib.Core.Logic.{◌↔◌}
use Prim.Native.Nat.{ℕ, ◌+◌, ◌≤◌, ◌<◌}
use native.Mathlib.Omega.{arith}
use borrow.Author.Tests.{eqb-true, eq-eqb, ne_eqb}
use lib.Dec.{eqb}
use lib.ListN.{get_or}
use Rattle.names.specs.declared.Row.{Row}
use Rattle.std.specs.Prelude.{Option, Some, None, Ok, Err}
use Rattle.judge.specs.Table.{Checked}
use Rattle.laws.proofs.Rows.{some_passes, finds_lowest, finds_nothing}
use Rattle.tournament_state.specs.declared.Phase.{Phase, TheVariants.AtBit, TheVariants.Finished, TheVariants.NoWinner}
use Rattle.tournament_state.specs.declared.Tournament.{Tournament}
use Rattle.tournament_state.specs.Refusals.{none}
use Rattle.laws.proofs.Tests.{both}
use Rattle.tournament_state.proofs.Tests.{and_both}
use Rattle.tournament.specs.Rule.{bit_at, is_in, has_zero, in_with_zero, heard_at, silenced_at, marks_after, lowest_marked, finished_by, winner_of, next_at, next}
use Rattle.tournament.specs.Answers.{judged_of, outcome, left, step_of}
use Rattle.tournament_laws.specs.Facts.{Handled, StepHandlesOneBit, FinishedStays, NoneMarkedNoWinner, LowestMarkedWins}
use Rattle.tournament_laws.proofs.Places.{laid_front, laid_past}

-- ---- the marks after a bit
pub mark_heard : (t : Tournament) (k i : ℕ) → heard_at t k ≡ true → i < t.count → get_or (marks_after t k) i false ≡ in_with_zero t k i
unfolding marks_after silenced_at
mark_heard t k i e h = rw e (laid_front (in_with_zero t k) t.marks false t.count i h)

pub mark_unheard : (t : Tournament) (k i : ℕ) → heard_at t k ≡ false → get_or (marks_after t k) i false ≡ is_in t i
unfolding marks_after
mark_unheard t k i e = rw e refl

pub mark_unused : (t : Tournament) (k i : ℕ) → t.count ≤ i → get_or (marks_after t k) i false ≡ get_or t.marks i false
unfolding marks_after silenced_at
mark_unused t k i h = by_test (heard_at t k)
  where
    by_test : (b : Bool) → get_or (cond b (silenced_at t k) t.marks) i false ≡ get_or t.marks i false
    by_test true = laid_past (in_with_zero t k) t.marks false t.count i h
    by_test false = refl

-- ---- the state after a bit
module _ (t : Tournament) (k : ℕ) (e : t.phase ≡ AtBit k) where
  stepped : next t ≡ next_at t (AtBit k)
  stepped = ap (next_at t) e

  pub next_marks : (next t).marks ≡ marks_after t k
  unfolding next_at
  next_marks = ap (λ (s : Tournament). s.marks) stepped

  pub next_priorities : (next t).priorities ≡ t.priorities
  unfolding next_at
  next_priorities = ap (λ (s : Tournament). s.priorities) stepped

  pub next_count : (next t).count ≡ t.count
  unfolding next_at
  next_count = ap (λ (s : Tournament). s.count) stepped

  pub next_bits : (next t).bits ≡ t.bits
  unfolding next_at
  next_bits = ap (λ (s : Tournament). s.bits) stepped

  next_phase : (next t).phase ≡ cond (eqb k t.bits) (winner_of t.count (marks_after t k)) (AtBit (k + 1))
  unfolding next_at
  next_phase = ap (λ (s : Tournament). s.phase) stepped

  pub next_bit : k < t.bits → (next t).phase ≡ AtBit (k + 1)
  next_bit h = next_phase ∙ ap (λ b. cond b (winner_of t.count (marks_after t k)) (AtBit (k + 1))) (ne_eqb k t.bits (λ q. omega arith))

  pub next_end : k ≡ t.bits → (next t).phase ≡ winner_of t.count (next t).marks
  next_end q =
      next_phase ∙ ap (λ b. cond b (winner_of t.count (marks_after t k)) (AtBit (k + 1))) (eq-eqb k t.bits q)
      ∙ ap (winner_of t.count) (sym next_marks)

  carrier_heard : (heard_at t k ≡ true) ↔ ((i : ℕ) × (i < t.count) × (is_in t i ≡ true) × (bit_at t.bits k (get_or t.priorities i none) ≡ 0))
  unfolding heard_at
  carrier_heard = (
    λ h.
        let (i, l, s) = (some_passes (in_with_zero t k) t.count).0 h in
        let b = both (is_in t i) (has_zero t k i) s in
        (i, l, b.0, eqb-true _ _ b.1),
    λ (i, l, m, z). (some_passes (in_with_zero t k) t.count).1 (i, l, and_both (is_in t i) (has_zero t k i) m (eq-eqb _ _ z)),
  )

  stays_in : (i : ℕ) → i < t.count → (is_in (next t) i ≡ true) ↔ ((is_in t i ≡ true) × (heard_at t k ≡ true → bit_at t.bits k (get_or t.priorities i none) ≡ 0))
  stays_in i l = rw next_marks (by_test (heard_at t k) refl)
    where
      by_test : (b : Bool) → heard_at t k ≡ b → (get_or (marks_after t k) i false ≡ true) ↔ ((is_in t i ≡ true) × (heard_at t k ≡ true → bit_at t.bits k (get_or t.priorities i none) ≡ 0))
      by_test true h = (
        λ m. let b = both (is_in t i) (has_zero t k i) (sym (mark_heard t k i h l) ∙ m) in (b.0, λ _. eqb-true _ _ b.1),
        λ m. mark_heard t k i h l ∙ and_both (is_in t i) (has_zero t k i) m.0 (eq-eqb _ _ (m.1 h)),
      )
      by_test false h = (
        λ m. (sym (mark_unheard t k i h) ∙ m, λ z. absurd (true≢false (sym z ∙ h))),
        λ m. mark_unheard t k i h ∙ m.0,
      )

  handled : Handled t k
  handled = record {
    carrier = carrier_heard;
    marks = stays_in;
    unused = λ i h. rw next_marks (mark_unused t k i h);
    priorities = next_priorities;
    count = next_count;
    bits = next_bits;
    goes_on = next_bit;
    ends = next_end;
  }

pub step_handles_one_bit : StepHandlesOneBit
step_handles_one_bit t k e = handled t k e

-- ---- a finished state
pub finished_next : (t : Tournament) → ((k : ℕ) → t.phase ≡ AtBit k → ⊥) → next t ≡ t
unfolding next_at
finished_next t f = by_phase t.phase refl
  where
    by_phase : (p : Phase) → t.phase ≡ p → next_at t p ≡ t
    by_phase (AtBit k) e = absurd (f k e)
    by_phase (Finished row) e = refl
    by_phase NoWinner e = refl

pub finished_stays : FinishedStays
unfolding step_of
finished_stays t f = by_verdict (judged_of t)
  where
    by_verdict : (a : Checked) → left (outcome a (next t)) t ≡ t
    by_verdict (Ok _) = finished_next t f
    by_verdict (Err r) = refl

-- ---- the end
no_winner : (f : Option ℕ) → finished_by f ≡ NoWinner → f ≡ None
no_winner (Some i) e = absurd (let z : ◌≡◌ {A = ℕ} 0 1 = cc in omega arith)
no_winner None e = refl

winner_at : (f : Option ℕ) (r : ℕ) → finished_by f ≡ Finished (record { 0 = r }) → f ≡ Some r
winner_at (Some i) r e = let q : ◌≡◌ {A = Row} (record { 0 = i }) (record { 0 = r }) = cc in ap (λ (x : Row). Some x.0) q
winner_at None r e = absurd (let z : ◌≡◌ {A = ℕ} 0 1 = cc in omega arith)

pub none_marked : (n : ℕ) (marks : List Bool) → (winner_of n marks ≡ NoWinner) ↔ ((i : ℕ) → i < n → get_or marks i false ≡ false)
unfolding winner_of lowest_marked
none_marked n marks = (
  λ e i h. (finds_nothing (λ i. get_or marks i false) 0 n).0 (no_winner _ e) i (omega arith) (omega arith),
  λ h. ap finished_by ((finds_nothing (λ i. get_or marks i false) 0 n).1 (λ i a b. h i (omega arith))),
)

pub lowest_marked_lem : (n : ℕ) (marks : List Bool) (r : ℕ)
    → (winner_of n marks ≡ Finished (record { 0 = r })) ↔ ((r < n) × (get_or marks r false ≡ true) × ((i : ℕ) → i < r → get_or marks i false ≡ false))
unfolding winner_of lowest_marked
lowest_marked_lem n marks r = (
  λ e. let l = (finds_lowest (λ i. get_or marks i false) 0 n r).0 (winner_at _ r e) in (omega (arith, l.below), l.passes, λ i h. l.lowest i (omega arith) h),
  λ h. ap finished_by ((finds_lowest (λ i. get_or marks i false) 0 n r).1 (record { above = omega arith; below = omega (arith, h.0); passes = h.1; lowest = λ i a b. h.2 i b })),
)

pub none_marked_no_winner : NoneMarkedNoWinner
none_marked_no_winner t e = rw (next_end t t.bits e refl) (none_marked t.count (next t).marks)

pub lowest_marked_wins : LowestMarkedWins
lowest_marked_wins t r e =
    let w = lowest_marked_lem t.count (next t).marks r in
    let c = next_count t t.bits e in (
      λ q. let h = w.0 (sym (next_end t t.bits e refl) ∙ q) in record { among = rw c h.0; marked = h.1; lowest = h.2 },
      λ l. next_end t t.bits e refl ∙ w.1 (rw c at l.among, l.marked, l.lowest),
    )
