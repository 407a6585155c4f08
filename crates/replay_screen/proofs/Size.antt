-- How many bytes a replay has at most: each line by its parts, each part by its digits. Assumes nothing.
use mathlib.Core.Path.{◌≡◌, refl}
use mathlib.Core.Bool.{Bool, true, false, cond}
use native.Mathlib.Decide.{dec_le}
use mathlib.Core.List.{List, [], ◌∷◌, ◌++◌}
use Prim.Native.Nat.{ℕ, zero, suc, ◌*◌, ◌^◌, ◌≤◌, ◌<◌}
use native.Mathlib.Nat.{lt_of_not-le, suc-mul, mul-le-mul_right}
use native.Mathlib.Omega.{arith}
use borrow.Author.Tests.{leb-true}
use lib.ListN.{length, get_or, length-append}
use Rattle.names.specs.declared.Priority.{Priority}
use Rattle.names.specs.declared.Row.{Row}
use Rattle.names.specs.Limits.{contenders, bits, ticks}
use Rattle.laws.specs.Lists.{rows, those}
use Rattle.std.specs.Prelude.{Ok, Err}
use Rattle.judge.specs.Table.{Checked}
use Rattle.decimal.specs.Decimal.{digits_of, digits}
use Rattle.decimal.proofs.Decimal.{few_digits}
use Rattle.text.proofs.Size.{largest_refusal}
use Rattle.tournament_state.specs.declared.Phase.{Phase, TheVariants.AtBit, TheVariants.Finished, TheVariants.NoWinner}
use Rattle.tournament_state.specs.declared.Tournament.{Tournament}
use Rattle.tournament_state.specs.Refusals.{number, none, verdict_of, number_at, PhaseWithin}
use Rattle.tournament_state.proofs.Meaning.{fine_passed}
use Rattle.tournament_state.proofs.Ranges.{refusal_range}
use Rattle.tournament.specs.Rule.{begun_of, heard_at, steps}
use Rattle.tournament.specs.Answers.{outcome, start_of}
use Rattle.tournament_laws.proofs.Start.{start_priority, kept, unused_at_start}
use Rattle.ascii.specs.Ascii.{ascii}
use Rattle.replay_screen.specs.Shown.{marked, gone, spaced, rows_text, carrier_text, bit_line, bit_lines, wins_line, winner_line, played_of, shown_by, shown_of}
use Rattle.replay_screen.specs.private.Begun.{Begun}
use Rattle.replay_screen.specs.Claims.{most_rows, most_of_bit, most_of_winner, most_shown, LargestShown, MostIs}
use Rattle.replay_screen.proofs.Play.{judged_steps, begun_fine}

-- ---- the rows
some_of : (t : ℕ → Bool) (l : List ℕ) → length (spaced (those t l)) ≤ length (spaced l)
unfolding spaced those
some_of t [] = omega arith
some_of t (r ∷ l) = by_test (t r) (some_of t l)
  where
    by_test : (b : Bool) → length (spaced (those t l)) ≤ length (spaced l) → length (spaced (cond b (r ∷ those t l) (those t l))) ≤ length (ascii " " ++ digits r ++ spaced l)
    by_test true h = omega (arith, length-append (ascii " " ++ digits r) (spaced (those t l)), length-append (ascii " " ++ digits r) (spaced l))
    by_test false h = omega (arith, length-append (ascii " " ++ digits r) (spaced l))

text_size : (n : ℕ) (l : List ℕ) → length (ascii " none") ≤ n → length (spaced l) ≤ n → length (rows_text l) ≤ n
unfolding rows_text
text_size n [] h g = h
text_size n (r ∷ l) h g = g

none_size : length (ascii " none") ≤ most_rows
unfolding spaced rows digits digits_of
none_size = leb-true _ _ refl

rows_size : (m : List Bool) → length (rows_text (marked m)) ≤ most_rows
unfolding marked
rows_size m = text_size most_rows _ none_size (some_of (λ i. get_or m i false) (rows contenders (λ i. i)))

-- ---- the lines
carrier_size : (h : Bool) → length (carrier_text h) ≤ length (ascii "carrier heard")
carrier_size true = omega arith
carrier_size false = omega arith

bit_size : (k : ℕ) (h : Bool) (silent still : List Bool) → k < 10 ^ 2 → length (bit_line k h silent still) ≤ most_of_bit
unfolding bit_line
bit_size k h silent still l =
    simp length-append (omega (arith, few_digits 2 k (omega arith) l, carrier_size h, rows_size silent, rows_size still))

bits_size : (t : Tournament) (k : ℕ) → k ≤ bits → length (bit_lines t k) ≤ k * most_of_bit
unfolding bit_lines
bits_size t zero h = omega arith
bits_size t (suc k) h =
    let silent = gone (steps k t).marks (steps (suc k) t).marks in
    let still = (steps (suc k) t).marks in
    omega (
      arith,
      length-append (bit_lines t k) (bit_line (suc k) (heard_at (steps k t) (suc k)) silent still),
      suc-mul k most_of_bit,
      bit_size (suc k) (heard_at (steps k t) (suc k)) silent still (omega arith),
      bits_size t k (omega arith),
    )

wins_size : (row : Row) (p : Priority) → row.0 < contenders → number p ≤ ticks → length (wins_line row p) ≤ most_of_winner
unfolding wins_line
wins_size row p h g =
    simp length-append (omega (arith, few_digits 3 row.0 (omega arith) (omega arith), few_digits 10 (number p) (omega arith) (omega arith)))

winner_size : (places : List Priority) (phase : Phase) (NB n : ℕ) → PhaseWithin NB n phase → n ≤ contenders → ((i : ℕ) → number_at places i ≤ ticks)
    → length (winner_line places phase) ≤ most_of_winner
unfolding winner_line
winner_size places (AtBit k) NB n w h p = omega arith
winner_size places (Finished row) NB n w h p = wins_size row (get_or places row.0 none) (omega arith) (p row.0)
winner_size places NoWinner NB n w h p = omega arith

-- ---- a tournament that was begun
played_size : (t : Tournament) → Begun t → ((i : ℕ) → number_at t.priorities i ≤ ticks) → length (played_of t) ≤ most_shown
unfolding played_of
played_size t b p =
    let s = steps t.bits t in
    let l = fine_passed s.bits s.count s.priorities s.phase (judged_steps t b t.bits) in
    let k = kept t t.bits in
    let few : t.bits ≤ bits = omega (arith, l.to, k.bits) in
    omega (
      arith,
      length-append (bit_lines t t.bits) (winner_line s.priorities s.phase),
      bits_size t t.bits few,
      mul-le-mul_right most_of_bit few,
      winner_size s.priorities s.phase s.bits s.count l.within l.few (λ i. rw k.priorities (p i)),
    )

-- ---- what is shown
begun_small : (NB n : ℕ) (places : List Priority) → n ≤ length places → ((i : ℕ) → number_at places i ≤ ticks) → (i : ℕ) → number_at (begun_of NB n places).priorities i ≤ ticks
unfolding steps
begun_small NB n places h p i =
    elim (dec_le n i) [
      | yes g ↦ rw (unused_at_start NB n places 0 i g).0 (omega arith)
      | no g ↦ rw (start_priority NB n places i h (lt_of_not-le g)) (p i)
    ]

pub largest_shown : LargestShown
unfolding shown_of start_of
largest_shown NB n places l = by_verdict (verdict_of NB n places (AtBit 1)) refl
  where
    by_verdict : (c : Checked) → verdict_of NB n places (AtBit 1) ≡ c
        → length (shown_by (outcome c (begun_of NB n places))) ≤ most_shown
    by_verdict (Ok _) e =
        played_size (begun_of NB n places) (begun_fine NB n places l.long e)
        (begun_small NB n places (omega (arith, (fine_passed NB n places (AtBit 1) e).few, l.long)) l.small)
    by_verdict (Err r) e =
        let (above, below, place) = refusal_range NB n places (AtBit 1) r e in
        omega (arith, largest_refusal r (omega arith) (omega (arith, l.long)))

pub most_is : MostIs
unfolding spaced rows digits digits_of
most_is = refl
