-- What a turn of a loop does to the definitions, and what a chain over the contenders says of their rows. Assumes nothing.
use mathlib.Core.Path.{◌≡◌, refl, sym, ap, ◌∙◌}
use mathlib.Core.Bool.{Bool, false, ◌&&◌, cond, and-true, and-false}
use mathlib.Core.List.{List}
use Prim.Native.Nat.{ℕ, ◌+◌, ◌%◌, ◌≤◌, ◌<◌}
use native.Mathlib.Omega.{arith}
use borrow.Author.Tests.{eq-eqb}
use lib.Bits.{bit_and, and_mask}
use lib.Dec.{eqb}
use Rattle.tournament_state.specs.declared.Phase.{Phase, TheVariants.AtBit}
use Rattle.tournament_state.specs.declared.Tournament.{Tournament}
use Rattle.laws.specs.Search.{first}
use Rattle.tournament_state.proofs.Places.{first_row}
use lib.ListN.{length, get_or, take, length-take}
use lib.Seq.{get_or-take}
use Rattle.tournament.specs.Rule.{lowest_marked, finished_by, marks_after, winner_of, next_at, next}

-- the last bit, by a mask
pub one_bit : (x : ℕ) → bit_and x 1 ≡ x % 2
one_bit x = and_mask x 1

-- a contender with a 1 is out, and one with no 1 keeps its mark
pub out_on_one : (m : Bool) (x : ℕ) → x ≡ 1 → m && eqb x 0 ≡ false
out_on_one m x e = rw e (and-false m)

pub kept_on_zero : (m : Bool) (x : ℕ) → (x % 2 ≡ 1 → ⊥) → m && eqb (x % 2) 0 ≡ m
kept_on_zero m x h = let z : x % 2 ≡ 0 = omega (arith, h) in rw (eq-eqb (x % 2) 0 z) (and-true m)

-- a step at a bit, from the marks and the phase after it
pub step_at : (t : Tournament) (k : ℕ) (marks : List Bool) (phase : Phase) → t.phase ≡ AtBit k → marks ≡ marks_after t k
    → phase ≡ cond (eqb k t.bits) (winner_of t.count (marks_after t k)) (AtBit (k + 1))
    → ◌≡◌ {A = Tournament} (record { bits = t.bits; count = t.count; priorities = t.priorities; marks = marks; phase = phase }) (next t)
unfolding next_at
step_at t k marks phase e m q = rw (m, q) (sym (ap (next_at t) e))

-- the lowest marked of the first n marks
pub winner_front : (n : ℕ) (marks : List Bool) → n ≤ length marks → winner_of (length (take n marks)) (take n marks) ≡ winner_of n marks
unfolding winner_of lowest_marked
winner_front n marks h =
    let front = take n marks in
    let long : length front ≡ n = omega (arith, length-take n marks) in
    let here : (i : ℕ) → i < length front → get_or front i false ≡ get_or marks i false = λ i l. get_or-take n marks i false (omega arith) in
    ap finished_by
    (sym (first_row (λ b. b) front false (λ i. get_or front i false) (λ i l. refl))
    ∙ first_row (λ b. b) front false (λ i. get_or marks i false) here
    ∙ ap (first (λ i. get_or marks i false) 0) long)
