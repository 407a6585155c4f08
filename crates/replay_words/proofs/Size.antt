-- What is shown of a text is no longer than the longest replay. Assumes nothing.
use mathlib.Core.Path.{◌≡◌, refl, ap}
use mathlib.Core.Bool.{Bool, true, false, cond, ◌&&◌}
use mathlib.Core.List.{List, [], ◌∷◌, ◌++◌, map}
use Prim.Native.Nat.{ℕ, zero, suc, ◌+◌, ◌-◌, ◌≤◌}
use native.Mathlib.Omega.{arith}
use borrow.Author.Tests.{leb-true}
use lib.Dec.{leb, eqb}
use lib.ListN.{length, get_or, take, drop, replicate, length-append, length-take, length-replicate}
use Rattle.names.specs.Limits.{contenders, ticks}
use Rattle.laws.specs.Lists.{placed}
use Rattle.decimal.specs.Decimal.{value_of}
use Rattle.decimal.proofs.Decimal.{few_digits}
use Rattle.text.specs.Put.{last_place}
use Rattle.text.proofs.Laying.{all_put}
use Rattle.tournament_state.specs.Refusals.{none, number_at}
use Rattle.replay_screen.specs.Claims.{most_shown, LentPlaces}
use Rattle.replay_screen.specs.Shown.{shown_of}
use Rattle.replay_screen.proofs.Size.{largest_shown}
use Rattle.replay_words.specs.Handwritten.{text_words, all_digits, is_number, number_of, wrong_from, places_of, usage, wrong_line, replay_of}
use Rattle.replay_words.specs.Claims.{ReplayFits}
use Rattle.replay_words.proofs.Numbers.{as_priority, few_words}

-- ---- the priorities fit in 32 bits
number_small : (word : List ℕ) → number_of word ≤ ticks
unfolding number_of is_number
number_small word = by_tests (all_digits word) (leb (value_of word) ticks) refl
  where
    by_tests : (all small : Bool) → leb (value_of word) ticks ≡ small → cond (all && small) (value_of word) 0 ≤ ticks
    by_tests true true e = leb-true (value_of word) ticks e
    by_tests true false e = omega arith
    by_tests false small e = omega arith

none_small : (n i : ℕ) → number_at (replicate n none) i ≤ ticks
none_small zero i = omega arith
none_small (suc n) zero = omega arith
none_small (suc n) (suc i) = none_small n i

placed_small : (n m : ℕ) (words : List (List ℕ)) (i : ℕ) → number_at (take n (map as_priority words) ++ replicate m none) i ≤ ticks
placed_small zero m words i = none_small m i
placed_small (suc n) m [] i = none_small m i
placed_small (suc n) m (w ∷ words) zero = number_small w
placed_small (suc n) m (w ∷ words) (suc i) = placed_small n m words i

lent : (words : List (List ℕ)) → LentPlaces (places_of words)
unfolding places_of placed
lent words =
    let l = map as_priority (drop 1 words) in
    record {
      long = omega (arith, length-append (take contenders l) (replicate (contenders - length l) none), length-take contenders l, length-replicate (contenders - length l) none);
      small = placed_small contenders (contenders - length l) (drop 1 words);
    }

wrong_small : (k : ℕ) (words : List (List ℕ)) → wrong_from k words ≤ k + length words
unfolding wrong_from
wrong_small k [] = omega arith
wrong_small k (w ∷ words) = by_test (is_number w) (wrong_small (suc k) words)
  where
    by_test : (b : Bool) → wrong_from (suc k) words ≤ suc k + length words → cond b (wrong_from (suc k) words) k ≤ k + suc (length words)
    by_test true h = omega arith
    by_test false h = omega arith

-- ---- what is shown
wrong_size : (place : ℕ) → place ≤ last_place + 1 → length (wrong_line place) ≤ most_shown
unfolding wrong_line
wrong_size place h = simp length-append (omega (arith, few_digits 20 place (omega arith) (omega arith)))

replay_size : (words : List (List ℕ)) → length words ≤ last_place → length (replay_of words) ≤ most_shown
unfolding replay_of
replay_size words h = by_tests (eqb (length words) 0) (eqb (wrong_from 1 words) 0)
  where
    by_tests : (none right : Bool)
        → length (cond none usage (cond right (shown_of (number_of (get_or words 0 [])) (length words - 1) (places_of words)) (wrong_line (wrong_from 1 words)))) ≤ most_shown
    by_tests true right = omega arith
    by_tests false true = largest_shown (number_of (get_or words 0 [])) (length words - 1) (places_of words) (lent words)
    by_tests false false = wrong_size (wrong_from 1 words) (omega (arith, wrong_small 1 words))

pub never_full : ReplayFits
never_full text buffer h g =
    let n = replay_size (text_words text) (omega (arith, few_words text)) in
    ap (λ x. x.0) (all_put (replay_of (text_words text)) buffer (omega arith))
