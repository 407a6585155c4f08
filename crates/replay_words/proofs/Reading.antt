-- A number that is written as its digits is read as that number, and a word goes on to the byte that parts it. Assumes nothing.
use mathlib.Core.Path.{◌≡◌, refl, sym, ap, ◌∙◌}
use mathlib.Core.Bool.{true, false, cond}
use mathlib.Core.List.{List, [], ◌∷◌, ◌++◌, append_assoc, append-nil}
use Prim.Native.Nat.{ℕ, suc, ◌≤◌, ◌<◌}
use native.Mathlib.Omega.{arith}
use borrow.Author.Tests.{le-leb}
use lib.ListN.{length, get_or}
use Rattle.names.specs.Limits.{ticks}
use Rattle.decimal.specs.Decimal.{digit, digits}
use Rattle.decimal.proofs.Decimal.{value_of_digits, digits_are_numeral}
use Rattle.replay_words.specs.Handwritten.{separates, ended, words_after, text_words, all_digits, is_number, number_of}
use Rattle.replay_words.specs.Claims.{NumberRead, WordRead}

all_digits_lem : (bs : List ℕ) → ((i : ℕ) → i < length bs → (digit 0 ≤ get_or bs i 0) × (get_or bs i 0 ≤ digit 9)) → all_digits bs ≡ true
unfolding all_digits
all_digits_lem [] h = refl
all_digits_lem (b ∷ bs) h =
    let (l, g) = h 0 (omega arith) in
    rw (le-leb (digit 0) b l, le-leb b (digit 9) g, all_digits_lem bs (λ i p. h (suc i) (omega arith))) refl

is_number_lem : (n : ℕ) → n ≤ ticks → is_number (digits n) ≡ true
unfolding is_number
is_number_lem n h = rw (all_digits_lem (digits n) (digits_are_numeral n).each, value_of_digits n, le-leb n ticks h) refl

pub number_read : NumberRead
unfolding number_of
number_read n h = (is_number_lem n h, rw (is_number_lem n h, value_of_digits n) refl)

-- a word that has begun goes on
goes_on : (front word : List ℕ) (b : ℕ) (text : List ℕ) → ((i : ℕ) → i < length word → separates (get_or word i 0) ≡ false) → separates b ≡ true
    → words_after front (word ++ b ∷ text) ≡ ended (front ++ word) ++ text_words text
unfolding words_after
goes_on front [] b text h e = ap (λ p. cond p (ended front ++ words_after [] text) (words_after (front ++ (b ∷ [])) text)) e ∙ ap (λ w. ended w ++ words_after [] text) (sym (append-nil front))
goes_on front (c ∷ word) b text h e =
    ap (λ p. cond p (ended front ++ words_after [] (word ++ b ∷ text)) (words_after (front ++ (c ∷ [])) (word ++ b ∷ text))) (h 0 (omega arith))
    ∙ goes_on (front ++ (c ∷ [])) word b text (λ i l. h (suc i) (omega arith)) e
    ∙ ap (λ w. ended w ++ words_after [] text) (append_assoc front (c ∷ []) word)

pub word_read : WordRead
word_read [] b text l h e = absurd (omega arith)
word_read (c ∷ word) b text l h e = goes_on [] (c ∷ word) b text h e
