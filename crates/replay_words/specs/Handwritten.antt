-- A tournament as a text of words: the first is the bit count, the others are the priorities; and what is shown of it.
use Rattle.std.specs.Prelude.{Bool, true, cond, ◌&&◌, List, [], ◌∷◌, ◌++◌, map, ℕ, suc, ◌-◌, leb, eqb, length, get_or, drop}
use Rattle.names.specs.declared.Priority.{Priority}
use Rattle.names.specs.Limits.{contenders, ticks}
use Rattle.laws.specs.Lists.{placed}
use Rattle.ascii.specs.Ascii.{ascii, space}
use Rattle.decimal.specs.Decimal.{digit, digits, value_of}
use Rattle.tournament_state.specs.Refusals.{none}
use Rattle.replay_screen.specs.Shown.{shown_of}

-- words are parted by the space and by the bytes below it
abbrev pub separates : ℕ → Bool
separates b = leb b space

-- a word that has come to its end
abbrev pub ended : List ℕ → List (List ℕ)
ended [] = []
ended (b ∷ bs) = (b ∷ bs) ∷ []

-- the words of a text that goes on after the first bytes of a word
unfoldable pub words_after : List ℕ → List ℕ → List (List ℕ)
words_after word [] = ended word
words_after word (b ∷ text) = cond (separates b) (ended word ++ words_after [] text) (words_after (word ++ (b ∷ [])) text)

-- the words of a text
abbrev pub text_words : List ℕ → List (List ℕ)
text_words text = words_after [] text

abbrev pub is_digit : ℕ → Bool
is_digit b = leb (digit 0) b && leb b (digit 9)

unfoldable pub all_digits : List ℕ → Bool
all_digits [] = true
all_digits (b ∷ bs) = is_digit b && all_digits bs

-- a word is a whole number from 0 to 4,294,967,295
unfoldable pub is_number : List ℕ → Bool
is_number word = all_digits word && leb (value_of word) ticks

-- the number that a word is, or 0
unfoldable pub number_of : List ℕ → ℕ
number_of word = cond (is_number word) (value_of word) 0

-- the place of the first word that is no number, where the first of these words has place k; 0 if all are numbers
unfoldable pub wrong_from : ℕ → List (List ℕ) → ℕ
wrong_from k [] = 0
wrong_from k (word ∷ words) = cond (is_number word) (wrong_from (suc k) words) k

-- the priorities in their places; words after the 129th only count
unfoldable pub places_of : List (List ℕ) → List Priority
places_of words = placed contenders none (map (λ word. record { 0 = number_of word }) (drop 1 words))

abbrev pub usage : List ℕ
usage = ascii "usage: replay BITS PRIORITY..\n"

-- "word 2 is no whole number from 0 to 4294967295"
unfoldable pub wrong_line : ℕ → List ℕ
wrong_line place = ascii "word " ++ (digits place ++ ascii " is no whole number from 0 to 4294967295\n")

-- what is shown of a text's words: the usage where there are none, the first that is no number, or the tournament
unfoldable pub replay_of : List (List ℕ) → List ℕ
replay_of words =
    cond (eqb (length words) 0) usage
    (cond (eqb (wrong_from 1 words) 0)
    (shown_of (number_of (get_or words 0 [])) (length words - 1) (places_of words))
    (wrong_line (wrong_from 1 words)))
