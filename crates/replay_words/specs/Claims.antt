-- What is proved of a text and of what is shown of it, in proofs/Reading.antt, proofs/Size.antt and proofs/Parts.antt.
use Rattle.std.specs.Prelude.{◌≡◌, true, false, List, ◌∷◌, ◌++◌, ℕ, ◌≤◌, ◌<◌, length, get_or}
use Rattle.names.specs.Limits.{ticks}
use Rattle.decimal.specs.Decimal.{digits}
use Rattle.std.specs.Prelude.{Some}
use Rattle.text.specs.Put.{last_place, put}
use Rattle.replay_screen.specs.Claims.{most_shown}
use Rattle.replay_words.specs.Handwritten.{separates, text_words, is_number, number_of, replay_of}
use Rattle.replay_words.specs.Parts.{has_word, first_end}

-- a number's digits are a word that is that number, ..
abbrev pub NumberRead : Type 0
NumberRead = (n : ℕ) → n ≤ ticks → (is_number (digits n) ≡ true) × (number_of (digits n) ≡ n)

-- .. and bytes that part nothing are a word, where a byte that parts words comes next
abbrev pub WordRead : Type 0
WordRead =
    (word : List ℕ) (b : ℕ) (text : List ℕ) → 1 ≤ length word → ((i : ℕ) → i < length word → separates (get_or word i 0) ≡ false)
    → separates b ≡ true → text_words (word ++ b ∷ text) ≡ word ∷ text_words text

-- a buffer that holds the longest replay holds what is shown of any text that can be lent
abbrev pub ReplayFits : Type 0
ReplayFits =
    (text buffer : List ℕ) → length text ≤ last_place → most_shown ≤ length buffer
    → (put buffer 0 (replay_of (text_words text))).0 ≡ Some (length (replay_of (text_words text)))

-- the first tournament's text is a part of the text, and where there is a word, it is some of it
abbrev pub EndWithin : Type 0
EndWithin = (text : List ℕ) → first_end text ≤ length text

abbrev pub EndGoesOn : Type 0
EndGoesOn = (text : List ℕ) → has_word text ≡ true → 1 ≤ first_end text
