-- The words of a text as numbers: what is known once some of them are read.
use Rattle.std.specs.Prelude.{cond, List, [], ℕ, ◌+◌, ◌-◌, eqb, length, get_or, set, Option, Some, None, Result, Ok, Err}
use Rattle.replay_words.specs.declared.Entered.{Entered}
use Rattle.replay_words.specs.declared.Words.{Words}
use Rattle.decimal.specs.Decimal.{value_of}
use Rattle.replay_words.specs.Handwritten.{text_words, is_number, number_of, wrong_from, places_of}

-- the words that are left of a text
abbrev pub words_left : Words → List (List ℕ)
words_left w = text_words w.0.now

-- the number that a word is, where it is one
unfoldable pub number_in : List ℕ → Option ℕ
number_in word = cond (is_number word) (Some (value_of word)) None

-- one number more: the first is the bit count, the others are priorities
unfoldable pub with_number : Entered → ℕ → Entered
with_number e n = record {
  words = e.words + 1;
  bits = cond (eqb e.words 0) n e.bits;
  priorities = cond (eqb e.words 0) e.priorities (set e.priorities (e.words - 1) (record { 0 = n }));
}

-- what words that are all numbers enter
unfoldable pub entered_of : List (List ℕ) → Entered
entered_of words = record { words = length words; bits = number_of (get_or words 0 []); priorities = places_of words }

-- what words enter, or the place of the first that is no number
unfoldable pub read_of : List (List ℕ) → Result Entered ℕ
read_of words = cond (eqb (wrong_from 1 words) 0) (Ok (entered_of words)) (Err (wrong_from 1 words))
