-- The tournaments of a text, which blank lines part: where the first one's text ends.
use Rattle.std.specs.Prelude.{Bool, not, cond, ◌&&◌, List, [], ◌∷◌, ℕ, ◌+◌, leb, eqb, length, take}
use Rattle.std.specs.List.{list_any}
use Rattle.std.specs.Prelude.{Option, Some, None}
use Rattle.laws.specs.Search.{first}
use Rattle.ascii.specs.Ascii.{newline}
use Rattle.replay_words.specs.Handwritten.{separates}

-- some byte is in a word
abbrev pub has_word : List ℕ → Bool
has_word text = list_any (λ b. not (separates b)) text

-- line ends since the last word, after n of them and one byte more, ..
abbrev pub ends_with : ℕ → ℕ → ℕ
ends_with n b = cond (separates b) (cond (eqb b newline) (n + 1) n) 0

-- .. and after all bytes of a text
unfoldable pub ends_after : ℕ → List ℕ → ℕ
ends_after n [] = n
ends_after n (b ∷ text) = ends_after (ends_with n b) text

-- a tournament's text is over: it has a word, and a blank line after its last word
unfoldable pub over : List ℕ → Bool
over text = has_word text && leb 2 (ends_after 0 text)

abbrev pub or_all : Option ℕ → ℕ → ℕ
or_all (Some end) all = end
or_all None all = all

-- where the text of the first tournament ends
unfoldable pub first_end : List ℕ → ℕ
first_end text = or_all (first (λ end. over (take end text)) 0 (length text)) (length text)
