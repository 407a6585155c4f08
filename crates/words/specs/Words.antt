-- Little-endian words of 32 bits, and the bytes that they are written as.
use Rattle.std.specs.Prelude.{cond, List, [], ◌∷◌, ◌++◌, ℕ, ◌+◌, ◌*◌, ◌/◌, ◌%◌, ◌<◌, leb, length, get_or, take, drop}

-- a word of its four bytes, the least first
abbrev pub joined_of : ℕ → ℕ → ℕ → ℕ → ℕ
joined_of a b c d = a + b * 256 + c * 65536 + d * 16777216

-- the words in bytes; fewer than four bytes at the end are no word
unfoldable pub words_of : List ℕ → List ℕ
words_of (a ∷ b ∷ c ∷ d ∷ bytes) = joined_of a b c d ∷ words_of bytes
words_of (a ∷ b ∷ c ∷ []) = []
words_of (a ∷ b ∷ []) = []
words_of (a ∷ []) = []
words_of [] = []

-- words at the front of a list, as many as have room, and the rest of the list as it was
unfoldable pub laid_onto : List ℕ → List ℕ → List ℕ
laid_onto words out = take (length out) words ++ drop (length words) out

-- the bytes of words
unfoldable pub bytes_of : List ℕ → List ℕ
bytes_of [] = []
bytes_of (w ∷ words) = w % 256 ∷ w / 256 % 256 ∷ w / 65536 % 256 ∷ w / 16777216 % 256 ∷ bytes_of words

-- the bytes with words written from byte `at` on, where they have room
unfoldable pub with_words : List ℕ → ℕ → List ℕ → List ℕ
with_words bytes at words = take at bytes ++ (bytes_of words ++ drop (at + 4 * length words) bytes)

-- .. and as they were where they have none
unfoldable pub put_words : List ℕ → ℕ → List ℕ → List ℕ
put_words bytes at words = cond (leb (at + 4 * length words) (length bytes)) (with_words bytes at words) bytes

-- every number of a list is below b
abbrev pub Below : ℕ → List ℕ → Type 0
Below b numbers = (i : ℕ) → get_or numbers i 0 < b
