-- What it is to lay a text into a lent buffer, as much of it as there is room for, and to put it there, whole or not at all.
use Rattle.std.specs.Prelude.{◌≡◌, cond, List, ◌++◌, ℕ, ◌+◌, ◌-◌, ◌^◌, min, leb, length, take, drop}
use Rattle.std.specs.Prelude.{Option, Some, None}

-- the last place that a usize can count
abbrev pub last_place : ℕ
last_place = 2 ^ 64 - 1

-- a buffer with a text from a place on, as much of the text as there is room for; all other bytes are as they were
unfoldable pub laid : List ℕ → ℕ → List ℕ → List ℕ
laid buffer at text = take at buffer ++ take (length buffer - at) text ++ drop (at + length text) buffer

-- `next` is the place after a text that starts at a place, room or not, and `after` is what the buffer ends with
pub record Lays (before : List ℕ) (at : ℕ) (text : List ℕ) (next : ℕ) (after : List ℕ) : Type 0 where
  pub place : next ≡ min (at + length text) last_place
  pub bytes : after ≡ laid before at text

-- a text at a place of a buffer: the place after it and the buffer with it, or that it does not fit and the buffer as it was
abbrev pub put : List ℕ → ℕ → List ℕ → Option ℕ × List ℕ
put buffer at text =
    cond (leb (at + length text) (length buffer))
    (Some (at + length text), take at buffer ++ text ++ drop (at + length text) buffer)
    (None, buffer)

-- r is the answer to a text at a place, and `after` is what the buffer ends with
abbrev pub Puts : List ℕ → ℕ → List ℕ → Option ℕ → List ℕ → Type 0
Puts before at text r after = (r ≡ (put before at text).0) × (after ≡ (put before at text).1)
