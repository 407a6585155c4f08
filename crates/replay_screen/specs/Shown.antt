-- What the replay screen shows of a tournament, byte by byte: a line for each bit, and the winner in the last line.
use Rattle.std.specs.Prelude.{Bool, true, false, not, ◌&&◌, List, [], ◌∷◌, ◌++◌, ℕ, zero, suc, get_or}
use Rattle.names.specs.declared.Priority.{Priority}
use Rattle.names.specs.declared.Row.{Row}
use Rattle.names.specs.Limits.{contenders}
use Rattle.laws.specs.Lists.{rows, those}
use Rattle.decimal.specs.Decimal.{digits}
use Rattle.text.specs.Listing.{refused_of}
use Rattle.tournament_state.specs.declared.Phase.{Phase, TheVariants.AtBit, TheVariants.Finished, TheVariants.NoWinner}
use Rattle.tournament_state.specs.declared.Tournament.{Tournament}
use Rattle.std.specs.Prelude.{Result, Ok, Err}
use Rattle.names.specs.declared.Refusal.{Refusal}
use Rattle.tournament_state.specs.Refusals.{none}
use Rattle.tournament.specs.Rule.{heard_at, steps}
use Rattle.tournament.specs.Answers.{start_of}
use Rattle.ascii.specs.Ascii.{ascii}

-- texts, one after the other
abbrev pub joined : List (List ℕ) → List ℕ
joined [] = []
joined (t ∷ ts) = t ++ joined ts

-- the rows that are marked in, the lowest first
unfoldable pub marked : List Bool → List ℕ
marked marks = those (λ i. get_or marks i false) (rows contenders (λ i. i))

-- marks for those that were in and are out
unfoldable pub gone : List Bool → List Bool → List Bool
gone before after = rows contenders (λ i. get_or before i false && not (get_or after i false))

-- each row after a space, ..
unfoldable pub spaced : List ℕ → List ℕ
spaced [] = []
spaced (r ∷ rs) = ascii " " ++ digits r ++ spaced rs

-- .. or that there is none
unfoldable pub rows_text : List ℕ → List ℕ
rows_text [] = ascii " none"
rows_text (r ∷ rs) = spaced (r ∷ rs)

abbrev pub carrier_text : Bool → List ℕ
carrier_text true = ascii "carrier heard"
carrier_text false = ascii "no carrier"

-- "bit 2: carrier heard; goes silent: 0 2; still in: 1", from the marks of those that go silent and of those that are still in
unfoldable pub bit_line : ℕ → Bool → List Bool → List Bool → List ℕ
bit_line k heard silent still =
    joined
    (ascii "bit "
    ∷ digits k
    ∷ ascii ": "
    ∷ carrier_text heard
    ∷ ascii "; goes silent:"
    ∷ rows_text (marked silent)
    ∷ ascii "; still in:"
    ∷ rows_text (marked still)
    ∷ ascii "\n"
    ∷ [])

-- the lines of the first k bits; bit k + 1 is handled by the step from the state after k steps
unfoldable pub bit_lines : Tournament → ℕ → List ℕ
bit_lines t zero = []
bit_lines t (suc k) =
    bit_lines t k
    ++ bit_line (suc k) (heard_at (steps k t) (suc k)) (gone (steps k t).marks (steps (suc k) t).marks) (steps (suc k) t).marks

-- "row 1 wins with priority 3", ..
unfoldable pub wins_line : Row → Priority → List ℕ
wins_line row priority = joined (ascii "row " ∷ digits row.0 ∷ ascii " wins with priority " ∷ digits priority.0 ∷ ascii "\n" ∷ [])

-- .. of the winner; a start always ends with one
unfoldable pub winner_line : List Priority → Phase → List ℕ
winner_line places (Finished row) = wins_line row (get_or places row.0 none)
winner_line places (AtBit k) = []
winner_line places NoWinner = []

-- all of a tournament that is at its first bit
unfoldable pub played_of : Tournament → List ℕ
played_of t = bit_lines t t.bits ++ winner_line (steps t.bits t).priorities (steps t.bits t).phase

-- what is shown of a bit count and the priorities of n contenders: the line of the refusal, or all of the tournament
abbrev pub shown_by : Result Tournament Refusal → List ℕ
shown_by (Ok t) = played_of t
shown_by (Err refusal) = refused_of refusal

unfoldable pub shown_of : ℕ → ℕ → List Priority → List ℕ
shown_of NB n places = shown_by (start_of NB n places)
