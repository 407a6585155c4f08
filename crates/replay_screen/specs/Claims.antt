-- What is proved of a replay: that its last line names the smallest priority, in proofs/Winner.antt, that it can be checked by hand, in
-- proofs/Silent.antt, and how long it is at most, in proofs/Size.antt.
use Rattle.std.specs.Prelude.{◌≡◌, true, false, List, ◌++◌, ◌↔◌, ℕ, suc, ◌+◌, ◌*◌, ◌≤◌, ◌<◌, length, get_or}
use Rattle.names.specs.declared.Priority.{Priority}
use Rattle.names.specs.Limits.{contenders, bits, ticks}
use Rattle.laws.specs.Lists.{rows}
use Rattle.std.specs.Prelude.{Ok}
use Rattle.tournament_state.specs.Refusals.{none, number_at}
use Rattle.tournament_state.specs.declared.Tournament.{Tournament}
use Rattle.tournament.specs.Rule.{begun_of}
use Rattle.tournament.specs.Answers.{start_of, parting_of}
use Rattle.tournament_laws.specs.Facts.{after, Smallest}
use Rattle.ascii.specs.Ascii.{ascii}
use Rattle.replay_screen.specs.Shown.{gone, spaced, bit_lines, wins_line, shown_of}

-- a start that is not refused: a line for each of the NB bits, and the row and the priority of the smallest
abbrev pub SmallestShown : Type 0
SmallestShown =
    (NB n : ℕ) (places : List Priority) → length places ≡ contenders → (t : Tournament) → start_of NB n places ≡ Ok t
    → (w : ℕ) × Smallest n places w
    × (shown_of NB n places ≡ bit_lines (begun_of NB n places) NB ++ wins_line (record { 0 = w }) (get_or places w none))

-- so what is shown can be checked by hand: a contender goes silent at a bit exactly if its priority and the smallest part there
abbrev pub SilentWhereTheyPart : Type 0
SilentWhereTheyPart =
    (NB n : ℕ) (places : List Priority) → length places ≡ contenders → (t : Tournament) → start_of NB n places ≡ Ok t
    → (w : ℕ) → Smallest n places w → (k : ℕ) → k < NB → (i : ℕ) → i < n
    → (get_or (gone (after NB n places k).marks (after NB n places (suc k)).marks) i false ≡ true)
    ↔ (parting_of NB (get_or places i none) (get_or places w none) ≡ Ok (suc k))

-- every row after its space
abbrev pub most_rows : ℕ
most_rows = length (spaced (rows contenders (λ i. i)))

-- the longest line of a bit, whose number has two digits at most, with every row in both places
abbrev pub most_of_bit : ℕ
most_of_bit =
    length (ascii "bit ") + 2 + length (ascii ": ") + length (ascii "carrier heard") + length (ascii "; goes silent:") + most_rows
    + length (ascii "; still in:") + most_rows + length (ascii "\n")

-- the longest line of a winner, whose row has three digits and whose priority has ten
abbrev pub most_of_winner : ℕ
most_of_winner = length (ascii "row ") + 3 + length (ascii " wins with priority ") + 10 + length (ascii "\n")

abbrev pub most_shown : ℕ
most_shown = bits * most_of_bit + most_of_winner

-- 128 places with priorities of 32 bits, as a call is lent them
pub record LentPlaces (places : List Priority) : Type 0 where
  pub long : length places ≡ contenders
  pub small : (i : ℕ) → number_at places i ≤ ticks

-- no replay is longer, ..
abbrev pub LargestShown : Type 0
LargestShown = (NB n : ℕ) (places : List Priority) → LentPlaces places → length (shown_of NB n places) ≤ most_shown

-- .. and that is 27,270 bytes
abbrev pub MostIs : Type 0
MostIs = most_shown ≡ 27270
