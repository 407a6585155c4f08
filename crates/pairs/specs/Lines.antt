-- The lines of a text one after the other, each as its two names, or that it is not two names.
use Rattle.std.specs.Prelude.{Option, Some, None, List, [], ◌∷◌, ℕ, zero, suc, length}
use Rattle.std.specs.Borrow.{Bor}
use Rattle.pairs.specs.declared.Part.{Part}
use Rattle.pairs.specs.declared.Lines.{Lines}
use Rattle.pairs.specs.Pairs.{Named, name_in, line_of}

-- the bytes of two names, by their places in a text
abbrev pub both_in : List ℕ → Option (Part × Part) → Option (List ℕ × List ℕ)
both_in text (Some names) = Some (name_in text names.0, name_in text names.1)
both_in text None = None

-- .. and behind two references
abbrev pub both_now : Option (Bor (List ℕ) × Bor (List ℕ)) → Option (List ℕ × List ℕ)
both_now (Some names) = Some (names.0.now, names.1.now)
both_now None = None

-- a line, and the lines from the place of the next one on
abbrev pub line_and_more : (ℕ → List (Option (List ℕ × List ℕ))) → List ℕ → Named → List (Option (List ℕ × List ℕ))
line_and_more more text (Some line) = both_in text line.names ∷ more line.next
line_and_more more text None = []

-- the lines from a place on, so many at most
unfoldable pub lines_up_to : ℕ → List ℕ → ℕ → List (Option (List ℕ × List ℕ))
lines_up_to zero text at = []
lines_up_to (suc k) text at = line_and_more (lines_up_to k text) text (line_of text at)

-- no line is empty with its newline, so a text has no more lines than bytes
abbrev pub lines_from : List ℕ → ℕ → List (Option (List ℕ × List ℕ))
lines_from text at = lines_up_to (length text) text at

abbrev pub lines_of : List ℕ → List (Option (List ℕ × List ℕ))
lines_of text = lines_from text 0

abbrev pub lines_left : Lines → List (Option (List ℕ × List ℕ))
lines_left s = lines_from s.text.now s.at
