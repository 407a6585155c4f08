-- What the program waits prints of a plan that is not refused, byte by byte: `label evaluations limit`, and a line a stream.
use Rattle.std.specs.Prelude.{List, [], ◌∷◌, ◌++◌, map, ℕ, ◌+◌, ◌*◌, ◌≤◌, ◌<◌, ◌^◌, length, get_or}
use Rattle.names.specs.Limits.{streams, ticks}
use Rattle.bound.specs.declared.Wait.{Wait}
use Rattle.row_words.specs.RowWords.{waits_in}
use Rattle.plan.specs.declared.Stream.{Stream}
use Rattle.plan.specs.declared.Sheet.{Sheet}
use Rattle.plan.specs.Plan.{Plan, plan_of, at}
use Rattle.decimal.specs.Decimal.{digits}
use Rattle.ascii.specs.Ascii.{ascii}
use Rattle.text.specs.Listing.{line, label_text, listed_rows}

-- the first line
abbrev pub wait_header : List ℕ
wait_header = line (ascii "label" ∷ ascii "evaluations" ∷ ascii "limit" ∷ [])

-- the line of a stream: how many evaluations the search for its L takes, and how many it takes at most
unfoldable pub wait_row : Stream → Wait → List ℕ
wait_row s w = line (label_text s.label ∷ digits w.evaluations ∷ digits w.limit ∷ [])

-- all lines of a plan and its rows' waits, in file order
unfoldable pub lines_of : Plan → List Wait → List ℕ
lines_of p waits = wait_header ++ listed_rows wait_row p.streams waits

-- of a sheet's plan, with the waits of its rows from their words
abbrev pub lines_in : Sheet → List ℕ → List ℕ
lines_in s words = lines_of (plan_of s) (waits_in s.count words)

-- ---- What is proved of their size, in proofs/Size.antt.

-- labels of 32 bits, and numbers and limits of ten digits at most
pub record Printed (p : Plan) (waits : List Wait) : Type 0 where
  pub count : length p.streams ≤ streams
  pub label : (k : ℕ) → k < length p.streams → (at p k).label.0 ≤ ticks
  pub evaluations : (k : ℕ) → k < length waits → get_or (map (λ w. w.evaluations) waits) k 0 < 10 ^ 10
  pub limit : (k : ℕ) → k < length waits → get_or (map (λ w. w.limit) waits) k 0 < 10 ^ 10

-- the header, and 256 rows of 11 bytes of a label, 10 of each number, 2 spaces and a newline
abbrev pub most : ℕ
most = length wait_header + streams * (11 + 10 + 10 + 2 + 1)

-- there is no more to print
abbrev pub LargestLines : Type 0
LargestLines = (p : Plan) (waits : List Wait) → Printed p waits → length (lines_of p waits) ≤ most
