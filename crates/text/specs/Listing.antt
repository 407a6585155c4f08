-- The listing of document 01, "Plans to run", with the instance that gives the bound (document 02, request 03), byte by byte.
use Rattle.std.specs.Prelude.{List, [], ◌∷◌, ◌++◌, ℕ, suc, ◌/◌, ◌%◌}
use Rattle.names.specs.declared.Label.{Label}
use Rattle.names.specs.declared.Refusal.{Refusal}
use Rattle.bound.specs.declared.Verdict.{Verdict, TheVariants.Met, TheVariants.Missed, TheVariants.None}
use Rattle.bound.specs.declared.Answer.{Answer}
use Rattle.row_words.specs.RowWords.{answers_in}
use Rattle.plan.specs.declared.Stream.{Stream}
use Rattle.plan.specs.declared.Sheet.{Sheet}
use Rattle.plan.specs.Plan.{Plan, plan_of}
use Rattle.decimal.specs.Decimal.{digits}
use Rattle.ascii.specs.Ascii.{ascii, space, newline, point}

-- a line of fields: they are parted by one space, and the line ends in one newline
abbrev pub line : List (List ℕ) → List ℕ
line [] = newline ∷ []
line (f ∷ []) = f ++ newline ∷ []
line (f ∷ g ∷ fs) = f ++ space ∷ line (g ∷ fs)

-- a label is group × 65,536 + number
abbrev pub group : ℕ
group = 65536

-- .. and is printed as group.number: 10.1 and 10.10 are two labels
abbrev pub label_text : Label → List ℕ
label_text l = digits (l.0 / group) ++ point ∷ digits (l.0 % group)

-- a row that is none prints "-" as its bound and as its instance ..
abbrev pub bounded_text : Verdict → ℕ → List ℕ
bounded_text Met b = digits b
bounded_text Missed b = digits b
bounded_text None b = ascii "-"

-- .. and "none" as its verdict
abbrev pub verdict_text : Verdict → List ℕ
verdict_text Met = ascii "met"
verdict_text Missed = ascii "missed"
verdict_text None = ascii "none"

-- the first line
abbrev pub header : List ℕ
header = line (ascii "label" ∷ ascii "priority" ∷ ascii "bound" ∷ ascii "instance" ∷ ascii "deadline" ∷ ascii "verdict" ∷ [])

-- the line of a stream and its answer
unfoldable pub row : Stream → Answer → List ℕ
row s a =
    line
    (label_text s.label
    ∷ digits s.priority.0
    ∷ bounded_text a.verdict a.bound
    ∷ bounded_text a.verdict a.instance
    ∷ digits s.deadline
    ∷ verdict_text a.verdict
    ∷ [])

-- a line for each stream that has something to tell, in file order
unfoldable pub listed_rows : {A : Type 0} → (Stream → A → List ℕ) → List Stream → List A → List ℕ
listed_rows row [] told = []
listed_rows row (s ∷ ss) [] = []
listed_rows row (s ∷ ss) (a ∷ told) = row s a ++ listed_rows row ss told

-- a line for each stream, by the stream and its row, the first of which is row k
unfoldable pub lines_from : (Stream → ℕ → List ℕ) → ℕ → List Stream → List ℕ
lines_from line k [] = []
lines_from line k (s ∷ ss) = line s k ++ lines_from line (suc k) ss

-- the whole listing of a plan and its rows' answers
unfoldable pub listing_of : Plan → List Answer → List ℕ
listing_of p answers = header ++ listed_rows row p.streams answers

-- of a sheet's plan, with the answers of its rows from their words
abbrev pub listing_in : Sheet → List ℕ → List ℕ
listing_in s words = listing_of (plan_of s) (answers_in s.count words)

-- a refused plan prints one line, "refused 4 at 1"
unfoldable pub refused_of : Refusal → List ℕ
refused_of r = line (ascii "refused" ∷ digits r.number ∷ ascii "at" ∷ digits r.place ∷ [])
