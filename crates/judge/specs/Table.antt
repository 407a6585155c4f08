-- Document 01, "When the answer is no": a table of refusals as its lines in their order, whatever it is that they refuse.
use Rattle.std.specs.Prelude.{◌≡◌, Bool, cond, List, [], ◌∷◌, ◌++◌, ◌↔◌, ℕ, ◌<◌, length, get_or}
use Rattle.std.specs.Prelude.{Option, Some, None, Result, Ok, Err}
use Rattle.names.specs.declared.Row.{Row}
use Rattle.names.specs.declared.Refusal.{Refusal}

-- whether what was offered is fine, or why not
abbrev pub Checked : Type 0
Checked = Result (Unit {0}) Refusal

-- a line of the table: the refusal's number, and its place if it is given
pub record Line : Type 0 where
  pub number : ℕ
  pub place : Option ℕ

-- the first line of a table that is given decides
unfoldable pub judge : List Line → Checked
judge [] = Ok tt
judge (l ∷ ls) = elim l.place [ Some p ↦ Err (record { number = l.number; place = p }) | None ↦ judge ls ]

-- the place of a line that is given if a test fails: some place, ..
abbrev pub unless_at : ℕ → Bool → Option ℕ
unless_at place t = cond t None (Some place)

-- .. or 0
abbrev pub unless : Bool → Option ℕ
unless = unless_at 0

-- a line whose place is a row
abbrev pub row_in : Option Row → Option ℕ
row_in (Some r) = Some r.0
row_in None = None

-- a refusal stands; where there is none, the next table is looked at
infixr 20 ◌then◌
abbrev pub ◌then◌ : Checked → Checked → Checked
(Ok _) then next = next
Err r then next = Err r

-- ---- What is proved of every table of refusals; the proofs are in proofs/Table.antt.

-- line i of a table, counted from 0
abbrev pub line_at : List Line → ℕ → Line
line_at ls i = get_or ls i (record { number = 0; place = None })

-- r is a line of the table that is given, and no line before it is
pub record FirstGiven (ls : List Line) (r : Refusal) : Type 0 where
  pub i : ℕ
  pub among : i < length ls
  pub number : (line_at ls i).number ≡ r.number
  pub place : (line_at ls i).place ≡ Some r.place
  pub before : (j : ℕ) → j < i → (line_at ls j).place ≡ None

-- a refusal is given exactly if it is the first line that is
abbrev pub RefusedByTheFirst : Type 0
RefusedByTheFirst = (ls : List Line) (r : Refusal) → (judge ls ≡ Err r) ↔ FirstGiven ls r

-- .. and the answer is fine exactly if no line is
abbrev pub FineIfNone : Type 0
FineIfNone = (ls : List Line) → (judge ls ≡ Ok tt) ↔ ((i : ℕ) → i < length ls → (line_at ls i).place ≡ None)

-- a table in two parts is judged part by part, so that a line goes between them without touching either
abbrev pub JudgedInTurn : Type 0
JudgedInTurn = (ks ls : List Line) → judge (ks ++ ls) ≡ judge ks then judge ls
