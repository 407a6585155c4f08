-- The lowest row that repeats an earlier row.
use Rattle.std.specs.Prelude.{◌≡◌, Bool, List, ◌↔◌, ℕ, ◌≤◌, ◌<◌, eqb, length, get_or}
use Rattle.names.specs.declared.Row.{Row}
use Rattle.std.specs.Prelude.{Option, Some, None}
use Rattle.laws.specs.Search.{first}
use Rattle.laws.specs.Rows.{some}

-- row i has the value of an earlier row
abbrev pub repeats_at : List ℕ → ℕ → Bool
repeats_at xs i = some (λ j. eqb (get_or xs j 0) (get_or xs i 0)) i

-- a number that was found, as a row
abbrev pub as_row : Option ℕ → Option Row
as_row (Some i) = Some (record { 0 = i })
as_row None = None

-- the lowest row that does
unfoldable pub first_repeat : List ℕ → Option Row
first_repeat xs = as_row (first (repeats_at xs) 0 (length xs))

-- What it means, proved in proofs/Repeats.antt. Row i repeats an earlier row j:
pub record Repeats (xs : List ℕ) (i : ℕ) : Type 0 where
  pub j : ℕ
  pub earlier : j < i
  pub among : i < length xs
  pub same : get_or xs j 0 ≡ get_or xs i 0

-- it is at r exactly if r is the lowest row that repeats an earlier row, ..
abbrev pub AtTheLowest : Type 0
AtTheLowest = (xs : List ℕ) (r : Row) → (first_repeat xs ≡ Some r) ↔ (Repeats xs r.0 × ((i : ℕ) → Repeats xs i → r.0 ≤ i))

-- .. and nothing exactly if no two rows have one value
abbrev pub Distinct : List ℕ → Type 0
Distinct xs = (i j : ℕ) → i < length xs → j < length xs → get_or xs i 0 ≡ get_or xs j 0 → i ≡ j

abbrev pub NothingIfDistinct : Type 0
NothingIfDistinct = (xs : List ℕ) → (first_repeat xs ≡ None) ↔ Distinct xs
