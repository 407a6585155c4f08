-- Whether some row passes a test, and what it is to be the lowest that does. `first` of laws searches for it.
use Rattle.std.specs.Prelude.{◌≡◌, Bool, true, false, ◌||◌, ◌↔◌, ℕ, zero, suc, ◌+◌, ◌≤◌, ◌<◌}
use Rattle.std.specs.Prelude.{Some, None}
use Rattle.laws.specs.Search.{first}

-- some row of 0, .., n - 1 passes the test
unfoldable pub some : (ℕ → Bool) → ℕ → Bool
some t zero = false
some t (suc n) = some t n || t n

-- x is the lowest of the n numbers from lo on that passes the test
pub record Lowest (t : ℕ → Bool) (lo n x : ℕ) : Type 0 where
  pub above : lo ≤ x
  pub below : x < lo + n
  pub passes : t x ≡ true
  pub lowest : (y : ℕ) → lo ≤ y → y < x → t y ≡ false

-- What they mean, proved in proofs/Rows.antt for every test: `some` is true exactly if some row passes, ..
abbrev pub SomePasses : Type 0
SomePasses = (t : ℕ → Bool) (n : ℕ) → (some t n ≡ true) ↔ ((i : ℕ) × (i < n) × (t i ≡ true))

-- .. `first` gives x exactly if x is the lowest that passes, ..
abbrev pub FindsLowest : Type 0
FindsLowest = (t : ℕ → Bool) (lo n x : ℕ) → (first t lo n ≡ Some x) ↔ Lowest t lo n x

-- .. and nothing exactly if none passes
abbrev pub FindsNothing : Type 0
FindsNothing = (t : ℕ → Bool) (lo n : ℕ) → (first t lo n ≡ None) ↔ ((y : ℕ) → lo ≤ y → y < lo + n → t y ≡ false)
