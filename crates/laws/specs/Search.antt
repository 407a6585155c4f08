-- The first number that passes a test, and so the least fixed point of a function.
use Rattle.std.specs.Prelude.{◌≡◌, Bool, true, false, ◌↔◌, ℕ, zero, suc, ◌+◌, ◌≤◌, ◌<◌, eqb}
use Rattle.std.specs.Prelude.{Option, Some, None}

-- the first of the n numbers from lo on that passes the test
unfoldable pub first : (ℕ → Bool) → ℕ → ℕ → Option ℕ
first t lo zero = None
first t lo (suc n) = elim (t lo) [ true ↦ Some lo | false ↦ first t (suc lo) n ]

-- the first of the n numbers from lo on that f leaves as it is
abbrev pub first_fixed : (ℕ → ℕ) → ℕ → ℕ → Option ℕ
first_fixed f lo n = first (λ x. eqb (f x) x) lo n

-- what was found, or 0
abbrev pub or_zero : Option ℕ → ℕ
or_zero (Some x) = x
or_zero None = 0

-- x is the least fixed point of f from lo on
pub record Least (f : ℕ → ℕ) (lo x : ℕ) : Type 0 where
  pub above : lo ≤ x
  pub fixed : f x ≡ x
  pub least : (y : ℕ) → lo ≤ y → f y ≡ y → x ≤ y

-- What the search means, proved in proofs/Search.antt for every f: it gives x exactly if x is the least fixed point and in range, ..
abbrev pub FindsLeast : Type 0
FindsLeast = (f : ℕ → ℕ) (lo n x : ℕ) → (first_fixed f lo n ≡ Some x) ↔ ((x < lo + n) × Least f lo x)

-- .. and nothing exactly if there is none in range
abbrev pub FindsNone : Type 0
FindsNone = (f : ℕ → ℕ) (lo n : ℕ) → (first_fixed f lo n ≡ None) ↔ ((y : ℕ) → lo ≤ y → y < lo + n → f y ≡ y → ⊥)
