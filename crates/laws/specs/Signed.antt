-- The largest of signed numbers, and the first place that it stands at.
use Rattle.std.specs.Prelude.{◌≡◌, cond, ◌↔◌, ℕ, zero, suc, ◌≤◌, ◌<◌, T, ℤ}
use Rattle.std.specs.Int.Signed.{lt_z, le_z}
use Rattle.laws.specs.Search.{first, or_zero}

abbrev pub max_Z : ℤ → ℤ → ℤ
max_Z a b = cond (lt_z a b) b a

-- the largest of f 0, .., f n
unfoldable pub largest_to : (ℕ → ℤ) → ℕ → ℤ
largest_to f zero = f 0
largest_to f (suc n) = max_Z (largest_to f n) (f (suc n))

-- the smallest place, of 0 to n, at which f reaches it
unfoldable pub first_largest : (ℕ → ℤ) → ℕ → ℕ
first_largest f n = or_zero (first (λ q. le_z (largest_to f n) (f q)) 0 (suc n))

-- q is a place of 0 to n, f is the largest there, and at no earlier place
pub record FirstLargest (f : ℕ → ℤ) (n q : ℕ) : Type 0 where
  pub among : q ≤ n
  pub largest : f q ≡ largest_to f n
  pub earlier : (e : ℕ) → e < q → T (lt_z (f e) (largest_to f n))

-- What the search means, proved in proofs/Signed.antt: it gives q exactly if q is that place
abbrev pub FindsFirstLargest : Type 0
FindsFirstLargest = (f : ℕ → ℤ) (n q : ℕ) → (first_largest f n ≡ q) ↔ FirstLargest f n q
