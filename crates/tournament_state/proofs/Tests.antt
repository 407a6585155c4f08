-- The tests that the code does, as the definitions name them: a number against the bits; two tests in a row.
-- Assumes nothing.
use mathlib.Core.Path.{◌≡◌, refl}
use mathlib.Core.Bool.{Bool, true, false, ◌&&◌}
use Prim.Native.Nat.{ℕ, ◌/◌, ◌^◌, ◌≤◌}
use native.Mathlib.Nat.{div-eq_of_lt, le-div_iff_mul-le}
use native.Mathlib.Omega.{arith}
use borrow.Author.Tests.{eq-eqb, ne_eqb, ltb-true, ltb-false}
use lib.Pow.{pow_pos}
use lib.Dec.{eqb, ltb}

-- a number fits in k bits exactly if nothing is left of it above them
pub above_bits : (x k : ℕ) → eqb (x / 2 ^ k) 0 ≡ ltb x (2 ^ k)
above_bits x k = go (ltb x (2 ^ k)) refl
  where
    go : (b : Bool) → ltb x (2 ^ k) ≡ b → eqb (x / 2 ^ k) 0 ≡ b
    go true e = eq-eqb _ _ (div-eq_of_lt (ltb-true x (2 ^ k) e))
    go false e =
        let h : 1 ≤ x / 2 ^ k = (le-div_iff_mul-le (pow_pos k)).1 (omega (arith, ltb-false x (2 ^ k) e)) in
        ne_eqb _ _ (λ (z : x / 2 ^ k ≡ 0). omega arith)

-- two tests in a row
pub and_both : (x y : Bool) → x ≡ true → y ≡ true → x && y ≡ true
and_both x y e f = rw (e, f) refl
