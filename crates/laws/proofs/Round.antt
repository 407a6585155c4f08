-- Laws of rounding up: order, range, the count that is known already, and least multiples. Assumes nothing.
use mathlib.Core.Path.{◌≡◌, refl, ap, ◌∙◌}
use mathlib.Core.Logic.{⊎_elim}
use Prim.Native.Nat.{ℕ, suc, ◌+◌, ◌-◌, ◌*◌, ◌/◌, ◌≤◌, ◌<◌}
use native.Mathlib.Nat.{le_trans, le_refl, div-lt_iff_lt-mul, le-mul_of_pos_right, mul-le-mul_left, suc-mul, le-div_iff_mul-le, div-mul-le_self, div-zero, div-eq_of_lt, eq-zero-or-pos, lt-div-mul-add, mul-add-div_right, lt_of_not-le}
use native.Mathlib.Decide.{dec_le}
use native.Mathlib.Omega.{arith}
use Rattle.laws.specs.Lists.{ceil}

div_mono : (n : ℕ) {a b : ℕ} → a ≤ b → a / n ≤ b / n
div_mono n {a} {b} h =
    ⊎_elim (λ (e : n ≡ 0). rw (e, div-zero, div-zero) (le_refl 0))
    (λ k. (le-div_iff_mul-le k).1 (le_trans (div-mul-le_self a n) h))
    (eq-zero-or-pos n)

-- ---- order and range
pub ceil_mono : (n : ℕ) {a b : ℕ} → a ≤ b → ceil a n ≤ ceil b n
ceil_mono n h = div_mono n (omega arith)

pub ceil_zero : (n : ℕ) → ceil 0 n ≡ 0
ceil_zero n =
    ⊎_elim (λ (e : n ≡ 0). rw e refl) (λ k. div-eq_of_lt (omega arith)) (eq-zero-or-pos n)

pub ceil_pos : (a n : ℕ) → 1 ≤ n → 1 ≤ a → 1 ≤ ceil a n
ceil_pos a n h k = (le-div_iff_mul-le h).1 (omega arith)

pub ceil_le : (a n : ℕ) → 1 ≤ n → ceil a n ≤ a
ceil_le a n h = le_of_lt_suc ((div-lt_iff_lt-mul h).1 (omega (arith, suc-mul a n, le-mul_of_pos_right a h)))
  where
    le_of_lt_suc : {x y : ℕ} → x < suc y → x ≤ y
    le_of_lt_suc h = omega arith

-- ---- least multiples: ceil(a / n) × n is the first multiple of n that is a or more
pub ceil_covers : (a n : ℕ) → 1 ≤ n → a ≤ ceil a n * n
ceil_covers a n h = omega (arith, lt-div-mul-add {a = a + (n - 1)} h)

-- .. and less than n above it
pub ceil_over : (a n : ℕ) → ceil a n * n ≤ a + (n - 1)
ceil_over a n = div-mul-le_self (a + (n - 1)) n

-- q counts below ceil(a / n) exactly if q × n is below a
pub ceil_room : (q a n : ℕ) → 1 ≤ n → q < ceil a n → q * n < a
ceil_room q a n p h = omega (arith, suc-mul q n, (le-div_iff_mul-le p).0 h)

pub ceil_at_most : (a k n : ℕ) → 1 ≤ n → a ≤ k * n → ceil a n ≤ k
ceil_at_most a k n h p = le_of_lt_suc ((div-lt_iff_lt-mul h).1 (omega (arith, suc-mul k n)))
  where
    le_of_lt_suc : {x y : ℕ} → x < suc y → x ≤ y
    le_of_lt_suc h = omega arith

-- a longer period asks no more often
pub ceil_anti : (a : ℕ) {m n : ℕ} → 1 ≤ m → m ≤ n → ceil a n ≤ ceil a m
ceil_anti a {m} {n} h k = ceil_at_most a (ceil a m) n (le_trans h k) (le_trans (ceil_covers a m h) (mul-le-mul_left (ceil a m) k))

-- ---- what was counted already: past ceil(a / n) periods, only what is left is counted
pub ceil_more : (n a b : ℕ) → 1 ≤ n → a ≤ b → ceil b n ≡ ceil a n + ceil (b - ceil a n * n) n
ceil_more n a b h k = go (dec_le b (ceil a n * n))
  where
    go : Dec (b ≤ ceil a n * n) → ceil b n ≡ ceil a n + ceil (b - ceil a n * n) n
    go (yes p) =
        let z : b - ceil a n * n ≡ 0 = omega arith in
        rw (z, ceil_zero n) (omega (arith, ceil_mono n k, ceil_at_most b (ceil a n) n h p))
    go (no p) =
        let d = b - ceil a n * n in
        let e : b + (n - 1) ≡ ceil a n * n + (d + (n - 1)) = omega (arith, lt_of_not-le p) in
        ap (λ x. x / n) e ∙ mul-add-div_right h (ceil a n) (d + (n - 1))
