-- The top bits of a number: what one bit more adds, and how many two numbers have in common. Assumes nothing.
use mathlib.Core.Path.{◌≡◌, sym, ap, ◌∙◌}
use mathlib.Core.Logic.{⊎_elim}
use Prim.Native.Nat.{ℕ, zero, suc, ◌+◌, ◌-◌, ◌*◌, ◌/◌, ◌%◌, ◌^◌, ◌≤◌, ◌<◌}
use native.Mathlib.Nat.{div-eq_of_lt, eq-or-lt_of_le, eq-zero-or-pos, one-mul}
use native.Mathlib.Omega.{arith}
use lib.Bits.{bit_xor, xor_add_and, and_le_l, and_le_r, xor_lt, xor_self, xor_shr}
use lib.Count.{count_leading_zeros, leading_top}
use lib.Pow.{shl-shr, shr_mono, shr-shr}

-- the number that the top k of NB bits make, and bit k
abbrev pub top : ℕ → ℕ → ℕ → ℕ
top NB k x = x / 2 ^ (NB - k)

abbrev pub bit : ℕ → ℕ → ℕ → ℕ
bit NB k x = top NB k x % 2

pub top_none : (NB x : ℕ) → x < 2 ^ NB → top NB 0 x ≡ 0
top_none NB x h = let e : NB - 0 ≡ NB = omega arith in rw e (div-eq_of_lt h)

pub top_all : (NB x : ℕ) → top NB NB x ≡ x
top_all NB x = let e : NB - NB ≡ 0 = omega arith in rw e (omega arith)

-- without its last bit
pub top_less : (NB k x : ℕ) → k < NB → top NB k x ≡ top NB (k + 1) x / 2
top_less NB k x h = let e : NB - k ≡ NB - (k + 1) + 1 = omega arith in rw e (sym (shr-shr x (NB - (k + 1)) 1))

-- the same top bits, one more
pub top_more : (NB k x y : ℕ) → k < NB → top NB k x ≡ top NB k y → bit NB (k + 1) x ≡ bit NB (k + 1) y → top NB (k + 1) x ≡ top NB (k + 1) y
top_more NB k x y h e f = omega (arith, top_less NB k x h, top_less NB k y h)

-- the same top bits, fewer
pub top_fewer : (NB k x y : ℕ) → k ≤ NB → top NB k x ≡ top NB k y → (j : ℕ) → j ≤ k → top NB j x ≡ top NB j y
top_fewer NB zero x y h e j l = let z : j ≡ 0 = omega arith in rw z e
top_fewer NB (suc k) x y h e j l =
    ⊎_elim
    (λ (q : j ≡ suc k). rw q e)
    (λ g.
    let a : suc k ≡ k + 1 = omega arith in
    let e' : top NB (k + 1) x ≡ top NB (k + 1) y = rw a at e in
    top_fewer NB k x y (omega arith) (top_less NB k x (omega arith) ∙ ap (λ z. z / 2) e' ∙ sym (top_less NB k y (omega arith))) j (omega arith))
    (eq-or-lt_of_le l)

-- the first k bits agree
abbrev pub Same : ℕ → ℕ → ℕ → ℕ → Type 0
Same NB k x y = (j : ℕ) → 1 ≤ j → j ≤ k → bit NB j x ≡ bit NB j y

pub same_top : (NB k x y : ℕ) → x < 2 ^ NB → y < 2 ^ NB → k ≤ NB → Same NB k x y → top NB k x ≡ top NB k y
same_top NB zero x y a b h s = top_none NB x a ∙ sym (top_none NB y b)
same_top NB (suc k) x y a b h s =
    let e : suc k ≡ k + 1 = omega arith in
    rw e (top_more NB k x y (omega arith) (same_top NB k x y a b (omega arith) (λ j p q. s j p (omega arith))) (rw e at (s (suc k) (omega arith) (omega arith))))

-- ---- the highest place at which two numbers of w bits differ: so many zeros stand above it in their exclusive-or
xor_none : (x y : ℕ) → bit_xor x y ≡ 0 → x ≡ y
xor_none x y e = omega (arith, xor_add_and x y, and_le_l x y, and_le_r x y)

xor_some : (x y : ℕ) → (x ≡ y → ⊥) → 0 < bit_xor x y
xor_some x y d = ⊎_elim (λ e. absurd (d (xor_none x y e))) (λ h. h) (eq-zero-or-pos (bit_xor x y))

pub record HighestDifference (w x y j : ℕ) : Type 0 where
  pub zeros : count_leading_zeros w (bit_xor x y) + suc j ≡ w
  pub above : x / 2 ^ suc j ≡ y / 2 ^ suc j
  pub differ : x / 2 ^ j ≡ y / 2 ^ j → ⊥

pub highest_difference : (w x y : ℕ) → x < 2 ^ w → y < 2 ^ w → (x ≡ y → ⊥) → (j : ℕ) × HighestDifference w x y j
highest_difference w x y a b d =
    let (j, zeros, low, high) = leading_top w (bit_xor x y) (xor_some x y d) (xor_lt w x y a b) in (
      j,
      record {
        zeros = zeros;
        above = xor_none (x / 2 ^ suc j) (y / 2 ^ suc j) (sym (xor_shr x y (suc j)) ∙ div-eq_of_lt high);
        differ =
            λ e.
            let none : bit_xor x y / 2 ^ j ≡ 0 = xor_shr x y j ∙ ap (λ z. bit_xor z (y / 2 ^ j)) e ∙ xor_self (y / 2 ^ j) in
            let some : 1 * 2 ^ j / 2 ^ j ≤ bit_xor x y / 2 ^ j = shr_mono j (rw one-mul low) in
            omega (arith, shl-shr 1 j);
      },
    )
