-- Laws of signed differences and of the largest of them, in the order: the order of ℤ, the larger of two, the largest of many, differences,
-- and what the machine's 64 bits keep of them. Assumes nothing.
use mathlib.Core.Path.{◌≡◌, refl, sym, ap, ◌∙◌, subst}
use mathlib.Core.Bool.{Bool, true, false, cond}
use mathlib.Core.Logic.{⊎_elim}
use Prim.Native.Nat.{ℕ, zero, suc, ◌+◌, ◌-◌, ◌^◌, ◌≤◌, ◌<◌}
use native.Mathlib.Nat.{le_refl, eq-or-lt_of_le}
use native.Mathlib.Numerals.{add-one}
use native.Mathlib.Omega.{arith}
use borrow.Author.Tests.{ltb-true, ltb-false}
use lib.Dec.{T, ltb, le→leb, leb→le}
use lib.IntN.{ℤ, pos, negsuc, nat_abs, ◌-ℤ◌}
use lib.Signed.{mag, lt_z, le_z, non_neg, le_z_yes, lt_z_yes, ≤ℤ_refl, clash_ℤ}
use mir.Syntax.{w64}
use mir.Val.{to_z, of_z, SFits}
use mir.Facts.{to_z-of_z, to_z_pos}
use Rattle.laws.specs.Search.{or_zero}
use Rattle.laws.specs.Signed.{max_Z, largest_to, first_largest, FirstLargest, FindsFirstLargest}
use Rattle.laws.proofs.Search.{first_is}

-- ---- the order, as a test
pub le_trans_Z : (a b c : ℤ) → T (le_z a b) → T (le_z b c) → T (le_z a c)
le_trans_Z (pos a) (pos b) (pos c) h k = le→leb a c (omega (arith, leb→le a b h, leb→le b c k))
le_trans_Z (pos a) (pos b) (negsuc c) h k = k
le_trans_Z (pos a) (negsuc b) c h k = absurd h
le_trans_Z (negsuc a) (pos b) (pos c) h k = tt
le_trans_Z (negsuc a) (pos b) (negsuc c) h k = absurd k
le_trans_Z (negsuc a) (negsuc b) (pos c) h k = tt
le_trans_Z (negsuc a) (negsuc b) (negsuc c) h k = le→leb c a (omega (arith, leb→le b a h, leb→le c b k))

lt_le : (a b : ℤ) → lt_z a b ≡ true → T (le_z a b)
lt_le (pos a) (pos b) h = le→leb a b (omega (arith, ltb-true a b h))
lt_le (pos a) (negsuc b) h = absurd (subst T (sym h) tt)
lt_le (negsuc a) (pos b) h = tt
lt_le (negsuc a) (negsuc b) h = le→leb b a (omega (arith, ltb-true b a h))

not_lt : (a b : ℤ) → lt_z a b ≡ false → T (le_z b a)
not_lt (pos a) (pos b) h = le→leb b a (ltb-false a b h)
not_lt (pos a) (negsuc b) h = tt
not_lt (negsuc a) (pos b) h = absurd (subst T h tt)
not_lt (negsuc a) (negsuc b) h = le→leb a b (ltb-false b a h)

le_lt_Z : (a b c : ℤ) → T (le_z a b) → T (lt_z b c) → T (lt_z a c)
le_lt_Z a b c h k = go (lt_z a c) refl
  where
    go : (t : Bool) → lt_z a c ≡ t → T t
    go true e = tt
    go false e = clash_ℤ {a = b} {b = c} (lt_z_yes k) (le_z_yes (le_trans_Z c a b (not_lt a c e) h))

-- what is equal reaches it
reaches : (a b : ℤ) → b ≡ a → le_z a b ≡ true
reaches a b e = rw e (go (le_z a a) (≤ℤ_refl a).le)
  where
    go : (t : Bool) → T t → t ≡ true
    go true h = refl
    go false h = absurd h

-- ---- the larger of two is at least each
larger : (a b : ℤ) → T (le_z a (max_Z a b)) × T (le_z b (max_Z a b))
larger a b = go (lt_z a b) refl
  where
    go : (t : Bool) → lt_z a b ≡ t → T (le_z a (cond t b a)) × T (le_z b (cond t b a))
    go true e = (lt_le a b e, (≤ℤ_refl b).le)
    go false e = ((≤ℤ_refl a).le, not_lt a b e)

-- ---- the largest of f 0 .. f n is at least each, and grows by one more
pub largest_ge : (f : ℕ → ℤ) (n q : ℕ) → q ≤ n → T (le_z (f q) (largest_to f n))
unfolding largest_to
largest_ge f zero q h = let e : q ≡ 0 = omega arith in rw e (≤ℤ_refl (f 0)).le
largest_ge f (suc n) q h =
    ⊎_elim (λ (e : q ≡ suc n). rw e (larger (largest_to f n) (f (suc n))).1)
    (λ l. le_trans_Z (f q) (largest_to f n) (max_Z (largest_to f n) (f (suc n))) (largest_ge f n q (omega arith)) (larger (largest_to f n) (f (suc n))).0)
    (eq-or-lt_of_le h)

pub largest_start : (f : ℕ → ℤ) → largest_to f 0 ≡ f 0
unfolding largest_to
largest_start f = refl

pub largest_more : (f : ℕ → ℤ) (q : ℕ) → max_Z (largest_to f q) (f (q + 1)) ≡ largest_to f (q + 1)
unfolding largest_to
largest_more f q = rw add-one refl

-- ---- the first place of the largest: at one more, the earlier of two equal ones stays
pub first_start : (f : ℕ → ℤ) → FirstLargest f 0 0
unfolding largest_to
first_start f = record { among = le_refl 0; largest = refl; earlier = λ e h. absurd (omega arith) }

next : (f : ℕ → ℤ) (n q : ℕ) → FirstLargest f n q → FirstLargest f (suc n) (cond (lt_z (largest_to f n) (f (suc n))) (suc n) q)
unfolding largest_to
next f n q h = go (lt_z (largest_to f n) (f (suc n))) refl
  where
    go : (t : Bool) → lt_z (largest_to f n) (f (suc n)) ≡ t → FirstLargest f (suc n) (cond t (suc n) q)
    go true e =
        let top : largest_to f (suc n) ≡ f (suc n) = ap (λ t. cond t (f (suc n)) (largest_to f n)) e in
        record {
          among = le_refl (suc n);
          largest = sym top;
          earlier = λ j g. rw top (le_lt_Z (f j) (largest_to f n) (f (suc n)) (largest_ge f n j (omega arith)) (subst T (sym e) tt));
        }
    go false e =
        let top : largest_to f (suc n) ≡ largest_to f n = ap (λ t. cond t (f (suc n)) (largest_to f n)) e in
        record { among = omega (arith, h.among); largest = h.largest ∙ sym top; earlier = λ j g. rw top (h.earlier j g) }

pub first_more : (f : ℕ → ℤ) (n q : ℕ) → FirstLargest f n q → FirstLargest f (n + 1) (cond (lt_z (largest_to f n) (f (n + 1))) (n + 1) q)
first_more f n q h = rw add-one (next f n q h)

first_exists : (f : ℕ → ℤ) (n : ℕ) → (q : ℕ) × FirstLargest f n q
first_exists f zero = (0, first_start f)
first_exists f (suc n) = let (q, h) = first_exists f n in (cond (lt_z (largest_to f n) (f (suc n))) (suc n) q, next f n q h)

-- so the largest is one of them
pub largest_is : (f : ℕ → ℤ) (n : ℕ) → (q : ℕ) × (q ≤ n) × (largest_to f n ≡ f q)
largest_is f n = let (q, h) = first_exists f n in (q, h.among, sym h.largest)

pub finds_first_largest : FindsFirstLargest
unfolding first_largest
finds_first_largest f n q = (λ e. let (x, h) = first_exists f n in subst (FirstLargest f n) (sym (found x h) ∙ e) h, found q)
  where
    found : (x : ℕ) → FirstLargest f n x → first_largest f n ≡ x
    found x h =
        ap or_zero
        (first_is (λ q. le_z (largest_to f n) (f q)) 0 (suc n) x (omega arith) (omega (arith, h.among)) (reaches (largest_to f n) (f x) h.largest)
        (λ y a b e. clash_ℤ {a = f y} {b = largest_to f n} (lt_z_yes (h.earlier y b)) (le_z_yes (subst T (sym e) tt))))

-- ---- what is at least a positive number is a positive number
pub above_pos : (a : ℕ) (z : ℤ) → 1 ≤ a → T (le_z (pos a) z) → T (non_neg z) × (1 ≤ nat_abs z)
above_pos a (pos b) h k = (tt, omega (arith, leb→le a b k))
above_pos a (negsuc b) h k = absurd k

-- ---- differences: a difference of two numbers below h is of a size below h
mag_sub : (h a b : ℕ) (t : Bool) → a < h → b < h → mag (cond t (negsuc (b - suc a)) (pos (a - b))) < h
mag_sub h a b true p q = omega arith
mag_sub h a b false p q = omega arith

diff_mag : (h a b : ℕ) → a < h → b < h → mag (pos a -ℤ pos b) < h
diff_mag h a zero p q = omega arith
diff_mag h a (suc b) p q = mag_sub h a (suc b) (ltb a (suc b)) p q

-- a difference that is not below zero, put back, gives what was taken from; so it is no more than that
pub diff_back : (a b c : ℕ) → pos a ≡ pos b -ℤ pos c → a + c ≡ b
diff_back a b zero e = omega (arith, ap nat_abs e)
diff_back a b (suc c) e = go (ltb b (suc c)) refl e
  where
    go : (t : Bool) → ltb b (suc c) ≡ t → pos a ≡ cond t (negsuc (suc c - suc b)) (pos (b - suc c)) → a + suc c ≡ b
    go true h d = absurd (subst (λ z. T (non_neg z)) d tt)
    go false h d = omega (arith, ap nat_abs d, ltb-false b (suc c) h)

pub diff_le : (a b c : ℕ) → pos a ≡ pos b -ℤ pos c → a ≤ b
diff_le a b c e = omega (arith, diff_back a b c e)

-- ---- two casts to 64 signed bits, and their difference
module _ (a b : ℕ) (p : a < 2 ^ 63) (q : b < 2 ^ 63) where
  exact : SFits w64 (pos a -ℤ pos b)
  exact = record { sfits = diff_mag (2 ^ 63) a b p q }

  pub diff_is : to_z w64 (of_z w64 (to_z w64 a -ℤ to_z w64 b)) ≡ pos a -ℤ pos b
  diff_is = rw (to_z_pos w64 p, to_z_pos w64 q) (to_z-of_z exact)

  pub diff_fits : SFits w64 (to_z w64 a -ℤ to_z w64 b)
  diff_fits = rw (to_z_pos w64 p, to_z_pos w64 q) exact

-- a test on the bits of two numbers is the test on the numbers
pub bits_lt : (a b : ℤ) → SFits w64 a → SFits w64 b → lt_z (to_z w64 (of_z w64 a)) (to_z w64 (of_z w64 b)) ≡ lt_z a b
bits_lt a b p q = rw (to_z-of_z p, to_z-of_z q) refl
