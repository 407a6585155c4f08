-- Sums over partners, and differences that fall. Assumes nothing.
use mathlib.Core.Path.{◌≡◌, refl, sym, ap, ◌∙◌}
use mathlib.Core.Bool.{Bool, true, false, cond}
use mathlib.Core.List.{List, [], ◌∷◌, ◌++◌}
use Prim.Native.Nat.{ℕ, zero, suc, ◌+◌, ◌-◌, ◌≤◌}
use native.Mathlib.Nat.{add-zero, sub-zero, not-suc-le-zero, lt_irrefl}
use native.Mathlib.Omega.{arith}
use borrow.Author.Tests.{ltb-true, ltb-false}
use lib.Dec.{T, ltb, le→leb}
use lib.IntN.{pos, negsuc, sub_ℕ, ◌-ℤ◌}
use lib.Signed.{le_z}
use Rattle.laws.specs.Lists.{sum_of}
use Rattle.cover.specs.Cover.{Partnered}

-- a partner taken out, and its part in the sum
sum_out : {A : Type 0} (g : A → ℕ) (us : List A) (y : A) (vs : List A) → sum_of g (us ++ y ∷ vs) ≡ g y + sum_of g (us ++ vs)
unfolding sum_of
sum_out g [] y vs = refl
sum_out g (u ∷ us) y vs = omega (arith, sum_out g us y vs)

-- if each weighs no more than its own partner, so do all together
pub sum_partners : {A : Type 0} {R : A → A → Type 0} (f g : A → ℕ) → ((x y : A) → R x y → f x ≤ g y) → (xs ys : List A) → Partnered R xs ys → sum_of f xs ≤ sum_of g ys
unfolding sum_of Partnered
sum_partners f g h [] ys p = omega arith
sum_partners f g h (x ∷ xs) ys (us, y, vs, e, r, p) =
    rw e (omega (arith, h x y r, sum_partners f g h xs (us ++ vs) p, sum_out g us y vs))

-- a - b, by which of the two is larger
diff_is : (a b : ℕ) → pos a -ℤ pos b ≡ sub_ℕ a b
diff_is a zero = ap pos (add-zero a) ∙ by_test (ltb a 0) refl
  where
    by_test : (t : Bool) → ltb a 0 ≡ t → pos a ≡ cond t (negsuc (0 - suc a)) (pos (a - 0))
    by_test true e = absurd (not-suc-le-zero (ltb-true a 0 e))
    by_test false e = ap pos (sym (sub-zero a))
diff_is a (suc b) = refl

-- less is left of less, and of what more is taken from
sub_mono : (a b c d : ℕ) (t u : Bool) → ltb a b ≡ t → ltb c d ≡ u → a ≤ c → d ≤ b → T (le_z (cond t (negsuc (b - suc a)) (pos (a - b))) (cond u (negsuc (d - suc c)) (pos (c - d))))
sub_mono a b c d true true e f h k = le→leb (d - suc c) (b - suc a) (omega arith)
sub_mono a b c d true false e f h k = tt
sub_mono a b c d false true e f h k = absurd (lt_irrefl c (omega (arith, ltb-false a b e, ltb-true c d f)))
sub_mono a b c d false false e f h k = le→leb (a - b) (c - d) (omega arith)

pub diff_mono : (a b c d : ℕ) → a ≤ c → d ≤ b → T (le_z (pos a -ℤ pos b) (pos c -ℤ pos d))
diff_mono a b c d h k = rw (diff_is a b, diff_is c d) (sub_mono a b c d (ltb a b) (ltb c d) refl refl h k)
