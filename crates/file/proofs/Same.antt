-- Laws of the test whether two lists are the same: what it means, and a loop that compares them. Assumes nothing.
use mathlib.Core.Path.{◌≡◌, refl, sym, ap, ap₂, ◌∙◌}
use mathlib.Core.Bool.{true, false, ◌&&◌, true≢false}
use mathlib.Core.List.{List, [], ◌∷◌}
use Prim.Native.Nat.{ℕ, ◌+◌, ◌≤◌, ◌<◌}
use native.Mathlib.Numerals.{add-one}
use borrow.Author.Tests.{eq-eqb, ne_eqb, eqb-true}
use lib.Dec.{eqb}
use lib.ListN.{length, get_or, drop, drop_of_length-le}
use lib.Seq.{drop-cons}
use Rattle.laws.proofs.Tests.{both}
use Rattle.file.specs.File.{same}

pub same_refl : (xs : List ℕ) → same xs xs ≡ true
unfolding same
same_refl [] = refl
same_refl (x ∷ xs) = rw (eq-eqb x x refl) (same_refl xs)

pub same_eq : (xs ys : List ℕ) → same xs ys ≡ true → xs ≡ ys
unfolding same
same_eq [] [] e = refl
same_eq [] (y ∷ ys) e = absurd (true≢false (sym e))
same_eq (x ∷ xs) [] e = absurd (true≢false (sym e))
same_eq (x ∷ xs) (y ∷ ys) e = let (a, b) = both (eqb x y) (same xs ys) e in ap₂ ◌∷◌ (eqb-true x y a) (same_eq xs ys b)

-- ---- a loop that has compared the first k
module _ (xs ys : List ℕ) (k : ℕ) (so_far : same xs ys ≡ same (drop k xs) (drop k ys)) where
  module _ (h : k < length xs) (i : k < length ys) where
    next : same (drop k xs) (drop k ys) ≡ eqb (get_or xs k 0) (get_or ys k 0) && same (drop (k + 1) xs) (drop (k + 1) ys)
    unfolding same
    next = rw (add-one k, drop-cons xs k 0 h, drop-cons ys k 0 i) refl

    pub differ : (get_or xs k 0 ≡ get_or ys k 0 → ⊥) → same xs ys ≡ false
    differ n = so_far ∙ next ∙ ap (λ b. b && same (drop (k + 1) xs) (drop (k + 1) ys)) (ne_eqb (get_or xs k 0) (get_or ys k 0) n)

    pub agree : get_or xs k 0 ≡ get_or ys k 0 → same xs ys ≡ same (drop (k + 1) xs) (drop (k + 1) ys)
    agree e = so_far ∙ next ∙ ap (λ b. b && same (drop (k + 1) xs) (drop (k + 1) ys)) (eq-eqb (get_or xs k 0) (get_or ys k 0) e)

  pub compared : length xs ≤ k → length ys ≤ k → same xs ys ≡ true
  unfolding same
  compared h i = so_far ∙ rw (drop_of_length-le xs h, drop_of_length-le ys i) refl
