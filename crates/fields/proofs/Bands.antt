-- The lowest field outside its limits is the first word that is out of its band. Assumes nothing.
use mathlib.Core.Path.{◌≡◌, refl, sym, ap, ◌∙◌}
use mathlib.Core.Bool.{Bool, true, false, not, cond}
use mathlib.Core.List.{List, [], ◌∷◌}
use Prim.Native.Nat.{ℕ, ◌+◌, ◌≤◌, ◌<◌}
use native.Mathlib.Nat.{add_assoc, add-zero}
use native.Mathlib.Omega.{arith}
use lib.ListN.{length}
use Rattle.std.specs.Prelude.{Some, None, zip}
use Rattle.std.specs.List.{position_from}
use Rattle.laws.proofs.Tests.{apart}
use Rattle.fields.specs.declared.Band.{Band}
use Rattle.fields.specs.Fields.{◌from◌to◌, inside, lowest}
use Rattle.fields.specs.private.Bands.{fields_of, out_of_band}

lowest_is : (k : ℕ) (words : List ℕ) (bands : List Band) → lowest k (fields_of words bands) ≡ position_from out_of_band k (zip words bands)
unfolding fields_of lowest
lowest_is k [] bands = refl
lowest_is k (w ∷ words) [] = refl
lowest_is k (w ∷ words) (b ∷ bands) = go (inside (w from b.0 to b.1)) (lowest_is (k + 1) words bands)
  where
    go : (t : Bool) → lowest (k + 1) (fields_of words bands) ≡ position_from out_of_band (k + 1) (zip words bands)
        → elim t [ true ↦ lowest (k + 1) (fields_of words bands) | false ↦ Some k ] ≡ cond (not t) (Some k) (position_from out_of_band (k + 1) (zip words bands))
    go true e = e
    go false e = refl

module _ {A : Type 0} (t : A → Bool) (k : ℕ) where
  -- the same, counted from k more
  moved : (j i : ℕ) (xs : List A) → position_from t j xs ≡ Some i → (position_from t (k + j) xs ≡ Some (k + i)) × (i < j + length xs)
  moved j i [] e = absurd (apart (sym e))
  moved j i (x ∷ xs) e = go (t x) (moved (j + 1) i xs) e
    where
      go : (b : Bool) → (position_from t (j + 1) xs ≡ Some i → (position_from t (k + (j + 1)) xs ≡ Some (k + i)) × (i < j + 1 + length xs)) → cond b (Some j) (position_from t (j + 1) xs) ≡ Some i
          → (cond b (Some (k + j)) (position_from t (k + j + 1) xs) ≡ Some (k + i)) × (i < j + length (x ∷ xs))
      go true more d = let s : j ≡ i = cc in (ap (λ z. Some (k + z)) s, omega arith)
      go false more d =
          let (s, l) = more d in
          (rw (add_assoc k j 1) s, omega (arith, l))

  moved_none : (j : ℕ) (xs : List A) → position_from t j xs ≡ None → position_from t (k + j) xs ≡ None
  moved_none j [] e = refl
  moved_none j (x ∷ xs) e = go (t x) (moved_none (j + 1) xs) e
    where
      go : (b : Bool) → (position_from t (j + 1) xs ≡ None → position_from t (k + (j + 1)) xs ≡ None) → cond b (Some j) (position_from t (j + 1) xs) ≡ None → cond b (Some (k + j)) (position_from t (k + j + 1) xs) ≡ None
      go true more d = absurd (apart d)
      go false more d = rw (add_assoc k j 1) (more d)

length_zip : {A B : Type 0} (xs : List A) (ys : List B) → length (zip xs ys) ≤ length xs
length_zip [] ys = omega arith
length_zip (x ∷ xs) [] = omega arith
length_zip (x ∷ xs) (y ∷ ys) = omega (arith, length_zip xs ys)

module _ (k : ℕ) (words : List ℕ) (bands : List Band) where
  pub found : {i : ℕ} → position_from out_of_band 0 (zip words bands) ≡ Some i → (lowest k (fields_of words bands) ≡ Some (k + i)) × (i < length words)
  found {i} e =
      let (s, l) = moved out_of_band k 0 i (zip words bands) e in
      (lowest_is k words bands ∙ (rw (add-zero k) at s), omega (arith, l, length_zip words bands))

  pub not_found : position_from out_of_band 0 (zip words bands) ≡ None → lowest k (fields_of words bands) ≡ None
  not_found e = lowest_is k words bands ∙ (rw (add-zero k) at (moved_none out_of_band k 0 (zip words bands) e))
