-- An array that a loop lays down from the front, the first places of an array as rows, and the first that passes a test.
-- Assumes nothing.
use mathlib.Core.Path.{◌≡◌, refl, sym, ap, ◌∙◌}
use mathlib.Core.List.{List, [], ◌∷◌, ◌++◌, append-nil, append_assoc, map}
use Prim.Native.Nat.{ℕ, zero, suc, ◌+◌, ◌-◌, ◌≤◌, ◌<◌}
use native.Mathlib.Numerals.{add-one}
use native.Mathlib.Omega.{arith}
use lib.ListN.{length, get_or, set, take, drop, replicate}
use lib.Seq.{set_at, take-length, drop-cons}
use Rattle.laws.specs.Lists.{rows}
use Rattle.laws.specs.Search.{first}
use Rattle.laws.proofs.Lists.{rows_more, length_rows, rows_map, rows_take}
use Rattle.laws.proofs.Rows.{found_at, found_none}
use Rattle.std.specs.Prelude.{Some, None, position}
use Rattle.std.specs.List.{position_or_len}
use Rattle.std.proofs.lemmas.List.Sums.{fails_before_first, passes_at_first}
use borrow.Author.Tests.{ltb-true, ltb-false}
use lib.Dec.{ltb}
use mathlib.Core.Bool.{Bool, true, false, cond}

module _ {A : Type 0} (f : ℕ → A) where
  -- one row more over places that hold anything
  pub lay_over : (base : List A) (d : A) (i : ℕ) → i < length base → set (rows i f ++ drop i base) i (f i) ≡ rows (i + 1) f ++ drop (i + 1) base
  lay_over base d i h =
      rw (drop-cons base i d h, set_at (rows i f) (get_or base i d) (drop (suc i) base) (f i) i (length_rows i f), rows_more, append_assoc, add-one) refl

  -- a place that keeps what it has is laid as it is
  pub lay_kept : (base : List A) (d : A) (i : ℕ) → i < length base → f i ≡ get_or base i d → rows i f ++ drop i base ≡ rows (i + 1) f ++ drop (i + 1) base
  lay_kept base d i h e = rw (drop-cons base i d h, ← e, rows_more, append_assoc, add-one) refl

-- all n places are laid
pub laid_all : {A : Type 0} (p : List A) (y : A) (n i : ℕ) → n ≤ i → p ++ replicate (n - i) y ≡ p
laid_all p y n i h = let s : n - i ≡ 0 = omega arith in rw s (append-nil p)

-- all places, each through a function
pub rows_all : {A B : Type 0} (f : A → B) (xs : List A) (d : A) (n : ℕ) → length xs ≡ n → rows n (λ k. f (get_or xs k d)) ≡ map f xs
rows_all f xs d n e =
    let whole : take n xs ≡ xs = rw (← e) (take-length xs) in
    sym (rows_map f n (λ k. get_or xs k d)) ∙ ap (map f) (rows_take xs d n (omega arith) ∙ whole)

-- ---- a test of a list's elements, in std's words, is a test of rows
module _ {A : Type 0} (t : A → Bool) (xs : List A) (d : A) (u : ℕ → Bool) (same : (i : ℕ) → i < length xs → t (get_or xs i d) ≡ u i) where
  -- the first that passes
  pub first_row : position t xs ≡ first u 0 (length xs)
  first_row = go (ltb (position_or_len t xs) (length xs)) refl
    where
      fails : (k : ℕ) → k < position_or_len t xs → k < length xs → u k ≡ false
      fails k l h = sym (same k h) ∙ fails_before_first t xs k d l

      go : (b : Bool) → ltb (position_or_len t xs) (length xs) ≡ b → cond b (Some (position_or_len t xs)) None ≡ first u 0 (length xs)
      go true e =
          let h = ltb-true _ _ e in
          sym (found_at u (length xs) (position_or_len t xs) (λ k l. fails k l (omega arith)) h (sym (same _ h) ∙ passes_at_first t xs d h))
      go false e =
          sym (found_none u (length xs) (length xs) (λ k l. fails k (omega (arith, ltb-false _ _ e)) l) (omega arith))

pub map_take : {A B : Type 0} (f : A → B) (n : ℕ) (xs : List A) → map f (take n xs) ≡ take n (map f xs)
map_take f zero xs = refl
map_take f (suc n) [] = refl
map_take f (suc n) (x ∷ xs) = ap (λ l. f x ∷ l) (map_take f n xs)
