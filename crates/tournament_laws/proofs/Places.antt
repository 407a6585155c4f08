-- What stands in a place: of rows laid over a list, and of a list that was lengthened; and rows laid over one value. Assumes nothing.
use mathlib.Core.Path.{◌≡◌, refl, sym, ap, ◌∙◌}
use mathlib.Core.List.{List, ◌++◌}
use Prim.Native.Nat.{ℕ, zero, suc, ◌+◌, ◌-◌, ◌≤◌, ◌<◌}
use native.Mathlib.Decide.{dec_le}
use native.Mathlib.Nat.{lt_of_not-le}
use native.Mathlib.Omega.{arith}
use lib.ListN.{length, get_or, drop, replicate, length-append, length-replicate}
use lib.Seq.{get_or-append-add, get_or-drop, take_all}
use Rattle.laws.specs.Lists.{rows}
use Rattle.laws.proofs.Lists.{length_rows, rows_front, rows_same, rows_take}

module _ {A : Type 0} where
  -- past a list of n elements
  pub past : (p q : List A) (d : A) (n i : ℕ) → length p ≡ n → n ≤ i → get_or (p ++ q) i d ≡ get_or q (i - n) d
  past p q d n i e h = let s : i ≡ length p + (i - n) = omega arith in rw s (get_or-append-add p q (i - n) d ∙ ap (λ k. get_or q k d) (omega arith))

  -- rows laid over a list: the rows in front, and past them what stood there
  pub laid_front : (f : ℕ → A) (base : List A) (d : A) (n i : ℕ) → i < n → get_or (rows n f ++ drop n base) i d ≡ f i
  laid_front f base d n i h = rows_front f (drop n base) d n i h

  pub laid_past : (f : ℕ → A) (base : List A) (d : A) (n i : ℕ) → n ≤ i → get_or (rows n f ++ drop n base) i d ≡ get_or base i d
  laid_past f base d n i h =
      let s : n + (i - n) ≡ i = omega arith in
      past (rows n f) (drop n base) d n i (length_rows n f) h ∙ get_or-drop n base (i - n) d ∙ ap (λ k. get_or base k d) s

  -- the value past the end of a list of one value is that value
  pub one_value : (n i : ℕ) (d : A) → get_or (replicate n d) i d ≡ d
  one_value zero i d = refl
  one_value (suc n) zero d = refl
  one_value (suc n) (suc i) d = one_value n i d

  -- n rows laid over places with one value are the rows of one function
  pub rows_laid : (m n : ℕ) (g f : ℕ → A) (y : A) → n ≤ m → ((i : ℕ) → i < n → g i ≡ f i) → ((i : ℕ) → n ≤ i → y ≡ f i)
      → rows n g ++ replicate (m - n) y ≡ rows m f
  rows_laid m n g f y h front back =
      let l = rows n g ++ replicate (m - n) y in
      let long : length l ≡ m = omega (arith, length-append (rows n g) (replicate (m - n) y), length_rows n g, length-replicate (m - n) y) in
      sym (rows_take l y m (omega arith) ∙ take_all m l (omega arith))
      ∙ rows_same m (λ i. get_or l i y) f (λ i b. elim (dec_le n i) [
        | yes q ↦ past (rows n g) (replicate (m - n) y) y n i (length_rows n g) q ∙ one_value (m - n) (i - n) y ∙ back i q
        | no q ↦ rows_front g (replicate (m - n) y) y n i (lt_of_not-le q) ∙ front i (lt_of_not-le q)
      ])
