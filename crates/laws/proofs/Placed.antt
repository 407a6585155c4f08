-- Copying a list into places of fixed number, one element a turn. Assumes nothing.
use mathlib.Core.Path.{◌≡◌, refl, sym, ap, ◌∙◌}
use mathlib.Core.List.{List, [], ◌∷◌, ◌++◌}
use Prim.Native.Nat.{ℕ, zero, suc, ◌+◌, ◌-◌, ◌≤◌, ◌<◌, min}
use native.Mathlib.Nat.{sub-zero}
use native.Mathlib.Numerals.{add-one}
use native.Mathlib.Omega.{arith, min_cases}
use lib.ListN.{length, take, drop, get_or, set, replicate, get_or-replicate}
use lib.Seq.{take-suc, take_all, take_at, take-length, length-take-le, set_at, append_snoc}
use Rattle.laws.specs.Lists.{rows, placed}
use Rattle.laws.proofs.Lists.{lay_more, length_rows}

module _ {A : Type 0} (n : ℕ) (d : A) (xs : List A) where
  -- the places once the first i are in
  abbrev pub placed_to : ℕ → List A
  placed_to i = take i xs ++ replicate (n - i) d

  pub placed_more : (i : ℕ) (ys : List A) → i < n → i < length xs → ys ≡ placed_to i → set ys i (get_or xs i d) ≡ placed_to (i + 1)
  placed_more i ys h k s =
      let e : n - i ≡ suc (n - (i + 1)) = omega arith in
      rw (s, e, set_at (take i xs) d (replicate (n - (i + 1)) d) (get_or xs i d) i (length-take-le i xs (omega arith)), add-one i, take-suc xs i d k, append_snoc)

  pub placed_all : placed_to (min (length xs) n) ≡ placed n d xs
  unfolding placed
  placed_all =
      min_cases (length xs) n (placed_to (min (length xs) n) ≡ take n xs ++ replicate (n - length xs) d)
      (λ h e. rw (e, take-length, take_all n xs h) refl)
      (λ h e. let z : n - length xs ≡ n - n = omega arith in rw (e, z) refl)

-- ---- a list that has room
module _ {A : Type 0} (n : ℕ) (d : A) (xs : List A) (short : length xs ≤ n) where
  pub placed_short : placed n d xs ≡ xs ++ replicate (n - length xs) d
  unfolding placed
  placed_short = rw (take_all n xs short) refl

  pub placed_front : take (length xs) (placed n d xs) ≡ xs
  placed_front = rw placed_short (take_at xs _ (length xs) refl)

-- ---- an element of the places is that of the list, where both are
pub placed_reads : {A : Type 0} (n : ℕ) (d : A) (xs : List A) (k : ℕ) → k < n → get_or (placed n d xs) k d ≡ get_or xs k d
unfolding placed
placed_reads zero d xs k h = absurd (omega arith)
placed_reads (suc n) d [] k h = rw (sub-zero (suc n)) (get_or-replicate (suc n) k d d h)
placed_reads (suc n) d (x ∷ xs) zero h = refl
placed_reads (suc n) d (x ∷ xs) (suc k) h =
    let e : suc n - suc (length xs) ≡ n - length xs = omega arith in
    rw e (placed_reads n d xs k (omega arith))

pub drop_replicate : {A : Type 0} (k n : ℕ) (d : A) → drop k (replicate n d) ≡ replicate (n - k) d
drop_replicate zero n d = ap (λ i. replicate i d) (sym (sub-zero n))
drop_replicate (suc k) zero d = let e : 0 - suc k ≡ 0 = omega arith in rw e refl
drop_replicate (suc k) (suc n) d = let e : suc n - suc k ≡ n - k = omega arith in rw e (drop_replicate k n d)

-- ---- places that are filled from the front, one row a turn
module _ {A : Type 0} (n : ℕ) (d : A) (f : ℕ → A) where
  rows_short : (k : ℕ) → k ≤ n → placed n d (rows k f) ≡ rows k f ++ replicate (n - k) d
  rows_short k h =
      placed_short n d (rows k f) (omega (arith, length_rows k f)) ∙ ap (λ i. rows k f ++ replicate (n - i) d) (length_rows k f)

  pub no_rows_placed : replicate n d ≡ placed n d (rows 0 f)
  unfolding rows
  no_rows_placed = sym (rows_short 0 (omega arith) ∙ rw sub-zero refl)

  pub row_placed : (k : ℕ) {v : A} {o : List A} → k < n → o ≡ placed n d (rows k f) → v ≡ f k → set o k v ≡ placed n d (rows (k + 1) f)
  row_placed k h e q = rw (e, q, rows_short k (omega arith), rows_short (k + 1) (omega arith)) (lay_more f d n k h)
