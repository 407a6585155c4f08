-- Laws of sums, largest values and choices over a list, by the question that a proof asks. Assumes nothing.
use mathlib.Core.Path.{◌≡◌, refl, sym, ap, ap₂, ◌∙◌}
use mathlib.Core.Bool.{Bool, true, false, cond, ◌&&◌}
use mathlib.Core.Logic.{⊎_elim}
use mathlib.Core.List.{List, [], ◌∷◌, ◌++◌, map, map-append, append_assoc, append-nil}
use Prim.Native.Nat.{ℕ, zero, suc, ◌+◌, ◌-◌, ◌*◌, max, min, ◌≤◌, ◌<◌}
use native.Mathlib.Nat.{le_refl, add-le-add, zero-mul, add-mul, suc-mul, add-zero, add-suc, sub-zero, suc_inj, eq-or-lt_of_le, lt_of_not-le}
use native.Mathlib.Decide.{dec_le}
use native.Mathlib.Numerals.{add-one}
use native.Mathlib.Omega.{arith}
use lib.ListN.{length, get_or, set, take, replicate, length-append}
use lib.Seq.{take-suc, take_all, set_at, get_or_at}
use Rattle.laws.proofs.Tests.{both}
use Rattle.laws.specs.Lists.{sum_of, largest_of, those, rows, sum_to, every}

-- ---- is it more where each is more?
pub sum_mono : {A : Type 0} {f g : A → ℕ} → ((a : A) → f a ≤ g a) → (xs : List A) → sum_of f xs ≤ sum_of g xs
unfolding sum_of
sum_mono h [] = le_refl 0
sum_mono h (x ∷ xs) = add-le-add (h x) (sum_mono h xs)

pub sum_same : {A : Type 0} {f g : A → ℕ} → ((a : A) → f a ≡ g a) → (xs : List A) → sum_of f xs ≡ sum_of g xs
unfolding sum_of
sum_same h [] = refl
sum_same h (x ∷ xs) = ap₂ ◌+◌ (h x) (sum_same h xs)

-- ---- a factor comes out
pub sum_times : {A : Type 0} (f : A → ℕ) (k : ℕ) (xs : List A) → sum_of f xs * k ≡ sum_of (λ a. f a * k) xs
unfolding sum_of
sum_times f k [] = zero-mul k
sum_times f k (x ∷ xs) = add-mul (f x) (sum_of f xs) k ∙ ap (◌+◌ (f x * k)) (sum_times f k xs)

-- ---- one element more at the end
sum_snoc : {A : Type 0} (g : A → ℕ) (l : List A) (a : A) → sum_of g (l ++ (a ∷ [])) ≡ sum_of g l + g a
unfolding sum_of
sum_snoc g [] a = omega arith
sum_snoc g (x ∷ l) a = omega (arith, sum_snoc g l a)

largest_snoc : {A : Type 0} (g : A → ℕ) (l : List A) (a : A) → largest_of g (l ++ (a ∷ [])) ≡ max (largest_of g l) (g a)
unfolding largest_of
largest_snoc g [] a = omega arith
largest_snoc g (x ∷ l) a = omega (arith, largest_snoc g l a)

those_snoc : {A : Type 0} (t : A → Bool) (l : List A) (a : A) → those t (l ++ (a ∷ [])) ≡ those t l ++ cond (t a) (a ∷ []) []
unfolding those
those_snoc t [] a = refl
those_snoc t (x ∷ l) a = go (t x) (those_snoc t l a)
  where
    go : (b : Bool) → those t (l ++ (a ∷ [])) ≡ those t l ++ cond (t a) (a ∷ []) [] → cond b (x ∷ those t (l ++ (a ∷ []))) (those t (l ++ (a ∷ []))) ≡ cond b (x ∷ those t l) (those t l) ++ cond (t a) (a ∷ []) []
    go true e = ap (λ z. x ∷ z) e
    go false e = e

-- ---- one element more of those that pass
pub those_yes : {A : Type 0} (t : A → Bool) (l : List A) (a : A) → t a ≡ true → those t (l ++ (a ∷ [])) ≡ those t l ++ (a ∷ [])
those_yes t l a e = those_snoc t l a ∙ ap (λ b. those t l ++ cond b (a ∷ []) []) e

pub those_no : {A : Type 0} (t : A → Bool) (l : List A) (a : A) → t a ≡ false → those t (l ++ (a ∷ [])) ≡ those t l
those_no t l a e = those_snoc t l a ∙ ap (λ b. those t l ++ cond b (a ∷ []) []) e ∙ append-nil (those t l)
  where
    append-nil : {B : Type 0} (m : List B) → m ++ [] ≡ m
    append-nil [] = refl
    append-nil (x ∷ m) = ap (λ z. x ∷ z) (append-nil m)

-- ---- a loop over rows, one row a turn
pub largest_more : {A : Type 0} (g : A → ℕ) (f : ℕ → A) (k s r n : ℕ) → s ≡ largest_of g (rows k f) → r ≡ g (f k) → n ≡ max s r → n ≡ largest_of g (rows (k + 1) f)
unfolding rows
largest_more g f k s r n e d h = rw add-one (omega (arith, largest_snoc g (rows k f) (f k)))

-- a loop over the first of a list, one element a turn
pub those_take_yes : {A : Type 0} (t : A → Bool) (l : List A) (d : A) (k : ℕ) → k < length l → t (get_or l k d) ≡ true → those t (take (k + 1) l) ≡ those t (take k l) ++ (get_or l k d ∷ [])
those_take_yes t l d k h e = rw (add-one k, take-suc l k d h) (those_yes t (take k l) (get_or l k d) e)

pub those_take_no : {A : Type 0} (t : A → Bool) (l : List A) (d : A) (k : ℕ) → k < length l → t (get_or l k d) ≡ false → those t (take (k + 1) l) ≡ those t (take k l)
those_take_no t l d k h e = rw (add-one k, take-suc l k d h) (those_no t (take k l) (get_or l k d) e)

-- the first n of a list, row by row
pub rows_take : {A : Type 0} (l : List A) (d : A) (n : ℕ) → n ≤ length l → rows n (λ k. get_or l k d) ≡ take n l
unfolding rows
rows_take l d zero h = refl
rows_take l d (suc n) h = ap (λ m. m ++ (get_or l n d ∷ [])) (rows_take l d n (omega arith)) ∙ sym (take-suc l n d (omega arith))

pub rows_more : {A : Type 0} (f : ℕ → A) (k : ℕ) → rows (k + 1) f ≡ rows k f ++ (f k ∷ [])
unfolding rows
rows_more f k = rw add-one refl

pub length_rows : {A : Type 0} (n : ℕ) (f : ℕ → A) → length (rows n f) ≡ n
unfolding rows
length_rows zero f = refl
length_rows (suc n) f = length-append (rows n f) _ ∙ omega (arith, length_rows n f)

-- no more is taken than there is
pub take_min : {A : Type 0} (n m : ℕ) (l : List A) → length l ≤ m → take (min n m) l ≡ take n l
take_min n m l h =
    elim (dec_le n m) [
      | yes p ↦ let e : min n m ≡ n = omega arith in ap (λ k. take k l) e
      | no p ↦
          let g = lt_of_not-le p in
          take_all (min n m) l (omega arith) ∙ sym (take_all n l (omega arith))
    ]

-- row i, whatever stands behind the rows
pub rows_front : {A : Type 0} (f : ℕ → A) (rest : List A) (d : A) (n i : ℕ) → i < n → get_or (rows n f ++ rest) i d ≡ f i
unfolding rows
rows_front f rest d zero i h = absurd (omega arith)
rows_front f rest d (suc n) i h =
    ap (λ l. get_or l i d) (append_assoc (rows n f) (f n ∷ []) rest)
    ∙ ⊎_elim
    (λ (e : i ≡ n). rw e (get_or_at (rows n f) (f n) rest d n (length_rows n f)))
    (λ l. rows_front f (f n ∷ rest) d n i l)
    (eq-or-lt_of_le {n = i} {m = n} (omega arith))

-- row k of rows with nothing behind them
pub rows_at : {A : Type 0} (n : ℕ) (f : ℕ → A) (d : A) (k : ℕ) → k < n → get_or (rows n f) k d ≡ f k
rows_at n f d k h = ap (λ l. get_or l k d) (sym (append-nil (rows n f))) ∙ rows_front f [] d n k h

-- rows that agree below n
pub rows_same : {A : Type 0} (n : ℕ) (f g : ℕ → A) → ((k : ℕ) → k < n → f k ≡ g k) → rows n f ≡ rows n g
unfolding rows
rows_same zero f g h = refl
rows_same (suc n) f g h = ap₂ (λ l a. l ++ (a ∷ [])) (rows_same n f g (λ k p. h k (omega arith))) (h n (omega arith))

-- ---- those that pass, and the largest
-- the largest over those that pass is the largest over all, with 0 for the others
pub largest_those : {A : Type 0} (g : A → ℕ) (t : A → Bool) (l : List A) → largest_of (λ a. cond (t a) (g a) 0) l ≡ largest_of g (those t l)
unfolding largest_of those
largest_those g t [] = refl
largest_those g t (x ∷ l) = go (t x) (largest_those g t l)
  where
    go : (b : Bool) → largest_of (λ a. cond (t a) (g a) 0) l ≡ largest_of g (those t l) → max (cond b (g x) 0) (largest_of (λ a. cond (t a) (g a) 0) l) ≡ largest_of g (cond b (x ∷ those t l) (those t l))
    go true e = omega arith
    go false e = omega arith

-- the largest where each is less by d
pub largest_less : {A : Type 0} (f : A → ℕ) (d : ℕ) (l : List A) → largest_of (λ a. f a - d) l ≡ largest_of f l - d
unfolding largest_of
largest_less f d [] = omega arith
largest_less f d (x ∷ l) = omega (arith, largest_less f d l)

-- the largest where all are v
pub largest_all : {A : Type 0} (v : ℕ) (l : List A) → largest_of (λ a. v) l ≤ v
unfolding largest_of
largest_all v [] = omega arith
largest_all v (x ∷ l) = omega (arith, largest_all v l)

-- ---- sums over 0 .. n - 1
pub sum_to_none : (f : ℕ → ℕ) → sum_to f 0 ≡ 0
unfolding sum_to
sum_to_none f = refl

pub sum_to_more : (f : ℕ → ℕ) (n : ℕ) → sum_to f (n + 1) ≡ sum_to f n + f n
unfolding sum_to
sum_to_more f n = rw add-one refl

pub sum_to_le : (f : ℕ → ℕ) (k n : ℕ) → k ≤ n → sum_to f k ≤ sum_to f n
unfolding sum_to
sum_to_le f k zero h = let e : k ≡ 0 = omega arith in rw e (le_refl 0)
sum_to_le f k (suc n) h =
    ⊎_elim (λ (e : k ≡ suc n). rw e (le_refl _)) (λ l. omega (arith, sum_to_le f k n (omega arith))) (eq-or-lt_of_le h)

pub sum_to_same : (f g : ℕ → ℕ) (n : ℕ) → ((k : ℕ) → k < n → f k ≡ g k) → sum_to f n ≡ sum_to g n
unfolding sum_to
sum_to_same f g zero h = refl
sum_to_same f g (suc n) h = ap₂ ◌+◌ (sum_to_same f g n (λ k p. h k (omega arith))) (h n (omega arith))

pub sum_to_add : (f g h : ℕ → ℕ) (n : ℕ) → ((k : ℕ) → k < n → f k ≡ g k + h k) → sum_to f n ≡ sum_to g n + sum_to h n
unfolding sum_to
sum_to_add f g h zero e = refl
sum_to_add f g h (suc n) e = omega (arith, sum_to_add f g h n (λ k p. e k (omega arith)), e n (omega arith))

pub sum_to_mono : (f g : ℕ → ℕ) (n : ℕ) → ((k : ℕ) → f k ≤ g k) → sum_to f n ≤ sum_to g n
unfolding sum_to
sum_to_mono f g zero h = le_refl 0
sum_to_mono f g (suc n) h = add-le-add (sum_to_mono f g n h) (h n)

-- each is at most b
pub sum_to_all : (v n : ℕ) → sum_to (λ k. v) n ≡ n * v
unfolding sum_to
sum_to_all v zero = omega (arith, zero-mul v)
sum_to_all v (suc n) = omega (arith, sum_to_all v n, add-mul n 1 v)

pub sum_to_at_most : (f : ℕ → ℕ) (b n : ℕ) → ((k : ℕ) → k < n → f k ≤ b) → sum_to f n ≤ n * b
unfolding sum_to
sum_to_at_most f b zero h = omega arith
sum_to_at_most f b (suc n) h = omega (arith, sum_to_at_most f b n (λ k p. h k (omega arith)), h n (omega arith), suc-mul n b)

-- first n, then m more
pub sum_to_append : (f : ℕ → ℕ) (n m : ℕ) → sum_to f (n + m) ≡ sum_to f n + sum_to (λ k. f (n + k)) m
unfolding sum_to
sum_to_append f n zero = ap (sum_to f) (add-zero n) ∙ sym (add-zero _)
sum_to_append f n (suc m) = ap (sum_to f) (add-suc n m) ∙ omega (arith, sum_to_append f n m)

pub sum_rows : {A : Type 0} (g : A → ℕ) (n : ℕ) (f : ℕ → A) → sum_of g (rows n f) ≡ sum_to (λ k. g (f k)) n
unfolding sum_of rows sum_to
sum_rows g zero f = refl
sum_rows g (suc n) f = sum_snoc g (rows n f) (f n) ∙ ap (λ z. z + g (f n)) (sum_rows g n f)

-- ---- a test of every row, one row a turn
pub every_none : (t : ℕ → Bool) → every 0 t ≡ true
unfolding every
every_none t = refl

pub every_more : (t : ℕ → Bool) (n : ℕ) (all next : Bool) → all ≡ every n t → next ≡ t n → all && next ≡ every (n + 1) t
unfolding every
every_more t n all next e d = rw (add-one, e, d) refl

-- every row passes exactly if each does
pub every_each : (t : ℕ → Bool) (n : ℕ) → every n t ≡ true → (k : ℕ) → k < n → t k ≡ true
unfolding every
every_each t zero e k h = absurd (omega arith)
every_each t (suc n) e k h =
    let (a, b) = both (every n t) (t n) e in
    ⊎_elim (λ (d : suc k ≡ suc n). rw (suc_inj d) b) (λ l. every_each t n a k (omega arith)) (eq-or-lt_of_le h)

pub every_all : (t : ℕ → Bool) (n : ℕ) → ((k : ℕ) → k < n → t k ≡ true) → every n t ≡ true
unfolding every
every_all t zero h = refl
every_all t (suc n) h = rw (every_all t n (λ k p. h k (omega arith)), h n (omega arith)) refl

-- ---- places that are laid from the front, one row a turn, over places that hold one value
pub lay_none : {A : Type 0} (f : ℕ → A) (y : A) (n : ℕ) → replicate n y ≡ rows 0 f ++ replicate (n - 0) y
unfolding rows
lay_none f y n = ap (λ k. replicate k y) (sym (sub-zero n))

pub lay_more : {A : Type 0} (f : ℕ → A) (y : A) (n k : ℕ) → k < n → set (rows k f ++ replicate (n - k) y) k (f k) ≡ rows (k + 1) f ++ replicate (n - (k + 1)) y
lay_more f y n k h =
    let s : n - k ≡ suc (n - (k + 1)) = omega arith in
    rw (s, set_at (rows k f) y (replicate (n - (k + 1)) y) (f k) k (length_rows k f), rows_more, append_assoc) refl

-- ---- a function of each
pub rows_map : {A B : Type 0} (g : A → B) (n : ℕ) (f : ℕ → A) → map g (rows n f) ≡ rows n (λ k. g (f k))
unfolding rows
rows_map g zero f = refl
rows_map g (suc n) f = map-append g (rows n f) (f n ∷ []) ∙ ap (λ l. l ++ (g (f n) ∷ [])) (rows_map g n f)
