-- What every element of a list has, list by list: one element more, lists after lists, pieces, images. Assumes nothing.
use mathlib.Core.Path.{◌≡◌, subst}
use mathlib.Core.List.{List, [], ◌∷◌, ◌++◌, map, flat_map}
use Prim.Native.Nat.{ℕ, zero, suc, ◌+◌, ◌-◌, ◌≤◌, ◌<◌}
use native.Mathlib.Nat.{lt_of_not-le}
use native.Mathlib.Decide.{dec_le}
use native.Mathlib.Omega.{arith}
use lib.ListN.{length, get_or, length-append, get_or-append}
use lib.Seq.{get_or-append-add}

-- elements that are written out, with what shows each
pub data Shown {A : Type 0} (P : A → Type 0) : List A → Type 0 where
  none : Shown P []
  next : {x : A} {l : List A} → P x → Shown P l → Shown P (x ∷ l)

module _ {A : Type 0} (P : A → Type 0) (d : A) where
  abbrev pub All : List A → Type 0
  All l = (i : ℕ) → i < length l → P (get_or l i d)

  pub shown : {l : List A} → Shown P l → All l
  shown none i h = absurd (omega arith)
  shown (next p s) zero h = p
  shown (next p s) (suc i) h = shown s i (omega arith)

  module _ (k l : List A) where
    pub all_front : All (k ++ l) → All k
    all_front a i h = subst P (get_or-append k l d i h) (a i (omega (arith, length-append k l)))

    pub all_back : All (k ++ l) → All l
    all_back a i h = subst P (get_or-append-add k l i d) (a (length k + i) (omega (arith, length-append k l)))

    pub all_both : All k → All l → All (k ++ l)
    all_both a b i h = go (dec_le (length k) i)
      where
        go : Dec (length k ≤ i) → P (get_or (k ++ l) i d)
        go (yes q) =
            let j : i ≡ length k + (i - length k) = omega arith in
            rw j (rw (get_or-append-add k l) (b (i - length k) (omega (arith, length-append k l))))
        go (no q) = rw (get_or-append k l d i (lt_of_not-le q)) (a i (lt_of_not-le q))

module _ {A B : Type 0} (P : B → Type 0) (e : B) (d : A) where
  module _ (f : A → List B) where
    pub flat_each : (l : List A) → All P e (flat_map f l) → All (λ x. All P e (f x)) d l
    unfolding flat_map
    flat_each [] a k h = absurd (omega arith)
    flat_each (x ∷ l) a zero h = all_front P e (f x) (flat_map f l) a
    flat_each (x ∷ l) a (suc k) h = flat_each l (all_back P e (f x) (flat_map f l) a) k (omega arith)

    pub flat_all : (l : List A) → All (λ x. All P e (f x)) d l → All P e (flat_map f l)
    unfolding flat_map
    flat_all [] a = λ i h. absurd (omega arith)
    flat_all (x ∷ l) a = all_both P e (f x) (flat_map f l) (a 0 (omega arith)) (flat_all l (λ k h. a (suc k) (omega arith)))

  module _ (f : A → B) where
    pub map_each : (l : List A) → All P e (map f l) → All (λ x. P (f x)) d l
    map_each [] a k h = absurd (omega arith)
    map_each (x ∷ l) a zero h = a 0 (omega arith)
    map_each (x ∷ l) a (suc k) h = map_each l (λ i g. a (suc i) (omega arith)) k (omega arith)

    pub map_all : (l : List A) → All (λ x. P (f x)) d l → All P e (map f l)
    map_all [] a i h = absurd (omega arith)
    map_all (x ∷ l) a zero h = a 0 (omega arith)
    map_all (x ∷ l) a (suc i) h = map_all l (λ k g. a (suc k) (omega arith)) i (omega arith)
