-- Laws of the smallest value over a list that is not empty. Assumes nothing.
use mathlib.Core.Path.{◌≡◌, refl, ap}
use mathlib.Core.Bool.{Bool, true, false, cond}
use mathlib.Core.List.{List, [], ◌∷◌, map}
use Prim.Native.Nat.{ℕ, zero, suc, min, ◌≤◌, ◌<◌}
use native.Mathlib.Omega.{arith}
use lib.ListN.{length, get_or}
use Rattle.laws.specs.Lists.{smallest_of, those}

-- it is no more than the first, ..
pub smallest_first : {A : Type 0} (f : A → ℕ) (x : A) (l : List A) → smallest_of f x l ≤ f x
unfolding smallest_of
smallest_first f x [] = omega arith
smallest_first f x (y ∷ l) = omega arith

module _ {A : Type 0} (f : A → ℕ) (t : A → Bool) (d : A) where
  -- .. nor than any other that passes, ..
  pub smallest_below : (x : A) (l : List A) (k : ℕ) → k < length l → t (get_or l k d) ≡ true → smallest_of f x (those t l) ≤ f (get_or l k d)
  unfolding smallest_of those
  smallest_below x [] k h e = absurd (omega arith)
  smallest_below x (y ∷ l) zero h e = rw e (omega (arith, smallest_first f y (those t l)))
  smallest_below x (y ∷ l) (suc k) h e = go (t y) (λ z. smallest_below z l k (omega arith) e)
    where
      go : (b : Bool) → ((z : A) → smallest_of f z (those t l) ≤ f (get_or l k d)) → smallest_of f x (cond b (y ∷ those t l) (those t l)) ≤ f (get_or l k d)
      go true rest = omega (arith, rest y)
      go false rest = rest x

  -- .. and where all that pass are v at least, so is it
  pub smallest_above : (v : ℕ) (x : A) (l : List A) → v ≤ f x → ((k : ℕ) → k < length l → t (get_or l k d) ≡ true → v ≤ f (get_or l k d)) → v ≤ smallest_of f x (those t l)
  unfolding smallest_of those
  smallest_above v x [] h all = h
  smallest_above v x (y ∷ l) h all = go (t y) refl (λ z g. smallest_above v z l g (λ k i e. all (suc k) (omega arith) e))
    where
      go : (b : Bool) → t y ≡ b → ((z : A) → v ≤ f z → v ≤ smallest_of f z (those t l)) → v ≤ smallest_of f x (cond b (y ∷ those t l) (those t l))
      go true e rest = omega (arith, h, rest y (all 0 (omega arith) e))
      go false e rest = rest x h

-- ---- the same of other values
pub smallest_map : {A C : Type 0} (f : C → ℕ) (g : A → C) (x : A) (l : List A) → smallest_of f (g x) (map g l) ≡ smallest_of (λ a. f (g a)) x l
unfolding smallest_of
smallest_map f g x [] = refl
smallest_map f g x (y ∷ l) = ap (min (f (g x))) (smallest_map f g y l)

pub smallest_all : {A : Type 0} (v : ℕ) (x : A) (l : List A) → smallest_of (λ a. v) x l ≡ v
unfolding smallest_of
smallest_all v x [] = refl
smallest_all v x (y ∷ l) = omega (arith, smallest_all v y l)
