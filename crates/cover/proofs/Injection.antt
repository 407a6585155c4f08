-- Own partners are an injection: where a partner is taken out at place k, the places after k are lowered by one, and where it is put back they are lifted
-- again. Assumes nothing.
use mathlib.Core.Path.{◌≡◌, refl, sym, ap, ◌∙◌, subst}
use mathlib.Core.Logic.{⊎_elim}
use mathlib.Core.List.{List, [], ◌∷◌, ◌++◌}
use Prim.Native.Nat.{ℕ, zero, suc, ◌+◌, ◌-◌, ◌<◌}
use native.Mathlib.Nat.{suc_inj, eq-or-lt_of_le, lt_of_not-le}
use native.Mathlib.Decide.{dec_le}
use native.Mathlib.Omega.{arith}
use lib.ListN.{length, get_or, take, drop, length-append, length-take, length-drop}
use lib.Seq.{split_at, get_or-append_seam}
use Rattle.cover.specs.Cover.{Partnered, Injection, PartneredExactly}

abbrev lifted : ℕ → ℕ → ℕ
lifted k n = n + (1 - (k - n))

abbrev lowered : ℕ → ℕ → ℕ
lowered k n = n - (1 - (k - n))

lifted_lowered : (k n : ℕ) → (k ≡ n → ⊥) → lifted k (lowered k n) ≡ n
lifted_lowered k n h =
    elim (dec_le k n) [
      | yes p ↦ ⊎_elim (λ e. absurd (h e)) (λ l. omega arith) (eq-or-lt_of_le p)
      | no p ↦ omega (arith, lt_of_not-le p)
    ]

-- what stands at place n without y stands at the lifted place with it
at_lifted : {A : Type 0} (us : List A) (y : A) (vs : List A) (d : A) (n : ℕ) → get_or (us ++ y ∷ vs) (lifted (length us) n) d ≡ get_or (us ++ vs) n d
at_lifted [] y vs d n = let e : lifted 0 n ≡ suc n = omega arith in ap (λ k. get_or (y ∷ vs) k d) e
at_lifted (u ∷ us) y vs d zero = let e : lifted (suc (length us)) 0 ≡ 0 = omega arith in ap (λ k. get_or (u ∷ (us ++ y ∷ vs)) k d) e
at_lifted (u ∷ us) y vs d (suc n) =
    let e : lifted (suc (length us)) (suc n) ≡ suc (lifted (length us) n) = omega arith in
    ap (λ k. get_or (u ∷ (us ++ y ∷ vs)) k d) e ∙ at_lifted us y vs d n

module _ {A : Type 0} (R : A → A → Type 0) (d : A) where
  -- one more in front, whose partner y is put back between us and vs
  module _ (x : A) (xs us : List A) (y : A) (vs : List A) (r : R x y) (f : Injection R d xs (us ++ vs)) where
    abbrev place : ℕ → ℕ
    place zero = length us
    place (suc i) = lifted (length us) (f.place i)

    within : (i : ℕ) → i < length (x ∷ xs) → place i < length (us ++ y ∷ vs)
    within zero h = omega (arith, length-append us (y ∷ vs))
    within (suc i) h = omega (arith, length-append us (y ∷ vs), length-append us vs, f.within i (omega arith))

    partner : (i : ℕ) → i < length (x ∷ xs) → R (get_or (x ∷ xs) i d) (get_or (us ++ y ∷ vs) (place i) d)
    partner zero h = rw get_or-append_seam r
    partner (suc i) h = rw at_lifted (f.partner i (omega arith))

    own : (i j : ℕ) → i < length (x ∷ xs) → j < length (x ∷ xs) → place i ≡ place j → i ≡ j
    own zero zero h k e = refl
    own zero (suc j) h k e = absurd (omega arith)
    own (suc i) zero h k e = absurd (omega arith)
    own (suc i) (suc j) h k e = ap suc (f.own i j (omega arith) (omega arith) (omega arith))

  injection : (xs ys : List A) → Partnered R xs ys → Injection R d xs ys
  unfolding Partnered
  injection [] ys p =
      record { place = λ i. i; within = λ i h. absurd (omega arith); partner = λ i h. absurd (omega arith); own = λ i j h. absurd (omega arith) }
  injection (x ∷ xs) ys (us, y, vs, e, r, p) =
      let f = injection xs (us ++ vs) p in
      rw e (record { place = place x xs us y vs r f; within = within x xs us y vs r f; partner = partner x xs us y vs r f; own = own x xs us y vs r f })

  -- the first and its partner taken out
  module _ (x : A) (xs ys : List A) (f : Injection R d (x ∷ xs) ys) where
    abbrev k : ℕ
    k = f.place 0

    first : k < length ys
    first = f.within 0 (omega arith)

    abbrev rest : List A
    rest = take k ys ++ drop (suc k) ys

    -- no other has its place
    other : (i : ℕ) → i < length xs → lifted k (lowered k (f.place (suc i))) ≡ f.place (suc i)
    other i h = lifted_lowered k (f.place (suc i)) (λ e. absurd (omega (arith, f.own 0 (suc i) (omega arith) (omega arith) e)))

    before : length (take k ys) ≡ k
    before = length-take k ys ∙ omega (arith, first)

    stands : (i : ℕ) → i < length xs → get_or ys (f.place (suc i)) d ≡ get_or rest (lowered k (f.place (suc i))) d
    stands i h =
        let n = lowered k (f.place (suc i)) in
        ap (λ l. get_or l (f.place (suc i)) d) (split_at ys k d first)
        ∙ ap (λ m. get_or (take k ys ++ get_or ys k d ∷ drop (suc k) ys) m d) (sym (other i h) ∙ ap (λ m. lifted m n) (sym before))
        ∙ at_lifted (take k ys) (get_or ys k d) (drop (suc k) ys) d n

    others : Injection R d xs rest
    others =
        record {
          place = λ i. lowered k (f.place (suc i));
          within = λ i h. omega (arith, length-append (take k ys) (drop (suc k) ys), before, length-drop (suc k) ys, first, other i h, f.within (suc i) (omega arith));
          partner = λ i h. subst (R (get_or xs i d)) (stands i h) (f.partner (suc i) (omega arith));
          own = λ i j h l e. suc_inj (f.own (suc i) (suc j) (omega arith) (omega arith) (sym (other i h) ∙ ap (lifted k) e ∙ other j l));
        }

  partnered : (xs ys : List A) → Injection R d xs ys → Partnered R xs ys
  unfolding Partnered
  partnered [] ys f = tt
  partnered (x ∷ xs) ys f =
      (take (k x xs ys f) ys, get_or ys (k x xs ys f) d, drop (suc (k x xs ys f)) ys, split_at ys (k x xs ys f) d (first x xs ys f), f.partner 0 (omega arith), partnered xs (rest x xs ys f) (others x xs ys f))

pub partnered_exactly : PartneredExactly
partnered_exactly A R d xs ys = (injection R d xs ys, partnered R d xs ys)
