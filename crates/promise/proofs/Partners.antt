-- Partners by name: where each of a list has a namesake in another list and no two of it have one name, each has its own partner there. In this
-- order: all of a list; an element in its place; those that pass; names that differ; partners. Assumes nothing.
use mathlib.Core.Path.{◌≡◌, refl, sym, ap, ◌∙◌, subst}
use mathlib.Core.Bool.{Bool, true, false, cond}
use mathlib.Core.List.{List, [], ◌∷◌, ◌++◌, map, map-append}
use Prim.Native.Nat.{ℕ, suc, max, ◌≤◌, ◌<◌}
use native.Mathlib.Nat.{suc_inj, suc-ne-zero}
use native.Mathlib.Omega.{arith}
use lib.ListN.{length, get_or, take, drop, length-map, get_or-map}
use lib.Seq.{split_at}
use Rattle.laws.specs.Lists.{largest_of, those}
use Rattle.cover.specs.Cover.{Partnered}

-- ---- all of a list
abbrev pub All : {A : Type 0} → (A → Type 0) → List A → Type 0
All P [] = Unit {0}
All P (x ∷ xs) = P x × All P xs

pub all_index : {A : Type 0} (P : A → Type 0) (d : A) (l : List A) → ((k : ℕ) → k < length l → P (get_or l k d)) → All P l
all_index P d [] h = tt
all_index P d (x ∷ l) h = (h 0 (omega arith), all_index P d l (λ k g. h (suc k) (omega arith)))

all_map : {A : Type 0} (P R : A → Type 0) → ((x : A) → P x → R x) → (l : List A) → All P l → All R l
all_map P R f [] p = tt
all_map P R f (x ∷ l) p = (f x p.0, all_map P R f l p.1)

all_both : {A : Type 0} (P R : A → Type 0) (l : List A) → All P l → All R l → All (λ x. P x × R x) l
all_both P R [] p q = tt
all_both P R (x ∷ l) p q = ((p.0, q.0), all_both P R l p.1 q.1)

-- ---- an element in its place
abbrev pub Split : {A : Type 0} → List A → A → Type 0
Split {A} l y = (us : List A) × (vs : List A) × (l ≡ us ++ y ∷ vs)

pub split_index : {A : Type 0} (l : List A) (k : ℕ) (d : A) → k < length l → Split l (get_or l k d)
split_index l k d h = (take k l, drop (suc k) l, split_at l k d h)

-- with another element taken out it is still there
split_other : {A : Type 0} (us vs ps qs : List A) (y z : A) → us ++ y ∷ vs ≡ ps ++ z ∷ qs → (y ≡ z → ⊥) → Split (us ++ vs) z
split_other [] vs [] qs y z e f = absurd (f (cc))
split_other [] vs (p ∷ ps) qs y z e f = (ps, qs, cc)
split_other (u ∷ us) vs [] qs y z e f = let h : u ≡ z = cc in ([], us ++ vs, ap (λ x. x ∷ (us ++ vs)) h)
split_other (u ∷ us) vs (p ∷ ps) qs y z e f =
    let h : us ++ y ∷ vs ≡ ps ++ z ∷ qs = cc in
    let (a, b, g) = split_other us vs ps qs y z h f in
    (u ∷ a, b, ap (λ l. u ∷ l) g)

-- ---- those that pass
those_append : {A : Type 0} (t : A → Bool) (k l : List A) → those t (k ++ l) ≡ those t k ++ those t l
unfolding those
those_append t [] l = refl
those_append t (x ∷ k) l = go (t x) (those_append t k l)
  where
    go : (b : Bool) → those t (k ++ l) ≡ those t k ++ those t l → cond b (x ∷ those t (k ++ l)) (those t (k ++ l)) ≡ cond b (x ∷ those t k) (those t k) ++ those t l
    go true e = ap (λ m. x ∷ m) e
    go false e = e

pub those_split : {A : Type 0} (t : A → Bool) (l : List A) (y : A) → t y ≡ true → Split l y → Split (those t l) y
unfolding those
those_split t l y e (us, vs, d) =
    let here : those t (y ∷ vs) ≡ y ∷ those t vs = ap (λ b. cond b (y ∷ those t vs) (those t vs)) e in
    (those t us, those t vs, ap (those t) d ∙ those_append t us (y ∷ vs) ∙ ap (λ m. those t us ++ m) here)

pub all_those : {A : Type 0} (P : A → Type 0) (t : A → Bool) (l : List A) → All (λ x. t x ≡ true → P x) l → All P (those t l)
unfolding those
all_those P t [] p = tt
all_those P t (x ∷ l) p = go (t x) refl (all_those P t l p.1)
  where
    go : (b : Bool) → t x ≡ b → All P (those t l) → All P (cond b (x ∷ those t l) (those t l))
    go true e q = (p.0 e, q)
    go false e q = q

-- ---- names that differ
abbrev pub Apart : {A : Type 0} → (A → ℕ) → List A → Type 0
Apart f [] = Unit {0}
Apart f (x ∷ xs) = All (λ z. f z ≡ f x → ⊥) xs × Apart f xs

pub apart_those : {A : Type 0} (f : A → ℕ) (t : A → Bool) (l : List A) → Apart f l → Apart f (those t l)
unfolding those
apart_those f t [] p = tt
apart_those f t (x ∷ l) p = go (t x) (apart_those f t l p.1)
  where
    go : (b : Bool) → Apart f (those t l) → Apart f (cond b (x ∷ those t l) (those t l))
    go true q = (all_those (λ z. f z ≡ f x → ⊥) t l (all_map (λ z. f z ≡ f x → ⊥) (λ z. t z ≡ true → f z ≡ f x → ⊥) (λ z h e. h) l p.0), q)
    go false q = q

-- of numbers that are distinct row by row
pub apart_index : {A : Type 0} (f : A → ℕ) (d : A) → f d ≡ 0 → (l : List A)
    → ((i j : ℕ) → i < length (map f l) → j < length (map f l) → get_or (map f l) i 0 ≡ get_or (map f l) j 0 → i ≡ j) → Apart f l
apart_index f d z [] h = tt
apart_index f d z (x ∷ l) h = (
  all_index (λ z. f z ≡ f x → ⊥) d l (λ k g e. suc-ne-zero k (h (suc k) 0 (omega (arith, length-map l f)) (omega arith) (name k ∙ e))),
  apart_index f d z l (λ i j a b e. suc_inj (h (suc i) (suc j) (omega arith) (omega arith) e)),
)
  where
    name : (k : ℕ) → get_or (map f l) k 0 ≡ f (get_or l k d)
    name k = ap (get_or (map f l) k) (sym z) ∙ get_or-map f l k d

-- ---- partners
pub by_name : {A : Type 0} (R : A → A → Type 0) (f : A → ℕ) (xs ys : List A) → All (λ x. (y : A) × Split ys y × (f y ≡ f x) × R x y) xs → Apart f xs → Partnered R xs ys
unfolding Partnered
by_name R f [] ys p a = tt
by_name {A} R f (x ∷ xs) ys ((y, (us, vs, e), n, r), p) a =
    (us, y, vs, e, r, by_name R f xs (us ++ vs) (all_map _ _ rest xs (all_both _ _ xs p a.0)) a.1)
  where
    rest : (z : A) → ((q : A) × Split ys q × (f q ≡ f z) × R z q) × (f z ≡ f x → ⊥) → (q : A) × Split (us ++ vs) q × (f q ≡ f z) × R z q
    rest z ((q, (ps, qs, d), m, s), h) = (q, split_other us vs ps qs y q (sym e ∙ d) (λ g. h (sym m ∙ sym (ap f g) ∙ n)), m, s)

pub map_partners : {A B : Type 0} (R : A → A → Type 0) (S : B → B → Type 0) (f g : A → B) → ((x y : A) → R x y → S (f x) (g y))
    → (xs ys : List A) → Partnered R xs ys → Partnered S (map f xs) (map g ys)
unfolding Partnered
map_partners R S f g h [] ys p = tt
map_partners R S f g h (x ∷ xs) ys (us, y, vs, e, r, p) =
    (map g us, g y, map g vs, ap (map g) e ∙ map-append g us (y ∷ vs), h x y r, subst (Partnered S (map f xs)) (map-append g us vs) (map_partners R S f g h xs (us ++ vs) p))

largest_out : {A : Type 0} (g : A → ℕ) (us : List A) (y : A) (vs : List A) → largest_of g (us ++ y ∷ vs) ≡ max (g y) (largest_of g (us ++ vs))
unfolding largest_of
largest_out g [] y vs = refl
largest_out g (u ∷ us) y vs = omega (arith, largest_out g us y vs)

pub largest_partners : {A : Type 0} {R : A → A → Type 0} (f g : A → ℕ) → ((x y : A) → R x y → f x ≤ g y) → (xs ys : List A) → Partnered R xs ys → largest_of f xs ≤ largest_of g ys
unfolding largest_of Partnered
largest_partners f g h [] ys p = omega arith
largest_partners f g h (x ∷ xs) ys (us, y, vs, e, r, p) =
    rw e (omega (arith, h x y r, largest_partners f g h xs (us ++ vs) p, largest_out g us y vs))

-- what all of the other list have, the partners have
all_out : {A : Type 0} (P : A → Type 0) (us : List A) (y : A) (vs : List A) → All P (us ++ y ∷ vs) → P y × All P (us ++ vs)
all_out P [] y vs a = a
all_out P (u ∷ us) y vs a = let (p, q) = all_out P us y vs a.1 in (p, (a.0, q))

pub partners_have : {A : Type 0} (R S : A → A → Type 0) (P : A → Type 0) → ((x y : A) → R x y → P y → S x y) → (xs ys : List A) → All P ys → Partnered R xs ys → Partnered S xs ys
unfolding Partnered
partners_have R S P f [] ys a p = tt
partners_have R S P f (x ∷ xs) ys a (us, y, vs, e, r, p) =
    let (h, b) = all_out P us y vs (subst (All P) e a) in
    (us, y, vs, e, f x y r h, partners_have R S P f xs (us ++ vs) b p)
