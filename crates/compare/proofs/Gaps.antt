-- The test of the gaps is exact: each gap of a list has its own partner in another, no longer than itself, exactly if at each gap of the first as
-- many of the second are at most that. A gap takes the longest partner that is no longer, the one that the others need least. Assumes nothing.
use mathlib.Core.Path.{◌≡◌, refl, sym, ap, ◌∙◌}
use mathlib.Core.Logic.{⊎_elim}
use mathlib.Core.List.{List, [], ◌∷◌, ◌++◌}
use Prim.Native.Nat.{ℕ, suc, ◌≤◌, ◌<◌}
use native.Mathlib.Nat.{le_refl, lt_of_not-le, eq-zero-or-pos}
use native.Mathlib.Decide.{dec_le}
use native.Mathlib.Omega.{arith}
use borrow.Author.Tests.{le-leb, lt-leb}
use lib.Dec.{leb}
use lib.ListN.{length, get_or, length-append}
use lib.Seq.{get_or-append_seam}
use Rattle.laws.specs.Lists.{those}
use Rattle.cover.specs.Cover.{Partnered}
use Rattle.std.specs.Prelude.{true, false, cond, ◌+◌, count_by}
use Rattle.std.proofs.lemmas.List.Recursion.{is_count_by}
use Rattle.compare.specs.Changes.{at_most}

pub by_order : {P : Type 0} (a b : ℕ) → (a ≤ b → P) → (b < a → P) → P
by_order a b f g = elim (dec_le a b) [ yes h ↦ f h | no h ↦ g (lt_of_not-le h) ]

-- ---- how many are at most z
count_in_lem : (z x : ℕ) (xs : List ℕ) → x ≤ z → at_most z (x ∷ xs) ≡ suc (at_most z xs)
unfolding those
count_in_lem z x xs h = rw (le-leb x z h) refl

count_out : (z x : ℕ) (xs : List ℕ) → z < x → at_most z (x ∷ xs) ≡ at_most z xs
unfolding those
count_out z x xs h = rw (lt-leb x z h) refl

-- .. as a chain counts them
one_more : (n : ℕ) → suc n ≡ 1 + n
one_more n = omega arith

pub at_most_counts : (x : ℕ) (xs : List ℕ) → at_most x xs ≡ count_by (λ n. leb n x) xs
unfolding those
at_most_counts x = is_count_by (at_most x) (λ n. leb n x) refl (λ n xs. elim (leb n x) as (λ b. length (cond b (n ∷ those (λ k. leb k x) xs) (those (λ k. leb k x) xs)) ≡ cond b (1 + at_most x xs) (at_most x xs)) [ true ↦ one_more (at_most x xs) | false ↦ refl ])

-- .. in another place
mid_in : (z : ℕ) (us : List ℕ) (y : ℕ) (vs : List ℕ) → y ≤ z → at_most z (us ++ y ∷ vs) ≡ suc (at_most z (us ++ vs))
mid_in z [] y vs h = count_in_lem z y vs h
mid_in z (u ∷ us) y vs h =
    by_order u z
    (λ l. count_in_lem z u (us ++ y ∷ vs) l ∙ ap suc (mid_in z us y vs h) ∙ sym (ap suc (count_in_lem z u (us ++ vs) l)))
    (λ l. count_out z u (us ++ y ∷ vs) l ∙ mid_in z us y vs h ∙ sym (ap suc (count_out z u (us ++ vs) l)))

mid_out : (z : ℕ) (us : List ℕ) (y : ℕ) (vs : List ℕ) → z < y → at_most z (us ++ y ∷ vs) ≡ at_most z (us ++ vs)
mid_out z [] y vs h = count_out z y vs h
mid_out z (u ∷ us) y vs h =
    by_order u z
    (λ l. count_in_lem z u (us ++ y ∷ vs) l ∙ ap suc (mid_out z us y vs h) ∙ sym (count_in_lem z u (us ++ vs) l))
    (λ l. count_out z u (us ++ y ∷ vs) l ∙ mid_out z us y vs h ∙ sym (count_out z u (us ++ vs) l))

count_mono : (w z : ℕ) (xs : List ℕ) → w ≤ z → at_most w xs ≤ at_most z xs
unfolding those
count_mono w z [] h = le_refl 0
count_mono w z (x ∷ xs) h =
    by_order x w
    (λ l. omega (arith, count_in_lem w x xs l, count_in_lem z x xs (omega arith), count_mono w z xs h))
    (λ l. by_order x z
    (λ m. omega (arith, count_out w x xs l, count_in_lem z x xs m, count_mono w z xs h))
    (λ m. omega (arith, count_out w x xs l, count_out z x xs m, count_mono w z xs h)))

-- ---- from partners to counts
pub counts_of_partners : (xs ys : List ℕ) → Partnered (λ gap partner. partner ≤ gap) xs ys → (z : ℕ) → at_most z xs ≤ at_most z ys
unfolding Partnered those
counts_of_partners [] ys p z = omega arith
counts_of_partners (x ∷ xs) ys (us, y, vs, e, r, p) z =
    let more = counts_of_partners xs (us ++ vs) p z in
    rw e
    (by_order x z
    (λ l. omega (arith, count_in_lem z x xs l, mid_in z us y vs (omega arith), more))
    (λ l. by_order y z
    (λ m. omega (arith, count_out z x xs l, mid_in z us y vs m, more))
    (λ m. omega (arith, count_out z x xs l, mid_out z us y vs m, more))))

-- ---- the longest of a list that is no longer than x
record Nearest (x : ℕ) (ys : List ℕ) : Type 0 where
  us : List ℕ
  y : ℕ
  vs : List ℕ
  place : ys ≡ us ++ y ∷ vs
  fits : y ≤ x
  -- none stands between it and x
  none : (z : ℕ) → y ≤ z → z ≤ x → at_most z ys ≡ at_most x ys

-- the first of the list is it, ..
here : (x a : ℕ) (ys : List ℕ) → a ≤ x → ((z : ℕ) → a ≤ z → z ≤ x → at_most z ys ≡ at_most x ys) → Nearest x (a ∷ ys)
here x a ys h f =
    record {
      us = [];
      y = a;
      vs = ys;
      place = refl;
      fits = h;
      none = λ z l m. count_in_lem z a ys l ∙ ap suc (f z l m) ∙ sym (count_in_lem x a ys h);
    }

-- .. or it stands in the rest
there : (x a : ℕ) (ys : List ℕ) (n : Nearest x ys) → ((z : ℕ) → n.y ≤ z → z ≤ x → at_most z (a ∷ ys) ≡ at_most x (a ∷ ys)) → Nearest x (a ∷ ys)
there x a ys n f =
    record { us = a ∷ n.us; y = n.y; vs = n.vs; place = ap (λ l. a ∷ l) n.place; fits = n.fits; none = f }

nearest : (x : ℕ) (ys : List ℕ) → 1 ≤ at_most x ys → Nearest x ys
unfolding those
nearest x [] h = absurd (omega arith)
nearest x (a ∷ ys) h = by_order a x (inside (nearest x ys)) (outside (nearest x ys))
  where
    inside : (1 ≤ at_most x ys → Nearest x ys) → a ≤ x → Nearest x (a ∷ ys)
    inside more l =
        ⊎_elim
        (λ (e : at_most x ys ≡ 0). here x a ys l (λ z g m. omega (arith, count_mono z x ys m)))
        (λ p.
        let n = more p in
        by_order a n.y
        (λ g. there x a ys n (λ z b c. count_in_lem z a ys (omega arith) ∙ ap suc (n.none z b c) ∙ sym (count_in_lem x a ys l)))
        (λ g. here x a ys l (λ z b c. n.none z (omega arith) c)))
        (eq-zero-or-pos (at_most x ys))

    outside : (1 ≤ at_most x ys → Nearest x ys) → x < a → Nearest x (a ∷ ys)
    outside more l =
        let n = more (omega (arith, count_out x a ys l)) in
        there x a ys n (λ z b c. count_out z a ys (omega arith) ∙ n.none z b c ∙ sym (count_out x a ys l))

-- ---- from counts to partners
-- with x and its longest partner taken out, the counts are still enough
rest : (x : ℕ) (xs ys : List ℕ) (n : Nearest x ys) → ((z : ℕ) → at_most z (x ∷ xs) ≤ at_most z ys) → (z : ℕ) → at_most z xs ≤ at_most z (n.us ++ n.vs)
rest x xs ys n g z =
    let e : at_most z ys ≡ at_most z (n.us ++ n.y ∷ n.vs) = ap (at_most z) n.place in
    by_order x z
    (λ l. omega (arith, e, g z, count_in_lem z x xs l, mid_in z n.us n.y n.vs (omega (arith, n.fits))))
    (λ l. by_order n.y z
    (λ m. omega (arith, e, g x, count_in_lem x x xs (le_refl x), n.none z m (omega arith), count_mono z x xs (omega arith), mid_in z n.us n.y n.vs m))
    (λ m. omega (arith, e, g z, count_out z x xs l, mid_out z n.us n.y n.vs m)))

partners_of_all : (xs ys : List ℕ) → ((z : ℕ) → at_most z xs ≤ at_most z ys) → Partnered (λ gap partner. partner ≤ gap) xs ys
unfolding Partnered
partners_of_all [] ys h = tt
partners_of_all (x ∷ xs) ys h =
    let n = nearest x ys (omega (arith, h x, count_in_lem x x xs (le_refl x))) in
    (n.us, n.y, n.vs, n.place, n.fits, partners_of_all xs (n.us ++ n.vs) (rest x xs ys n h))

-- counts that are enough at each of xs are enough everywhere: at z look at the longest of xs that is no longer
enough : (xs ys : List ℕ) → ((k : ℕ) → k < length xs → at_most (get_or xs k 0) xs ≤ at_most (get_or xs k 0) ys) → (z : ℕ) → at_most z xs ≤ at_most z ys
enough xs ys h z = ⊎_elim (λ (e : at_most z xs ≡ 0). omega arith) (λ p. at_nearest (nearest z xs p)) (eq-zero-or-pos (at_most z xs))
  where
    at_nearest : Nearest z xs → at_most z xs ≤ at_most z ys
    at_nearest n =
        let k : length n.us < length xs = omega (arith, ap length n.place, length-append n.us (n.y ∷ n.vs)) in
        let e : get_or xs (length n.us) 0 ≡ n.y = ap (λ l. get_or l (length n.us) 0) n.place ∙ get_or-append_seam n.us n.y n.vs 0 in
        let g : at_most n.y xs ≤ at_most n.y ys = rw e at (h (length n.us) k) in
        omega (arith, n.none n.y (le_refl _) n.fits, g, count_mono n.y z ys n.fits)

pub partners_of_counts : (xs ys : List ℕ) → ((k : ℕ) → k < length xs → at_most (get_or xs k 0) xs ≤ at_most (get_or xs k 0) ys)
    → Partnered (λ gap partner. partner ≤ gap) xs ys
partners_of_counts xs ys h = partners_of_all xs ys (enough xs ys h)
