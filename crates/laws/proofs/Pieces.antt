-- Laws of lists that are read element by element, and of lists of pieces of one length. Assumes nothing.
use mathlib.Core.Path.{◌≡◌, refl, sym, ap, ◌∙◌}
use mathlib.Core.List.{List, [], ◌∷◌, ◌++◌, map, flat_map, append_assoc, map-append}
use Prim.Native.Nat.{ℕ, zero, suc, ◌+◌, ◌*◌, ◌≤◌, ◌<◌}
use native.Mathlib.Nat.{zero-add, mul-zero, mul-suc}
use native.Mathlib.Omega.{arith}
use lib.ListN.{length, get_or, take, drop, length-drop, length-append, get_or-append}
use lib.Seq.{get_or-drop, get_or-append-add}
use Rattle.laws.specs.Lists.{rows}
use Rattle.laws.proofs.Lists.{rows_same, rows_take}

-- ---- element by element: n of them from index a on
pub rows_part : {A : Type 0} (a n : ℕ) (l : List A) (d : A) → a + n ≤ length l → rows n (λ i. get_or l (a + i) d) ≡ take n (drop a l)
rows_part a n l d h =
    rows_same n _ _ (λ k p. sym (get_or-drop a l k d)) ∙ rows_take (drop a l) d n (omega (arith, length-drop a l))

-- ---- pieces
pub flat_append : {A B : Type 0} (f : A → List B) (k l : List A) → flat_map f (k ++ l) ≡ flat_map f k ++ flat_map f l
unfolding flat_map
flat_append f [] l = refl
flat_append f (x ∷ k) l = rw (flat_append f k l) (sym (append_assoc (f x) (flat_map f k) (flat_map f l)))

pub map_flat : {A B C : Type 0} (g : B → C) (f : A → List B) (l : List A) → map g (flat_map f l) ≡ flat_map (λ x. map g (f x)) l
unfolding flat_map
map_flat g f [] = refl
map_flat g f (x ∷ l) = map-append g (f x) (flat_map f l) ∙ ap (λ r. map g (f x) ++ r) (map_flat g f l)

-- pieces that all have c elements
module _ {A B : Type 0} (c : ℕ) (f : A → List B) (each : (x : A) → length (f x) ≡ c) where
  pub length_flat : (l : List A) → length (flat_map f l) ≡ c * length l
  unfolding flat_map
  length_flat [] = sym (mul-zero c)
  length_flat (x ∷ l) = omega (arith, length-append (f x) (flat_map f l), each x, length_flat l, mul-suc c (length l))

  -- element j of piece r
  pub in_piece : (l : List A) (r j : ℕ) (a : A) (d : B) → r < length l → j < c → get_or (flat_map f l) (c * r + j) d ≡ get_or (f (get_or l r a)) j d
  unfolding flat_map
  in_piece [] r j a d h k = absurd (omega arith)
  in_piece (x ∷ l) zero j a d h k =
      rw (mul-zero c, zero-add j) (get_or-append (f x) (flat_map f l) d j (rw (each x) k))
  in_piece (x ∷ l) (suc r) j a d h k =
      let e : c * suc r + j ≡ length (f x) + (c * r + j) = omega (arith, mul-suc c r, each x) in
      rw e (get_or-append-add (f x) (flat_map f l) (c * r + j) d ∙ in_piece l r j a d (omega arith) k)
