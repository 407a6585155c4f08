-- Places that are filled from what is lent, lent bytes that are written over, and contenders' bytes that are marked out, one a turn.
-- Assumes nothing.
use mathlib.Core.Path.{◌≡◌, refl, sym, ap, ap₂, ◌∙◌}
use mathlib.Core.Bool.{Bool, true, false, ◌&&◌, not, cond}
use mathlib.Core.List.{List, [], ◌++◌, map, append-nil}
use Prim.Native.Nat.{ℕ, zero, suc, ◌+◌, ◌-◌, min, ◌≤◌, ◌<◌}
use borrow.Author.Tests.{lt-ltb, le-ltb, ltb-true, eqb-true}
use lib.Dec.{eqb, ltb}
use native.Mathlib.Nat.{lt_of_not-le}
use native.Mathlib.Decide.{dec_le}
use native.Mathlib.Omega.{arith, min_cases}
use lib.ListN.{length, take, drop, get_or, set, length-map, length-take, drop_of_length-le, get_or-map, get_or-append, get_or-eq_default}
use lib.Seq.{take-length, drop-cons, drop-length, get_or_at, get_or-take}
use Rattle.names.specs.Limits.{contenders}
use Rattle.laws.specs.Lists.{rows, placed}
use Rattle.laws.proofs.Lists.{take_min, rows_same, rows_map, rows_take, rows_front, length_rows}
use Rattle.tournament_state.proofs.Places.{lay_over, lay_kept}
use Rattle.laws.proofs.Placed.{placed_to, placed_more, placed_all}
use Rattle.states.specs.States.{byte, marks_into, mark, marks_from, goes_out, marked_out}

-- places filled with f of what is lent, one more, and at the end
module _ {A : Type 0} (f : ℕ → A) (xs : List ℕ) where
  pub filled_more : (k : ℕ) (ys : List A) → k < contenders → k < length xs → ys ≡ placed_to contenders (f 0) (map f xs) k
      → set ys k (f (get_or xs k 0)) ≡ placed_to contenders (f 0) (map f xs) (k + 1)
  filled_more k ys h l e = ap (set ys k) (sym (get_or-map f xs k 0)) ∙ placed_more contenders (f 0) (map f xs) k ys h (omega (arith, length-map xs f)) e

  pub filled_all : (k : ℕ) → k ≡ min (length xs) contenders → placed_to contenders (f 0) (map f xs) k ≡ placed contenders (f 0) (map f xs)
  filled_all k e = ap (placed_to contenders (f 0) (map f xs)) (e ∙ ap (λ n. min n contenders) (sym (length-map xs f))) ∙ placed_all contenders (f 0) (map f xs)

rows_at : (f : ℕ → ℕ) (n i : ℕ) → i < n → get_or (rows n f) i 0 ≡ f i
rows_at f n i h = ap (λ l. get_or l i 0) (sym (append-nil (rows n f))) ∙ rows_front f [] 0 n i h

-- rows that are laid over the first of a list, one more, and at the end, if from there on they are the list's own
module _ (f : ℕ → ℕ) (l : List ℕ) where
  abbrev pub laid_to : ℕ → List ℕ
  laid_to k = rows k f ++ drop k l

  pub laid_none : l ≡ laid_to 0
  unfolding rows
  laid_none = refl

  pub laid_more : (k b : ℕ) (out : List ℕ) → k < length l → out ≡ laid_to k → b ≡ f k → set out k b ≡ laid_to (k + 1)
  laid_more k b out h e v = rw (e, v) (lay_over f l 0 k h)

  pub laid_at : (k : ℕ) (out : List ℕ) → k < length l → out ≡ laid_to k → get_or out k 0 ≡ get_or l k 0
  laid_at k out h e = rw (e, drop-cons l k 0 h) (get_or_at (rows k f) _ _ 0 k (length_rows k f))

  pub laid_all : (d k : ℕ) → k + d ≡ length l → ((i : ℕ) → k ≤ i → i < length l → f i ≡ get_or l i 0) → laid_to k ≡ rows (length l) f
  laid_all zero k e h =
      let n : k ≡ length l = omega arith in
      rw (n, drop-length) (append-nil _)
  laid_all (suc d) k e h =
      let n : k < length l = omega arith in
      lay_kept f l 0 k n (h k (omega arith) n) ∙ laid_all d (k + 1) (omega arith) (λ i g j. h i (omega arith) j)

-- the marks as bytes, all laid
pub written_all : (marks : List Bool) (found : List ℕ) (k : ℕ) → length marks ≡ contenders → k ≡ min (length found) contenders
    → laid_to (λ i. byte (get_or marks i false)) found k ≡ marks_into marks found
unfolding marks_into
written_all marks found k h e =
    ap₂ ◌++◌
    (sym (rows_map byte k (λ i. get_or marks i false)) ∙ ap (map byte) (rows_take marks false k (omega arith) ∙ ap (λ n. take n marks) e ∙ take_min (length found) contenders marks (omega arith)))
    (ap (λ n. drop n found) e ∙ rest)
  where
    rest : drop (min (length found) contenders) found ≡ drop contenders found
    rest =
        min_cases (length found) contenders (drop (min (length found) contenders) found ≡ drop contenders found)
        (λ h e. rw (e, drop-length) (sym (drop_of_length-le found h)))
        (λ h e. rw e refl)

-- a byte that stays, and one that does not
abbrev kept : Bool → ℕ → ℕ
kept m b = cond m b 0

kept_is : (m : Bool) (b : ℕ) → kept m b ≡ cond (mark b && not m) 0 b
kept_is true b = go (mark b)
  where
    go : (t : Bool) → b ≡ cond (t && false) 0 b
    go true = refl
    go false = refl
kept_is false b = go (eqb b 0) refl
  where
    go : (t : Bool) → eqb b 0 ≡ t → 0 ≡ cond (not t && true) 0 b
    go true e = sym (eqb-true b 0 e)
    go false e = refl

-- the contenders' bytes, one more marked out or kept, and at the end
module _ (n : ℕ) (marks : List Bool) (found : List ℕ) where
  abbrev pub after : ℕ → ℕ
  after i = cond (ltb i (min n contenders) && goes_out marks found i) 0 (get_or found i 0)

  pub out_more : (k b : ℕ) (out : List ℕ) → k < min n contenders → k < length found → out ≡ laid_to after found k → b ≡ kept (get_or marks k false) (get_or out k 0)
      → set out k b ≡ laid_to after found (k + 1)
  out_more k b out h l e v =
      laid_more after found k b out l e
      (v ∙ ap (kept (get_or marks k false)) (laid_at after found k out l e) ∙ kept_is (get_or marks k false) (get_or found k 0)
      ∙ ap (λ t. cond (t && goes_out marks found k) 0 (get_or found k 0)) (sym (lt-ltb k (min n contenders) h)))

  pub out_all : (k : ℕ) → k ≡ min (min n contenders) (length found) → laid_to after found k ≡ marked_out n marks found
  unfolding marked_out
  out_all k e =
      laid_all after found (length found - k) k (omega arith)
      (λ i g l. ap (λ t. cond (t && goes_out marks found i) 0 (get_or found i 0)) (le-ltb i (min n contenders) (omega arith)))

  -- no byte after the contenders' is changed
  pub unused : (i : ℕ) → n ≤ i → get_or (marked_out n marks found) i 0 ≡ get_or found i 0
  unfolding marked_out
  unused i h =
      elim (dec_le (length found) i) [
        | yes g ↦ get_or-eq_default (rows (length found) after) 0 (rw length_rows g) ∙ sym (get_or-eq_default found 0 g)
        | no g ↦
            rows_at after (length found) i (lt_of_not-le g)
            ∙ ap (λ t. cond (t && goes_out marks found i) 0 (get_or found i 0)) (le-ltb i (min n contenders) (omega arith))
      ]

-- the mark of a byte among the 128 places
mark_at : (bs : List ℕ) (i : ℕ) → i < contenders → i < length bs → get_or (marks_from bs) i false ≡ mark (get_or bs i 0)
unfolding placed
mark_at bs i h l =
    get_or-append (take contenders (map mark bs)) _ false i (rw (length-take, length-map) (omega arith))
    ∙ get_or-take contenders (map mark bs) i false h
    ∙ get_or-map mark bs i 0

-- marks as they are lent mark nobody out
pub unchanged : (n : ℕ) (bs : List ℕ) → marked_out n (marks_from bs) bs ≡ bs
unfolding marked_out
unchanged n bs = rows_same (length bs) _ (λ i. get_or bs i 0) same ∙ rows_take bs 0 (length bs) (omega arith) ∙ take-length bs
  where
    no : (t : Bool) (b : ℕ) → cond (t && not t) 0 b ≡ b
    no true b = refl
    no false b = refl

    same : (i : ℕ) → i < length bs → after n (marks_from bs) bs i ≡ get_or bs i 0
    same i l = go (ltb i (min n contenders)) refl
      where
        go : (t : Bool) → ltb i (min n contenders) ≡ t → cond (t && goes_out (marks_from bs) bs i) 0 (get_or bs i 0) ≡ get_or bs i 0
        go true e =
            ap (λ m. cond (mark (get_or bs i 0) && not m) 0 (get_or bs i 0)) (mark_at bs i (omega (arith, ltb-true i (min n contenders) e)) l)
            ∙ no (mark (get_or bs i 0)) (get_or bs i 0)
        go false e = refl
