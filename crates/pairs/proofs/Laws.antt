-- Laws of a text up to a byte, and of the parts of a line. Assumes nothing.
use mathlib.Core.Path.{◌≡◌, refl, sym, ap, ◌∙◌}
use mathlib.Core.Bool.{Bool, true, false, cond, not, ◌&&◌, and-false}
use mathlib.Core.List.{List, [], ◌∷◌, ◌++◌}
use Prim.Native.Nat.{ℕ, suc, ◌+◌, ◌≤◌, ◌<◌}
use native.Mathlib.Omega.{arith}
use borrow.Author.Tests.{ltb-false, lt-ltb, le-ltb}
use lib.Dec.{eqb, ltb}
use lib.ListN.{length, take, drop, length-drop}
use lib.Seq.{length-take-le, take-add, drop_at, drop-drop}
use Rattle.ascii.specs.Ascii.{space, newline}
use Rattle.std.specs.Prelude.{Some, None}
use Rattle.std.specs.List.{position, position_or_len}
use Rattle.std.specs.Option.{unwrap_or}
use Rattle.std.proofs.lemmas.List.Recursion.{is_position_or_len}
use Rattle.pairs.specs.Pairs.{Over, names_as, before, free, line_from, next_line, first_name, second_name, line_as, line_of}

pub length_rest : (n : ℕ) (text : List ℕ) → n ≤ length text → n + length (drop n text) ≡ length text
length_rest n text h = omega (arith, length-drop n text)

-- ---- a text up to a byte
pub before_short : (c : ℕ) (xs : List ℕ) → length (before c xs) ≤ length xs
unfolding before
before_short c [] = omega arith
before_short c (x ∷ xs) = go (eqb x c) (before_short c xs)
  where
    go : (b : Bool) → length (before c xs) ≤ length xs → length (cond b [] (x ∷ before c xs)) ≤ suc (length xs)
    go true h = omega arith
    go false h = omega arith

-- the text up to a byte is the text's start
pub before_start : (c : ℕ) (xs : List ℕ) → take (length (before c xs)) xs ≡ before c xs
unfolding before
before_start c [] = refl
before_start c (x ∷ xs) = go (eqb x c) (before_start c xs)
  where
    go : (b : Bool) → take (length (before c xs)) xs ≡ before c xs
        → take (length (cond b [] (x ∷ before c xs))) (x ∷ xs) ≡ cond b [] (x ∷ before c xs)
    go true e = refl
    go false e = ap (λ l. x ∷ l) e

-- the text up to a byte is as long as the place where the byte stands first
pub before_long : (c : ℕ) (xs : List ℕ) → length (before c xs) ≡ position_or_len (λ x. eqb x c) xs
unfolding before
before_long c xs = is_position_or_len (λ l. length (before c l)) (λ x. eqb x c) refl more xs
  where
    more : (x : ℕ) (l : List ℕ) → length (before c (x ∷ l)) ≡ cond (eqb x c) 0 (1 + length (before c l))
    more x l = go (eqb x c)
      where
        go : (b : Bool) → length (cond b [] (x ∷ before c l)) ≡ cond b 0 (1 + length (before c l))
        go true = refl
        go false = omega arith

-- .. or the text's end, where it has none
pub before_end : (c : ℕ) (xs : List ℕ) → unwrap_or (position (λ x. eqb x c) xs) (length xs) ≡ length (before c xs)
before_end c xs = go (ltb (position_or_len (λ x. eqb x c) xs) (length xs)) refl (before_long c xs) (before_short c xs)
  where
    go : (b : Bool) → ltb (position_or_len (λ x. eqb x c) xs) (length xs) ≡ b → length (before c xs) ≡ position_or_len (λ x. eqb x c) xs → length (before c xs) ≤ length xs
        → unwrap_or (cond b (Some (position_or_len (λ x. eqb x c) xs)) None) (length xs) ≡ length (before c xs)
    go true t e h = sym e
    go false t e h = omega (arith, ltb-false _ _ t)

-- a text up to a byte is all of it exactly if it has no such byte
pub all_free : (c : ℕ) (xs : List ℕ) → length xs ≤ length (before c xs) → free c xs ≡ true
unfolding before free
all_free c [] h = refl
all_free c (x ∷ xs) h = go (eqb x c) h (all_free c xs)
  where
    go : (b : Bool) → suc (length xs) ≤ length (cond b [] (x ∷ before c xs)) → (length xs ≤ length (before c xs) → free c xs ≡ true) → not b && free c xs ≡ true
    go true h more = absurd (omega arith)
    go false h more = more (omega arith)

pub not_free : (c : ℕ) (xs : List ℕ) → length (before c xs) < length xs → free c xs ≡ false
unfolding before free
not_free c [] h = absurd (omega arith)
not_free c (x ∷ xs) h = go (eqb x c) h (not_free c xs)
  where
    go : (b : Bool) → length (cond b [] (x ∷ before c xs)) < suc (length xs) → (length (before c xs) < length xs → free c xs ≡ false) → not b && free c xs ≡ false
    go true h more = refl
    go false h more = more (omega arith)

-- ---- a line, case by case
module _ (l : List ℕ) (at : ℕ) where
  abbrev k : ℕ
  k = length (first_name l)

  pub no_first : k ≡ 0 → names_as l at ≡ None
  unfolding names_as
  no_first h = simp (le-ltb 0 k (omega arith))

  pub no_second : length l ≤ k + 1 → names_as l at ≡ None
  unfolding names_as
  no_second h = simp (le-ltb 0 (length (second_name l)) (omega (arith, length-drop (k + 1) l)), and-false)

  pub other_space : length (before space (second_name l)) < length (second_name l) → names_as l at ≡ None
  unfolding names_as
  other_space h = simp (not_free space (second_name l) h, and-false)

  pub two_names_lem : (s e : ℕ) → s ≡ at + k → e ≡ at + length l → 0 < k → k + 1 < length l → length (second_name l) ≤ length (before space (second_name l))
      → Some (record { from = at; to = s }, record { from = s + 1; to = e }) ≡ names_as l at
  unfolding names_as
  two_names_lem s e p q f g h =
      let r : e ≡ at + k + 1 + length (second_name l) = omega (arith, length-drop (k + 1) l) in
      let t : s + 1 ≡ at + k + 1 = omega arith in
      (λ i. Some (record { from = at; to = p i }, record { from = t i; to = r i }))
      ∙ sym (simp (lt-ltb 0 k f, lt-ltb 0 (length (second_name l)) (omega (arith, length-drop (k + 1) l)), all_free space (second_name l) h))

-- what stands after the first space of a line that starts at a place
pub after_space : (text : List ℕ) (at s : ℕ) → s ≡ at + length (first_name (drop at text)) → drop (s + 1) text ≡ second_name (drop at text)
after_space text at s e =
    let k = length (first_name (drop at text)) in
    let d : s + 1 ≡ at + (k + 1) = omega arith in
    ap (λ n. drop n text) d ∙ sym (drop-drop (k + 1) at text)

-- ---- the line at a place of a text
module _ (text : List ℕ) (at : ℕ) where
  pub over : length text ≤ at → line_of text at ≡ Over
  unfolding line_of
  over h = simp (le-ltb at (length text) h)

  module _ (h : at < length text) where
    pub inside : line_of text at ≡ line_as (line_from text at) at (next_line text at)
    unfolding line_of
    inside = simp (lt-ltb at (length text) h)

    -- the line up to its end, where the newline or the text's end is
    pub line_there : (end : ℕ) → end ≡ at + length (line_from text at) → Some (record { names = names_as (drop at (take end text)) at; next = next_line text at }) ≡ line_of text at
    unfolding line_as
    line_there end e =
        let l = line_from text at in
        let cut : take end text ≡ take at text ++ l = ap (λ n. take n text) e ∙ take-add at (length l) text ∙ ap (λ m. take at text ++ m) (before_start newline (drop at text)) in
        let line : drop at (take end text) ≡ l = ap (drop at) cut ∙ drop_at (take at text) l at (length-take-le at text (omega arith)) in
        ap (λ m. Some (record { names = names_as m at; next = next_line text at })) line ∙ sym inside
