-- The rows of a line, one place more at a time. Assumes nothing.
use mathlib.Core.Path.{◌≡◌, refl, sym, ap, ◌∙◌}
use mathlib.Core.Bool.{Bool, true, false, cond, ◌||◌}
use mathlib.Core.List.{List, [], ◌∷◌, ◌++◌, append_assoc, append-nil}
use Prim.Native.Nat.{ℕ, ◌+◌}
use lib.ListN.{get_or}
use Rattle.laws.specs.Lists.{rows, those}
use Rattle.laws.proofs.Lists.{rows_more, those_yes, those_no}
use Rattle.decimal.specs.Decimal.{digits}
use Rattle.ascii.specs.Ascii.{ascii}
use Rattle.replay_screen.specs.Shown.{spaced, rows_text}

-- the marked rows among the first k places
abbrev pub marked_to : List Bool → ℕ → List ℕ
marked_to marks k = those (λ i. get_or marks i false) (rows k (λ i. i))

abbrev pub row_text : Bool → ℕ → List ℕ
row_text mark i = cond mark (ascii " " ++ digits i) []

-- whether there are some
unfoldable pub some? : List ℕ → Bool
some? [] = false
some? (r ∷ rs) = true

spaced_append : (l m : List ℕ) → spaced (l ++ m) ≡ spaced l ++ spaced m
unfolding spaced
spaced_append [] m = refl
spaced_append (r ∷ l) m = ap (λ t. ascii " " ++ digits r ++ t) (spaced_append l m) ∙ sym (append_assoc (ascii " " ++ digits r) (spaced l) (spaced m))

some_append : (l : List ℕ) (r : ℕ) → some? (l ++ (r ∷ [])) ≡ true
unfolding some?
some_append [] r = refl
some_append (x ∷ l) r = refl

or_false : (a : Bool) → a ≡ a || false
or_false true = refl
or_false false = refl

or_true : (a : Bool) → true ≡ a || true
or_true true = refl
or_true false = refl

-- one place more
module _ (marks : List Bool) (k : ℕ) where
  to_yes : get_or marks k false ≡ true → marked_to marks (k + 1) ≡ marked_to marks k ++ (k ∷ [])
  to_yes e = rw (rows_more (λ i. i) k) (those_yes (λ i. get_or marks i false) (rows k (λ i. i)) k e)

  to_no : get_or marks k false ≡ false → marked_to marks (k + 1) ≡ marked_to marks k
  to_no e = rw (rows_more (λ i. i) k) (those_no (λ i. get_or marks i false) (rows k (λ i. i)) k e)

  pub spaced_more : (b : Bool) → get_or marks k false ≡ b → spaced (marked_to marks k) ++ row_text b k ≡ spaced (marked_to marks (k + 1))
  unfolding spaced
  spaced_more true e = sym (ap spaced (to_yes e) ∙ spaced_append (marked_to marks k) (k ∷ []) ∙ ap (λ t. spaced (marked_to marks k) ++ t) (append-nil (ascii " " ++ digits k)))
  spaced_more false e = append-nil (spaced (marked_to marks k)) ∙ sym (ap spaced (to_no e))

  pub some_more : (b : Bool) → get_or marks k false ≡ b → some? (marked_to marks k) || b ≡ some? (marked_to marks (k + 1))
  some_more true e = sym (or_true (some? (marked_to marks k))) ∙ sym (ap some? (to_yes e) ∙ some_append (marked_to marks k) k)
  some_more false e = sym (or_false (some? (marked_to marks k))) ∙ sym (ap some? (to_no e))

-- all rows, or that there are none
pub all_rows : (l : List ℕ) → spaced l ++ cond (some? l) [] (ascii " none") ≡ rows_text l
unfolding spaced rows_text some?
all_rows [] = refl
all_rows (r ∷ l) = append-nil (spaced (r ∷ l))
