-- Lines of streams, one more at a time, and what they tell of a sheet's streams. Other crates lay theirs by these laws. Assumes nothing.
use mathlib.Core.Path.{◌≡◌, refl, sym, ap, ◌∙◌}
use mathlib.Core.List.{List, [], ◌∷◌, ◌++◌, append_assoc, append-nil}
use Prim.Native.Nat.{ℕ, zero, suc, ◌+◌, ◌≤◌, ◌<◌, min}
use native.Mathlib.Nat.{add-zero, zero-add}
use native.Mathlib.Numerals.{add-one}
use native.Mathlib.Omega.{arith}
use lib.ListN.{length, get_or, take, drop, length-take}
use lib.Seq.{drop-cons}
use Rattle.laws.specs.Lists.{rows}
use Rattle.laws.proofs.Lists.{take_min, rows_at, length_rows}
use Rattle.plan.specs.declared.Stream.{Stream}
use Rattle.text.specs.Listing.{listed_rows, lines_from}

-- one line more
from_more : (line : Stream → ℕ → List ℕ) (k j : ℕ) (ss : List Stream) (d : Stream) → k < length ss
    → lines_from line j (take (suc k) ss) ≡ lines_from line j (take k ss) ++ line (get_or ss k d) (j + k)
unfolding lines_from
from_more line k j [] d h = absurd (omega arith)
from_more line zero j (s ∷ ss) d h = rw add-zero (append-nil (line s j))
from_more line (suc k) j (s ∷ ss) d h =
    let e : suc j + k ≡ j + suc k = omega arith in
    ap (λ t. line s j ++ t) (from_more line k (suc j) ss d (omega arith) ∙ ap (λ i. lines_from line (suc j) (take k ss) ++ line (get_or ss k d) i) e)
    ∙ sym (append_assoc (line s j) (lines_from line (suc j) (take k ss)) _)

pub lines_more : (line : Stream → ℕ → List ℕ) (k : ℕ) (ss : List Stream) (d : Stream) → k < length ss
    → lines_from line 0 (take k ss) ++ line (get_or ss k d) k ≡ lines_from line 0 (take (k + 1) ss)
lines_more line k ss d h = rw add-one (sym (from_more line k 0 ss d h ∙ ap (λ j. lines_from line 0 (take k ss) ++ line (get_or ss k d) j) (zero-add k)))

module _ {A : Type 0} (row : Stream → A → List ℕ) (f : ℕ → A) (n : ℕ) where
  -- what is told of row k is f k, of the first n rows
  told_from : (j : ℕ) (ss : List Stream) → j + length ss ≤ n → lines_from (λ s k. row s (f k)) j ss ≡ listed_rows row ss (drop j (rows n f))
  unfolding lines_from listed_rows
  told_from j [] h = refl
  told_from j (s ∷ ss) h =
      rw (drop-cons (rows n f) j (f j) (omega (arith, length_rows n f)), rows_at n f (f j) j (omega arith))
      (ap (λ t. row s (f j) ++ t) (told_from (suc j) ss (omega arith)))

  -- the lines of all streams that there are places for
  pub lines_told : (k : ℕ) (ss : List Stream) → k ≡ min n (length ss) → lines_from (λ s k. row s (f k)) 0 (take k ss) ≡ listed_rows row (take n ss) (rows n f)
  lines_told k ss e =
      ap (λ j. lines_from (λ s k. row s (f k)) 0 (take j ss)) e
      ∙ ap (lines_from (λ s k. row s (f k)) 0) (take_min n (length ss) ss (omega arith))
      ∙ told_from 0 (take n ss) (omega (arith, length-take n ss))
