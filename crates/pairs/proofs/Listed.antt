-- Each line brings the place further on, so counting to the text's length reaches its last line. Assumes nothing.
use mathlib.Core.Path.{◌≡◌, refl, sym, ap, ◌∙◌}
use mathlib.Core.List.{List, [], ◌∷◌}
use Prim.Native.Nat.{ℕ, zero, suc, ◌+◌, ◌≤◌, ◌<◌}
use native.Mathlib.Omega.{arith}
use lib.ListN.{length}
use Rattle.std.specs.Prelude.{Some, None}
use Rattle.pairs.specs.declared.Line.{Line}
use Rattle.pairs.specs.Pairs.{Named, Over, line_as, line_of, next_line}
use Rattle.pairs.specs.Lines.{both_in, line_and_more, lines_up_to, lines_from}
use Rattle.pairs.proofs.Laws.{over, inside}
use Rattle.pairs.proofs.Meaning.{next_of, not_yet_over}

module _ (text : List ℕ) (at : ℕ) where
  starts : (line : Line) → line_of text at ≡ Some line → at < length text
  starts line e = not_yet_over text at (λ o. let z : ◌≡◌ {A = ℕ} 0 1 = let d : ◌≡◌ {A = Named} (Some line) Over = sym e ∙ o in cc in omega arith)

  further : (line : Line) → line_of text at ≡ Some line → at < line.next
  unfolding line_as
  further line e =
      let n : line.next ≡ next_line text at = ap next_of (sym e ∙ inside text at (starts line e)) in
      let h : at < length text = starts line e in
      omega (arith, n)

  none_left : (m : ℕ) → line_of text at ≡ Over → lines_up_to m text at ≡ []
  unfolding lines_up_to
  none_left zero e = refl
  none_left (suc m) e = ap (line_and_more (lines_up_to m text) text) e

-- however many there may be, if it is enough
enough : (k m : ℕ) (text : List ℕ) (at : ℕ) → length text ≤ at + k → length text ≤ at + m → lines_up_to k text at ≡ lines_up_to m text at
unfolding lines_up_to
enough zero m text at h g = sym (none_left text at m (over text at (omega arith)))
enough (suc k) zero text at h g = none_left text at (suc k) (over text at (omega arith))
enough (suc k) (suc m) text at h g = go (line_of text at) refl (λ next f. enough k m text next (omega arith) (omega arith))
  where
    go : (n : Named) → line_of text at ≡ n → ((next : ℕ) → at < next → lines_up_to k text next ≡ lines_up_to m text next) → line_and_more (lines_up_to k text) text n ≡ line_and_more (lines_up_to m text) text n
    go (Some line) e more = ap (λ l. both_in text line.names ∷ l) (more line.next (further text at line e))
    go None e more = refl

pub no_more : (text : List ℕ) (at : ℕ) → line_of text at ≡ Over → lines_from text at ≡ []
no_more text at e = none_left text at (length text) e

pub one_more : (text : List ℕ) (at : ℕ) (line : Line) → line_of text at ≡ Some line → lines_from text at ≡ both_in text line.names ∷ lines_from text line.next
unfolding lines_up_to
one_more text at line e =
    let f : at < line.next = further text at line e in
    enough (length text) (suc (length text)) text at (omega arith) (omega arith)
    ∙ ap (line_and_more (lines_up_to (length text) text) text) e

-- so with each line there are fewer
pub fewer : (text : List ℕ) (at : ℕ) (line : Line) → line_of text at ≡ Some line → length (lines_from text line.next) < length (lines_from text at)
fewer text at line e = omega (arith, ap length (one_more text at line e))

-- there are no more lines than are counted to
pub no_more_than : (k : ℕ) (text : List ℕ) (at : ℕ) → length (lines_up_to k text at) ≤ k
unfolding lines_up_to
no_more_than zero text at = omega arith
no_more_than (suc k) text at = go (line_of text at) (λ next. no_more_than k text next)
  where
    go : (n : Named) → ((next : ℕ) → length (lines_up_to k text next) ≤ k) → length (line_and_more (lines_up_to k text) text n) ≤ suc k
    go (Some line) more = omega (arith, more line.next)
    go None more = omega arith
