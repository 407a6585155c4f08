-- The laws of a text that goes on byte by byte: whether it has a word, and how many line ends stand after the last; and where the
-- first tournament's text ends. Assumes nothing.
use mathlib.Core.Path.{◌≡◌, refl, sym, ap, ◌∙◌}
use mathlib.Core.Bool.{Bool, true, false, not, cond, ◌||◌, true≢false}
use mathlib.Core.List.{List, [], ◌∷◌, ◌++◌}
use Prim.Native.Nat.{ℕ, zero, suc, ◌+◌, ◌≤◌, ◌<◌}
use native.Mathlib.Numerals.{add-one}
use native.Mathlib.Omega.{arith}
use native.Mathlib.Decide.{dec_le}
use native.Mathlib.Nat.{lt_of_not-le}
use borrow.Author.Tests.{le-ltb, lt-ltb, le-leb, lt-leb}
use lib.Dec.{eqb, ltb}
use lib.ListN.{length, get_or, take}
use lib.Seq.{take-suc}
use Rattle.std.specs.Prelude.{Option, Some, None}
use Rattle.laws.specs.Search.{first}
use Rattle.laws.proofs.Rows.{finds_lowest}
use Rattle.replay_words.specs.Handwritten.{separates}
use Rattle.replay_words.specs.Parts.{has_word, ends_with, ends_after, over, or_all, first_end}
use Rattle.replay_words.specs.Claims.{EndWithin, EndGoesOn}

or_assoc : (a b c : Bool) → a || (b || c) ≡ a || b || c
or_assoc true b c = refl
or_assoc false b c = refl

pub or_false : (a : Bool) → a ≡ a || false
or_false true = refl
or_false false = refl

pub or_true : (a : Bool) → true ≡ a || true
or_true true = refl
or_true false = refl

has_snoc : (text : List ℕ) (b : ℕ) → has_word (text ++ (b ∷ [])) ≡ has_word text || not (separates b)
has_snoc [] b = sym (or_false (not (separates b)))
has_snoc (c ∷ text) b = ap (λ h. not (separates c) || h) (has_snoc text b) ∙ or_assoc (not (separates c)) (has_word text) (not (separates b))

ends_snoc : (n : ℕ) (text : List ℕ) (b : ℕ) → ends_after n (text ++ (b ∷ [])) ≡ ends_with (ends_after n text) b
unfolding ends_after
ends_snoc n [] b = refl
ends_snoc n (c ∷ text) b = ends_snoc (ends_with n c) text b

-- one byte more of a text
module _ (text : List ℕ) (i : ℕ) (h : i < length text) where
  taken : take (i + 1) text ≡ take i text ++ (get_or text i 0 ∷ [])
  taken = rw (add-one i) (take-suc text i 0 h)

  pub has_more : has_word (take i text) || not (separates (get_or text i 0)) ≡ has_word (take (i + 1) text)
  has_more = sym (ap has_word taken ∙ has_snoc (take i text) (get_or text i 0))

  pub ends_more : ends_with (ends_after 0 (take i text)) (get_or text i 0) ≡ ends_after 0 (take (i + 1) text)
  ends_more = sym (ap (ends_after 0) taken ∙ ends_snoc 0 (take i text) (get_or text i 0))

-- a byte that is above the space parts no words
pub above : (b : ℕ) → ltb 32 b ≡ not (separates b)
above b =
    elim (dec_le b 32) [
      | yes h ↦ rw (le-ltb 32 b h, le-leb b 32 h) refl
      | no h ↦ rw (lt-ltb 32 b (lt_of_not-le h), lt-leb b 32 (lt_of_not-le h)) refl
    ]

-- a byte more adds one line end at most
pub ends_few : (n b i : ℕ) → n ≤ i → ends_with n b ≤ i + 1
ends_few n b i h = by_tests (separates b) (eqb b 10)
  where
    by_tests : (p q : Bool) → cond p (cond q (n + 1) n) 0 ≤ i + 1
    by_tests true true = omega arith
    by_tests true false = omega arith
    by_tests false q = omega arith

-- ---- where the first tournament's text ends
pub end_within : EndWithin
unfolding first_end
end_within text = by_found (first (λ end. over (take end text)) 0 (length text)) refl
  where
    by_found : (f : Option ℕ) → first (λ end. over (take end text)) 0 (length text) ≡ f → or_all f (length text) ≤ length text
    by_found (Some end) e = omega (arith, ((finds_lowest (λ end. over (take end text)) 0 (length text) end).0 e).below)
    by_found None e = omega arith

-- before the first byte nothing is over
not_at_once : (text : List ℕ) (end : ℕ) → over (take end text) ≡ true → 1 ≤ end
unfolding over
not_at_once text zero e = absurd (true≢false (sym e))
not_at_once text (suc end) e = omega arith

some_bytes : (text : List ℕ) → has_word text ≡ true → 1 ≤ length text
some_bytes [] e = absurd (true≢false (sym e))
some_bytes (b ∷ text) e = omega arith

pub end_goes_on : EndGoesOn
unfolding first_end
end_goes_on text h = by_found (first (λ end. over (take end text)) 0 (length text)) refl
  where
    by_found : (f : Option ℕ) → first (λ end. over (take end text)) 0 (length text) ≡ f → 1 ≤ or_all f (length text)
    by_found (Some end) e = not_at_once text end ((finds_lowest (λ end. over (take end text)) 0 (length text) end).0 e).passes
    by_found None e = some_bytes text h
