-- What the lowest field outside its limits means, by induction on the fields. Assumes nothing.
use mathlib.Core.Path.{◌≡◌, refl, sym, ap, ◌∙◌, subst}
use mathlib.Core.Bool.{Bool, true, false, true≢false}
use mathlib.Core.List.{List, [], ◌∷◌}
use Prim.Native.Nat.{ℕ, zero, suc, ◌+◌, ◌≤◌, ◌<◌}
use native.Mathlib.Nat.{lt_of_not-le}
use native.Mathlib.Decide.{dec_le}
use native.Mathlib.Omega.{arith}
use borrow.Author.Tests.{leb-true}
use lib.Dec.{leb}
use lib.ListN.{length}
use Rattle.std.specs.Prelude.{Option, Some, None}
use Rattle.laws.proofs.Tests.{both}
use Rattle.fields.specs.Fields.{Field, inside, lowest, field_at, LowestOutside, AllInside, LowestExactly, NothingIfInside, InsideIfWithin}
use Rattle.fields.proofs.Lowest.{within}

pub inside_if_within : InsideIfWithin
inside_if_within f = (
  λ e. let (a, b) = both (leb f.least f.word) (leb f.word f.most) e in (leb-true _ _ a, leb-true _ _ b),
  λ h. within f.word f.least f.most h.0 h.1,
)

-- what an answer says
abbrev Said : ℕ → List Field → Option ℕ → Type 0
Said k fs (Some p) = LowestOutside k fs p
Said k fs None = AllInside fs

-- one field more, in front
more : (k : ℕ) (f : Field) (fs : List Field) (b : Bool) → inside f ≡ b → (r : Option ℕ) → Said (k + 1) fs r → Said k (f ∷ fs) (elim b [ true ↦ r | false ↦ Some k ])
more k f fs true e (Some p) s =
    record {
      i = suc s.i;
      among = omega (arith, s.among);
      counted = omega (arith, s.counted);
      outside = s.outside;
      before = λ j h. before j h;
    }
  where
    before : (j : ℕ) → j < suc s.i → inside (field_at (f ∷ fs) j) ≡ true
    before zero h = e
    before (suc j) h = s.before j (omega arith)
more k f fs true e None s = all
  where
    all : (i : ℕ) → i < length (f ∷ fs) → inside (field_at (f ∷ fs) i) ≡ true
    all zero h = e
    all (suc i) h = s i (omega arith)
more k f fs false e r s = record { i = 0; among = omega arith; counted = omega arith; outside = e; before = λ j h. absurd (omega arith) }

said : (k : ℕ) (fs : List Field) → Said k fs (lowest k fs)
unfolding lowest
said k [] = λ i h. absurd (omega arith)
said k (f ∷ fs) = more k f fs (inside f) refl (lowest (k + 1) fs) (said (k + 1) fs)

-- no two answers say the same
not_below : (fs : List Field) (i j : ℕ) → inside (field_at fs j) ≡ false → (j < i → inside (field_at fs j) ≡ true) → i ≤ j
not_below fs i j e f = elim (dec_le i j) [ yes h ↦ h | no h ↦ absurd (true≢false (sym (f (lt_of_not-le h)) ∙ e)) ]

one : (k : ℕ) (fs : List Field) (r s : Option ℕ) → Said k fs r → Said k fs s → r ≡ s
one k fs (Some p) (Some q) a b =
    let x = not_below fs a.i b.i b.outside (a.before b.i) in
    let y = not_below fs b.i a.i a.outside (b.before a.i) in
    ap Some (omega (arith, a.counted, b.counted))
one k fs (Some p) None a b = absurd (true≢false (sym (b a.i a.among) ∙ a.outside))
one k fs None (Some q) a b = absurd (true≢false (sym (a b.i b.among) ∙ b.outside))
one k fs None None a b = refl

pub at_the_lowest : LowestExactly
at_the_lowest k fs p = (λ e. subst (Said k fs) e (said k fs), λ h. one k fs _ (Some p) (said k fs) h)

pub nothing_if_inside : NothingIfInside
nothing_if_inside k fs = (λ e. subst (Said k fs) e (said k fs), λ h. one k fs _ None (said k fs) h)
