-- A stream whose fields are within the limits, and which fits its slot where there are slots, has sound terms and a bound of ten digits at
-- most. Assumes nothing.
use mathlib.Core.Path.{◌≡◌, refl}
use Prim.Native.Nat.{ℕ, ◌+◌, ◌≤◌, ◌<◌}
use native.Mathlib.Nat.{lt_of_not-le}
use native.Mathlib.Decide.{dec_le}
use native.Mathlib.Omega.{arith}
use borrow.Author.Tests.{eq-eqb, ne_eqb}
use Rattle.names.specs.Limits.{ticks}
use Rattle.std.specs.Prelude.{Option, Some, None}
use Rattle.bound.specs.Bound.{busy, answer_for, answer}
use Rattle.bound.proofs.Sides.{busy_is_least}
use Rattle.bound.proofs.Largest.{bound_within, worst_within}
use Rattle.plan.specs.Rules.{self_or_slotted, «V», B, hit, terms}
use Rattle.plan.specs.Claims.{LettersAre, TermsSound, RowWithin}

-- ---- without a master node, and with one
pub self : (P x y : ℕ) → P ≡ 0 → self_or_slotted P x y ≡ x
unfolding self_or_slotted
self P x y e = rw (eq-eqb P 0 e) refl

pub slotted : (P x y : ℕ) → 1 ≤ P → self_or_slotted P x y ≡ y
unfolding self_or_slotted
slotted P x y h = rw (ne_eqb P 0 (λ e. omega arith)) refl

pub letters_are : LettersAre
unfolding B hit terms
letters_are p i =
    let t = p.timing in (
      λ e.
          record {
            whole = λ j. omega (arith, self t.p («V» t) t.h e);
            each = λ j. self t.p _ _ e;
            joins = self t.p _ _ e;
            blocked = self t.p _ _ e;
            by_hit = self t.p _ _ e;
          },
      λ h.
          record {
            whole = λ j. omega (arith, slotted t.p («V» t) t.h h);
            each = λ j. slotted t.p _ _ h;
            joins = slotted t.p _ _ h;
            blocked = slotted t.p _ _ h;
            by_hit = slotted t.p _ _ h;
            at_end = omega (arith, slotted t.p («V» t) t.h h);
          },
    )

pub terms_sound : TermsSound
unfolding terms
terms_sound p i s fits =
    elim (dec_le 1 p.timing.p) [
      | yes h ↦
          let l = (letters_are p i).1 h in
          record {
            period = s.some_period;
            late = omega (arith, l.joins, l.each i, h);
            ends = omega (arith, l.whole i, s.some_payload);
            last = omega (arith, l.each i, fits h);
          }
      | no h ↦
          let l = (letters_are p i).0 (omega (arith, lt_of_not-le h)) in
          record {
            period = s.some_period;
            late = omega (arith, l.joins, l.each i, l.whole i, s.some_payload);
            ends = omega (arith, l.whole i, s.some_payload);
            last = omega (arith, l.each i);
          }
    ]

pub row_within : RowWithin
unfolding answer terms
row_within p i s fits = go (busy (terms p i)) refl
  where
    go : (f : Option ℕ) → busy (terms p i) ≡ f
        → ((answer_for (terms p i) i.deadline f).bound ≤ ticks + ticks) × ((answer_for (terms p i) i.deadline f).instance < ticks)
    go (Some L) e =
        let sound = terms_sound p i s fits in
        let small = ((busy_is_least (terms p i) L).0 e).0 in
        (omega (arith, bound_within (terms p i) sound L e, small, s.jitter), omega (arith, worst_within (terms p i) sound L e, small))
    go None e = (omega arith, omega arith)
