-- What is entered is fine exactly if a right plan is meant: each line that is not given says its part of it. Assumes nothing.
use mathlib.Core.Path.{◌≡◌, refl, sym, ap, ◌∙◌}
use mathlib.Core.Bool.{false, ◌&&◌, and-false}
use mathlib.Core.List.{List, ◌++◌}
use Prim.Native.Nat.{ℕ, ◌+◌, ◌≤◌, ◌<◌, zero-le}
use native.Mathlib.Nat.{lt_of_not-le}
use native.Mathlib.Decide.{dec_le}
use native.Mathlib.Omega.{arith}
use borrow.Author.Tests.{eqb-true, leb-true, le-leb, lt-leb, le-ltb, ltb-false}
use lib.Dec.{leb, ltb, eqb}
use lib.ListN.{length}
use Rattle.std.specs.Prelude.{Option, Some, None, Ok, Err}
use Rattle.laws.proofs.Tests.{apart, both}
use Rattle.repeats.proofs.Repeats.{nothing_if_distinct}
use Rattle.laws.proofs.Rows.{finds_nothing}
use Rattle.plan.specs.declared.Timing.{Timing}
use Rattle.plan.specs.declared.Stream.{Stream}
use Rattle.plan.specs.Plan.{Plan, plan_of, at, TimingWithin}
use Rattle.plan.specs.Rules.{C'', exceeds_slot, FitsSlot}
use Rattle.names.specs.Limits.{constant}
use Rattle.carried.specs.declared.Edition.{Edition, TheVariants.Three}
use Rattle.carried.specs.declared.EnteredTiming.{EnteredTiming}
use Rattle.carried.specs.Layout as layout
use Rattle.carried.specs.Carried.{Entered, with_ETG, meant, plainly}
use Rattle.carried.proofs.Editions.{most_places}
use Rattle.carried.proofs.Plans.{meant_plainly}
use Rattle.fields.specs.Fields.{fields, SlotWithin}
use Rattle.fields.proofs.Inside.{nothing_if_inside}
use Rattle.fields.proofs.Limits.{inside_if_fields_within, slot_three}
use Rattle.judge.specs.Table.{Line, judge, unless_at, unless, row_in}
use Rattle.checks.specs.Checks.{in_range, counted, byte_in, lag_lines, priorities, labels, lines, checked_of, Right, FineIfRight, FineWithin}
use Rattle.judge.proofs.Table.{given, passed, nothing_given, not_given, unless_at_not, unless_not, row_not}
use Rattle.checks.proofs.Counts.{range_within, within_range, counted_so}

-- ---- a line that is not given
pub byte_not : (edition : Edition) (n : ℕ) (f : Option ℕ) → byte_in edition n f ≡ None → f ≡ None
byte_not edition n (Some k) e = absurd (apart e)
byte_not edition n None e = refl

-- 11 is given exactly where ETG + LAG is above 65,535, whatever lines come after it
module _ (t : EnteredTiming) (more : List Line) where
  pub lag_passed : t.etg + t.lag ≤ constant → judge (lag_lines t ++ more) ≡ judge more
  lag_passed h = passed _ _ (ap (unless_at _) (le-leb _ constant h))

  pub lag_given : constant < t.etg + t.lag → judge (lag_lines t ++ more) ≡ Err (record { number = 11; place = layout.byte_of layout.etg_at })
  lag_given h = given _ _ _ (ap (unless_at _) (lt-leb _ constant h))

  pub lag_fine : judge (lag_lines t ++ more) ≡ Ok tt → t.etg + t.lag ≤ constant
  lag_fine e = leb-true _ constant (unless_at_not _ _ (not_given _ _ e).0)

-- a timing that is within the limits is so with another constant for its ETG
pub another_etg : (t : EnteredTiming) {was is : ℕ} → TimingWithin (with_ETG was t) → is ≤ constant → TimingWithin (with_ETG is t)
another_etg t w h =
    record {
      f = w.f;
      e = w.e;
      tfcs = w.tfcs;
      swx = w.swx;
      h = w.h;
      g = w.g;
      etg = h;
      some_bit = w.some_bit;
      nb = w.nb;
      p = w.p;
    }

-- no stream exceeds its slot exactly if each fits it
not_exceeding : (t : Timing) (j : Stream) → exceeds_slot t j ≡ false → FitsSlot t j
not_exceeding t j e some = ltb-false t.p (C'' t j) (sym (ap (λ b. b && ltb t.p (C'' t j)) (le-leb 1 t.p some)) ∙ e)

fitting : (t : Timing) (j : Stream) → FitsSlot t j → exceeds_slot t j ≡ false
fitting t j fits =
    elim (dec_le 1 t.p) [
      | yes h ↦ ap (λ b. leb 1 t.p && b) (le-ltb t.p (C'' t j) (fits h)) ∙ and-false (leb 1 t.p)
      | no h ↦ ap (λ b. b && ltb t.p (C'' t j)) (lt-leb 1 t.p (lt_of_not-le h))
    ]

pub fine_if_right : FineIfRight
fine_if_right edition n m v = (right, fine)
  where
    p : Plan
    p = meant v

    right : judge (lines edition n m v) ≡ Ok tt → SlotWithin edition v.timing.p × (n ≤ layout.most_streams edition) × Right n m p
    right e =
        let (two, e₃) = not_given _ _ e in
        let (three, e₁₁) = not_given _ _ e₃ in
        let (eleven, e₄) = not_given _ _ e₁₁ in
        let (four, e₅) = not_given _ _ e₄ in
        let (five, e₁₀) = not_given _ _ e₅ in
        let (ten, e₆) = not_given _ _ e₁₀ in
        let (range-n, m-are) = both (in_range edition n m && eqb (length p.streams) n) (eqb (length p.gaps) m) (unless_not (counted edition n m v) two) in
        let (range, n-are) = both (in_range edition n m) (eqb (length p.streams) n) range-n in
        let (some, few, quiet) = range_within edition n m range in
        let w = (inside_if_fields_within edition v).0 ((nothing_if_inside 0 (fields edition v)).0 (byte_not edition (length p.streams) _ three)) in
        let n-is : length p.streams ≡ n = eqb-true _ _ n-are in
        let m-is : length p.gaps ≡ m = eqb-true _ _ m-are in
        let short = (finds_nothing (λ k. exceeds_slot p.timing (at p k)) 0 (length p.streams)).0 ten in (
          w.slot,
          few,
          record {
            within =
                record {
                  some_stream = omega (arith, some);
                  count = omega (arith, few, most_places edition);
                  sources = omega (arith, quiet);
                  timing = another_etg v.timing w.timing (lag_fine v.timing _ e₁₁);
                  stream = w.stream;
                  gap = w.gap;
                };
            count = n-is;
            sources = m-is;
            label = w.label;
            priorities = (nothing_if_distinct (priorities p.streams)).0 (row_not _ four);
            labels = (nothing_if_distinct (labels p.streams)).0 (row_not _ five);
            slots = λ k h. not_exceeding p.timing (at p k) (short k zero-le (omega arith));
          },
        )

    fine : SlotWithin edition v.timing.p × (n ≤ layout.most_streams edition) × Right n m p → judge (lines edition n m v) ≡ Ok tt
    fine (is, few, r) =
        let w = r.within in
        let range = within_range edition n m (omega (arith, w.some_stream, r.count)) few (omega (arith, w.sources, r.sources)) in
        let inside = (inside_if_fields_within edition v).1 (record { slot = is; timing = another_etg v.timing w.timing (omega (arith, w.timing.etg)); lag = omega (arith, w.timing.etg); stream = w.stream; label = r.label; gap = w.gap }) in
        passed _ _ (ap unless (counted_so edition n m v r.count r.sources ∙ range))
        ∙ passed _ _ (ap (byte_in edition (length p.streams)) ((nothing_if_inside 0 (fields edition v)).1 inside))
        ∙ lag_passed v.timing _ w.timing.etg
        ∙ passed _ _ (ap row_in ((nothing_if_distinct (priorities p.streams)).1 r.priorities))
        ∙ passed _ _ (ap row_in ((nothing_if_distinct (labels p.streams)).1 r.labels))
        ∙ passed _ _ ((finds_nothing (λ k. exceeds_slot p.timing (at p k)) 0 (length p.streams)).1 (λ k a h. fitting p.timing (at p k) (r.slots k (omega arith))))
        ∙ nothing_given

-- a right plan is meant by what is fine, in whatever edition
pub meant_is_right : (edition : Edition) (n m : ℕ) (v : Entered) → judge (lines edition n m v) ≡ Ok tt → Right n m (meant v)
meant_is_right edition n m v e = ((fine_if_right edition n m v).0 e).2

-- a right plan is fine when it is entered, and then only, ..
pub right_is_fine : (n m : ℕ) (p : Plan) → Right n m p → judge (lines Three n m (plainly p)) ≡ Ok tt
right_is_fine n m p r = (fine_if_right Three n m (plainly p)).1 (slot_three p.timing.p r.within.timing.p, omega (arith, r.within.count, r.count), rw (meant_plainly p) r)

pub fine_is_right : (n m : ℕ) (p : Plan) → judge (lines Three n m (plainly p)) ≡ Ok tt → Right n m p
fine_is_right n m p e = rw (meant_plainly p) at (meant_is_right Three n m (plainly p) e)

-- .. so what is meant by what is fine in a file of any edition is fine in one of edition 3
pub fine_when_meant : (edition : Edition) (n m : ℕ) (v : Entered) → judge (lines edition n m v) ≡ Ok tt → judge (lines Three n m (plainly (meant v))) ≡ Ok tt
fine_when_meant edition n m v e = right_is_fine n m (meant v) (meant_is_right edition n m v e)

-- a right plan has as many streams and gaps as it has
pub own_counts : (n m : ℕ) (p : Plan) → Right n m p → Right (length p.streams) (length p.gaps) p
own_counts n m p r =
    record { within = r.within; count = refl; sources = refl; label = r.label; priorities = r.priorities; labels = r.labels; slots = r.slots }

pub fine_within : FineWithin
unfolding checked_of
fine_within s e = let r = fine_is_right s.count s.sources (plan_of s) e in (r.within, r.count, r.sources)
