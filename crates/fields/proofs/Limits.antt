-- All fields are inside exactly if what is entered is within document 01's limits: field by field, list by list. Assumes nothing.
use mathlib.Core.Path.{◌≡◌}
use mathlib.Core.Bool.{true}
use mathlib.Core.List.{List, ◌∷◌, ◌++◌, map, flat_map}
use Prim.Native.Nat.{ℕ, ◌-◌, ◌^◌, ◌≤◌, ◌<◌, zero-le}
use native.Mathlib.Omega.{arith}
use lib.ListN.{get_or}
use lib.Pow.{pow_pos}
use Rattle.carried.specs.declared.Edition.{Edition, TheVariants.One, TheVariants.Two, TheVariants.Three}
use Rattle.carried.specs.Layout as layout
use Rattle.names.specs.Limits.{constant, slot, ticks}
use Rattle.carried.specs.declared.EnteredTiming.{EnteredTiming}
use Rattle.carried.specs.Carried.{with_ETG}
use Rattle.plan.specs.declared.Stream.{Stream}
use Rattle.plan.specs.Plan.{blank, TimingWithin, StreamWithin, GapWithin}
use Rattle.fields.specs.Fields.{Field, ◌from◌to◌, slot_most, SlotWithin, timing_fields, stream_fields, gap_field, fields, inside, field_at, AllInside, InsideIfFieldsWithin}
use Rattle.fields.proofs.All.{Shown, none, next, shown, all_front, all_back, all_both, flat_each, flat_all, map_each, map_all}
use Rattle.fields.proofs.Lowest.{within}
use Rattle.fields.proofs.Inside.{inside_if_within}

abbrev Inside : Field → Type 0
Inside f = inside f ≡ true

abbrev none_there : Field
none_there = 0 from 0 to 0

-- a field that is written out
within_next : {w a b : ℕ} {fs : List Field} → a ≤ w → w ≤ b → Shown Inside fs → Shown Inside (w from a to b ∷ fs)
within_next {w} {a} {b} h k s = next (within w a b h k) s

-- ---- P, which has the limits of its edition
slot_most_lem : (edition : Edition) (P : ℕ) → P ≤ slot_most edition → P ≤ slot
slot_most_lem One P h = omega arith
slot_most_lem Two P h = h
slot_most_lem Three P h = h

-- those of edition 3 are a plan's
pub slot_three : (P : ℕ) → P ≤ slot → SlotWithin Three P
slot_three P h = (zero-le, h)

-- ---- the three bodies
timing_to : (edition : Edition) (t : EnteredTiming) → AllInside (timing_fields edition t)
    → TimingWithin (with_ETG t.etg t) × (t.lag ≤ constant) × SlotWithin edition t.p
timing_to edition t a =
    let limits : (i : ℕ) → i < layout.timing_length → ((field_at (timing_fields edition t) i).least ≤ (field_at (timing_fields edition t) i).word) × ((field_at (timing_fields edition t) i).word ≤ (field_at (timing_fields edition t) i).most) = λ i h. (inside_if_within (field_at (timing_fields edition t) i)).0 (a i h) in
    let (low, high) = limits 9 (omega arith) in (
      record {
        f = (limits 0 (omega arith)).1;
        e = (limits 1 (omega arith)).1;
        tfcs = (limits 2 (omega arith)).1;
        swx = (limits 3 (omega arith)).1;
        h = (limits 4 (omega arith)).1;
        g = (limits 5 (omega arith)).1;
        etg = (limits 6 (omega arith)).1;
        some_bit = (limits 8 (omega arith)).0;
        nb = (limits 8 (omega arith)).1;
        p = slot_most_lem edition t.p high;
      },
      (limits 7 (omega arith)).1,
      (low, high),
    )

timing_back : (edition : Edition) (t : EnteredTiming) → SlotWithin edition t.p → TimingWithin (with_ETG t.etg t) → t.lag ≤ constant → AllInside (timing_fields edition t)
timing_back edition t (low, high) w lag =
    shown Inside none_there
    (within_next zero-le w.f
    (within_next zero-le w.e
    (within_next zero-le w.tfcs
    (within_next zero-le w.swx
    (within_next zero-le w.h (within_next zero-le w.g (within_next zero-le w.etg (within_next zero-le lag (within_next w.some_bit w.nb (within_next low high none))))))))))

stream_to : (nb : ℕ) (s : Stream) → AllInside (stream_fields nb s) → StreamWithin nb s × (s.label.0 ≤ ticks)
stream_to nb s a =
    let limits : (i : ℕ) → i < layout.stream_length → ((field_at (stream_fields nb s) i).least ≤ (field_at (stream_fields nb s) i).word) × ((field_at (stream_fields nb s) i).word ≤ (field_at (stream_fields nb s) i).most) = λ i h. (inside_if_within (field_at (stream_fields nb s) i)).0 (a i h) in (
      record {
        priority = omega (arith, (limits 1 (omega arith)).1, pow_pos nb);
        some_period = (limits 2 (omega arith)).0;
        period = (limits 2 (omega arith)).1;
        jitter = (limits 3 (omega arith)).1;
        some_payload = (limits 4 (omega arith)).0;
        payload = (limits 4 (omega arith)).1;
        some_deadline = (limits 5 (omega arith)).0;
        deadline = (limits 5 (omega arith)).1;
        acknowledgement = (limits 6 (omega arith)).1;
      },
      (limits 0 (omega arith)).1,
    )

stream_back : (nb : ℕ) (s : Stream) → StreamWithin nb s → s.label.0 ≤ ticks → AllInside (stream_fields nb s)
stream_back nb s w l =
    let p : s.priority.0 ≤ 2 ^ nb - 1 = omega (arith, w.priority) in
    shown Inside none_there
    (within_next zero-le l
    (within_next zero-le p
    (within_next w.some_period w.period
    (within_next zero-le w.jitter (within_next w.some_payload w.payload (within_next w.some_deadline w.deadline (within_next zero-le w.acknowledgement none)))))))

gap_to : (n : ℕ) → inside (gap_field n) ≡ true → GapWithin n
gap_to n e = let (a, b) = (inside_if_within (gap_field n)).0 e in record { some_gap = a; gap = b }

pub inside_if_fields_within : InsideIfFieldsWithin
unfolding fields
inside_if_fields_within edition v =
    let t = timing_fields edition v.timing in
    let s = flat_map (stream_fields v.timing.nb) v.streams in
    let g = map gap_field v.gaps in (
      λ a.
          let each = flat_each Inside none_there blank (stream_fields v.timing.nb) v.streams (all_front Inside none_there s g (all_back Inside none_there t (s ++ g) a)) in
          let (timing, lag, is) = timing_to edition v.timing (all_front Inside none_there t (s ++ g) a) in
          record {
            slot = is;
            timing = timing;
            lag = lag;
            stream = λ k h. (stream_to v.timing.nb (get_or v.streams k blank) (each k h)).0;
            label = λ k h. (stream_to v.timing.nb (get_or v.streams k blank) (each k h)).1;
            gap = λ k h. gap_to (get_or v.gaps k 0) (map_each Inside none_there 0 gap_field v.gaps (all_back Inside none_there s g (all_back Inside none_there t (s ++ g) a)) k h);
          },
      λ w.
          all_both Inside none_there t (s ++ g) (timing_back edition v.timing w.slot w.timing w.lag)
          (all_both Inside none_there s g
          (flat_all Inside none_there blank (stream_fields v.timing.nb) v.streams (λ k h. stream_back v.timing.nb (get_or v.streams k blank) (w.stream k h) (w.label k h)))
          (map_all Inside none_there 0 gap_field v.gaps (λ k h. within (get_or v.gaps k 0) 1 ticks (w.gap k h).some_gap (w.gap k h).gap))),
    )
