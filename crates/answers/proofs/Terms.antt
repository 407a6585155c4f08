-- A row's own terms, and the streams in order before which hits and gaps stand, are the terms of the rules, and within the analysis' limits. Assumes nothing.
use mathlib.Core.Path.{◌≡◌, refl, sym, ap, ap₂, ◌∙◌}
use mathlib.Core.Bool.{Bool, true, cond}
use mathlib.Core.List.{List, map}
use Prim.Native.Nat.{ℕ, max, ◌+◌, ◌-◌, ◌*◌, ◌^◌, ◌≤◌, ◌<◌}
use native.Mathlib.Nat.{zero-add}
use native.Mathlib.Omega.{arith}
use borrow.Author.Tests.{le-leb, lt-ltb, ltb-true, eq-eqb}
use lib.Dec.{ltb}
use lib.ListN.{length, get_or}
use Rattle.std.specs.Prelude.{Option, Some, None}
use Rattle.names.specs.Limits.{streams, sources, ticks}
use Rattle.laws.specs.Lists.{ceil, sum_to, largest_of, those, rows}
use Rattle.laws.specs.Ranks.{rank}
use Rattle.laws.proofs.Lists.{largest_those, largest_less, largest_all, rows_same, every_all, sum_rows, sum_to_same}
use Rattle.laws.proofs.Ranks.{rank_below, rank_less, rank_apart, rank_onto, sum_in_order, sum_front, sum_map_those, largest_le, largest_same, largest_part}
use Rattle.bound.specs.Terms as bound
use Rattle.bound.specs.Bound.{demand}
use Rattle.bound.specs.Evaluations.{searched}
use Rattle.bound.specs.Claims.{Sound}
use Rattle.bound.specs.declared.Searched.{Searched}
use Rattle.bound.proofs.Same.{instead, same_searched}
use Rattle.terms.specs.declared.Gathered.{Gathered}
use Rattle.terms.specs.Gathered.{Lent, lent, terms_of, share_at, cost, share_fits, source_fits, row_fits, fits}
use Rattle.analysis.specs.Answered.{answered}
use Rattle.plan.specs.declared.Timing.{Timing}
use Rattle.plan.specs.declared.Stream.{Stream}
use Rattle.plan.specs.Plan.{Plan}
use Rattle.plan.specs.Rules as rule
use Rattle.plan.proofs.Rules.{self, slotted, terms_sound}
use Rattle.costs.specs.declared.Overheads.{Overheads}
use Rattle.costs.specs.Costs.{Overhead}
use Rattle.carried.specs.Layout as layout
use Rattle.carried.specs.Carried.{entered_in, timing_in, plan_in}
use Rattle.answers.specs.private.Gather.{row_stream, urgency, largest_in, PlacesWithin, Ordered, InOrder, Before, RowOf, RowTerms}
use Rattle.answers.proofs.Gather.{largest_next, either_within, either_is}

-- ---- a cost, and a period and a jitter that are words
fits_here : {a b d x y : ℕ} → a ≤ cost → (b ≡ x) × (b < 2 ^ 32) → (d ≡ y) × (d < 2 ^ 32) → 1 ≤ x → share_fits (record { C'' = a; T = b; J = d }) ≡ true
fits_here {a} {b} {d} c t j s = simp (le-leb a cost c, le-leb 1 b (omega arith), le-leb b ticks (omega arith), le-leb d ticks (omega arith))

module _ (ws : List ℕ) (n m : ℕ) (over : Overheads) (fine : PlacesWithin ws n m) (overhead : Overhead (timing_in ws) over) where
  abbrev t : Timing
  t = timing_in ws

  abbrev p : Plan
  p = plan_in n m ws

  abbrev at : ℕ → ℕ
  at = rank (urgency ws) n

  cost_within : (k : ℕ) → k < n → rule.airtime t (row_stream ws k) ≤ cost
  cost_within k h =
      let w = fine.stream k h in
      let o = overhead in
      either_within t.p (omega (arith, o.lead_is, o.u_is, o.little, o.small, w.payload, w.acknowledgement)) (omega (arith, fine.timing.p))

  -- ---- the costs of all streams, in order
  module _ (costs : List ℕ) (c : Ordered (rule.airtime t) ws n m n costs) where
    -- each is a row's
    place_within : (a : ℕ) → a < n → get_or costs (m + a) 0 ≤ cost
    place_within a h =
        let (j, l, e) = rank_onto (urgency ws) n fine.apart a h in
        let same : get_or costs (m + a) 0 ≡ rule.airtime t (row_stream ws j) = ap (λ z. get_or costs (m + z) 0) (sym e) ∙ c.is j l in
        omega (arith, same, cost_within j l)

    pub costs_within : (k : ℕ) → m ≤ k → k < m + n → get_or costs k 0 ≤ cost
    costs_within k h l =
        let there : m + (k - m) ≡ k = omega arith in
        rw there at (place_within (k - m) (omega arith))

    -- the largest over some places is small, ..
    largest_within : (a b : ℕ) → m ≤ a → b ≤ m + n → largest_in costs a b ≤ cost
    largest_within a b h l = largest_le (λ x. x) (λ j. get_or costs (a + j) 0) (b - a) cost (λ j k. costs_within (a + j) (omega arith) (omega arith))

    -- .. and if these are the places of the streams that pass a test, the largest over those
    part_is : (a b : ℕ) → largest_in costs (m + a) (m + b) ≡ largest_of (λ x. x) (rows (b - a) (λ j. get_or costs (m + (a + j)) 0))
    part_is a b =
        let many : (m + b) - (m + a) ≡ b - a = omega arith in
        ap (λ z. largest_of (λ x. x) (rows z (λ j. get_or costs (m + a + j) 0))) many
        ∙ ap (largest_of (λ x. x)) (rows_same (b - a) _ _ (λ j h. ap (λ z. get_or costs z 0) (omega arith)))

    those_are : (s : ℕ → Bool) (u : Stream → Bool) (a b : ℕ) → ((j : ℕ) → j < n → s (at j) ≡ u (row_stream ws j)) → ((j : ℕ) → j < b - a → (a + j < n) × (s (a + j) ≡ true))
        → ((r : ℕ) → r < n → s r ≡ true → (a ≤ r) × (r < a + (b - a))) → largest_in costs (m + a) (m + b) ≡ largest_of (rule.airtime t) (those u (rows n (row_stream ws)))
    those_are s u a b e inside only =
        part_is a b
        ∙ largest_part at n (rank_below (urgency ws) n) (rank_apart (urgency ws) n fine.apart) (λ r. get_or costs (m + r) 0) s a (b - a) inside only
        ∙ largest_same _ (λ j. cond (u j) (rule.airtime t j) 0) (row_stream ws) n (λ j h. ap₂ (λ x v. cond x v 0) (e j h) (c.is j h))
        ∙ largest_those (rule.airtime t) u (rows n (row_stream ws))

  -- ---- row k
  module _ (k : ℕ) (among : k < n) where
    abbrev i : Stream
    i = row_stream ws k

    abbrev place : ℕ
    place = at k

    -- ---- without slots a cost is C'', and in slots P
    module _ (l : List Stream) where
      all_self : t.p ≡ 0 → largest_of (rule.airtime t) l ≡ largest_of (rule.C'' t) l
      all_self e = ap (λ (f : Stream → ℕ). largest_of f l) (λ z. λ j. self t.p (rule.C'' t j) t.p e z)

      all_slotted : 1 ≤ t.p → largest_of (rule.airtime t) l ≡ largest_of (λ (j : Stream). t.p) l
      all_slotted h = ap (λ (f : Stream → ℕ). largest_of f l) (λ z. λ j. slotted t.p (rule.C'' t j) t.p h z)

      less_one : largest_of (rule.C'' t) l - (over.lead + 1) ≡ largest_of (λ j. rule.C' t j - 1) l
      less_one =
          sym (largest_less (rule.C'' t) (over.lead + 1) l)
          ∙ ap (λ (f : Stream → ℕ). largest_of f l) (λ z. λ (j : Stream). the_same j z)
        where
          the_same : (j : Stream) → rule.C'' t j - (over.lead + 1) ≡ rule.C' t j - 1
          the_same j = omega (arith, overhead.lead_is)

    -- ---- its own terms
    module _ (costs : List ℕ) (c : Ordered (rule.airtime t) ws n m n costs) where
      own_is : get_or costs (m + place) 0 ≡ rule.airtime t i
      own_is = c.is k among

      here : place < n
      here = rank_below (urgency ws) n k among

      before_is : largest_in costs m (m + place) ≡ largest_of (rule.airtime t) (rule.hp p i)
      unfolding entered_in
      before_is =
          ap (λ a. largest_in costs a (m + place)) (omega arith)
          ∙ those_are costs c (λ r. ltb r place) (λ j. ltb j.priority.0 i.priority.0) 0 place (λ j h. rank_less (urgency ws) n j k h)
          (λ j h. (omega (arith, here), lt-ltb (0 + j) place (omega arith))) (λ r h e. let l = ltb-true r place e in (omega arith, omega arith))

      behind_is : largest_in costs (m + place + 1) (m + n) ≡ largest_of (rule.airtime t) (rule.lp p i)
      unfolding entered_in
      behind_is =
          ap (λ a. largest_in costs a (m + n)) (omega arith)
          ∙ those_are costs c (λ r. ltb place r) (λ j. ltb i.priority.0 j.priority.0) (place + 1) n (λ j h. rank_less (urgency ws) n k j among)
          (λ j h. (omega arith, lt-ltb place (place + 1 + j) (omega arith)))
          (λ r h e. let l = ltb-true place r e in (omega arith, omega arith))

      blocking_is : (b behind : ℕ) → b ≡ rule.self_or_slotted over.slot (behind - (over.lead + 1)) (over.slot - 1) → behind ≡ largest_in costs (m + place + 1) (m + n) → b ≡ rule.B p i
      unfolding rule.B entered_in
      blocking_is b behind e d =
          let same = rw overhead.slot_is at e in
          either_is t.p
          (λ z. same ∙ self t.p _ _ z ∙ ap (λ x. x - (over.lead + 1)) (d ∙ behind_is ∙ all_self (rule.lp p i) z) ∙ less_one (rule.lp p i))
          (λ h. same ∙ slotted t.p _ _ h)

      hit_is : (x : ℕ) → x ≡ largest_in costs m (m + place + 1) → x ≡ rule.hit p i
      unfolding rule.hit largest_of entered_in
      hit_is x e =
          let both : x ≡ max (largest_of (rule.airtime t) (rule.hp p i)) (rule.airtime t i) = e ∙ sym (largest_next costs m (m + place) (omega arith)) ∙ ap₂ max before_is own_is in
          either_is t.p
          (λ z. omega (arith, both, all_self (rule.hp p i) z, self t.p (rule.C'' t i) t.p z))
          (λ h. omega (arith, both, all_slotted (rule.hp p i) h, slotted t.p (rule.C'' t i) t.p h, largest_all t.p (rule.hp p i)))

      module _ (seat hit behind blocking period jitter last : ℕ) (seat-is : seat ≡ place)
          (eh : hit ≡ largest_in costs m (m + seat + 1)) (eb : behind ≡ largest_in costs (m + seat + 1) (m + n))
          (ek : blocking ≡ rule.self_or_slotted over.slot (behind - (over.lead + 1)) (over.slot - 1)) (et : (period ≡ i.period) × (period < 2 ^ 32))
          (ej : (jitter ≡ i.jitter) × (jitter < 2 ^ 32)) (el : last ≡ rule.C'' t i) where
        abbrev own : ℕ
        own = get_or costs (m + seat) 0

        abbrev row : Gathered
        row = record { blocking = blocking; cost = own; period = period; jitter = jitter; urgent = seat; sources = m; hit = hit; late = over.late; last = last }

        cost_is : own ≡ rule.airtime t i
        cost_is = ap (λ z. get_or costs (m + z) 0) seat-is ∙ own_is

        front : hit ≡ largest_in costs m (m + place + 1)
        front = eh ∙ ap (λ a. largest_in costs m (m + a + 1)) seat-is

        back : behind ≡ largest_in costs (m + place + 1) (m + n)
        back = eb ∙ ap (λ a. largest_in costs (m + a + 1) (m + n)) seat-is

        sound : Sound (rule.terms p i)
        unfolding entered_in
        sound = terms_sound p i (fine.stream k among) (fine.slots k among)

        row_fits_lem : row_fits row ≡ true
        unfolding row_fits rule.terms entered_in
        row_fits_lem =
            let slot : over.slot ≤ cost = omega (arith, overhead.slot_is, fine.timing.p) in
            let h : hit ≤ cost = omega (arith, front, largest_within costs c m (m + place + 1) (omega arith) (omega (arith, here))) in
            let l : behind ≤ cost = omega (arith, back, largest_within costs c (m + place + 1) (m + n) (omega arith) (omega arith)) in
            let b : blocking ≤ cost = rw ek (either_within over.slot (omega (arith, l)) (omega (arith, slot))) in
            simp (
              le-leb blocking cost b,
              le-leb hit cost h,
              lt-ltb over.late own (omega (arith, sound.late, cost_is, overhead.late_is)),
              le-leb 1 last (omega (arith, sound.ends, el)),
              le-leb last own (omega (arith, sound.last, el, cost_is)),
              le-leb seat streams (omega (arith, seat-is, here, fine.few)),
              le-leb m sources fine.quiet,
              fits_here {a = own} {b = period} {d = jitter} (omega (arith, cost_is, cost_within k among)) et ej (fine.stream k among).some_period,
            )

        pub row_of_lem : RowOf ws n m k row
        row_of_lem =
            record {
              fits = row_fits_lem;
              urgent = seat-is;
              sources = refl;
              blocking = blocking_is blocking behind ek back;
              cost = cost_is;
              period = et.0;
              jitter = ej.0;
              hit = hit_is hit front;
              late = overhead.late_is;
              last = el;
            }

    -- ---- with the streams in order beside them
    module _ (g : Gathered) (costs₀ costs periods jitters : List ℕ) (own : RowOf ws n m k g) (o : InOrder ws n m n costs periods jitters)
        (hits : Before (λ j. g.hit) m costs₀ costs) (gaps : (j : ℕ) → j < m → get_or periods j 0 ≡ get_or ws (layout.gap_at n j) 0) where
      abbrev given : Lent
      given = lent g costs periods jitters

      -- the share in the place of row j is the rules'
      share_in_place : (j : ℕ) → j < n → share_at given (at j) ≡ rule.share t (row_stream ws j)
      share_in_place j h =
          λ z.
          record {
            C'' = (ap (λ s. get_or costs (s + at j) 0) own.sources ∙ o.cost.is j h) z;
            T = (ap (λ s. get_or periods (s + at j) 0) own.sources ∙ o.period.is j h) z;
            J = (ap (λ z. get_or jitters z 0) (sym (zero-add (at j))) ∙ o.jitter.is j h) z;
          }

      -- what hp(i) asks for is what the front of them asks for, since a row's place is before that of i exactly if it is more urgent
      same_demand : (x : ℕ) → demand (terms_of given).urgent x ≡ demand (map (rule.share t) (rule.hp p i)) x
      unfolding demand entered_in
      same_demand x =
          let asks : bound.Share → ℕ = λ j. ceil (x + j.J) j.T * j.C'' in
          sum_rows asks g.urgent (share_at given)
          ∙ ap (sum_to (λ a. asks (share_at given a))) own.urgent
          ∙ sym (sum_front (λ a. asks (share_at given a)) place n (omega (arith, rank_below (urgency ws) n k among)))
          ∙ sym (sum_in_order at n (rank_below (urgency ws) n) (rank_apart (urgency ws) n fine.apart) (λ a. cond (ltb a place) (asks (share_at given a)) 0))
          ∙ sum_to_same _ _ n (λ j h. ap₂ (λ b v. cond b v 0) (rank_less (urgency ws) n j k h) (ap asks (share_in_place j h)))
          ∙ sym (sum_map_those asks (rule.share t) (λ j. ltb j.priority.0 i.priority.0) (row_stream ws) n)

      same_urgent : (x : ℕ) → demand (terms_of given).urgent x ≡ demand (rule.terms p i).urgent x
      unfolding rule.terms entered_in
      same_urgent x = same_demand x

      -- all else is the rules' as it stands
      terms_but : terms_of given ≡ instead (rule.terms p i) (terms_of given).urgent same_urgent
      unfolding rule.terms entered_in
      terms_but = λ z.
          record {
            B = own.blocking z;
            own = record { C'' = own.cost z; T = own.period z; J = own.jitter z };
            urgent = (terms_of given).urgent;
            gaps = (ap (λ s. rows s (λ j. get_or periods j 0)) own.sources ∙ rows_same m _ _ gaps) z;
            hit = own.hit z;
            late = own.late z;
            last = own.last z;
          }

      shares_fit_lem : (a : ℕ) → a < g.urgent → share_fits (share_at given a) ≡ true
      shares_fit_lem a h =
          let (j, l, e) = rank_onto (urgency ws) n fine.apart a (omega (arith, own.urgent, rank_below (urgency ws) n k among)) in
          let w = fine.stream j l in
          ap (λ a. share_fits (share_at given a)) (sym e) ∙ ap share_fits (share_in_place j l)
          ∙ fits_here {a = rule.airtime t (row_stream ws j)} {b = (row_stream ws j).period} {d = (row_stream ws j).jitter} (cost_within j l) (refl, omega (arith, w.period)) (refl, omega (arith, w.jitter)) w.some_period

      places : g.sources + g.urgent ≤ m + n
      places = omega (arith, own.sources, own.urgent, rank_below (urgency ws) n k among)

      terms_fit : fits given ≡ true
      unfolding fits
      terms_fit =
          simp (
            own.fits,
            le-leb (g.sources + g.urgent) (length costs) (omega (arith, places, o.cost.long)),
            le-leb (g.sources + g.urgent) (length periods) (omega (arith, places, o.period.long)),
            le-leb g.urgent (length jitters) (omega (arith, places, own.sources, o.jitter.long)),
            every_all (λ a. share_fits (share_at given a)) g.urgent shares_fit_lem,
            every_all (λ j. source_fits g.hit (get_or costs j 0) (get_or periods j 0)) g.sources
                (λ j h. let l : j < m = omega (arith, own.sources) in rw (hits.put j l, gaps j l) (simp (le-leb _ _ (fine.gap j l).some_gap, le-leb _ _ (fine.gap j l).gap, eq-eqb g.hit g.hit refl))),
          )

      pub row_terms : RowTerms ws n m k given
      row_terms =
          record {
            fits = terms_fit;
            same = λ D. ap (λ r. searched r D) terms_but ∙ same_searched (rule.terms p i) (terms_of given).urgent same_urgent D;
          }

-- ---- the analysis' answer to such terms is the rules' answer
pub answered_is : (t : Lent) (D : ℕ) → fits t ≡ true → answered t D ≡ Some (searched (terms_of t) D)
answered_is t D f = simp f

pub never_outside : (r : Option Searched) (a : Searched) → r ≡ None → r ≡ Some a → ⊥
never_outside r a p q = cc
