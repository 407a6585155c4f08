use mathlib.Core.Path.{◌≡◌, refl, sym, ap, ap₂, ◌∙◌}
use mathlib.Core.Bool.{false}
use mathlib.Core.List.{List, []}
use Prim.Native.Nat.{ℕ, ◌+◌, ◌≤◌, ◌<◌, min}
use native.Mathlib.Omega.{arith}
use borrow.Author.Tests.{le-leb, lt-leb}
use lib.Dec.{ltb}
use lib.ListN.{get_or}
use Rattle.laws.specs.Search.{first}
use Rattle.laws.proofs.Lists.{rows_at, length_rows}
use Rattle.laws.proofs.Rows.{none_yet, none_more, found_at, found_none, finds_nothing}
use Rattle.judge.proofs.Table.{given, passed, nothing_given}
use Rattle.plan.specs.declared.Timing.{Timing}
use Rattle.plan.specs.declared.Stream.{Stream}
use Rattle.plan.specs.Plan.{blank, TimingWithin}
use Rattle.plan.specs.Rules.{C''}
use Rattle.costs.specs.declared.Overheads.{Overheads}
use Rattle.costs.specs.Costs.{Overhead, overheads_of}
use Rattle.costs.proofs.Costs.{overhead_within}
use Rattle.carried.specs.Layout as layout
use Rattle.carried.specs.Carried.{entered_timing_in, timing_in, stream_in, streams_in, records_in}
use Rattle.carried.proofs.Pieces.{length_records, record_word}
use Rattle.names.specs.Limits.{streams}
use Rattle.carried.proofs.Plans.{timing_held}
use Rattle.checks.proofs.check_slots.Invariants.{long, Beside}
use Rattle.checks.proofs.check_slots.Goals as goal
use Rattle.checks.proofs.check_slots.Goals.{After-overheads_of-c}

beside_is : (ws : List ℕ) (slot beside : ℕ) (o : Overheads) → slot ≡ (timing_in ws).p → (slot ≡ 0 → ⊥) → TimingWithin (timing_in ws) → o ≡ overheads_of (timing_in ws)
    → beside ≡ o.lead + o.u → Beside ws slot beside
beside_is ws slot beside o p some w e d =
    let f : Overhead (timing_in ws) o = rw e (overhead_within (timing_in ws) w) in
    record {
      p = p;
      some = omega (arith, some);
      sum = λ j. omega (arith, d, f.lead_is, f.u_is);
      small = omega (arith, d, f.little, f.small);
    }

module _ (ws : List ℕ) (n k slot beside : ℕ) {m : ℕ} {records : List (List ℕ)} (same : m ≡ n) (f : records ≡ records_in m ws) (h : k < n) (b : Beside ws slot beside) where
  abbrev row : Stream
  row = get_or (streams_in n ws) k blank

  some_slot : 1 ≤ (timing_in ws).p
  some_slot = omega (arith, b.p, b.some)

  abbrev word : ℕ → ℕ
  word j = get_or (get_or records k []) j 0

  word_is : (j : ℕ) → j < layout.stream_length → get_or ws (layout.stream_at k + j) 0 ≡ word j
  word_is j l = sym (ap (λ rs. get_or (get_or rs k []) j 0) f ∙ record_word m ws k (omega arith) j l)

  -- the payload and the acknowledgement are the stream's
  is_sum : C'' (timing_in ws) row ≡ beside + word 4 + word 6
  is_sum =
      ap (C'' (timing_in ws)) (rows_at n (λ r. stream_in ws (layout.stream_at r)) blank k h)
      ∙ b.sum (stream_in ws (layout.stream_at k))
      ∙ ap₂ (λ x y. beside + x + y) (word_is 4 (omega arith)) (word_is 6 (omega arith))

  long_is : long ws n k ≡ ltb slot (beside + word 4 + word 6)
  long_is = simp (le-leb 1 (timing_in ws).p some_slot) (ap₂ ltb (sym b.p) is_sum)

-- with no master node no row exceeds anything
none_at_all : (ws : List ℕ) (n k : ℕ) → (timing_in ws).p ≡ 0 → long ws n k ≡ false
none_at_all ws n k e = simp (lt-leb 1 (timing_in ws).p (omega (arith, e)))

-- P and what comes to each C + K, once they are worked out
worked_out : (c : After-overheads_of-c) → let t = c.before.before in
    Beside t.args.words.now t.timing_in-timing.result.p (c.overheads_of-c.result.lead + c.overheads_of-c.result.u)
worked_out c =
    let e = c.timing_in-timing.ensures ∙ timing_held (entered_timing_in c.args.words.now) c.requires.timing_within in
    beside_is c.args.words.now _ _ c.overheads_of-c.result (ap (λ (x : Timing). x.p) e) c.if-none.false c.requires.timing_within
    (c.overheads_of-c.ensures ∙ ap overheads_of e)
    refl

pub returns-then-none : goal.returns-then-none
returns-then-none c =
    let a = c.args in
    let idle : (timing_in a.words.now).p ≡ 0 = ap (λ (t : Timing). t.p) (sym c.timing_in-timing.ensures) ∙ c.if-none.true in
    sym (passed _ _ ((finds_nothing (long a.words.now a.n) 0 _).1 (λ k x y. none_at_all a.words.now a.n k idle)) ∙ nothing_given)

pub loop-r-init : goal.loop-r-init
loop-r-init c =
    let at = goal.at.loop-r-init c in
    (omega arith, worked_out at.After-overheads_of-c, none_yet _)

pub too_long-requires : goal.too_long-requires
too_long-requires c = c.loop-r.invariant.1.small

pub returns-then-too_long : goal.returns-then-too_long
returns-then-too_long c =
    let a = c.args in
    let ws = a.words.now in
    let among : c.loop-r.r < a.n = omega (arith, length_records c.args.n c.args.words.now c.records-record-items.ensures, c.requires.n_le_streams, c.loop-r-test.true) in
    let least : min a.n streams ≡ a.n = omega (arith, c.requires.n_le_streams) in
    c.refused.ensures
    ∙ sym (given _ _ _
    (ap (first (long ws a.n) 0) (length_rows a.n _)
    ∙ found_at (long ws a.n) a.n c.loop-r.r c.loop-r.invariant.2 among
    (long_is ws a.n c.loop-r.r _ _ least c.records-record-items.ensures among c.loop-r.invariant.1 ∙ sym c.too_long.ensures ∙ c.if-too_long.true)))

pub loop-r-preserved : goal.loop-r-preserved
loop-r-preserved c =
    let a = c.args in
    let among : c.loop-r.r < a.n = omega (arith, length_records c.args.n c.args.words.now c.records-record-items.ensures, c.requires.n_le_streams, c.loop-r-test.true) in
    let least : min a.n streams ≡ a.n = omega (arith, c.requires.n_le_streams) in (
      omega (arith, among),
      c.loop-r.invariant.1,
      none_more _ c.loop-r.r c.loop-r.invariant.2 (long_is a.words.now a.n c.loop-r.r _ _ least c.records-record-items.ensures among c.loop-r.invariant.1 ∙ sym c.too_long.ensures ∙ c.if-too_long.false),
    )

pub returns : goal.returns
returns c =
    let a = c.args in
    let ws = a.words.now in
    let all = length_records c.args.n c.args.words.now c.records-record-items.ensures in
    sym (passed _ _ (ap (first (long ws a.n) 0) (length_rows a.n _) ∙ found_none (long ws a.n) a.n c.loop-r.r c.loop-r.invariant.2 (omega (arith, all, c.requires.n_le_streams, c.loop-r-test.false))) ∙ nothing_given)

pub overflow_add-beside : goal.overflow_add-beside
overflow_add-beside c = omega (arith, (worked_out (goal.at.overflow_add-beside c).After-overheads_of-c).small)
