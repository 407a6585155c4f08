use mathlib.Core.Path.{◌≡◌, refl, sym, ap, ◌∙◌}
use mathlib.Core.List.{List, [], ◌∷◌}
use Prim.Native.Nat.{ℕ, ◌-◌, ◌^◌, ◌≤◌, ◌<◌, min}
use native.Mathlib.Omega.{arith}
use lib.ListN.{length, get_or, take, drop}
use Rattle.laws.proofs.Lists.{rows_at, length_rows}
use Rattle.names.specs.Limits.{streams, payload, acknowledgement, ticks}
use Rattle.plan.specs.Plan.{blank}
use Rattle.carried.specs.Layout as layout
use Rattle.carried.specs.Carried.{stream_in, streams_in, records_in}
use Rattle.carried.proofs.Plans.{seven_back}
use Rattle.fields.specs.Fields.{stream_fields, lowest}
use Rattle.fields.specs.declared.Band.{Band}
use Rattle.fields.specs.private.Bands.{fields_of}
use Rattle.fields.proofs.Lowest.{stream_here, stream_not_here, streams_done}
use Rattle.fields.proofs.streams_outside.Goals as goal
use Rattle.carried.proofs.Pieces.{length_records}

abbrev bands : ℕ → List Band
bands top =
    record { 0 = 0; 1 = ticks }
    ∷ record { 0 = 0; 1 = top }
    ∷ record { 0 = 1; 1 = ticks }
    ∷ record { 0 = 0; 1 = ticks }
    ∷ record { 0 = 1; 1 = payload }
    ∷ record { 0 = 1; 1 = ticks }
    ∷ record { 0 = 0; 1 = acknowledgement }
    ∷ []

-- stream r of them, found as its seven words with their limits beside them
module _ (words : List ℕ) (n m nb r : ℕ) {top : ℕ} {records : List (List ℕ)} (same : m ≡ n) (h : r < n) (long : layout.stream_at n ≤ length words) (e : top ≡ 2 ^ nb - 1) (f : records ≡ records_in m words) where
  stream_found : lowest (layout.stream_at r) (fields_of (get_or records r []) (bands top)) ≡ lowest (layout.stream_at r) (stream_fields nb (get_or (streams_in n words) r blank))
  unfolding fields_of
  stream_found =
      let at = layout.stream_at r in
      let stream : get_or (streams_in n words) r blank ≡ stream_in words at = rows_at n (λ k. stream_in words (layout.stream_at k)) blank r h in
      let piece : get_or records r [] ≡ take layout.stream_length (drop at words) =
      ap (λ rs. get_or rs r []) f ∙ rows_at m (λ k. take layout.stream_length (drop (layout.stream_at k) words)) [] r (omega arith) in
      rw (piece, e, stream, ← seven_back words at (omega arith)) refl

pub words_outside-requires-clause-words_bound : goal.words_outside-requires-clause-words_bound
words_outside-requires-clause-words_bound c =
    omega (arith, length_records c.args.n c.args.words.now c.records-record-items.ensures, c.loop-r-test.true, c.requires.n_le_streams)

pub returns-in-Some : goal.returns-in-Some
returns-in-Some c =
    let a = c.args in
    let ws = a.words.now in
    let r = c.loop-r.r in
    let n = length_records c.args.n c.args.words.now c.records-record-items.ensures in
    sym (stream_here a.nb (streams_in a.n ws) r blank (omega (arith, n, c.requires.n_le_streams, length_rows a.n (λ k. stream_in ws (layout.stream_at k)))) c.loop-r.invariant _
    (sym (stream_found ws a.n (min a.n streams) a.nb r (omega (arith, c.requires.n_le_streams)) (omega (arith, n, c.requires.n_le_streams)) (omega (arith, n, c.requires.n_le_streams)) c.largest_priority.ensures c.records-record-items.ensures) ∙ sym c.in-Some.ensures))

pub loop-r-preserved : goal.loop-r-preserved
loop-r-preserved c =
    let a = c.args in
    let ws = a.words.now in
    let r = c.loop-r.r in
    let n = length_records c.args.n c.args.words.now c.records-record-items.ensures in
    stream_not_here a.nb (streams_in a.n ws) r blank (omega (arith, n, c.requires.n_le_streams, length_rows a.n (λ k. stream_in ws (layout.stream_at k)))) c.loop-r.invariant
    (sym (stream_found ws a.n (min a.n streams) a.nb r (omega (arith, c.requires.n_le_streams)) (omega (arith, n, c.requires.n_le_streams)) (omega (arith, n, c.requires.n_le_streams)) c.largest_priority.ensures c.records-record-items.ensures) ∙ sym c.in_default.ensures)

pub returns : goal.returns
returns c =
    let a = c.args in
    let ws = a.words.now in
    let n = length_records c.args.n c.args.words.now c.records-record-items.ensures in
    sym (c.loop-r.invariant ∙ streams_done a.nb (streams_in a.n ws) (layout.stream_at c.loop-r.r) c.loop-r.r (omega (arith, n, c.requires.n_le_streams, length_rows a.n (λ k. stream_in ws (layout.stream_at k)))))
