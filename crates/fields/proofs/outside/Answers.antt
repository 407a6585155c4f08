-- The timing comes first, then the streams, then the gaps; of counts past the limits as many are taken as a plan may have. Assumes nothing.
use mathlib.Core.Path.{◌≡◌, sym, ap, ◌∙◌}
use mathlib.Core.List.{List, map, flat_map}
use Prim.Native.Nat.{ℕ, min}
use native.Mathlib.Omega.{arith}
use lib.ListN.{get_or}
use Rattle.names.specs.Limits.{streams, sources}
use Rattle.laws.specs.Lists.{rows}
use Rattle.laws.proofs.Lists.{length_rows}
use Rattle.std.specs.Prelude.{None}
use Rattle.carried.specs.Layout as layout
use Rattle.fields.specs.Fields.{timing_fields, stream_fields, gap_field, lowest}
use Rattle.carried.specs.Carried.{Entered, entered_timing_in, stream_in, entered_in}
use Rattle.fields.proofs.Lowest.{timing_here, streams_here, gaps_left}
use Rattle.fields.proofs.Inside.{inside_if_within, nothing_if_inside}
use Rattle.fields.proofs.outside.Goals as goal
use Rattle.fields.proofs.outside.Goals.{After-streams_outside, In_default}

-- what is asked about
abbrev asked : ℕ → ℕ → List ℕ → Entered
asked n m words = entered_in (min n streams) (min m sources) words

timing_inside : (c : In_default) → lowest 0 (timing_fields c.args.counts.edition (entered_timing_in c.args.words.now)) ≡ None
timing_inside c = sym c.in_default.ensures

-- the streams of the plan are those that were looked at
streams_are : (c : After-streams_outside) → let v = asked c.args.counts.n c.args.counts.m c.args.words.now in
    lowest (layout.stream_at 0) (flat_map (stream_fields v.timing.nb) v.streams) ≡ c.streams_outside.result
unfolding entered_in
streams_are c =
    let ws = c.args.words.now in
    ap (λ k. lowest (layout.stream_at 0) (flat_map (stream_fields (entered_timing_in ws).nb) (rows k (λ r. stream_in ws (layout.stream_at r))))) (sym c.smaller-rows.ensures) ∙ sym c.streams_outside.ensures

pub returns-in-Some : goal.returns-in-Some
unfolding entered_in
returns-in-Some c = sym (timing_here c.args.counts.edition (asked c.args.counts.n c.args.counts.m c.args.words.now) _ (sym c.in-Some.ensures))

pub streams_outside-requires-clause-nb_le_bits : goal.streams_outside-requires-clause-nb_le_bits
streams_outside-requires-clause-nb_le_bits c =
    let timing = timing_fields c.args.counts.edition (entered_timing_in c.args.words.now) in
    ((inside_if_within _).0 ((nothing_if_inside 0 timing).0 (sym c.in_default.ensures) 8 (omega arith))).1

pub returns-in-Some-streams_outside : goal.returns-in-Some-streams_outside
unfolding entered_in
returns-in-Some-streams_outside c =
    let at = goal.at.returns-in-Some-streams_outside c in
    sym (streams_here c.args.counts.edition (asked c.args.counts.n c.args.counts.m c.args.words.now) (timing_inside at.In_default) _ (streams_are at.After-streams_outside ∙ c.in-Some-streams_outside.is))

pub returns : goal.returns
unfolding entered_in
returns c =
    let at = goal.at.returns c in
    let ws = c.args.words.now in
    let n = min c.args.counts.n streams in
    c.gaps_outside.ensures
    ∙ rw (c.smaller-rows.ensures, c.smaller.ensures) (ap (λ k. lowest (layout.stream_at k) (map gap_field (rows (min c.args.counts.m sources) (λ k. get_or ws (layout.gap_at n k) 0)))) (sym (length_rows n (λ r. stream_in ws (layout.stream_at r)))))
    ∙ sym (gaps_left c.args.counts.edition (asked c.args.counts.n c.args.counts.m ws) (timing_inside at.In_default) (streams_are at.After-streams_outside ∙ c.in_default-streams_outside.is))
