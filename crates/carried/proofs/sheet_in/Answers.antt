-- The parts are those of the plan, and n streams and m gaps have been read. Assumes nothing.
use mathlib.Core.Path.{◌≡◌, sym}
use Prim.Native.Nat.{min}
use lib.ListN.{get_or}
use Rattle.names.specs.Limits.{streams, sources}
use Rattle.laws.proofs.Lists.{length_rows}
use Rattle.carried.specs.Layout as layout
use Rattle.carried.specs.Carried.{stream_in, entered_in}
use Rattle.carried.proofs.sheet_in.Goals as goal

pub returns : goal.returns
unfolding entered_in
returns c =
    let ws = c.args.words.now in
    let n : c.min-count.result ≡ min c.args.n streams = c.min-count.ensures in
    let m : c.min-sources.result ≡ min c.args.m sources = c.min-sources.ensures in
    let count = sym (length_rows c.min-count.result (λ r. stream_in ws (layout.stream_at r))) in
    let sources = sym (length_rows c.min-sources.result (λ k. get_or ws (layout.gap_at c.min-count.result k) 0)) in
    let timing = c.timing_in.ensures in
    let rows = c.streams_in.ensures in
    let gaps = c.gaps_in.ensures in
    rw (← n, ← m) (λ i. record { timing = timing i; streams = rows i; count = count i; gaps = gaps i; sources = sources i })
