use mathlib.Core.Path.{◌≡◌, ap, ◌∙◌}
use mathlib.Core.List.{[]}
use Prim.Native.Nat.{min}
use native.Mathlib.Omega.{arith}
use lib.ListN.{get_or}
use Rattle.names.specs.Limits as limit
use Rattle.laws.proofs.Placed.{no_rows_placed, row_placed}
use Rattle.plan.specs.Plan.{blank}
use Rattle.carried.specs.Layout as layout
use Rattle.carried.specs.Carried.{stream_in}
use Rattle.carried.proofs.Pieces.{length_records, record_stream}
use Rattle.carried.proofs.streams_in.Goals as goal

pub loop-r-init : goal.loop-r-init
loop-r-init c = (omega arith, c.no_streams-out.ensures ∙ no_rows_placed limit.streams blank _)

pub bounds-out-r : goal.bounds-out-r
bounds-out-r c = omega (arith, c.requires, length_records c.args.n c.args.words.now c.records-record-items.ensures)

pub loop-r-preserved : goal.loop-r-preserved
loop-r-preserved c =
    let l = c.loop-r in
    let a = c.args in
    let n = length_records c.args.n c.args.words.now c.records-record-items.ensures in (
      omega (arith, n, c.requires),
      row_placed limit.streams blank (λ k. stream_in a.words.now (layout.stream_at k)) l.r (omega (arith, n, c.requires)) l.invariant.1
          (c.stream_in.ensures
          ∙ ap (λ rs. stream_in (get_or rs l.r []) 0) c.records-record-items.ensures
          ∙ record_stream (min a.n limit.streams) a.words.now l.r (omega (arith, n, c.requires))),
    )

pub returns : goal.returns
returns c =
    let l = c.loop-r in
    let e : l.r ≡ c.args.n = omega (arith, c.requires, length_records c.args.n c.args.words.now c.records-record-items.ensures) in
    rw (← e) l.invariant.1
