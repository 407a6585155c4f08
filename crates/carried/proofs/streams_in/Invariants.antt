-- After r turns the first r places hold the streams of the first r rows, and the others are blank. Assumes nothing.
use mathlib.Core.Path.{◌≡◌}
use Prim.Native.Nat.{◌≤◌}
use Rattle.names.specs.Limits as limit
use Rattle.laws.specs.Lists.{rows, placed}
use Rattle.plan.specs.Plan.{blank}
use Rattle.carried.specs.Layout as layout
use Rattle.carried.specs.Carried.{stream_in}
use Rattle.carried.proofs.streams_in.Given as goal

abbrev pub invariant-loop-r : goal.invariant-loop-r
invariant-loop-r l =
    (l.r ≤ l.fn.n) × (l.out ≡ placed limit.streams blank (rows l.r (λ k. stream_in l.fn.words (layout.stream_at k))))
