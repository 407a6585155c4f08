-- After r turns the first r places hold word k of the first r rows. Assumes nothing.
use mathlib.Core.Path.{◌≡◌}
use Prim.Native.Nat.{◌+◌}
use lib.ListN.{length, get_or, take}
use Rattle.laws.specs.Lists.{rows}
use Rattle.carried.specs.Layout as layout
use Rattle.checks.proofs.repeat_in.Given as goal

abbrev pub invariant-loop-r : goal.invariant-loop-r
invariant-loop-r g l = (length l.column ≡ length l.initial.column) × (take l.r l.column ≡ rows l.r (λ j. get_or l.words (layout.stream_at j + l.k) 0))
