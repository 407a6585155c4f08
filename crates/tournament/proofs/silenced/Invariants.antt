-- The first i contenders are dealt with, one more each turn, and the places behind are as they were. Assumes nothing.
use mathlib.Core.Path.{◌≡◌}
use mathlib.Core.List.{◌++◌}
use Prim.Native.Nat.{◌≤◌}
use lib.ListN.{length, drop}
use Rattle.laws.specs.Lists.{rows}
use Rattle.tournament.specs.Rule.{in_with_zero}
use Rattle.tournament.proofs.silenced.Given as goal

abbrev pub invariant-loop-i : goal.invariant-loop-i
invariant-loop-i l = (l.i ≤ length l.p-items) × (l.marks ≡ rows l.i (in_with_zero l.fn.t l.fn.k) ++ drop l.i l.fn.t.marks)
