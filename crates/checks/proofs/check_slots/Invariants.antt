-- No row before r exceeds its slot; with no master node none does. Assumes nothing.
use mathlib.Core.Path.{◌≡◌}
use mathlib.Core.Bool.{Bool}
use mathlib.Core.List.{List}
use Prim.Native.Nat.{ℕ, ◌+◌, ◌≤◌}
use lib.ListN.{get_or}
use Rattle.laws.proofs.Rows.{NoneBelow}
use Rattle.plan.specs.declared.Stream.{Stream}
use Rattle.plan.specs.Plan.{blank}
use Rattle.plan.specs.Rules.{C'', exceeds_slot}
use Rattle.costs.specs.Costs.{most_V, most_U}
use Rattle.carried.specs.Carried.{timing_in, streams_in}
use Rattle.checks.proofs.check_slots.Given as goal

-- whether row k exceeds its slot
abbrev pub long : List ℕ → ℕ → ℕ → Bool
long ws n k = exceeds_slot (timing_in ws) (get_or (streams_in n ws) k blank)

-- what the loop has beside the rows: P, and what comes to each C + K
pub record Beside (ws : List ℕ) (slot beside : ℕ) : Type 0 where
  pub p : slot ≡ (timing_in ws).p
  pub some : 1 ≤ slot
  pub sum : (j : Stream) → C'' (timing_in ws) j ≡ beside + j.payload + j.acknowledgement
  pub small : beside ≤ most_V + most_U

abbrev pub invariant-loop-r : goal.invariant-loop-r
invariant-loop-r l = (l.r ≤ l.n) × Beside l.words l.slot l.beside × NoneBelow (long l.words l.n) l.r
