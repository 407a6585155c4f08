-- Each turn lays the line of one bit and takes one step; those that go silent are the ones that part from the winner there. Assumes nothing.
use mathlib.Core.Path.{◌≡◌}
use Prim.Native.Nat.{◌≤◌}
use Rattle.tournament.specs.Rule.{steps}
use Rattle.text.specs.Put.{Lays}
use Rattle.replay_screen.specs.Shown.{bit_lines}
use Rattle.replay_screen.proofs.lay_played.Given as goal

abbrev pub invariant-loop-k : goal.invariant-loop-k
invariant-loop-k l = (l.k ≤ l.k-end) × (l.now ≡ steps l.k l.initial.now) × Lays l.initial.out l.initial.next (bit_lines l.initial.now l.k) l.next l.out
