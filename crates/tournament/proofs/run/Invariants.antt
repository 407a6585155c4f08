-- After so many turns the state is that after so many steps, and it stays ready for one more. Assumes nothing.
use mathlib.Core.Path.{◌≡◌}
use Prim.Native.Nat.{◌≤◌}
use Rattle.tournament.specs.Rule.{steps}
use Rattle.tournament.proofs.run.Given as goal

abbrev pub invariant-loop : goal.invariant-loop
invariant-loop l = (l.counter ≤ l.end) × (l.now ≡ steps l.counter l.initial.now)
