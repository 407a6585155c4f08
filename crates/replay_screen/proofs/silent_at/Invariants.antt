-- Each turn marks one contender more. Assumes nothing.
use mathlib.Core.Path.{◌≡◌}
use mathlib.Core.Bool.{Bool, false}
use mathlib.Core.List.{◌++◌}
use Prim.Native.Nat.{ℕ, ◌-◌}
use lib.Dec.{eqb}
use lib.ListN.{get_or, replicate}
use Rattle.names.specs.declared.Priority.{Priority}
use Rattle.names.specs.Limits.{contenders}
use Rattle.laws.specs.Lists.{rows}
use Rattle.tournament_state.specs.declared.Tournament.{Tournament}
use Rattle.tournament_state.specs.Refusals.{none}
use Rattle.replay_screen.specs.private.Begun.{silent_bit}
use Rattle.replay_screen.proofs.silent_at.Given as goal

-- whether row i goes silent at bit k
abbrev pub goes : Tournament → Priority → ℕ → ℕ → Bool
goes t won k i = eqb (silent_bit t.bits (get_or t.priorities i none) won) k

abbrev pub invariant-loop-i : goal.invariant-loop-i
invariant-loop-i l = l.marks ≡ rows l.i (goes l.fn.t l.won l.k) ++ replicate (contenders - l.i) false
