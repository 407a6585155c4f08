-- After i turns the first i lent bytes have the first i marks, and the others are as found. Assumes nothing.
use mathlib.Core.Path.{◌≡◌}
use mathlib.Core.Bool.{false}
use lib.ListN.{length, get_or}
use Rattle.states.specs.States.{byte}
use Rattle.states.proofs.Placed.{laid_to}
use Rattle.states.proofs.marks_into.Given as goal

abbrev pub invariant-loop-i : goal.invariant-loop-i
invariant-loop-i l = (l.out ≡ laid_to (λ k. byte (get_or l.fn.marks k false)) l.initial.out l.i) × (length l.out ≡ length l.initial.out)
