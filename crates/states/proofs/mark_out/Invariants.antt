-- After i turns the bytes of the first i contenders are kept or 0, and the others are as found. Assumes nothing.
use mathlib.Core.Path.{◌≡◌}
use lib.ListN.{length}
use Rattle.states.proofs.Placed.{laid_to, after}
use Rattle.states.proofs.mark_out.Given as goal

abbrev pub invariant-loop-i : goal.invariant-loop-i
invariant-loop-i l = (l.out ≡ laid_to (after l.count l.fn.marks l.initial.out) l.initial.out l.i) × (length l.out ≡ length l.initial.out)
