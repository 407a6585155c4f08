-- After r turns the words of the timing and of the first r streams are laid, and the places after them hold 0. Assumes nothing.
use mathlib.Core.Path.{◌≡◌}
use Rattle.carried.proofs.Plans.{padded, first_laid}
use Rattle.carried.proofs.words_entered.Given as goal

abbrev pub invariant-loop-r : goal.invariant-loop-r
invariant-loop-r l = l.out ≡ padded (first_laid l.fn.timing l.fn.streams l.r)
