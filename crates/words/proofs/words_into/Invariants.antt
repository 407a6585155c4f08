-- After i turns the first i words stand at the front and the rest is as it was. Assumes nothing.
use mathlib.Core.Path.{◌≡◌}
use mathlib.Core.List.{◌++◌}
use lib.ListN.{take, drop}
use Rattle.words.specs.Words.{words_of}
use Rattle.words.proofs.words_into.Given as goal

abbrev pub invariant-loop-i : goal.invariant-loop-i
invariant-loop-i l = l.out ≡ take l.i (words_of l.bytes) ++ drop l.i l.initial.out
