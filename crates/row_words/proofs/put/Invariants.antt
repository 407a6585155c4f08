-- After k turns the first k words stand in their place.
use mathlib.Core.Path.{◌≡◌}
use lib.Seq.{paste}
use Rattle.row_words.proofs.put.Given as goal

abbrev pub invariant-loop-k : goal.invariant-loop-k
invariant-loop-k g l = l.words ≡ paste l.initial.words l.at l.own l.k
