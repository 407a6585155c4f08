-- After i turns the first i words are written and nothing else; words that have no room are turned away before the first store. Assumes nothing.
use mathlib.Core.Path.{◌≡◌}
use lib.ListN.{take}
use Rattle.words.specs.Words.{with_words}
use Rattle.words.proofs.put_words.Given as goal

abbrev pub invariant-loop-i : goal.invariant-loop-i
invariant-loop-i l = l.buf ≡ with_words l.initial.buf l.at (take l.i l.ws)
