-- The parts of the line in their order. Assumes nothing.
use native.Mathlib.Omega.{arith}
use Rattle.text.proofs.Laying.{then, last}
use Rattle.replay_words.specs.Handwritten.{wrong_line}
use Rattle.replay_words.proofs.lay_wrong.Goals as goal

pub returns : goal.returns
unfolding wrong_line
returns c =
    then c.lay_text-at.ensures (then c.lay_number-at.ensures (last c.lay_text.ensures)) (omega arith)
