-- The words, the reason, the newline. Assumes nothing.
use native.Mathlib.Omega.{arith}
use Rattle.text.proofs.Laying.{then, last}
use Rattle.chief.specs.Told.{again_line}
use Rattle.chief.proofs.lay_again.Goals as goal

pub returns : goal.returns
unfolding again_line
returns c =
    then c.lay_text-at.ensures (then c.lay_reason-at.ensures (last c.lay_text.ensures)) (omega arith)
