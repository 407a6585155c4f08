-- The label, and what is said of its stream. Assumes nothing.
use native.Mathlib.Omega.{arith}
use Rattle.text.proofs.Laying.{then, last}
use Rattle.chief.proofs.lay_stream.Goals as goal

pub returns : goal.returns
returns c =
    then c.lay_label-at.ensures (last c.lay_text.ensures) (omega arith)
