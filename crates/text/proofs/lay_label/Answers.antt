-- The group, the point, the number.
use Rattle.text.proofs.Laying.{then, last}
use native.Mathlib.Omega.{arith}
use Rattle.text.proofs.lay_label.Goals as goal

pub returns : goal.returns
returns c =
    then c.lay_number-at.ensures (then c.lay-at.ensures (last c.lay_number.ensures)) (omega arith)
