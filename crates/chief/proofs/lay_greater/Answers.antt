-- The constant's name, and what is said of it. Assumes nothing.
use native.Mathlib.Omega.{arith}
use Rattle.text.proofs.Laying.{then, last}
use Rattle.chief.specs.Told.{greater_text}
use Rattle.chief.proofs.lay_greater.Goals as goal

pub returns : goal.returns
unfolding greater_text
returns c =
    then c.lay_constant-at.ensures (last c.lay_text.ensures) (omega arith)
