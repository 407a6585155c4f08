-- The words, with the gap between them. Assumes nothing.
use native.Mathlib.Omega.{arith}
use Rattle.text.proofs.Laying.{then, last}
use Rattle.chief.specs.Told.{noise_text}
use Rattle.chief.proofs.lay_noise.Goals as goal

pub returns : goal.returns
unfolding noise_text
returns c =
    then c.lay_text-at.ensures (then c.lay_number-at.ensures (last c.lay_text.ensures)) (omega arith)
