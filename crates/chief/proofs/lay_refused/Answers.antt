-- Which plan it is, and its refusal. Assumes nothing.
use native.Mathlib.Omega.{arith}
use Rattle.text.proofs.Laying.{then, last}
use Rattle.chief.proofs.lay_refused.Goals as goal

pub returns : goal.returns
returns c =
    then c.lay_text-at.ensures (last c.lay_refusal.ensures) (omega arith)
