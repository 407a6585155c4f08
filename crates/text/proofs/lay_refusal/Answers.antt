-- "refused", the number, "at", the place, the newline.
use Rattle.text.specs.Listing.{refused_of}
use Rattle.text.proofs.Laying.{then, last}
use native.Mathlib.Omega.{arith}
use Rattle.text.proofs.lay_refusal.Goals as goal

pub returns : goal.returns
unfolding refused_of
returns c =
    then c.lay_text-at.ensures (then c.lay_number-at.ensures (then c.lay_text-at-2.ensures (then c.lay_number-at-2.ensures (last c.lay.ensures)))) (omega arith)
