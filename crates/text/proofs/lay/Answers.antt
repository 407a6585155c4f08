-- Within the buffer the byte is stored; past its end a store changes nothing.
use mathlib.Core.Path.{sym, ◌∙◌}
use lib.Seq.{set_out}
use native.Mathlib.Omega.{arith}
use Rattle.text.proofs.Laying.{one}
use Rattle.text.proofs.lay.Goals as goal
use Rattle.text.proofs.lay.Goals.{then-at-out, else-at-out}

pub returns : goal.returns
returns c =
    one (omega arith) (elim c.if-at-out.branch [ then-at-out w ↦ w.out-is | else-at-out w ↦ w.out-is ∙ sym (set_out _ _ _ w.if-at-out.false) ])
