use native.Mathlib.Omega.{arith}
use Rattle.text.proofs.Laying.{none, more}
use Rattle.text.proofs.lay_text.Goals as goal

pub loop-byte-init : goal.loop-byte-init
loop-byte-init c = none _ _ (omega arith)

pub loop-byte-preserved : goal.loop-byte-preserved
loop-byte-preserved c =
    let l = c.loop-byte in
    more _ l.byte-index (omega arith) (omega arith) l.invariant c.lay-next.ensures
