-- Laid past the end the text is measured; then it is laid at the start, or not at all.
use native.Mathlib.Omega.{arith}
use Rattle.text.proofs.Laying.{put_full, put_at}
use Rattle.text.proofs.put.Goals as goal

pub returns-then-size-bytes : goal.returns-then-size-bytes
returns-then-size-bytes g c = put_full 0 (omega arith) c.lay.ensures (omega arith)

pub returns : goal.returns
returns g c = put_at 0 (omega arith) c.lay.ensures (omega arith) c.lay-2.ensures
