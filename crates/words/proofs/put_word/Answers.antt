-- Four stores side by side are the word's four bytes. Assumes nothing.
use native.Mathlib.Omega.{arith}
use Rattle.words.proofs.Laws.{put_one}
use Rattle.words.proofs.put_word.Goals as goal

pub returns : goal.returns
returns c = rw c.to_le_bytes.ensures (put_one c.args.buf.now c.args.at c.args.w (omega arith))
