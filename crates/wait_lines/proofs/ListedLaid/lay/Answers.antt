-- The header, and then the lines of all streams that there are places for.
use mathlib.Core.Path.{◌≡◌}
use Prim.Native.Nat.{min}
use native.Mathlib.Omega.{arith}
use lib.ListN.{length}
use Rattle.row_words.specs.RowWords.{wait_at}
use Rattle.text.proofs.Laying.{is, then, last}
use Rattle.text.proofs.Rows.{lines_told}
use Rattle.wait_lines.specs.Lines.{wait_row, lines_of}
use Rattle.wait_lines.proofs.ListedLaid.lay.Goals as goal

pub returns : goal.returns
unfolding lines_of
returns c =
    let a = c.args.self.now in
    let n : c.smaller-n.result ≡ min a.sheet.count (length a.sheet.streams) = omega arith in
    then c.lay_text-at.ensures (last (is (lines_told wait_row (wait_at a.waits.now) a.sheet.count c.smaller-n.result a.sheet.streams n) c.lay_lines.ensures)) (omega arith)
