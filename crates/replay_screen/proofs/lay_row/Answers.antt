-- The space and the digits of a marked row, or nothing. Assumes nothing.
use mathlib.Core.Path.{sym, ap}
use native.Mathlib.Omega.{arith}
use Rattle.text.proofs.Laying.{is, then, last, none}
use Rattle.replay_screen.proofs.Rows.{row_text}
use Rattle.replay_screen.proofs.lay_row.Goals as goal

pub returns-then-mark : goal.returns-then-mark
returns-then-mark c =
    is (ap (λ b. row_text b c.args.row.0) (sym c.if-mark.true)) (then c.lay_text-at.ensures (last c.lay_number.ensures) (omega arith))

pub returns : goal.returns
returns c = is (ap (λ b. row_text b c.args.row.0) (sym c.if-mark.false)) (none _ _ (omega arith))
