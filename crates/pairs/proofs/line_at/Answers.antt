-- The text up to the line's newline, or all of it where the line has none, ends where the line does. Assumes nothing.
use mathlib.Core.Path.{sym, ap, ◌∙◌}
use native.Mathlib.Omega.{arith}
use Rattle.std.specs.Prelude.{Some}
use lib.ListN.{take, drop}
use Rattle.pairs.specs.Pairs.{names_as}
use Rattle.pairs.proofs.Laws.{over, line_there}
use Rattle.pairs.proofs.line_at.Goals as goal

pub returns-then-text-at : goal.returns-then-text-at
returns-then-text-at c = sym (over c.args.text.now c.args.at (omega arith))

pub returns : goal.returns
returns c =
    let a = c.args in
    ap (λ m. Some (record { names = m; next = c.next_line.result })) c.names_in.ensures
    ∙ ap (λ n. Some (record { names = names_as (drop a.at (take c.place_of-end.result a.text.now)) a.at; next = n })) c.next_line.ensures
    ∙ line_there a.text.now a.at (omega arith) c.place_of-end.result c.place_of-end.ensures.value
