-- The contenders' numbers are looked through for the lowest repeat. Assumes nothing.
use mathlib.Core.Path.{sym, ap, ◌∙◌}
use lib.ListN.{take}
use Rattle.repeats.specs.Repeats.{first_repeat}
use Rattle.tournament_state.specs.Refusals.{number}
use Rattle.tournament_state.proofs.Places.{map_take}
use Rattle.tournament_state.proofs.lowest_repeat.Goals as goal

pub returns : goal.returns
returns c =
    let a = c.args in
    c.first_repeat.ensures ∙ ap first_repeat (ap (take a.count) c.numbers-values.ensures ∙ sym (map_take number a.count a.priorities))
