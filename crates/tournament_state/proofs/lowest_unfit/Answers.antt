-- The lowest place is a row. Assumes nothing.
use mathlib.Core.Path.{◌≡◌, refl, ap, ◌∙◌}
use mathlib.Core.Bool.{not}
use Rattle.std.specs.Prelude.{position}
use Rattle.names.specs.declared.Priority.{Priority}
use Rattle.repeats.specs.Repeats.{as_row}
use Rattle.tournament_state.specs.Refusals.{none, fits_in, lowest_unfit}
use Rattle.tournament_state.proofs.Places.{first_row}
use Rattle.tournament_state.proofs.lowest_unfit.Goals as goal
use borrow.Author.Rules.{rules}
use borrow.Author.Tests.{tests}
use Rattle.std.proofs.lemmas.Iterator.{YieldsList-from_slice}
use Rattle.std.proofs.lemmas.Iterator.Search.{position_from_yields_List}

pub returns : goal.returns
unfolding lowest_unfit
returns c =
    let t = λ (p : Priority). not (fits_in c.args.bits p) in
    let ps = c.args.priorities.now in
    let found : c.position.result ≡ position t ps = position_from_yields_List t _ _ c.position.result c.position.ensures.ran (YieldsList-from_slice ps cc) (λ x b q k. search (rules, tests)) in
    let row : c.map.result ≡ as_row c.position.result = search rules in
    row ∙ ap as_row (found ∙ first_row t ps none _ (λ i h. refl))
