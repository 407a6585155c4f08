use mathlib.Core.Path.{◌≡◌, refl, sym, ap, ◌∙◌}
use mathlib.Core.Bool.{false}
use borrow.Author.Rules.{rules}
use borrow.Author.Tests.{tests}
use lib.ListN.{length, get_or}
use Rattle.std.specs.Prelude.{position}
use Rattle.std.proofs.lemmas.Iterator.{YieldsList-from_slice}
use Rattle.std.proofs.lemmas.Iterator.Search.{position_from_yields_List}
use Rattle.tournament_state.proofs.Places.{first_row}
use Rattle.tournament.specs.Rule.{lowest_marked, finished_by, winner_of}
use Rattle.tournament.proofs.winner.Goals as goal
use Rattle.tournament.proofs.winner.Goals.{After-position}

found : (c : After-position) → let ms = c.args.marks.now in c.position.result ≡ lowest_marked (length ms) ms
unfolding lowest_marked
found c =
    let ms = c.args.marks.now in
    let first : c.position.result ≡ position (λ b. b) ms = position_from_yields_List (λ b. b) _ _ c.position.result c.position.ensures.ran (YieldsList-from_slice ms cc) (λ x b q k. search (rules, tests)) in
    first ∙ first_row (λ b. b) ms false (λ i. get_or ms i false) (λ i h. refl)

pub returns-in-Some : goal.returns-in-Some
unfolding winner_of
returns-in-Some c = sym (ap finished_by (sym (found (goal.at.returns-in-Some c).After-position) ∙ c.in-Some.is))

pub returns-in-None : goal.returns-in-None
unfolding winner_of
returns-in-None c = sym (ap finished_by (sym (found (goal.at.returns-in-None c).After-position) ∙ c.in-None.is))
