-- The first two places of the array are the pair. Assumes nothing.
use mathlib.Core.Path.{◌∙◌}
use Rattle.tournament_state.proofs.Meaning.{pair_state}
use Rattle.tournament_state.proofs.pair_verdict.Goals as goal

pub returns : goal.returns
returns c = c.verdict.ensures ∙ pair_state _ _ _
