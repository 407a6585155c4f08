-- Each contract determines its outcome: it equates the result with one value. Assumes nothing.
use mathlib.Core.Path.{refl, sym, ◌∙◌}
use Rattle.laws.specs.Determined.{OneOutcome}
use Rattle.tournament_state.proofs.verdict.Kinds as verdict-kinds
use Rattle.tournament_state.proofs.verdict.Reads as verdict
use Rattle.tournament_state.proofs.pair_verdict.Kinds as pair-verdict-kinds
use Rattle.tournament_state.proofs.pair_verdict.Reads as pair-verdict

pub verdict_one : OneOutcome 0 verdict-kinds.ps verdict-kinds.r verdict.Post
verdict_one κs a x y ws us p q = (p ∙ sym q, refl)

pub pair_verdict_one : OneOutcome 0 pair-verdict-kinds.ps pair-verdict-kinds.r pair-verdict.Post
pair_verdict_one κs a x y ws us p q = (p ∙ sym q, refl)
