-- The contracts determine the outcomes: each equates the result with one value. Assumes nothing.
use mathlib.Core.Path.{refl, sym, ◌∙◌}
use Rattle.laws.specs.Determined.{OneOutcome}
use Rattle.compare.proofs.changes.Kinds as changes-kinds
use Rattle.compare.proofs.changes.Reads as changes
use Rattle.compare.proofs.outcome.Kinds as outcome-kinds
use Rattle.compare.proofs.outcome.Reads as outcome
use Rattle.compare.proofs.lighter.Kinds as lighter-kinds
use Rattle.compare.proofs.lighter.Reads as lighter

pub changes_one : OneOutcome 0 changes-kinds.ps changes-kinds.r changes.Post
changes_one κs a x y ws us p q = (p ∙ sym q, refl)

pub outcome_one : OneOutcome 0 outcome-kinds.ps outcome-kinds.r outcome.Post
outcome_one κs a x y ws us p q = (p ∙ sym q, refl)

pub lighter_one : OneOutcome 0 lighter-kinds.ps lighter-kinds.r lighter.Post
lighter_one κs a x y ws us p q = (p.is ∙ sym q.is, refl)
