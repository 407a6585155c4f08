-- The contract determines the outcome: it equates the result with one value. Assumes nothing.
use mathlib.Core.Path.{refl, sym, ◌∙◌}
use Rattle.laws.specs.Determined.{OneOutcome}
use Rattle.judge.proofs.refused.Kinds as refused-kinds
use Rattle.judge.proofs.refused.Reads as refused

pub refused_one : OneOutcome 0 refused-kinds.ps refused-kinds.r refused.Post
refused_one κs a x y ws us p q = (p ∙ sym q, refl)
