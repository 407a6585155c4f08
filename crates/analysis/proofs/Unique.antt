-- The public contract determines its outcome.
use mathlib.Core.Path.{◌∙◌, sym, refl}
use Rattle.laws.specs.Determined.{OneOutcome}
use Rattle.analysis.proofs.answer.Kinds as answer-kinds
use Rattle.analysis.proofs.answer.Reads as answer

pub answer_one : OneOutcome 1 answer-kinds.ps answer-kinds.r answer.Post
answer_one κs a x y ws us p q = (p ∙ sym q, refl)
