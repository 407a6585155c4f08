-- The contract determines the outcome: it equates the result with one value. Assumes nothing.
use mathlib.Core.Path.{refl, sym, ◌∙◌}
use Rattle.laws.specs.Determined.{OneOutcome}
use Rattle.repeats.proofs.first_repeat.Kinds as first-repeat-kinds
use Rattle.repeats.proofs.first_repeat.Reads as first-repeat

pub first_repeat_one : OneOutcome 1 first-repeat-kinds.ps first-repeat-kinds.r first-repeat.Post
first_repeat_one κs a x y ws us p q = (p ∙ sym q, refl)
