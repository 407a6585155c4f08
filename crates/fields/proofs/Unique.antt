-- The contract determines the outcome: it equates the result with one value. Assumes nothing.
use mathlib.Core.Path.{refl, sym, ◌∙◌}
use Rattle.laws.specs.Determined.{OneOutcome}
use Rattle.fields.proofs.outside.Kinds as outside-kinds
use Rattle.fields.proofs.outside.Reads as outside

pub outside_one : OneOutcome 1 outside-kinds.ps outside-kinds.r outside.Post
outside_one κs a x y ws us p q = (p ∙ sym q, refl)
