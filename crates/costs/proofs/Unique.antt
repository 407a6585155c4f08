-- The public contract determines its outcome.
use mathlib.Core.Path.{◌∙◌, sym, refl}
use Rattle.laws.specs.Determined.{OneOutcome}
use Rattle.costs.proofs.overheads_of.Kinds as overheads-of-kinds
use Rattle.costs.proofs.overheads_of.Reads as overheads-of

pub overheads_of_one : OneOutcome 0 overheads-of-kinds.ps overheads-of-kinds.r overheads-of.Post
overheads_of_one κs a x y ws us p q = (p ∙ sym q, refl)
