-- The contract determines the outcome; so does that of std's `usize::min`, which callers that bound no count by places go through. Assumes nothing.
use mathlib.Core.Path.{refl, sym, ◌∙◌}
use Rattle.laws.specs.Determined.{OneOutcome}
use Rattle.laws.proofs.smaller.Kinds as smaller-kinds
use Rattle.laws.proofs.smaller.Reads as smaller
use Rattle.std.below.core.proofs.int.usize.min.Kinds as min-kinds
use Rattle.std.below.core.proofs.int.usize.min.Reads as min

pub smaller_one : OneOutcome 0 smaller-kinds.ps smaller-kinds.r smaller.Post
smaller_one κs a x y ws us p q = (p ∙ sym q, refl)

pub min_one : OneOutcome 0 min-kinds.ps min-kinds.r min.Post
min_one κs a x y ws us p q = (p ∙ sym q, refl)
