-- The contracts determine the outcomes: each equates the result, and what lent memory ends with, with one value. Assumes nothing.
use mathlib.Core.Path.{refl, sym, ◌∙◌}
use Rattle.laws.specs.Determined.{OneOutcome}
use Rattle.file.proofs.size.Kinds as size-kinds
use Rattle.file.proofs.size.Reads as size
use Rattle.file.proofs.contents.Kinds as contents-kinds
use Rattle.file.proofs.contents.Reads as contents

pub size_one : OneOutcome 0 size-kinds.ps size-kinds.r size.Post
size_one κs a x y ws us p q = (p ∙ sym q, refl)

pub contents_one : OneOutcome 0 contents-kinds.ps contents-kinds.r contents.Post
contents_one κs a x y ws us p q = (p ∙ sym q, refl)
