-- The contract determines the outcome: it equates the result with one value. Assumes nothing.
use mathlib.Core.Path.{refl, sym, ◌∙◌}
use Rattle.laws.specs.Determined.{OneOutcome}
use Rattle.compare_files.proofs.lighter_files.Kinds as lighter-files-kinds
use Rattle.compare_files.proofs.lighter_files.Reads as lighter-files

pub lighter_files_one : OneOutcome 2 lighter-files-kinds.ps lighter-files-kinds.r lighter-files.Post
lighter_files_one κs a x y ws us p q = (p.is ∙ sym q.is, refl)
