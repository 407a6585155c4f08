-- The public contracts determine their outcomes, lent memory included.
use mathlib.Core.Path.{◌∙◌, sym, ap}
use mathlib.Core.List.{List}
use Prim.Native.Nat.{ℕ}
use Rattle.laws.specs.Determined.{OneOutcome}
use Rattle.answer_files.proofs.answer_file.Kinds as answer-file-kinds
use Rattle.answer_files.proofs.answer_file.Reads as answer-file

pub answer_file_one : OneOutcome 2 answer-file-kinds.ps answer-file-kinds.r answer-file.Post
answer_file_one κs a x y ws us p q = (p.0 ∙ sym q.0, ap (λ (l : List ℕ). (tt, (l, tt))) (p.1 ∙ sym q.1))
