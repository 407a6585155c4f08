-- The contracts determine the outcomes: each equates the result, and what lent memory ends with, with one value. Assumes nothing.
use mathlib.Core.Path.{sym, ap, ◌∙◌}
use mathlib.Core.List.{List}
use Prim.Native.Nat.{ℕ}
use Rattle.laws.specs.Determined.{OneOutcome}
use Rattle.writer.proofs.write_words.Kinds as write-words-kinds
use Rattle.writer.proofs.write_words.Reads as write-words
use Rattle.writer.proofs.write.Kinds as write-kinds
use Rattle.writer.proofs.write.Reads as write

pub write_words_one : OneOutcome 2 write-words-kinds.ps write-words-kinds.r write-words.Post
write_words_one κs a x y ws us p q = (p.0 ∙ sym q.0, ap (λ (l : List ℕ). (tt, (tt, (l, tt)))) (p.1 ∙ sym q.1))

pub write_one : OneOutcome 1 write-kinds.ps write-kinds.r write.Post
write_one κs a x y ws us p q = (p.0 ∙ sym q.0, ap (λ (l : List ℕ). (tt, (l, tt))) (p.1 ∙ sym q.1))
