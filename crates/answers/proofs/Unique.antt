-- The public contracts determine their outcomes, lent memory included.
use mathlib.Core.Path.{◌∙◌, sym, ap}
use mathlib.Core.List.{List}
use Prim.Native.Nat.{ℕ}
use Rattle.laws.specs.Determined.{OneOutcome}
use Rattle.answers.proofs.answer_words.Kinds as answer-words-kinds
use Rattle.answers.proofs.answer_words.Reads as answer_words
use Rattle.answers.proofs.answer_values.Kinds as answer-values-kinds
use Rattle.answers.proofs.answer_values.Reads as answer-values

pub answer_words_one : (T : _) (L : _) (b : _) (d : _) → OneOutcome 3 (answer-words-kinds.ps T L) (answer-words-kinds.r T L) (answer_words.Post T L b d)
answer_words_one T L b d κs a x y ws us p q = (p.0 ∙ sym q.0, ap (λ (l : List ℕ). (tt, (tt, (l, tt)))) (p.1 ∙ sym q.1))

pub answer_values_one : (T : _) (L : _) (b : _) (d : _) → OneOutcome 2 (answer-values-kinds.ps T L) (answer-values-kinds.r T L) (answer-values.Post T L b d)
answer_values_one T L b d κs a x y ws us p q = (p.0 ∙ sym q.0, ap (λ (l : List ℕ). (tt, (l, tt))) (p.1 ∙ sym q.1))
