-- The public contracts determine their outcomes, lent memory included.
use mathlib.Core.Path.{◌∙◌, sym, ap, refl}
use mathlib.Core.List.{List}
use Prim.Native.Nat.{ℕ}
use Rattle.laws.specs.Determined.{OneOutcome}
use Rattle.row_words.proofs.put_answer.Kinds as put-answer-kinds
use Rattle.row_words.proofs.put_answer.Reads as put-answer
use Rattle.row_words.proofs.put_wait.Kinds as put-wait-kinds
use Rattle.row_words.proofs.put_wait.Reads as put-wait
use Rattle.row_words.proofs.wait_in.Kinds as wait-in-kinds
use Rattle.row_words.proofs.wait_in.Reads as wait-in
use Rattle.row_words.proofs.answer_in.Kinds as answer-in-kinds
use Rattle.row_words.proofs.answer_in.Reads as answer-in

pub put_answer_one : OneOutcome 1 put-answer-kinds.ps put-answer-kinds.r put-answer.Post
put_answer_one κs a x y ws us p q = (p.0 ∙ sym q.0, ap (λ (l : List ℕ). (l, (tt, (tt, tt)))) (p.1 ∙ sym q.1))

pub answer_in_one : OneOutcome 1 answer-in-kinds.ps answer-in-kinds.r answer-in.Post
answer_in_one κs a x y ws us p q = (p ∙ sym q, refl)

pub put_wait_one : OneOutcome 1 put-wait-kinds.ps put-wait-kinds.r put-wait.Post
put_wait_one κs a x y ws us p q = (p.0 ∙ sym q.0, ap (λ (l : List ℕ). (l, (tt, (tt, tt)))) (p.1 ∙ sym q.1))

pub wait_in_one : OneOutcome 1 wait-in-kinds.ps wait-in-kinds.r wait-in.Post
wait_in_one κs a x y ws us p q = (p ∙ sym q, refl)
