-- The contracts determine the outcomes: each equates the result, and what lent memory ends with, with one value. Assumes nothing.
use mathlib.Core.Path.{refl, sym, ap, ◌∙◌}
use mathlib.Core.List.{List}
use Prim.Native.Nat.{ℕ}
use Rattle.laws.specs.Determined.{OneOutcome}
use Rattle.words.proofs.word_at.Kinds as word-at-kinds
use Rattle.words.proofs.word_at.Reads as word_at
use Rattle.words.proofs.words_into.Kinds as words-into-kinds
use Rattle.words.proofs.words_into.Reads as words-into
use Rattle.words.proofs.put_words.Kinds as put-words-kinds
use Rattle.words.proofs.put_words.Reads as put-words

pub word_at_one : OneOutcome 1 word-at-kinds.ps word-at-kinds.r word_at.Post
word_at_one κs a x y ws us p q = (p ∙ sym q, refl)

pub words_into_one : OneOutcome 2 words-into-kinds.ps words-into-kinds.r words-into.Post
words_into_one κs a x y ws us p q = (refl, ap (λ (l : List ℕ). (tt, (l, tt))) (p ∙ sym q))

pub put_words_one : OneOutcome 2 put-words-kinds.ps put-words-kinds.r put-words.Post
put_words_one κs a x y ws us p q = (refl, ap (λ (l : List ℕ). (l, (tt, (tt, tt)))) (p ∙ sym q))
