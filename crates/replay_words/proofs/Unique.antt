-- The public contracts determine their outcomes, lent memory included.
use mathlib.Core.Path.{refl, ◌∙◌, sym, ap}
use mathlib.Core.List.{List}
use Prim.Native.Nat.{ℕ}
use Rattle.laws.specs.Determined.{OneOutcome}
use Rattle.replay_words.proofs.replay.Kinds as replay-kinds
use Rattle.replay_words.proofs.replay.Reads as replay
use Rattle.replay_words.proofs.has_word.Kinds as has-word-kinds
use Rattle.replay_words.proofs.has_word.Reads as has_word
use Rattle.replay_words.proofs.first_end.Kinds as first-end-kinds
use Rattle.replay_words.proofs.first_end.Reads as first-end

pub replay_one : OneOutcome 2 replay-kinds.ps replay-kinds.r replay.Post
replay_one κs a x y ws us p q = (p.0 ∙ sym q.0, ap (λ (l : List ℕ). (tt, (l, tt))) (p.1 ∙ sym q.1))

pub has_word_one : OneOutcome 1 has-word-kinds.ps has-word-kinds.r has_word.Post
has_word_one κs a x y ws us p q = (p ∙ sym q, refl)

pub first_end_one : OneOutcome 1 first-end-kinds.ps first-end-kinds.r first-end.Post
first_end_one κs a x y ws us p q = (p ∙ sym q, refl)
