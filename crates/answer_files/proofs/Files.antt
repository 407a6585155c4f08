-- The outcome of a file, by its counts and its words. Assumes nothing.
use Rattle.file.specs.File.{counts_said}
use mathlib.Core.Path.{◌≡◌, refl}
use mathlib.Core.List.{List}
use Prim.Native.Nat.{ℕ}
use lib.ListN.{replicate}
use Rattle.names.specs.declared.Refusal.{Refusal}
use Rattle.std.specs.Prelude.{Err}
use Rattle.judge.specs.Table.{Checked}
use Rattle.carried.specs.declared.Edition.{Edition}
use Rattle.carried.specs.Layout as layout
use Rattle.carried.specs.Carried.{entered_in}
use Rattle.file.specs.File.{counts_of, carried_of}
use Rattle.file.proofs.Carried.{not_counted, by_words}
use Rattle.answers.specs.Answers.{Answers}
use Rattle.answers.specs.Answers.{answer_with, answer_of}
use Rattle.answers.proofs.Outcome as outcome
use Rattle.answer_files.specs.AnswerFiles.{answer_read, answer_file_of}

module _ (bs out : List ℕ) where
  abbrev no : Refusal → Checked × List ℕ
  no r = (Err r, out)

  -- whose contents are refused
  pub file_refused : (r : Refusal) → counts_of bs ≡ Err r → answer_file_of bs out ≡ (Err r, out)
  unfolding answer_of answer_file_of
  file_refused r e =
      not_counted (λ c s. answer_read c s out) no (λ x n m p. answer_with Answers x n m p out) (λ s. refl) (λ r s. refl) (λ x n m p. outcome.refused_is Answers x n m p out) (outcome.answered_alike Answers out) bs r e

  -- whose contents say the edition, n streams and m gaps, by its words
  pub file_is : (x : Edition) (n m : ℕ) → counts_of bs ≡ counts_said x n m → {ws : List ℕ} → ws ≡ carried_of bs (replicate layout.largest 0)
      → answer_file_of bs out ≡ answer_with Answers x n m (entered_in n m ws) out
  unfolding answer_of answer_file_of
  file_is x n m e d =
      by_words (λ c s. answer_read c s out) no (λ x n m p. answer_with Answers x n m p out) (λ s. refl) (λ r s. refl) (λ x n m p. outcome.refused_is Answers x n m p out) (outcome.answered_alike Answers out) bs x n m e d
