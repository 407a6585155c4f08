-- The answers of a plan file into lent memory.
use Rattle.file.specs.File.{read_said, read_sheet}
use Rattle.std.specs.Prelude.{◌≡◌, List, ℕ, ◌^◌, ◌≤◌, length}
use Rattle.names.specs.Limits.{streams, sources}
use Rattle.words.specs.Words.{Below}
use Rattle.std.specs.Prelude.{Ok, Err}
use Rattle.judge.specs.Table.{Checked}
use Rattle.plan.specs.declared.Sheet.{Sheet}
use Rattle.carried.specs.declared.Edition.TheVariants.{Three}
use Rattle.carried.specs.Carried.{Entered}
use Rattle.file.specs.File.{read_of, file_words, entered_file}
use Rattle.answers.specs.Answers.{Answers}
use Rattle.answers.specs.Answers.{answer_with, answer_of}

-- a refused file is refused, and what was read is answered
abbrev pub answer_read : Checked → Sheet → List ℕ → Checked × List ℕ
answer_read (Ok _) s out = answer_of Answers s out
answer_read (Err r) s out = (Err r, out)

unfoldable pub answer_file_of : List ℕ → List ℕ → Checked × List ℕ
answer_file_of bs out = answer_read (read_said (read_of bs)) (read_sheet (read_of bs)) out

-- ---- What is proved of the answers of a file; the proof is in proofs/Alike.antt.

-- the file of whatever is entered is answered as the values are: the same answers, or the same refusal at the same place
abbrev pub FileAlike : Type 0
FileAlike =
    (v : Entered) → length v.streams ≤ streams → length v.gaps ≤ sources → Below (2 ^ 32) (file_words v)
    → (out : List ℕ) → answer_file_of (entered_file v) out ≡ answer_with Answers Three (length v.streams) (length v.gaps) v out
