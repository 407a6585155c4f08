-- The answer to two files: which is refused, or that the plan in the second is lighter, or why it is to be run again.
use Rattle.std.specs.Prelude.{Ok}
use Rattle.file.specs.File.{read_said, read_sheet}
use Rattle.std.specs.Prelude.{◌≡◌, List, ◌↔◌, ℕ, ◌≤◌, ◌<◌, length}
use Rattle.std.specs.Prelude.{Ok}
use Rattle.row_words.specs.RowWords.{verdict_at, bound_at}
use Rattle.plan.specs.Plan.{Plan, plan_of, at}
use Rattle.promise.specs.Lighter.{Namesakes, Lighter, Kept}
use Rattle.compare.specs.declared.Compared.{Compared, TheVariants.Lighter as Compared-as-Lighter}
use Rattle.compare.specs.Changes.{changes, compared_as}
use Rattle.file.specs.File.{read_of}
use Rattle.answer_files.specs.AnswerFiles.{answer_file_of}

-- the plan in a file
abbrev pub plan_from : List ℕ → Plan
plan_from bytes = plan_of (read_sheet (read_of bytes))

unfoldable pub compared_files : List ℕ → List ℕ → Compared
compared_files old new = compared_as (read_said (read_of old)) (read_said (read_of new)) (changes (plan_from old) (plan_from new))

-- ---- What is proved of two files; the proofs are in proofs/Kept.antt.

-- what is said of two files, as of two sheets: that the second is lighter is said exactly if neither is refused and it is; and then each of
-- its streams stands in the first and keeps its promise
pub record SaysLighterOfFiles (old new : List ℕ) (r : Compared) : Type 0 where
  pub is : r ≡ compared_files old new
  pub exactly : (r ≡ Compared-as-Lighter) ↔ ((read_said (read_of old) ≡ Ok tt) × (read_said (read_of new) ≡ Ok tt) × Lighter (plan_from old) (plan_from new))
  pub kept : r ≡ Compared-as-Lighter → (l : Lighter (plan_from old) (plan_from new)) (k : ℕ) (h : k < length (plan_from new).streams)
      → Kept (plan_from old) (plan_from new) k (l.row k h)

-- ---- end to end: the answer words of two files, the second of which is called lighter

-- each label of the second stands in the first, ..
abbrev pub LabelsStand : Type 0
LabelsStand =
    (old new : List ℕ) → compared_files old new ≡ Compared-as-Lighter → (k : ℕ) → k < length (plan_from new).streams
    → (r : ℕ) × (r < length (plan_from old).streams) × Namesakes (at (plan_from new) k) (at (plan_from old) r)

-- row k of the second answers keeps what row r of the first promised: a bound stays, no larger, and 0 stays 0
pub record KeptWords (before : List ℕ) (r : ℕ) (after : List ℕ) (k : ℕ) : Type 0 where
  pub bound : (verdict_at before r ≡ 2 → ⊥) → (verdict_at after k ≡ 2 → ⊥) × (bound_at after k ≤ bound_at before r)
  pub met : verdict_at before r ≡ 0 → verdict_at after k ≡ 0

-- .. and every row keeps what its label's row in the first promised, whatever memory was lent for the answers
abbrev pub WordsKept : Type 0
WordsKept =
    (old new out out' : List ℕ) → compared_files old new ≡ Compared-as-Lighter
    → (answer_file_of old out).0 ≡ Ok tt
    → (answer_file_of new out').0 ≡ Ok tt
    → (k r : ℕ) → k < length (plan_from new).streams
    → r < length (plan_from old).streams
    → Namesakes (at (plan_from new) k) (at (plan_from old) r)
    → KeptWords (answer_file_of old out).1 r (answer_file_of new out').1 k
