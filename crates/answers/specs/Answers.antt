-- The answers, or the waits, of what is entered into lent memory, and the refusals that go with them.
use Rattle.std.specs.Prelude.{◌≡◌, ℕ, ◌*◌, ◌≤◌, leb, length, drop}
use mathlib.Core.List.{List, [], ◌∷◌, ◌++◌, map, flat_map}
use Rattle.std.specs.Prelude.{Ok, Err}
use Rattle.judge.specs.Table.{Checked}
use Rattle.judge.specs.Table.{Line, judge, unless}
use Rattle.bound.specs.Evaluations.{evaluations}
use Rattle.row_words.specs.RowWords.{row_words, words_per_row, wait_words, words_per_wait, answers_in, evaluations_in, waits_in}
use Rattle.plan.specs.declared.Sheet.{Sheet}
use Rattle.plan.specs.Plan.{Plan, plan_of}
use Rattle.plan.specs.Rules.{terms, answers}
use Rattle.plan.specs.declared.Stream.{Stream}
use Rattle.plan.specs.Evaluations.{row_searched, row_wait, waits}
use Rattle.carried.specs.declared.Edition.{Edition, TheVariants.Three}
use Rattle.carried.specs.Carried.{Entered, meant, plainly}
use Rattle.checks.specs.Checks.{lines, checked_of}

-- what is told of each row: its answer, or how long the search for it may take
pub data Told : Type 0 where
  Answers : Told
  Waits : Told

-- the words of a stream: those of its answer, or of its wait, ..
abbrev pub words_of : Told → Plan → Stream → List ℕ
words_of Answers p i = row_words (row_searched p i)
words_of Waits p i = wait_words (row_wait p i)

-- .. and how many these are
abbrev pub per_row : Told → ℕ
per_row Answers = words_per_row
per_row Waits = words_per_wait

-- the words of a plan's streams, in file order
abbrev pub told_words : Told → Plan → List ℕ
told_words told p = flat_map (words_of told p) p.streams

-- 6: the lent memory is too small for the words of n rows
abbrev pub too_few : Told → ℕ → List ℕ → List Line
too_few told n out = record { number = 6; place = unless (leb (per_row told * n) (length out)) } ∷ []

-- lent words with those of a plan's n rows at the start, and the rest as found
abbrev pub laid_in : Told → Plan → ℕ → List ℕ → List ℕ
laid_in told p n out = told_words told p ++ drop (per_row told * n) out

-- the answer, and the lent words after it: with the rows' at the start, or all as found
abbrev pub answer_as : Told → Checked → ℕ → Plan → List ℕ → Checked × List ℕ
answer_as told (Ok _) n p out = (Ok tt, laid_in told p n out)
answer_as told (Err r) n p out = (Err r, out)

-- of what is entered in a file of an edition and said to be n streams and m gaps: the lines of its values, then 6; it is the plan that is
-- meant that is answered
unfoldable pub answer_with : Told → Edition → ℕ → ℕ → Entered → List ℕ → Checked × List ℕ
answer_with told edition n m v out = answer_as told (judge (lines edition n m v ++ too_few told n out)) n (meant v) out

-- of a sheet: by its counts and its plan, with the places of edition 3
unfoldable pub answer_of : Told → Sheet → List ℕ → Checked × List ℕ
answer_of told s out = answer_with told Three s.count s.sources (plainly (plan_of s)) out

-- ---- What is proved of the answers of values; the proofs are in proofs/Values.antt.

-- where a sheet is fine and there is room, its words say of every row the rules' answer and the number of evaluations, ..
abbrev pub RowsAnswered : Type 0
RowsAnswered =
    (s : Sheet) (out : List ℕ) → checked_of s ≡ Ok tt → words_per_row * s.count ≤ length out
    → let ws = (answer_of Answers s out).1 in
    let p = plan_of s in
    (answers_in s.count ws ≡ answers p) × (evaluations_in s.count ws ≡ map (λ i. evaluations (terms p i)) p.streams)

-- .. or that number and its limit
abbrev pub WaitsAnswered : Type 0
WaitsAnswered =
    (s : Sheet) (out : List ℕ) → checked_of s ≡ Ok tt → words_per_wait * s.count ≤ length out
    → waits_in s.count (answer_of Waits s out).1 ≡ waits (plan_of s)

-- s is a sheet of the plan p: its unused places may hold anything
pub record SheetOf (s : Sheet) (p : Plan) : Type 0 where
  pub plan : plan_of s ≡ p
  pub count : s.count ≡ length p.streams
  pub sources : s.sources ≡ length p.gaps

-- each sheet of a plan is answered as the plan is when it is entered, and so alike
abbrev pub SheetAnswered : Type 0
SheetAnswered =
    (told : Told) (p : Plan) (s : Sheet) → SheetOf s p → (out : List ℕ)
    → answer_of told s out ≡ answer_with told Three (length p.streams) (length p.gaps) (plainly p) out
