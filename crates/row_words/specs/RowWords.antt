-- How a row's answer is laid into words, and how it is read from them; and its wait.
use Rattle.std.specs.Prelude.{◌≡◌, Bool, cond, true, ℕ, ◌+◌, ◌*◌, ◌/◌, ltb, eqb, length, take, drop, get_or}
use mathlib.Core.List.{List, [], ◌∷◌, ◌++◌, map, flat_map}
use Rattle.laws.specs.Lists.{rows}
use Rattle.bound.specs.declared.Verdict.{Verdict, TheVariants.Met, TheVariants.Missed, TheVariants.None}
use Rattle.bound.specs.declared.Answer.{Answer}
use Rattle.bound.specs.declared.Searched.{Searched}
use Rattle.bound.specs.declared.Wait.{Wait}
use Rattle.bound.specs.Bound.{verdict_number}

-- the words of a row: the verdict (0 met, 1 missed, 2 none), the bound and the worst instance (both 0 for none), and the number of evaluations
abbrev pub row_words : Searched → List ℕ
row_words s = verdict_number s.answer.verdict ∷ s.answer.bound ∷ s.answer.instance ∷ s.evaluations ∷ []

-- how many these are
abbrev pub words_per_row : ℕ
words_per_row = 4

-- the words of a row's wait: the number of evaluations, and the most that there can be
abbrev pub wait_words : Wait → List ℕ
wait_words w = w.evaluations ∷ w.limit ∷ []

abbrev pub words_per_wait : ℕ
words_per_wait = 2

-- with w words a row: all words of row k are there
abbrev pub has_row : ℕ → List ℕ → ℕ → Bool
has_row w ws k = ltb k (length ws / w)

-- words with those of row k in their place; as they were where there is no room for all of them
unfoldable pub with_row : ℕ → List ℕ → ℕ → List ℕ → List ℕ
with_row w ws k row = cond (has_row w ws k) (take (w * k) ws ++ row ++ drop (w * k + w) ws) ws

-- what stands in the words of row k
abbrev pub verdict_at : List ℕ → ℕ → ℕ
verdict_at ws k = get_or ws (words_per_row * k) 0

abbrev pub bound_at : List ℕ → ℕ → ℕ
bound_at ws k = get_or ws (words_per_row * k + 1) 0

abbrev pub instance_at : List ℕ → ℕ → ℕ
instance_at ws k = get_or ws (words_per_row * k + 2) 0

abbrev pub evaluations_at : List ℕ → ℕ → ℕ
evaluations_at ws k = get_or ws (words_per_row * k + 3) 0

-- a verdict from its number
abbrev pub verdict_of_number : ℕ → Verdict
verdict_of_number v = cond (eqb v 0) Met (cond (eqb v 1) Missed None)

-- the answer at row k; none where its words are not all there
unfoldable pub answer_at : List ℕ → ℕ → Answer
answer_at ws k =
    cond (has_row words_per_row ws k)
    (record { verdict = verdict_of_number (verdict_at ws k); bound = bound_at ws k; instance = instance_at ws k })
    (record { verdict = None; bound = 0; instance = 0 })

-- the wait at row k; 0 and 0 where its words are not all there, since no row has a limit of 0
unfoldable pub wait_at : List ℕ → ℕ → Wait
wait_at ws k =
    cond (has_row words_per_wait ws k)
    (record { evaluations = get_or ws (words_per_wait * k) 0; limit = get_or ws (words_per_wait * k + 1) 0 })
    (record { evaluations = 0; limit = 0 })

-- of the first n rows: the answers, the numbers of evaluations, and the waits
abbrev pub answers_in : ℕ → List ℕ → List Answer
answers_in n ws = rows n (answer_at ws)

abbrev pub evaluations_in : ℕ → List ℕ → List ℕ
evaluations_in n ws = rows n (evaluations_at ws)

abbrev pub waits_in : ℕ → List ℕ → List Wait
waits_in n ws = rows n (wait_at ws)

-- ---- What is proved of a row's words; the proofs are in proofs/RowWords.antt.

-- an answer that was put is read back, and so is the number of its evaluations, and a wait, ..
abbrev pub ReadBack : Type 0
ReadBack =
    (ws : List ℕ) (k : ℕ) (s : Searched) → has_row words_per_row ws k ≡ true
    → let after = with_row words_per_row ws k (row_words s) in (answer_at after k ≡ s.answer) × (evaluations_at after k ≡ s.evaluations)

abbrev pub WaitReadBack : Type 0
WaitReadBack = (ws : List ℕ) (k : ℕ) (w : Wait) → has_row words_per_wait ws k ≡ true → wait_at (with_row words_per_wait ws k (wait_words w)) k ≡ w

-- .. and so are the rows of a plan, one after the other, whatever stands after them
abbrev pub RowsReadBack : Type 0
RowsReadBack =
    (l : List Searched) (after : List ℕ)
    → let ws = flat_map row_words l ++ after in
    (answers_in (length l) ws ≡ map (λ s. s.answer) l) × (evaluations_in (length l) ws ≡ map (λ s. s.evaluations) l)

abbrev pub WaitsReadBack : Type 0
WaitsReadBack = (l : List Wait) (after : List ℕ) → waits_in (length l) (flat_map wait_words l ++ after) ≡ l
