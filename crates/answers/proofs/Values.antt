-- The outcome of a sheet, by its counts and its plan. Assumes nothing.
use mathlib.Core.Path.{◌≡◌, refl, sym, ap, ◌∙◌}
use mathlib.Core.List.{List, [], ◌∷◌, ◌++◌, map, map-map, flat_map}
use Prim.Native.Nat.{ℕ, ◌*◌, ◌≤◌}
use lib.ListN.{length, drop, length-map}
use Rattle.bound.specs.Evaluations.{searched}
use Rattle.row_words.specs.RowWords.{row_words, words_per_row, wait_words, words_per_wait, answers_in, evaluations_in, waits_in}
use Rattle.row_words.proofs.RowWords.{rows_read_back, waits_read_back}
use Rattle.plan.specs.Plan.{Plan, plan_of}
use Rattle.plan.specs.declared.Sheet.{Sheet}
use Rattle.plan.specs.declared.Stream.{Stream}
use Rattle.plan.specs.Evaluations.{row_searched, searches, row_wait, waits}
use Rattle.carried.specs.declared.Edition.TheVariants.{Three}
use Rattle.carried.specs.Carried.{plainly}
use Rattle.carried.proofs.Plans.{meant_plainly}
use Rattle.checks.specs.Checks.{checked_of}
use Rattle.checks.proofs.Fine.{fine_within}
use Rattle.std.specs.Prelude.{Ok}
use Rattle.answers.specs.Answers.{Told, Answers, Waits}
use Rattle.answers.specs.Answers.{told_words, per_row, laid_in, answer_with, answer_of, RowsAnswered, WaitsAnswered, SheetAnswered}
use Rattle.answers.proofs.Outcome as outcome

-- the words of a sheet that is fine are its plan's, and there are as many streams as it counts
module _ (s : Sheet) (e : checked_of s ≡ Ok tt) where
  words_of : (told : Told) (out : List ℕ) → per_row told * s.count ≤ length out → (answer_of told s out).1 ≡ laid_in told (plan_of s) s.count out
  unfolding checked_of answer_of
  words_of told out h =
      ap (λ o. o.1) (outcome.words_are told Three s.count s.sources (plainly (plan_of s)) out e h)
      ∙ ap (λ p. laid_in told p s.count out) (meant_plainly (plan_of s))

  as_many : {A : Type 0} (f : Stream → A) → length (map f (plan_of s).streams) ≡ s.count
  as_many f = length-map (plan_of s).streams f ∙ (fine_within s e).1

-- the words of each stream are those of what is told of all
told_map : {A B C : Type 0} (f : B → List C) (g : A → B) (l : List A) → flat_map (λ a. f (g a)) l ≡ flat_map f (map g l)
unfolding flat_map
told_map f g [] = refl
told_map f g (x ∷ l) = ap (λ r. f (g x) ++ r) (told_map f g l)

pub answer_words : (p : Plan) → told_words Answers p ≡ flat_map row_words (searches p)
answer_words p = told_map row_words (row_searched p) p.streams

wait_words_lem : (p : Plan) → told_words Waits p ≡ flat_map wait_words (waits p)
wait_words_lem p = told_map wait_words (row_wait p) p.streams

pub rows_answered : RowsAnswered
unfolding searched
rows_answered s out e h =
    let p = plan_of s in
    let after = drop (words_per_row * s.count) out in
    let (a, b) = rows_read_back (searches p) after in
    let laid = words_of s e Answers out h ∙ ap (λ l. l ++ after) (answer_words p) in
    let many = sym (as_many s e (row_searched p)) in (
      ap (answers_in s.count) laid ∙ ap (λ j. answers_in j (flat_map row_words (searches p) ++ after)) many ∙ a ∙ map-map (λ x. x.answer) (row_searched p) p.streams,
      ap (evaluations_in s.count) laid ∙ ap (λ j. evaluations_in j (flat_map row_words (searches p) ++ after)) many ∙ b ∙ map-map (λ x. x.evaluations) (row_searched p) p.streams,
    )

pub waits_answered : WaitsAnswered
waits_answered s out e h =
    let p = plan_of s in
    let after = drop (words_per_wait * s.count) out in
    ap (waits_in s.count) (words_of s e Waits out h ∙ ap (λ l. l ++ after) (wait_words_lem p))
    ∙ ap (λ j. waits_in j (flat_map wait_words (waits p) ++ after)) (sym (as_many s e (row_wait p)))
    ∙ waits_read_back (waits p) after

-- ---- a sheet is answered by its counts and its plan
pub sheet_answered : SheetAnswered
unfolding answer_of
sheet_answered told p s e out = λ i. answer_with told Three (e.count i) (e.sources i) (plainly (e.plan i)) out
