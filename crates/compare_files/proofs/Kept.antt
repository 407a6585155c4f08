-- What is said of two files is what is said of their plans, and a row of the answer words is the row's answer, so that a second file that is
-- called lighter keeps the promise in the words. Assumes nothing.
use Rattle.file.specs.File.{ReadPlan, read_said, read_sheet}
use Rattle.plan.specs.declared.Sheet.{Sheet}
use mathlib.Core.Path.{◌≡◌, refl, sym, ap, ◌∙◌, subst}
use mathlib.Core.Bool.{Bool, true, false, cond}
use mathlib.Core.List.{List, ◌++◌}
use Prim.Native.Nat.{ℕ, ◌<◌}
use native.Mathlib.Omega.{arith}
use lib.Dec.{leb}
use lib.ListN.{length, length-map, get_or-map}
use Rattle.std.specs.Prelude.{Option, Some, None, Ok, Err}
use Rattle.judge.specs.Table.{Checked}
use Rattle.bound.specs.declared.Verdict.{Verdict, TheVariants.Met, TheVariants.Missed, TheVariants.None}
use Rattle.bound.specs.Terms.{Terms}
use Rattle.bound.specs.Bound.{busy, bound, answer_for as answerFrom, answer, verdict_number}
use Rattle.bound.specs.Evaluations.{searched}
use Rattle.plan.specs.declared.Sheet.{Sheet}
use Rattle.plan.specs.Plan.{Plan, plan_of, blank, at}
use Rattle.plan.specs.Rules.{terms}
use Rattle.plan.specs.Evaluations.{row_searched, searches}
use Rattle.judge.specs.Table.{judge}
use Rattle.checks.specs.Checks.{lines}
use Rattle.checks.proofs.Fine.{own_counts}
use Rattle.promise.specs.Lighter.{NotRefused, Kept}
use Rattle.file.specs.File as file
use Rattle.file.proofs.Reading.{fine_read}
use Rattle.file.proofs.RoundTrip.{plan_read, right_read}
use Rattle.carried.specs.declared.Edition.TheVariants.{Three}
use Rattle.carried.specs.Carried.{meant, plainly}
use Rattle.carried.proofs.Plans.{meant_plainly, one_sheet}
use Rattle.row_words.proofs.RowWords.{RowSays, row_says}
use Rattle.answers.specs.Answers.{Answers}
use Rattle.answers.specs.Answers.{too_few, laid_in, answer_as, answer_of}
use Rattle.answer_files.specs.AnswerFiles.{answer_read, answer_file_of}
use Rattle.answers.specs.Answers.{answer_with}
use Rattle.answers.proofs.Values.{answer_words}
use Rattle.compare.proofs.Exactly.{one_row}
use Rattle.compare.proofs.Says.{said_exactly, said_kept}
use Rattle.compare_files.specs.Files.{plan_from, compared_files, SaysLighterOfFiles, LabelsStand, KeptWords, WordsKept}

-- ---- two files
file_not_refused : (bs : List ℕ) → read_said (file.read_of bs) ≡ Ok tt → NotRefused (plan_from bs)
file_not_refused bs e =
    let f = fine_read bs e in
    let p = plan_read bs f in
    let right = own_counts f.n f.m p (right_read bs f) in
    let same : plan_from bs ≡ p = ap (λ (r : ReadPlan). plan_of (read_sheet r)) f.read ∙ one_sheet p right.within.count right.within.sources in
    subst NotRefused (sym same) right

pub said_of_files : (old new : List ℕ) → SaysLighterOfFiles old new (compared_files old new)
unfolding compared_files
said_of_files old new =
    let a = file_not_refused old in
    let b = file_not_refused new in
    record {
      is = refl;
      exactly = said_exactly (plan_from old) (plan_from new) (read_said (file.read_of old)) (read_said (file.read_of new)) a b;
      kept = said_kept (plan_from old) (plan_from new) (read_said (file.read_of old)) (read_said (file.read_of new)) a b;
    }

-- ---- the words of a row
-- the lent words begin with the plan's, where the answer is fine
as_words : (c : Checked) (n : ℕ) (p : Plan) (out : List ℕ) → (answer_as Answers c n p out).0 ≡ Ok tt → (answer_as Answers c n p out).1 ≡ laid_in Answers p n out
as_words (Ok _) n p out e = refl
as_words (Err r) n p out e = absurd (let z : ◌≡◌ {A = ℕ} 0 1 = cc in omega arith)

read_words : (c : Checked) (s : Sheet) (out : List ℕ) → (answer_read c s out).0 ≡ Ok tt
    → (answer_read c s out).1 ≡ laid_in Answers (plan_of s) s.count out
unfolding answer_of answer_with
read_words (Ok _) s out e =
    as_words (judge (lines Three s.count s.sources (plainly (plan_of s)) ++ too_few Answers s.count out)) s.count (meant (plainly (plan_of s))) out e
    ∙ ap (λ p. laid_in Answers p s.count out) (meant_plainly (plan_of s))
read_words (Err r) s out e = absurd (let z : ◌≡◌ {A = ℕ} 0 1 = cc in omega arith)

-- the words of row r are the answer to its stream
answer_said : (bs out : List ℕ) (r : ℕ) → (answer_file_of bs out).0 ≡ Ok tt → r < length (plan_from bs).streams
    → let p = plan_from bs in RowSays (answer_file_of bs out).1 r (row_searched p (at p r))
unfolding answer_file_of
answer_said bs out r e h =
    let p = plan_from bs in
    rw (read_words (read_said (file.read_of bs)) (read_sheet (file.read_of bs)) out e, answer_words p, ← get_or-map (row_searched p) p.streams r blank)
    (row_says (searches p) _ (row_searched p blank) r (omega (arith, length-map p.streams (row_searched p))))

-- ---- what the words of an answer say
met_number : (v : Verdict) → verdict_number v ≡ 0 → v ≡ Met
met_number Met e = refl
met_number Missed e = absurd (omega arith)
met_number None e = absurd (omega arith)

not_none : (t : Bool) → verdict_number (cond t Met Missed) ≡ 2 → ⊥
not_none true e = omega arith
not_none false e = omega arith

-- an answer that is not "none" has a busy period, and its bound
bound_said : (t : Terms) (D : ℕ) → (verdict_number (answer t D).verdict ≡ 2 → ⊥) → (L : ℕ) × (busy t ≡ Some L) × ((answer t D).bound ≡ bound t L)
unfolding answer
bound_said t D = go (busy t)
  where
    go : (f : Option ℕ) → (verdict_number (answerFrom t D f).verdict ≡ 2 → ⊥) → (L : ℕ) × (f ≡ Some L) × ((answerFrom t D f).bound ≡ bound t L)
    go (Some L) n = (L, refl, refl)
    go None n = absurd (n refl)

-- .. and one that has a busy period is not "none"
says_bound : (t : Terms) (D L : ℕ) → busy t ≡ Some L → (verdict_number (answer t D).verdict ≡ 2 → ⊥) × ((answer t D).bound ≡ bound t L)
unfolding answer
says_bound t D L e = rw e (not_none (leb (bound t L) D), refl)

-- ---- a promise that is kept is kept in the words
kept_words : (old new : Plan) (before after : List ℕ) (k r : ℕ) → Kept old new k r
    → RowSays before r (row_searched old (at old r)) → RowSays after k (row_searched new (at new k)) → KeptWords before r after k
unfolding searched
kept_words old new before after k r kept b a =
    record {
      bound = λ some.
          let (L, e, x) = bound_said (terms old (at old r)) (at old r).deadline (λ n. some (b.verdict ∙ n)) in
          let (K, d, less) = kept.bound L e in
          let (still, y) = says_bound (terms new (at new k)) (at new k).deadline K d in
          (λ n. still (sym a.verdict ∙ n), omega (arith, b.bound, a.bound));
      met = λ m. a.verdict ∙ ap verdict_number (kept.met (met_number _ (sym b.verdict ∙ m)));
    }

pub labels_stand : LabelsStand
labels_stand old new e k h =
    let (f, g, l) = (said_of_files old new).exactly.0 e in
    let s = l.stands k h in
    (l.row k h, s.among, s.label)

pub words_kept : WordsKept
words_kept old new out out' e x y k r h i d =
    let s = said_of_files old new in
    let (f, g, l) = s.exactly.0 e in
    let q = l.stands k h in
    let same : l.row k h ≡ r = one_row (plan_from old) (file_not_refused old f) (l.row k h) r q.among i (sym q.label ∙ d) in
    kept_words (plan_from old) (plan_from new) (answer_file_of old out).1 (answer_file_of new out').1 k r
    (rw same at (s.kept e l k h)) (answer_said old out r x i) (answer_said new out' k y h)
