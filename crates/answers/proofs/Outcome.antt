-- The outcome of telling: a plan that is refused, memory that is too small, the rows' words; and the same of a sheet, by its words. Assumes nothing.
use mathlib.Core.Path.{◌≡◌, refl, sym, ap, ◌∙◌}
use mathlib.Core.List.{List, [], ◌++◌}
use Prim.Native.Nat.{ℕ, ◌*◌, ◌≤◌, ◌<◌}
use borrow.Author.Tests.{le-leb, lt-leb}
use lib.ListN.{length}
use Rattle.names.specs.declared.Refusal.{Refusal}
use Rattle.plan.specs.declared.Sheet.{Sheet}
use Rattle.plan.specs.Plan.{plan_of}
use Rattle.std.specs.Prelude.{Ok, Err}
use Rattle.judge.specs.Table.{Checked}
use Rattle.judge.specs.Table.{judge, unless}
use Rattle.carried.specs.declared.Edition.{Edition, TheVariants.Three}
use Rattle.carried.specs.Carried.{Entered, meant, plainly}
use Rattle.carried.proofs.Plans.{meant_plainly}
use Rattle.checks.specs.Checks.{lines}
use Rattle.judge.proofs.Table.{given, passed, nothing_given, fine_then, refused_then}
use Rattle.checks.proofs.Fine.{fine_when_meant}
use Rattle.checks.proofs.Words.{entered_in_words, same_lines, same_entered_if_fine}
use Rattle.plan.proofs.Places.{Owned}
use Rattle.answers.specs.Answers.{Told}
use Rattle.answers.specs.Answers.{per_row, too_few, laid_in, answer_as, answer_with}

module _ (told : Told) (edition : Edition) (n m : ℕ) (v : Entered) (out : List ℕ) where
  pub refused_is : (r : Refusal) → judge (lines edition n m v) ≡ Err r → answer_with told edition n m v out ≡ (Err r, out)
  unfolding answer_with
  refused_is r e = ap (λ k. answer_as told k n (meant v) out) (refused_then (lines edition n m v) (too_few told n out) r e)

  module _ (e : judge (lines edition n m v) ≡ Ok tt) where
    pub too_few_is : length out < per_row told * n → answer_with told edition n m v out ≡ (Err (record { number = 6; place = 0 }), out)
    unfolding answer_with
    too_few_is h =
        ap (λ k. answer_as told k n (meant v) out) (fine_then (lines edition n m v) (too_few told n out) e ∙ given _ [] 0 (ap unless (lt-leb _ _ h)))

    pub words_are : per_row told * n ≤ length out → answer_with told edition n m v out ≡ (Ok tt, laid_in told (meant v) n out)
    unfolding answer_with
    words_are h =
        ap (λ k. answer_as told k n (meant v) out) (fine_then (lines edition n m v) (too_few told n out) e ∙ passed _ [] (ap unless (le-leb _ _ h)) ∙ nothing_given)

-- what is fine is answered alike, in whatever edition it was read, and with a LAG as its plan with none
pub answered_alike : (told : Told) (out : List ℕ) (edition : Edition) (n m : ℕ) (v : Entered) → judge (lines edition n m v) ≡ Ok tt
    → answer_with told Three n m (plainly (meant v)) out ≡ answer_with told edition n m v out
unfolding answer_with
answered_alike told out edition n m v e =
    let w = plainly (meant v) in
    ap (λ k. answer_as told k n (meant w) out) (fine_then (lines Three n m w) (too_few told n out) (fine_when_meant edition n m v e) ∙ sym (fine_then (lines edition n m v) (too_few told n out) e))
    ∙ ap (λ p. answer_as told (judge (lines edition n m v ++ too_few told n out)) n p out) (meant_plainly (meant v))

-- ---- a sheet, by its words
module _ (told : Told) (s : Sheet) (o : Owned s) (out : List ℕ) where
  abbrev plain : Entered
  plain = plainly (plan_of s)

  pub same_answer : answer_with told Three s.count s.sources (entered_in_words s o) out ≡ answer_with told Three s.count s.sources plain out
  unfolding answer_with
  same_answer = ap (λ k. answer_as told k s.count (meant (entered_in_words s o)) out) (same_lines s o (too_few told s.count out)) ∙ go (judge (lines Three s.count s.sources plain ++ too_few told s.count out)) refl
    where
      go : (k : Checked) → judge (lines Three s.count s.sources plain ++ too_few told s.count out) ≡ k → answer_as told k s.count (meant (entered_in_words s o)) out ≡ answer_as told k s.count (meant plain) out
      go (Ok _) e = ap (λ v. answer_as told (Ok tt) s.count (meant v) out) (same_entered_if_fine s o (too_few told s.count out) e)
      go (Err r) e = refl
