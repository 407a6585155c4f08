-- What is done with the plan that was read of a file may be done by its edition, the counts and the words as they stand, without a sheet. Assumes nothing.
use Rattle.file.specs.File.{read_said, read_sheet, counts_said}
use mathlib.Core.Path.{◌≡◌, refl, sym, ap, ap₂, ◌∙◌}
use mathlib.Core.List.{List}
use Prim.Native.Nat.{ℕ}
use native.Mathlib.Omega.{arith}
use lib.ListN.{drop, replicate}
use Rattle.names.specs.declared.Refusal.{Refusal}
use Rattle.words.specs.Words.{words_of}
use Rattle.plan.specs.declared.Sheet.{Sheet}
use Rattle.plan.specs.Plan.{Plan, plan_of}
use Rattle.carried.specs.declared.Edition.{Edition, TheVariants.Three}
use Rattle.carried.specs.Layout as layout
use Rattle.carried.specs.Carried.{Entered, meant, plainly, entered_in, sheet_of}
use Rattle.carried.proofs.Plans.{one_sheet}
use Rattle.std.specs.Prelude.{Ok, Err}
use Rattle.judge.specs.Table.{Checked}
use Rattle.judge.specs.Table.{judge}
use Rattle.checks.specs.Checks.{lines}
use Rattle.file.specs.File.{entered_at, plan_at, carried_of, read_as, read_of, counts_of}
use Rattle.file.proofs.Bodies.{length_at}
use Rattle.file.proofs.Reading.{counts_refused, counts_are, counts_right, counts_entered}

-- `read` is what is done with an answer and its sheet: by the counts and the plan where it is fine, as entered in edition 3, and else by the
-- refusal alone; and what is fine is done alike in every edition, and with a LAG as with none
module _ {A : Type 0} (read : Checked → Sheet → A) (no : Refusal → A) (by : Edition → ℕ → ℕ → Entered → A)
    (fine : (s : Sheet) → read (Ok tt) s ≡ by Three s.count s.sources (plainly (plan_of s))) (not : (r : Refusal) (s : Sheet) → read (Err r) s ≡ no r)
    (refused : (edition : Edition) (n m : ℕ) (v : Entered) (r : Refusal) → judge (lines edition n m v) ≡ Err r → by edition n m v ≡ no r)
    (alike : (edition : Edition) (n m : ℕ) (v : Entered) → judge (lines edition n m v) ≡ Ok tt → by Three n m (plainly (meant v)) ≡ by edition n m v) where
  pub not_counted : (bs : List ℕ) (r : Refusal) → counts_of bs ≡ Err r → read (read_said (read_of bs)) (read_sheet (read_of bs)) ≡ no r
  not_counted bs r e = ap (λ f. read (read_said f) (read_sheet f)) (counts_refused bs r e) ∙ not r _

  module _ (bs : List ℕ) (edition : Edition) (n m : ℕ) (e : counts_of bs ≡ counts_said edition n m) where
    abbrev v : Entered
    v = entered_at edition n m bs

    abbrev p : Plan
    p = plan_at edition n m bs

    own : judge (lines edition n m v) ≡ Ok tt → read (Ok tt) (sheet_of p) ≡ by edition n m v
    own d =
        let (n-is, m-is) = length_at edition n m (drop layout.contents_length (words_of bs)) in
        let (some, few, quiet) = counts_right bs edition n m e in
        let sheet : plan_of (sheet_of p) ≡ p = one_sheet p (omega (arith, n-is, few)) (omega (arith, m-is, quiet)) in
        fine (sheet_of p) ∙ ap₂ (λ i j. by Three i j (plainly (plan_of (sheet_of p)))) n-is m-is ∙ ap (λ q. by Three n m (plainly q)) sheet ∙ alike edition n m v d

    as_read : (c : Checked) → judge (lines edition n m v) ≡ c → read (read_said (read_as c p)) (read_sheet (read_as c p)) ≡ by edition n m v
    as_read (Ok _) d = own d
    as_read (Err r) d = not r _ ∙ sym (refused edition n m v r d)

    pub by_words : {ws : List ℕ} → ws ≡ carried_of bs (replicate layout.largest 0) → read (read_said (read_of bs)) (read_sheet (read_of bs)) ≡ by edition n m (entered_in n m ws)
    by_words d =
        ap (λ f. read (read_said f) (read_sheet f)) (counts_are bs edition n m e) ∙ as_read (judge (lines edition n m v)) refl
        ∙ ap (by edition n m) (sym (counts_entered bs edition n m e d))
