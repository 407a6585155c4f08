-- What was read and fine is answered row by row, and its answers, or its waits, are listed. Assumes nothing.
use mathlib.Core.Path.{◌≡◌, sym, ap, ◌∙◌}
use mathlib.Core.List.{List}
use Prim.Native.Nat.{ℕ, ◌*◌, ◌≤◌}
use native.Mathlib.Omega.{arith}
use lib.ListN.{replicate}
use Rattle.names.specs.Limits.{streams}
use Rattle.row_words.specs.RowWords.{words_per_row, words_per_wait}
use Rattle.plan.specs.Plan.{plan_of}
use Rattle.std.specs.Prelude.{Result, Ok, Err}
use Rattle.names.specs.declared.Refusal.{Refusal}
use Rattle.plan.specs.declared.Sheet.{Sheet}
use Rattle.checks.specs.Checks.{checked_of}
use Rattle.file.specs.File.{read_of, read_said, read_sheet}
use Rattle.answers.specs.Answers.{Answers, Waits}
use Rattle.answers.specs.Answers.{answer_of}
use Rattle.text.specs.Listing.{listing_of, listing_in, refused_of}
use Rattle.wait_lines.specs.Lines.{lines_of, lines_in}
use Rattle.desk.specs.Desk.{shown_as, waits_as, refusal_as, shown, shown_waits, shown_refusal}
use Rattle.checks.proofs.Fine.{fine_within}
use Rattle.file.proofs.Reading.{fine_read}
use Rattle.file.proofs.RoundTrip.{sheet_fine}
use Rattle.answers.proofs.Values.{rows_answered, waits_answered}

-- a file that is fine holds a sheet that is fine
read_checked : (bs : List ℕ) → read_said (read_of bs) ≡ Ok tt → checked_of (read_sheet (read_of bs)) ≡ Ok tt
read_checked bs e =
    let f = fine_read bs e in
    ap (λ (r : Result Sheet Refusal). checked_of (read_sheet r)) f.read ∙ sheet_fine bs f

-- what is shown of a file, by what is read of it
module _ (bs : List ℕ) where
  listed : (r : Result Sheet Refusal) → read_of bs ≡ r → shown_as (read_said r) (plan_of (read_sheet r)) ≡ shown bs
  unfolding shown
  listed r e = sym (ap (λ (x : Result Sheet Refusal). shown_as (read_said x) (plan_of (read_sheet x))) e)

  waited : (r : Result Sheet Refusal) → read_of bs ≡ r → waits_as (read_said r) (plan_of (read_sheet r)) ≡ shown_waits bs
  unfolding shown_waits
  waited r e = sym (ap (λ (x : Result Sheet Refusal). waits_as (read_said x) (plan_of (read_sheet x))) e)

  pub told_fine : (r : Result Sheet Refusal) → read_of bs ≡ r → refusal_as (read_said r) ≡ shown_refusal bs
  unfolding shown_refusal
  told_fine r e = sym (ap (λ (x : Result Sheet Refusal). refusal_as (read_said x)) e)

  -- a refusal, ..
  pub not_listed : (r : Refusal) → read_of bs ≡ Err r → refused_of r ≡ shown bs
  not_listed r e = listed (Err r) e

  pub not_waited : (r : Refusal) → read_of bs ≡ Err r → refused_of r ≡ shown_waits bs
  not_waited r e = waited (Err r) e

  -- .. or a sheet, whose answers or waits are in words
  module _ (s : Sheet) (e : read_of bs ≡ Ok s) (ws : List ℕ) where
    fine : checked_of s ≡ Ok tt
    fine = sym (ap (λ (r : Result Sheet Refusal). checked_of (read_sheet r)) e) ∙ read_checked bs (ap read_said e)

    few : s.count ≤ streams
    few = let w = fine_within s fine in omega (arith, w.0.count, w.1)

    -- the answers in the words are listed as the plan's answers, ..
    pub answers_shown : ws ≡ (answer_of Answers s (replicate (words_per_row * streams) 0)).1 → listing_in s ws ≡ shown bs
    answers_shown f =
        rw f (ap (listing_of (plan_of s)) (rows_answered s (replicate (words_per_row * streams) 0) fine (omega (arith, few))).0) ∙ listed (Ok s) e

    -- .. and the waits as the plan's waits
    pub waits_shown : ws ≡ (answer_of Waits s (replicate (words_per_wait * streams) 0)).1 → lines_in s ws ≡ shown_waits bs
    waits_shown f =
        rw f (ap (lines_of (plan_of s)) (waits_answered s (replicate (words_per_wait * streams) 0) fine (omega (arith, few)))) ∙ waited (Ok s) e
