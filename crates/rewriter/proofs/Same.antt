-- What was read is written: by what reading says and by the room that is lent; and what the file that is written means. Assumes nothing.
use Rattle.file.specs.File.{ReadPlan}
use Rattle.std.specs.Prelude.{Result}
use Rattle.plan.specs.declared.Sheet.{Sheet}
use Rattle.names.specs.declared.Refusal.{Refusal}
use Rattle.file.specs.File.{read_said, read_sheet}
use mathlib.Core.Path.{◌≡◌, ap, ◌∙◌}
use mathlib.Core.List.{List, ◌++◌}
use Prim.Native.Nat.{ℕ, ◌≤◌, ◌<◌}
use native.Mathlib.Omega.{arith}
use lib.ListN.{length, drop}
use Rattle.names.specs.declared.Refusal.{Refusal}
use Rattle.plan.specs.Plan.{plan_of}
use Rattle.carried.specs.declared.Edition.TheVariants.{Three}
use Rattle.carried.specs.Carried.{plainly, sheet_of}
use Rattle.std.specs.Prelude.{Ok, Err}
use Rattle.checks.specs.Checks.{checked_of}
use Rattle.file.specs.File.{read_of, write_of}
use Rattle.file.specs.Claims.{file_read}
use Rattle.file.proofs.Reading.{fine_read}
use Rattle.file.proofs.Writing.{write_no_room}
use Rattle.file.proofs.RoundTrip.{plan_read, length_file, file_is, sheet_fine, writes_what_was_read, means_the_same, same_bytes}
use Rattle.rewriter.specs.Rewriter.{rewrite_as, rewrite_of, RewritesTheSame, RewritesOlder}

module _ (bs buf : List ℕ) where
  -- a refused file
  pub rewrite_refused : (r : Refusal) → read_said (read_of bs) ≡ Err r → rewrite_of bs buf ≡ (Err r, buf)
  unfolding rewrite_of
  rewrite_refused r e = ap (λ c. rewrite_as c (read_sheet (read_of bs)) buf) e

  module _ (fine : read_said (read_of bs) ≡ Ok tt) where
    written : rewrite_of bs buf ≡ write_of (read_sheet (read_of bs)) buf
    unfolding rewrite_of
    written = ap (λ c. rewrite_as c (read_sheet (read_of bs)) buf) fine

    -- a plan that is fine, without the room for its file ..
    pub rewrite_no_room : length buf < length (file_read bs) → rewrite_of bs buf ≡ (Err (record { number = 6; place = 0 }), buf)
    unfolding write_of checked_of
    rewrite_no_room h =
        let f = fine_read bs fine in
        let p = plan_read bs f in
        written
        ∙ ap (λ (r : ReadPlan). write_of (read_sheet r) buf) f.read
        ∙ write_no_room Three (length p.streams) (length p.gaps) (plainly (plan_of (sheet_of p))) buf (sheet_fine bs f) (omega (arith, ap length (file_is bs f) ∙ length_file p))

    -- .. and with it
    pub rewrite_fine : length (file_read bs) ≤ length buf → rewrite_of bs buf ≡ (Ok (length (file_read bs)), file_read bs ++ drop (length (file_read bs)) buf)
    rewrite_fine h = written ∙ writes_what_was_read bs buf fine h

pub rewrites_the_same : RewritesTheSame
rewrites_the_same bs buf below fine three no_lag room =
    let same = same_bytes bs below fine three no_lag in
    rewrite_fine bs buf fine (omega (arith, ap length same)) ∙ ap (λ (l : List ℕ). (Ok (length l), l ++ drop (length l) buf)) same

pub rewrites_older : RewritesOlder
rewrites_older bs buf fine =
    let (edition, no_lag, meaning) = means_the_same bs fine in
    record { written = rewrite_fine bs buf fine; edition = edition; no_lag = no_lag; meaning = meaning }
