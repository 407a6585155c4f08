-- What writing gives, answer by answer; and a sheet and its words are written alike. Assumes nothing.
use mathlib.Core.Path.{◌≡◌, refl, sym, ap, ◌∙◌}
use mathlib.Core.List.{List, [], ◌∷◌, ◌++◌}
use Prim.Native.Nat.{ℕ, ◌≤◌, ◌<◌}
use mathlib.Core.Bool.{false}
use borrow.Author.Tests.{le-leb, lt-leb}
use lib.Dec.{leb}
use lib.ListN.{length, drop}
use Rattle.names.specs.declared.Refusal.{Refusal}
use Rattle.plan.specs.declared.Sheet.{Sheet}
use Rattle.plan.specs.Plan.{plan_of}
use Rattle.carried.specs.declared.Edition.{Edition, TheVariants.Three}
use Rattle.carried.specs.Layout as layout
use Rattle.plan.proofs.Places.{Owned}
use Rattle.std.specs.Prelude.{Ok, Err}
use Rattle.judge.specs.Table.{Checked}
use Rattle.judge.specs.Table.{Line, judge, unless}
use Rattle.carried.specs.Carried.{Entered, meant, plainly, entered_in, in_places}
use Rattle.carried.proofs.Plans.{meant_plainly, entered_in_places}
use Rattle.checks.specs.Checks.{in_range, lines}
use Rattle.judge.proofs.Table.{given, passed, nothing_given, fine_then, refused_then}
use Rattle.checks.proofs.Counts.{too_few_lem, too_many, too_noisy, by_range, out_of_range}
use Rattle.checks.proofs.Fine.{fine_when_meant}
use Rattle.checks.proofs.Words.{entered_in_words, same_lines, same_entered_if_fine}
use Rattle.file.specs.File.{file_of, lines_out, write_as, write_with, write_of}
use Rattle.file.specs.Claims.{WrongCounts}

module _ (edition : Edition) (n m : ℕ) (v : Entered) (buf : List ℕ) where
  -- a line of the values is given
  pub write_refused : (r : Refusal) → judge (lines edition n m v) ≡ Err r → write_with edition n m v buf ≡ (Err r, buf)
  unfolding write_with
  write_refused r e = ap (λ c. write_as c n m (meant v) buf) (refused_then _ _ r e)

  module _ (fine : judge (lines edition n m v) ≡ Ok tt) where
    -- 6
    pub write_no_room : length buf < layout.size Three n m → write_with edition n m v buf ≡ (Err (record { number = 6; place = 0 }), buf)
    unfolding write_with
    write_no_room h = ap (λ c. write_as c n m (meant v) buf) (fine_then _ _ fine ∙ given _ _ 0 (ap unless (lt-leb _ _ h)))

    pub write_fine : layout.size Three n m ≤ length buf
        → write_with edition n m v buf ≡ (Ok (layout.size Three n m), file_of (meant v) ++ drop (layout.size Three n m) buf)
    unfolding write_with
    write_fine h = ap (λ c. write_as c n m (meant v) buf) (fine_then _ _ fine ∙ passed _ _ (ap unless (le-leb _ _ h)) ∙ nothing_given)

-- ---- what is fine is written alike, in whatever edition it was read, and with a LAG as its plan with none
pub written_alike : (buf : List ℕ) (edition : Edition) (n m : ℕ) (v : Entered) → judge (lines edition n m v) ≡ Ok tt
    → write_with Three n m (plainly (meant v)) buf ≡ write_with edition n m v buf
unfolding write_with
written_alike buf edition n m v fine =
    let w = plainly (meant v) in
    ap (λ c. write_as c n m (meant w) buf) (fine_then (lines Three n m w) _ (fine_when_meant edition n m v fine) ∙ sym (fine_then (lines edition n m v) _ fine))
    ∙ ap (λ p. write_as (judge (lines_out edition n m v buf)) n m p buf) (meant_plainly (meant v))

-- ---- a sheet and its words
pub same_writing : (s : Sheet) (o : Owned s) (buf : List ℕ)
    → write_with Three s.count s.sources (entered_in_words s o) buf ≡ write_of s buf
unfolding write_with write_of
same_writing s o buf = go (judge (lines_out Three n m (plainly (plan_of s)) buf)) refl
  where
    n : ℕ
    n = s.count

    m : ℕ
    m = s.sources

    six : List Line
    six = record { number = 6; place = unless (leb (layout.size Three n m) (length buf)) } ∷ []

    go : (c : Checked) → judge (lines_out Three n m (plainly (plan_of s)) buf) ≡ c → write_with Three n m (entered_in_words s o) buf ≡ write_with Three n m (plainly (plan_of s)) buf
    go (Ok _) e = ap (λ v. write_with Three n m v buf) (same_entered_if_fine s o six e)
    go (Err r) e = ap (λ c. write_as c n m (meant (entered_in_words s o)) buf) (same_lines s o six ∙ e) ∙ sym (ap (λ c. write_as c n m (meant (plainly (plan_of s))) buf) e)

-- ---- counts out of range, and lent words in places
refused_2 : (edition : Edition) (n m : ℕ) (v : Entered) (buf : List ℕ) → in_range edition n m ≡ false
    → write_with edition n m v buf ≡ (Err (record { number = 2; place = 0 }), buf)
refused_2 edition n m v buf e = write_refused edition n m v buf _ (out_of_range edition n m e v [])

pub wrong_counts : WrongCounts
wrong_counts edition n m v buf =
    let two = refused_2 edition n m v buf in
    (λ h. two (too_few_lem edition n m h), λ h. two (too_many edition n m h), λ h. two (too_noisy edition n m h))

pub values_written : (edition : Edition) (n m : ℕ) (ws buf : List ℕ)
    → write_with edition n m (entered_in n m (in_places ws)) buf ≡ write_with edition n m (entered_in n m ws) buf
values_written edition n m ws buf =
    by_range edition n m (λ few quiet. ap (λ v. write_with edition n m v buf) (entered_in_places n m ws few quiet))
    (λ e. refused_2 edition n m _ buf e ∙ sym (refused_2 edition n m _ buf e))
