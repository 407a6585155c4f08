-- The file of what is entered is answered as the values are. Assumes nothing.
use mathlib.Core.Path.{◌≡◌, refl, sym, ap, ◌∙◌}
use lib.ListN.{length}
use Rattle.std.specs.Prelude.{Ok, Err}
use Rattle.judge.specs.Table.{Checked}
use Rattle.judge.specs.Table.{judge}
use Rattle.checks.specs.Checks.{lines}
use Rattle.carried.specs.declared.Edition.TheVariants.{Three}
use Rattle.carried.specs.Carried.{meant, sheet_of}
use Rattle.carried.proofs.Plans.{one_sheet}
use Rattle.file.specs.File.{read_said, read_sheet, read_as}
use Rattle.file.proofs.RoundTrip.{reads_as_its_values}
use Rattle.answers.specs.Answers.{Answers}
use Rattle.answers.specs.Answers.{answer_with}
use Rattle.answers.proofs.Outcome.{refused_is, answered_alike}
use Rattle.answers.proofs.Values.{sheet_answered}
use Rattle.answer_files.specs.AnswerFiles.{answer_read, answer_file_of, FileAlike}

pub file_alike : FileAlike
unfolding answer_file_of
file_alike v few quiet fits out =
    ap (λ r. answer_read (read_said r) (read_sheet r) out) (reads_as_its_values v few quiet fits) ∙ go (judge (lines Three (length v.streams) (length v.gaps) v)) refl
  where
    go : (c : Checked) → judge (lines Three (length v.streams) (length v.gaps) v) ≡ c
        → answer_read (read_said (read_as c (meant v))) (read_sheet (read_as c (meant v))) out ≡ answer_with Answers Three (length v.streams) (length v.gaps) v out
    go (Ok _) d =
        sheet_answered Answers (meant v) (sheet_of (meant v)) (record { plan = one_sheet (meant v) few quiet; count = refl; sources = refl }) out
        ∙ answered_alike Answers out Three (length v.streams) (length v.gaps) v d
    go (Err r) d = sym (refused_is Answers Three (length v.streams) (length v.gaps) v out r d)
