-- What is proved of a LAG that is added to ETG; the proofs are in proofs/Lag.antt.
use Rattle.file.specs.File.{read_said, read_sheet, counts_said}
use Rattle.std.specs.Prelude.{◌≡◌, List, ℕ, ◌+◌, ◌≤◌, ◌<◌}
use Rattle.names.specs.Limits.{constant}
use Rattle.std.specs.Prelude.{Ok, Err}
use Rattle.judge.specs.Table.{judge}
use Rattle.plan.specs.Plan.{plan_of}
use Rattle.plan.specs.Rules.{answers}
use Rattle.carried.specs.declared.Edition.{Edition}
use Rattle.carried.specs.Carried.{Entered, meant}
use Rattle.checks.specs.Checks.{lines}
use Rattle.file.specs.File.{entered_at, counts_of, read_of}
use Rattle.lag.specs.Rule05.{answers₀₅, lines₀₅}

-- no bound moves, nor a verdict or a worst instance: today's rule on the plan that is meant gives what the older gave on what is entered, ..
abbrev pub SameAnswers : Type 0
SameAnswers = (v : Entered) → answers (meant v) ≡ answers₀₅ v

-- .. so of a file, in whatever edition, that is not refused: its plan has the answers that the older rule gives on the words as they stand
abbrev pub SameOfFile : Type 0
SameOfFile =
    (bs : List ℕ) (edition : Edition) (n m : ℕ) → counts_of bs ≡ counts_said edition n m → read_said (read_of bs) ≡ Ok tt
    → answers (plan_of (read_sheet (read_of bs))) ≡ answers₀₅ (entered_at edition n m bs)

-- nor does a refusal, where ETG + LAG is at most 65,535, ..
abbrev pub SameRefusals : Type 0
SameRefusals =
    (edition : Edition) (n m : ℕ) (v : Entered) → v.timing.etg + v.timing.lag ≤ constant
    → judge (lines edition n m v) ≡ judge (lines₀₅ edition n m v)

-- .. and where it is more, what was not refused is refused 11 at byte 68
abbrev pub NewlyRefused : Type 0
NewlyRefused =
    (edition : Edition) (n m : ℕ) (v : Entered) → constant < v.timing.etg + v.timing.lag → judge (lines₀₅ edition n m v) ≡ Ok tt
    → judge (lines edition n m v) ≡ Err (record { number = 11; place = 68 })
