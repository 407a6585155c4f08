-- The claims of SaysLighterOfFiles are those of the answer that the table gives. Assumes nothing.
use mathlib.Core.Path.{◌≡◌, refl, sym, ap₂, ◌∙◌}
use mathlib.Core.List.{List}
use Prim.Native.Nat.{ℕ}
use Rattle.std.specs.Prelude.{Ok, Err}
use Rattle.plan.specs.Plan.{plan_of}
use Rattle.file.specs.File.{ReadPlan, read_said, read_sheet, read_of}
use Rattle.compare.specs.declared.Compared.{Compared}
use Rattle.compare.specs.Changes.{changes, compared_as, compared_with}
use Rattle.compare_files.specs.Files.{compared_files, SaysLighterOfFiles}
use Rattle.compare_files.proofs.Kept.{said_of_files}
use Rattle.compare_files.proofs.lighter_files.Goals as goal

-- the answer to two readings
of_readings : (a b : ReadPlan)
    → compared_with a b ≡ compared_as (read_said a) (read_said b) (changes (plan_of (read_sheet a)) (plan_of (read_sheet b)))
of_readings (Err r) b = refl
of_readings (Ok s) (Err r) = refl
of_readings (Ok s) (Ok t) = refl

-- .. of two files
as_said : (old new : List ℕ) (a b : ReadPlan) (r : Compared) → r ≡ compared_with a b → a ≡ read_of old → b ≡ read_of new → SaysLighterOfFiles old new r
unfolding compared_files
as_said old new a b r e p q =
    let s : r ≡ compared_files old new = e ∙ ap₂ compared_with p q ∙ of_readings (read_of old) (read_of new) in
    rw s (said_of_files old new)

pub returns-in-Err : goal.returns-in-Err
returns-in-Err c =
    as_said _ _ (Err c.in-Err.r) c.read-second.result _ (cc) (sym c.in-Err.is ∙ c.read-first.ensures) c.read-second.ensures

pub returns-in-Err-second : goal.returns-in-Err-second
returns-in-Err-second c =
    as_said _ _ (Ok c.in-Ok.first_plan) (Err c.in-Err-second.r) _ (cc) (sym c.in-Ok.is ∙ c.read-first.ensures) (sym c.in-Err-second.is ∙ c.read-second.ensures)

pub returns-in-Ok-second : goal.returns-in-Ok-second
returns-in-Ok-second c =
    as_said _ _ (Ok c.in-Ok.first_plan) (Ok c.in-Ok-second.second_plan) _ (cc) (sym c.in-Ok.is ∙ c.read-first.ensures) (sym c.in-Ok-second.is ∙ c.read-second.ensures)
