-- The claims of SaysLighter are those of the answer that the table gives. Assumes nothing.
use mathlib.Core.Path.{◌≡◌, refl, ap₂, ◌∙◌}
use Rattle.std.specs.Prelude.{Ok, Err}
use Rattle.std.specs.Result.{result_and}
use Rattle.judge.specs.Table.{Checked}
use Rattle.plan.specs.declared.Sheet.{Sheet}
use Rattle.plan.specs.Plan.{plan_of}
use Rattle.compare.specs.declared.Compared.{Compared}
use Rattle.compare.specs.Changes.{changes, compared_as, compared_with, compared_of}
use Rattle.compare.specs.Claims.{SaysLighter}
use Rattle.compare.proofs.Says.{said_of_sheets}
use Rattle.compare.proofs.lighter.Goals as goal

-- the answer to two sheets, where what was said of them goes before each
abbrev of : Sheet → Sheet → Checked → Checked → Compared
of old new a b = compared_with (result_and a (Ok old)) (result_and b (Ok new))

of_checked : (old new : Sheet) (a b : Checked) → of old new a b ≡ compared_as a b (changes (plan_of old) (plan_of new))
of_checked old new (Err r) b = refl
of_checked old new (Ok _) (Err r) = refl
of_checked old new (Ok _) (Ok _) = refl

as_said : (old new : Sheet) (r : Compared) → r ≡ compared_of old new → SaysLighter old new r
as_said old new r e = rw e (said_of_sheets old new)

pub returns : goal.returns
unfolding compared_of
returns c =
    let old = c.args.old in
    let new = c.args.new in
    as_said old new _
    (c.outcome.ensures
    ∙ ap₂ compared_with c.and.ensures c.and-2.ensures
    ∙ ap₂ (of old new) c.check.ensures c.check-2.ensures
    ∙ of_checked old new _ _)
