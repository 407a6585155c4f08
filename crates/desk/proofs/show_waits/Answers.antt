-- A refused file is shown as its refusal, and what was read as the lines of its rows' waits.
use mathlib.Core.Path.{sym, ◌∙◌}
use Rattle.text.proofs.Laying.{put_as}
use Rattle.desk.proofs.Shown.{not_waited, waits_shown}
use Rattle.desk.proofs.show_waits.Goals as goal

pub returns-in-Err : goal.returns-in-Err
returns-in-Err c = put_as c.args.out.now 0 (not_waited _ _ (sym c.read.ensures ∙ c.in-Err.is)) c.refused.ensures

pub returns-in-Ok : goal.returns-in-Ok
returns-in-Ok c =
    put_as c.args.out.now 0 (waits_shown _ _ (sym c.read.ensures ∙ c.in-Ok.is) _ c.answer_values.ensures.out_after) c.waits.ensures
