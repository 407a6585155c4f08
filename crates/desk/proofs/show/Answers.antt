-- A refused file is shown as its refusal, and what was read as the listing of its rows' answers.
use mathlib.Core.Path.{sym, ◌∙◌}
use Rattle.text.proofs.Laying.{put_as}
use Rattle.desk.proofs.Shown.{not_listed, answers_shown}
use Rattle.desk.proofs.show.Goals as goal

pub returns-in-Err : goal.returns-in-Err
returns-in-Err c = put_as c.args.out.now 0 (not_listed _ _ (sym c.read.ensures ∙ c.in-Err.is)) c.refused.ensures

pub returns-in-Ok : goal.returns-in-Ok
returns-in-Ok c =
    put_as c.args.out.now 0 (answers_shown _ _ (sym c.read.ensures ∙ c.in-Ok.is) _ c.answer_values.ensures.out_after) c.listing.ensures
