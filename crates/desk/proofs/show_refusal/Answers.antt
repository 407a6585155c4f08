-- A file is refused as it was read, and else it is fine.
use mathlib.Core.Path.{sym, ◌∙◌}
use Rattle.text.proofs.Laying.{put_as}
use Rattle.desk.proofs.Shown.{told_fine}
use Rattle.desk.proofs.show_refusal.Goals as goal

pub returns-in-Err : goal.returns-in-Err
returns-in-Err c = put_as c.args.out.now 0 (told_fine _ _ (sym c.read.ensures ∙ c.in-Err.is)) c.refused.ensures

pub returns-in-Ok : goal.returns-in-Ok
returns-in-Ok c = put_as c.args.out.now 0 (told_fine _ _ (sym c.read.ensures ∙ c.in-Ok.is)) c.fine.ensures
