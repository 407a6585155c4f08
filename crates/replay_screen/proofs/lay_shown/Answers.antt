-- The line of the refusal, or all lines of the tournament that was begun. Assumes nothing.
use mathlib.Core.Path.{sym, ap, ◌∙◌}
use Rattle.text.proofs.Laying.{is}
use Rattle.replay_screen.specs.Shown.{shown_by, shown_of}
use Rattle.replay_screen.proofs.Play.{begun_start}
use borrow.Author.Rules.{rules}
use Rattle.replay_screen.proofs.lay_shown.Goals as goal

pub lay_played-requires : goal.lay_played-requires
lay_played-requires c =
    begun_start _ _ _ (search rules) _ (sym c.start.ensures ∙ c.in-Ok.is)

pub returns-in-Ok : goal.returns-in-Ok
unfolding shown_of
returns-in-Ok c = is (ap shown_by (sym c.in-Ok.is ∙ c.start.ensures)) c.lay_played.ensures

pub returns-in-Err : goal.returns-in-Err
unfolding shown_of
returns-in-Err c = is (ap shown_by (sym c.in-Err.is ∙ c.start.ensures)) c.lay_refusal.ensures
