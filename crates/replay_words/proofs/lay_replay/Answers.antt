-- What is read of the words says which text it is.
use mathlib.Core.Path.{sym, ◌∙◌}
use Rattle.text.proofs.Laying.{is}
use Rattle.replay_words.proofs.Numbers.{shown_none, shown_right, shown_wrong}
use Rattle.replay_words.proofs.lay_replay.Goals as goal

pub returns-in-Err : goal.returns-in-Err
returns-in-Err c = is (shown_wrong _ _ (sym c.in-Err.is ∙ c.read.ensures)) c.lay_wrong.ensures

pub returns-then-entered-eq0 : goal.returns-then-entered-eq0
returns-then-entered-eq0 c =
    is (shown_none _ _ (sym c.in-Ok.is ∙ c.read.ensures) c.if-entered-eq0.true) c.lay_text.ensures

pub returns-else-entered-eq0 : goal.returns-else-entered-eq0
returns-else-entered-eq0 c =
    is (shown_right _ _ (sym c.in-Ok.is ∙ c.read.ensures) c.if-entered-eq0.false) c.lay_shown.ensures
