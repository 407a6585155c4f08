-- The winner's line, or nothing where there is no winner. Assumes nothing.
use mathlib.Core.Path.{◌≡◌, sym, ap, ◌∙◌}
use mathlib.Core.Logic.{inl, inr}
use mathlib.Core.List.{[]}
use native.Mathlib.Omega.{arith}
use Rattle.text.proofs.Laying.{is, none}
use Rattle.replay_screen.specs.Shown.{wins_line, winner_line}
use Rattle.replay_screen.proofs.lay_winner.Goals as goal

pub returns-in-Finished : goal.returns-in-Finished
unfolding winner_line
returns-in-Finished c =
    let a = c.args in
    is (ap (wins_line _) c.priority_at.ensures ∙ ap (winner_line a.priorities) (sym c.in-Finished.is)) c.lay_wins.ensures

pub returns-in-AtBit : goal.returns-in-AtBit
unfolding winner_line
returns-in-AtBit c =
    let a = c.args in
    let nothing : [] ≡ winner_line a.priorities a.phase =
    elim c.in-AtBit.is [ inl e ↦ ap (winner_line a.priorities) (sym e.1) | inr e ↦ ap (winner_line a.priorities) (sym e) ] in
    is nothing (none _ _ (omega arith))
