-- Each turn lays the row of one place, if it is marked. Assumes nothing.
use mathlib.Core.Path.{◌≡◌}
use Rattle.text.specs.Put.{Lays}
use Rattle.replay_screen.specs.Shown.{spaced}
use Rattle.replay_screen.proofs.Rows.{marked_to, some?}
use Rattle.replay_screen.proofs.lay_rows.Given as goal

abbrev pub invariant-loop-i : goal.invariant-loop-i
invariant-loop-i l =
    Lays l.initial.out l.at (spaced (marked_to l.mark-items l.i)) l.next l.out × (l.some ≡ some? (marked_to l.mark-items l.i))
