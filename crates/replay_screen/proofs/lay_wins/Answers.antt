-- The parts of the line in their order. Assumes nothing.
use Prim.Native.Nat.{◌≤◌}
use native.Mathlib.Omega.{arith}
use lib.ListN.{length}
use Rattle.text.specs.Put.{last_place}
use Rattle.text.proofs.Laying.{then, last}
use Rattle.replay_screen.specs.Shown.{wins_line}
use Rattle.replay_screen.proofs.lay_wins.Goals as goal
use Rattle.replay_screen.proofs.lay_wins.Goals.{Start}

-- the buffer can be counted
room : (c : Start) → length c.args.out.now ≤ last_place
room c = omega arith

pub returns : goal.returns
unfolding wins_line
returns c =
    let at = goal.at.returns c in
    then c.lay_text-at.ensures
    (then c.lay_number-at.ensures (then c.lay_text-at-2.ensures (then c.lay_number-at-2.ensures (last c.lay_text.ensures))))
    (room at.Start)
