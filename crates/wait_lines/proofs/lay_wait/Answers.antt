-- The label, the number and the limit, each followed by its space, the last by the newline.
use Prim.Native.Nat.{◌≤◌}
use native.Mathlib.Omega.{arith}
use lib.ListN.{length}
use Rattle.text.specs.Put.{last_place}
use Rattle.text.proofs.Laying.{then, last}
use Rattle.wait_lines.specs.Lines.{wait_row}
use Rattle.wait_lines.proofs.lay_wait.Goals as goal
use Rattle.wait_lines.proofs.lay_wait.Goals.{Start}

-- the buffer can be counted
room : (c : Start) → length c.args.out.now ≤ last_place
room c = omega arith

pub returns : goal.returns
unfolding wait_row
returns c =
    let at = goal.at.returns c in
    then c.lay_label-at.ensures
    (then c.lay_text-at.ensures
    (then c.lay_number-at.ensures
    (then c.lay_text-at-2.ensures
    (then c.lay_number-at-2.ensures
    (last c.lay_text.ensures))))) (room at.Start)
