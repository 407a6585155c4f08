-- The fields in their order, each followed by its space, the last by the newline.
use Prim.Native.Nat.{◌≤◌}
use native.Mathlib.Omega.{arith}
use lib.ListN.{length}
use Rattle.text.specs.Listing.{row}
use Rattle.text.specs.Put.{last_place}
use Rattle.text.proofs.Laying.{then, last}
use Rattle.text.proofs.lay_row.Goals as goal
use Rattle.text.proofs.lay_row.Goals.{Start}

-- the buffer can be counted
room : (c : Start) → length c.args.out.now ≤ last_place
room c = omega arith

pub returns : goal.returns
unfolding row
returns c =
    let at = goal.at.returns c in
    then c.lay_label-at.ensures
    (then c.lay-at.ensures
    (then c.lay_number-at.ensures
    (then c.lay-at-2.ensures
    (then c.lay_bounded-at.ensures
    (then c.lay-at-3.ensures
    (then c.lay_bounded-at-2.ensures
    (then c.lay-at-4.ensures
    (then c.lay_number-at-2.ensures
    (then c.lay-at-5.ensures
    (then c.lay_verdict-end.ensures
    (last c.lay.ensures))))))))))) (room at.Start)
