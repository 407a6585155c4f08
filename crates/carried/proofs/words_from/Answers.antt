-- The words that have room stand in the first places, and 0 in the others. Assumes nothing.
use mathlib.Core.Path.{ap, ◌∙◌}
use Rattle.carried.specs.Layout as layout
use Rattle.laws.proofs.Placed.{placed_to, placed_all}
use Rattle.carried.proofs.Pieces.{put_first}
use Rattle.carried.proofs.words_from.Goals as goal

pub returns : goal.returns
returns c =
    let values = c.args.values.now in
    put_first layout.largest c.smaller-n.result 0 values c.copy_from_slice.ensures.after ∙ ap (placed_to layout.largest 0 values) c.smaller-n.ensures ∙ placed_all layout.largest 0 values
