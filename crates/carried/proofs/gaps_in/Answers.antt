-- The gaps stand in the first places, and 0 in the others. Assumes nothing.
use mathlib.Core.Path.{◌≡◌, sym, ap, ◌∙◌}
use Prim.Native.Nat.{◌+◌, ◌-◌}
use native.Mathlib.Omega.{arith}
use lib.ListN.{take, drop}
use Rattle.names.specs.Limits.{sources}
use Rattle.laws.proofs.Lists.{length_rows}
use Rattle.carried.specs.Layout as layout
use Rattle.carried.specs.Carried.{gaps_in}
use Rattle.carried.proofs.Pieces.{put_short}
use Rattle.carried.proofs.Plans.{gaps_back}
use Rattle.carried.proofs.gaps_in.Goals as goal

pub returns : goal.returns
returns c =
    let a = c.args in
    let ws = a.words.now in
    let first = layout.stream_at a.n in
    let many : first + a.m - first ≡ a.m = omega arith in
    put_short sources a.m 0 (gaps_in a.n a.m ws) (length_rows a.m _) (omega arith)
    (c.copy_from_slice.ensures.after ∙ ap (λ k. take k (drop first ws)) many ∙ sym (gaps_back ws a.n a.m (omega arith)))
