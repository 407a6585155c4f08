-- All gaps have one pair of limits, so an array of one pair stands beside them. Assumes nothing.
use mathlib.Core.Path.{◌≡◌, sym, ap, ◌∙◌}
use mathlib.Core.List.{map}
use Prim.Native.Nat.{◌+◌, ◌-◌, ◌≤◌}
use native.Mathlib.Omega.{arith}
use lib.ListN.{length, take, drop, replicate}
use Rattle.names.specs.Limits.{sources, ticks}
use Rattle.carried.specs.Layout as layout
use Rattle.carried.proofs.Plans.{gaps_back}
use Rattle.fields.specs.declared.Band.{Band}
use Rattle.fields.specs.Fields.{gap_field, lowest}
use Rattle.fields.specs.private.Bands.{fields_of}
use Rattle.fields.proofs.Lowest.{alike}
use Rattle.fields.proofs.gaps_outside.Goals as goal

pub returns : goal.returns
returns c =
    let a = c.args in
    let at = layout.stream_at a.n in
    let ws = a.words.now in
    let some : Band = record { 0 = 1; 1 = ticks } in
    let part : at + a.m - at ≡ a.m = omega arith in
    let long : layout.gap_at a.n a.m ≤ length ws = omega arith in
    c.words_outside.ensures
    ∙ ap (λ k. lowest at (fields_of (take k (drop at ws)) (take a.m (replicate sources some)))) part
    ∙ ap (lowest at) (alike some sources a.m (drop at ws) (omega arith))
    ∙ ap (λ l. lowest at (map gap_field l)) (sym (gaps_back ws a.n a.m long))
