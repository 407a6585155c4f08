-- All streams before r are inside, so what is found from r on is what is found from the start. Assumes nothing.
use mathlib.Core.Path.{◌≡◌}
use mathlib.Core.List.{flat_map}
use lib.ListN.{drop}
use Rattle.carried.specs.Layout as layout
use Rattle.carried.specs.Carried.{streams_in}
use Rattle.fields.specs.Fields.{stream_fields, lowest}
use Rattle.fields.proofs.streams_outside.Given as goal

abbrev pub invariant-loop-r : goal.invariant-loop-r
invariant-loop-r l =
    let streams = streams_in l.fn.n l.fn.words in
    lowest (layout.stream_at 0) (flat_map (stream_fields l.fn.nb) streams) ≡ lowest (layout.stream_at l.r) (flat_map (stream_fields l.fn.nb) (drop l.r streams))
