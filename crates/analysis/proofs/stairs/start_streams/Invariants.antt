-- Each turn starts one stream's stair, and the noise sources' stay.
use Rattle.analysis.specs.private.Stairs.{StreamsStarted}
use Rattle.analysis.proofs.stairs.start_streams.Given as goal

abbrev pub invariant-loop-k : goal.invariant-loop-k
invariant-loop-k l = StreamsStarted l.jitters l.from l.k l.late l.initial.edges l.edges
