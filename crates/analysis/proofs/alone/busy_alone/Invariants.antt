-- The chain from 1: with nobody else on the channel L's right side at x is B and i's own part.
use Prim.Native.Nat.{◌-◌, ◌^◌}
use Rattle.analysis.specs.private.Chains.{alone_terms}
use Rattle.analysis.proofs.Chains.{BusyChain}
use Rattle.analysis.proofs.alone.busy_alone.Given as goal

abbrev pub invariant-loop-x : goal.invariant-loop-x
invariant-loop-x l = BusyChain l.fitting.terms.row (alone_terms l.fitting.terms.row) l.own l.evaluations l.x

abbrev pub decreases-loop-x : goal.decreases-loop-x
decreases-loop-x l = 2 ^ 32 - l.x
