-- No row so far is under the label, so the first that is stands in what is left. Assumes nothing.
use Rattle.std.proofs.Common.{◌≡◌, ◌==◌, drop}
use Rattle.std.specs.Prelude.{find}
use Rattle.compare.proofs.namesake.Given as goal

abbrev pub invariant-loop-r : goal.invariant-loop-r
invariant-loop-r l = find (λ s. s.label.0 == l.label.0) (drop l.r l.streams) ≡ find (λ s. s.label.0 == l.label.0) l.streams
