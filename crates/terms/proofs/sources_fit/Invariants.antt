-- After each turn it is known whether all noise sources so far pass.
use mathlib.Core.Path.{◌≡◌}
use lib.ListN.{get_or}
use Rattle.laws.specs.Lists.{every}
use Rattle.terms.specs.Gathered.{source_fits}
use Rattle.terms.proofs.sources_fit.Given as goal

abbrev pub invariant-loop-k : goal.invariant-loop-k
invariant-loop-k l = l.all ≡ every l.k (λ j. source_fits l.hit (get_or l.terms.costs.now j 0) (get_or l.terms.periods.now j 0))
