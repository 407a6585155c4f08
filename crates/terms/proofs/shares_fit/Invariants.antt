-- After each turn it is known whether all streams so far pass.
use mathlib.Core.Path.{◌≡◌}
use Rattle.laws.specs.Lists.{every}
use Rattle.terms.specs.Gathered.{lent_terms, share_at, share_fits}
use Rattle.terms.proofs.shares_fit.Given as goal

abbrev pub invariant-loop-k : goal.invariant-loop-k
invariant-loop-k l = l.all ≡ every l.k (λ j. share_fits (share_at (lent_terms l.terms) j))
