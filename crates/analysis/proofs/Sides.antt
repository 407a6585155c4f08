-- L's right side, part by part. Assumes nothing.
use mathlib.Core.Path.{◌≡◌}
use Prim.Native.Nat.{ℕ, ◌+◌}
use native.Mathlib.Nat.{zero-mul}
use native.Mathlib.Omega.{arith}
use Rattle.laws.specs.Lists.{sum_of}
use Rattle.bound.specs.Bound.{E, demand, side_L}
use Rattle.bound.proofs.Sides.{demand_own}
use Rattle.terms.specs.declared.Gathered.{Gathered}
use Rattle.terms.specs.Gathered.{Lent, terms_of}
use Rattle.analysis.specs.private.Chains.{own_l, rest_L, alone_terms}

-- L's right side is B and i's own part, and the rest, and so no part of it is above it
pub side_L_parts : (t : Lent) (x : ℕ) → side_L (terms_of t) x ≡ own_l t.row x + rest_L (terms_of t) x
unfolding side_L
side_L_parts t x = omega (arith, demand_own (terms_of t).own (terms_of t).urgent x)

-- with nobody else on the channel there is no rest
pub side_L_alone : (g : Gathered) (x : ℕ) → side_L (alone_terms g) x ≡ own_l g x
unfolding side_L demand E sum_of
side_L_alone g x = omega (arith, zero-mul g.hit)
