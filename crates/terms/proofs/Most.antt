-- The most that L's right side can come to: 256 streams, each of 5,000,000 ticks with a period of 1 and the longest jitter. Assumes nothing.
use mathlib.Core.Path.{◌≡◌, ap, ◌∙◌}
use mathlib.Core.Bool.{true}
use Prim.Native.Nat.{ℕ, ◌+◌, ◌*◌, ◌<◌}
use native.Mathlib.Omega.{arith}
use lib.ListN.{get_or, replicate, get_or-replicate}
use Rattle.names.specs.Limits.{streams, ticks}
use Rattle.laws.specs.Lists.{ceil}
use Rattle.laws.proofs.Lists.{every_none, every_all, sum_rows, sum_to_all, sum_to_same}
use Rattle.bound.specs.Bound.{demand, side_L}
use Rattle.bound.proofs.Sides.{demand_own}
use Rattle.terms.specs.declared.Gathered.{Gathered}
use Rattle.terms.specs.Gathered.{stairs, Lent, lent, terms_of, share_at, cost, share_fits, source_fits, row_fits, fits, SideNeedsAll}

-- a row below 256 such streams, with no noise
abbrev row : Gathered
row = record { blocking = 0; cost = cost; period = 1; jitter = 0; urgent = streams; sources = 0; hit = 0; late = 0; last = cost }

abbrev most : Lent
most = lent row (replicate stairs cost) (replicate stairs 1) (replicate streams ticks)

share_is : (k : ℕ) → k < streams → share_at most k ≡ record { C'' = cost; T = 1; J = ticks }
share_is k h =
    λ z.
    record {
      C'' = get_or-replicate {A = ℕ} stairs (0 + k) cost 0 (omega arith) z;
      T = get_or-replicate {A = ℕ} stairs (0 + k) 1 0 (omega arith) z;
      J = get_or-replicate {A = ℕ} streams k ticks 0 h z;
    }

within : fits most ≡ true
unfolding fits row_fits
within = simp (every_all (λ k. share_fits (share_at most k)) streams (λ k h. ap share_fits (share_is k h)), every_none (λ k. source_fits 0 (get_or (replicate stairs cost) k 0) (get_or (replicate stairs 1) k 0)))

asked : demand (terms_of most).urgent ticks ≡ streams * ((ticks + ticks) * cost)
unfolding demand
asked =
    sum_rows _ streams (share_at most)
    ∙ sum_to_same _ (λ k. (ticks + ticks) * cost) streams (λ k h. ap (λ j. ceil (ticks + j.J) j.T * j.C'') (share_is k h))
    ∙ sum_to_all ((ticks + ticks) * cost) streams

pub side_needs_all : SideNeedsAll
unfolding side_L
side_needs_all = (most, within, omega (arith, asked, demand_own (terms_of most).own (terms_of most).urgent ticks))
