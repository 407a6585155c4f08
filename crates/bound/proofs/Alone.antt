-- A stream alone on the channel: w(q) = B + q × C'', and C'' is no more than T, so that no term is above the first. Assumes nothing.
use mathlib.Core.Path.{◌≡◌, ap, ◌∙◌, subst}
use mathlib.Core.List.{[]}
use Prim.Native.Nat.{ℕ, suc, ◌+◌, ◌*◌, ◌≤◌, ◌<◌}
use native.Mathlib.Nat.{zero-mul, mul-suc, mul-le-mul_left, lt_of_not-le}
use native.Mathlib.Decide.{dec_le}
use native.Mathlib.Omega.{arith}
use lib.Dec.{T, leb→le}
use lib.IntN.{pos}
use lib.Signed.{le_z}
use Rattle.laws.specs.Lists.{ceil, sum_of}
use Rattle.std.specs.Prelude.{Some}
use Rattle.laws.proofs.Round.{ceil_covers}
use Rattle.laws.proofs.Signed.{diff_back}
use Rattle.bound.specs.Terms.{Terms}
use Rattle.bound.specs.Bound.{E, demand, side_L, busy, Q, side_W, w, bound, worst}
use Rattle.bound.specs.Claims.{Sound, AloneIsFirst}
use Rattle.bound.proofs.Sides.{demand_own, busy_is_least}
use Rattle.bound.proofs.Instances.{w_exists}
use Rattle.bound.proofs.Largest.{some_instance, first_term, bound_is_largest, worst_is_first}

pub no_demand : (r : Terms) → r.urgent ≡ [] → (x : ℕ) → demand r.urgent x ≡ 0
unfolding demand sum_of
no_demand r nobody x = ap (λ js. demand js x) nobody

pub no_noise : (r : Terms) → r.gaps ≡ [] → (x : ℕ) → E r x ≡ 0
unfolding E sum_of
no_noise r quiet x = ap (λ ns. sum_of (λ N. ceil x N) ns * r.hit) quiet ∙ zero-mul r.hit

module _ (r : Terms) (s : Sound r) (L : ℕ) (b : busy r ≡ Some L) (nobody : r.urgent ≡ []) (quiet : r.gaps ≡ []) where
  -- w(q) = B + q × C''
  alone_w : (q : ℕ) → q < Q r L → w r q ≡ r.B + q * r.own.C''
  unfolding side_W
  alone_w q h = omega (arith, (w_exists r s L q b h).0.fixed, no_demand r nobody (w r q + r.late + 1), no_noise r quiet (w r q + r.own.C''))

  -- L = B + Q × C'', and Q periods cover L: so C'' is no more than T
  alone_L : r.B + Q r L * r.own.C'' ≡ L
  unfolding side_L
  alone_L = omega (arith, ((busy_is_least r L).0 b).1.fixed, demand_own r.own r.urgent L, no_demand r nobody L, no_noise r quiet L)

  some : 1 ≤ Q r L
  some = some_instance r s L ((busy_is_least r L).0 b).1.above

  alone_load : r.own.C'' ≤ r.own.T
  alone_load =
      elim (dec_le r.own.C'' r.own.T) [
        | yes h ↦ h
        | no h ↦
            absurd
            (omega (
              arith,
              alone_L,
              some,
              ceil_covers (L + r.own.J) r.own.T s.period,
              mul-le-mul_left {m = suc r.own.T} {n = r.own.C''} (Q r L) (lt_of_not-le h),
              mul-suc (Q r L) r.own.T,
            ))
      ]

  -- so no term is above the first, ..
  pub alone_bound : r.own.J + r.B + r.last ≡ bound r L
  alone_bound =
      let (above, (q, h, e), p) = bound_is_largest r s L b in
      let first : r.own.J + w r 0 + r.last ≤ bound r L = leb→le _ _ (subst (λ z. T (le_z z (pos (bound r L)))) (first_term r) (above 0 some)) in
      omega (
        arith,
        first,
        alone_w 0 some,
        zero-mul r.own.C'',
        diff_back (bound r L) (r.own.J + w r q + r.last) (q * r.own.T) e,
        alone_w q h,
        mul-le-mul_left {m = r.own.C''} {n = r.own.T} q alone_load,
      )

  -- .. and that is the first which is as large
  alone_worst : worst r L ≡ 0
  alone_worst =
      let same : r.own.J + w r 0 + r.last ≡ bound r L = omega (arith, alone_bound, alone_w 0 some, zero-mul r.own.C'') in
      (worst_is_first r s L 0 b).1 (record { counts = some; gives = first_term r ∙ ap pos same; earlier = λ e h. absurd (omega arith) })

pub alone_is_first : AloneIsFirst
alone_is_first r s L b nobody quiet = alone_worst r s L b nobody quiet
