-- The instances of a busy period: w(q) exists, is at most L - C'', and rises by C'' at least. Assumes nothing.
use mathlib.Core.Path.{◌≡◌, ap}
use Prim.Native.Nat.{ℕ, ◌+◌, ◌-◌, ◌*◌, ◌≤◌, ◌<◌}
use native.Mathlib.Nat.{mul-le-mul_right, suc-mul}
use native.Mathlib.Numerals.{add-one}
use native.Mathlib.Omega.{arith}
use Rattle.names.specs.Limits.{ticks}
use Rattle.laws.proofs.Chain.{settled, least_below}
use Rattle.laws.specs.Search.{or_zero}
use Rattle.bound.specs.Terms.{Terms}
use Rattle.bound.specs.Bound.{side_L, side_W, Q, w}
use Rattle.bound.specs.Claims.{Sound, WExists, WRises}
use Rattle.bound.proofs.Sides.{demand_mono, demand_own, side_W_mono, busy_is_least}

module _ (r : Terms) (s : Sound r) (L : ℕ) (e : side_L r L ≡ L) (p : 1 ≤ L) where
  -- (q + 1) × C'' is within the busy period
  pub room : (q : ℕ) → q < Q r L → q * r.own.C'' + r.own.C'' ≤ L
  unfolding side_L
  room q h = omega (arith, demand_own r.own r.urgent L, suc-mul q r.own.C'', mul-le-mul_right r.own.C'' h)

  -- w(q)'s right side does not rise at L - C''
  pub settles : (q : ℕ) → q < Q r L → side_W r q (L - r.own.C'') ≤ L - r.own.C''
  unfolding side_L side_W
  settles q h =
      let x : L - r.own.C'' + r.own.C'' ≡ L = omega (arith, room q h) in
      rw x (omega (arith, demand_own r.own r.urgent L, suc-mul q r.own.C'', mul-le-mul_right r.own.C'' h, demand_mono r.urgent (L - r.own.C'' + r.late + 1) L (omega (arith, s.late, x)), s.late))

pub w_exists : WExists
unfolding w
w_exists r s L q b h =
    let l = (busy_is_least r L).0 b in
    let (x, a, c, g) = settled (side_W r q) (side_W_mono r q) 0 (ticks + 1) (L - r.own.C'') (omega arith) (omega arith) (omega (arith, l.0)) (settles r s L l.1.fixed l.1.above q h) in
    let d : w r q ≡ x = ap or_zero a in
    rw d (g, c)

-- one instance more adds C''
pub side_W_suc : (r : Terms) (q x : ℕ) → side_W r (q + 1) x ≡ side_W r q x + r.own.C''
unfolding side_W
side_W_suc r q x = omega (arith, ap (λ k. k * r.own.C'') (add-one q), suc-mul q r.own.C'')

pub w_rises : WRises
w_rises r s L q b h =
    let n = (w_exists r s L (q + 1) b h).0 in
    let k = (w_exists r s L q b (omega arith)).0 in
    let c = r.own.C'' in
    let v : c ≤ w r (q + 1) = omega (arith, n.fixed, side_W_suc r q (w r (q + 1))) in
    let z : w r q ≤ w r (q + 1) - c = least_below (side_W r q) (side_W_mono r q) 0 (w r q) (w r (q + 1) - c) (omega arith) k (omega arith) (omega (arith, n.fixed, side_W_suc r q (w r (q + 1)), side_W_mono r q (w r (q + 1) - c) (w r (q + 1)) (omega arith))) in
    omega arith
