-- Terms that are covered have a busy period and a bound no larger than their cover's: each right side is no larger at any point, so its least fixed
-- point is no higher, there are no more instances, and each term is no larger. Assumes nothing.
use mathlib.Core.Path.{◌≡◌, sym, subst}
use Prim.Native.Nat.{ℕ, ◌+◌, ◌*◌, ◌≤◌, ◌<◌}
use native.Mathlib.Nat.{le_trans, le_refl, mul-le-mul, mul-le-mul_left}
use native.Mathlib.Omega.{arith}
use lib.Dec.{T, leb→le}
use lib.IntN.{pos}
use lib.Signed.{le_z}
use Rattle.names.specs.Limits.{ticks}
use Rattle.laws.specs.Lists.{ceil, sum_of}
use Rattle.std.specs.Prelude.{Some}
use Rattle.laws.proofs.Round.{ceil_mono, ceil_anti}
use Rattle.laws.proofs.Chain.{settled, least_below}
use Rattle.laws.proofs.Signed.{le_trans_Z}
use Rattle.bound.specs.Terms.{Share, Terms}
use Rattle.bound.specs.Bound.{E, demand, side_L, side_W, busy, Q, w, term, bound}
use Rattle.bound.specs.Claims.{Sound}
use Rattle.bound.proofs.Sides.{side_L_mono, side_L_pos, side_W_mono, busy_is_least}
use Rattle.bound.proofs.Instances.{w_exists}
use Rattle.bound.proofs.Largest.{bound_is_largest}
use Rattle.cover.specs.Cover.{NoHeavier, Covers, CoveredKeeps}
use Rattle.cover.proofs.Sums.{sum_partners, diff_mono}

-- a share that is no heavier asks for no more, also in a shorter time
share_le : (x y : ℕ) → x ≤ y → (a b : Share) → NoHeavier a b → ceil (x + a.J) a.T * a.C'' ≤ ceil (y + b.J) b.T * b.C''
share_le x y h a b n =
    mul-le-mul (le_trans (ceil_anti (x + a.J) n.some n.period) (ceil_mono b.T (omega (arith, n.jitter)))) n.cost

module _ (r s : Terms) (c : Covers r s) where
  demand_le : (x y : ℕ) → x ≤ y → demand s.urgent x ≤ demand r.urgent y
  unfolding demand
  demand_le x y h = sum_partners _ _ (share_le x y h) s.urgent r.urgent c.urgent

  own_le : (x : ℕ) → ceil (x + s.own.J) s.own.T * s.own.C'' ≤ ceil (x + r.own.J) r.own.T * r.own.C''
  own_le x = share_le x x (le_refl x) s.own r.own c.own

  E-le : (x y : ℕ) → x ≤ y → E s x ≤ E r y
  unfolding E
  E-le x y h = mul-le-mul (sum_partners _ _ (λ a b n. le_trans (ceil_anti x n.some n.gap) (ceil_mono b h)) s.gaps r.gaps c.gaps) c.hit

  -- the right sides
  side_L_le : (x : ℕ) → side_L s x ≤ side_L r x
  unfolding side_L demand sum_of
  side_L_le x = omega (arith, c.blocking, own_le x, demand_le x x (le_refl x), E-le x x (le_refl x))

  side_W_le : (q x : ℕ) → side_W s q x ≤ side_W r q x
  unfolding side_W
  side_W_le q x =
      omega (arith, c.blocking, mul-le-mul_left q c.own.cost, demand_le (x + s.late + 1) (x + r.late + 1) (omega (arith, c.late)), E-le (x + s.own.C'') (x + r.own.C'') (omega (arith, c.own.cost)))

  module _ (a : Sound r) (b : Sound s) (L : ℕ) (e : busy r ≡ Some L) where
    -- the busy period is found, and no longer
    busy_le : (K : ℕ) × (busy s ≡ Some K) × (K ≤ L)
    unfolding busy
    busy_le =
        let l = (busy_is_least r L).0 e in
        let (K, f, h, m) = settled (side_L s) (side_L_mono s) 1 ticks L (side_L_pos s b) l.1.above (omega (arith, l.0)) (le_trans (side_L_le L) (omega (arith, l.1.fixed))) in
        (K, f, h)

    module _ (K : ℕ) (f : busy s ≡ Some K) (h : K ≤ L) where
      Q-le : Q s K ≤ Q r L
      Q-le = le_trans (ceil_anti (K + s.own.J) c.own.some c.own.period) (ceil_mono r.own.T (omega (arith, c.own.jitter)))

      w_le : (q : ℕ) → q < Q s K → w s q ≤ w r q
      w_le q l =
          let m = (w_exists r a L q e (omega (arith, Q-le))).0 in
          least_below (side_W s q) (side_W_mono s q) 0 (w s q) (w r q) (omega arith) (w_exists s b K q f l).0 (omega arith) (le_trans (side_W_le q (w r q)) (omega (arith, m.fixed)))

      term_le : (q : ℕ) → q < Q s K → T (le_z (term s q) (term r q))
      term_le q l = diff_mono _ _ _ _ (omega (arith, c.own.jitter, w_le q l, c.last)) (mul-le-mul_left q c.own.period)

      -- the largest term of s is one of them, and so no larger than r's
      bound_le : bound s K ≤ bound r L
      bound_le =
          let (q, l, d) = (bound_is_largest s b K f).1 in
          leb→le _ _ (le_trans_Z (pos (bound s K)) (term r q) (pos (bound r L)) (subst (λ z. T (le_z z (term r q))) (sym d) (term_le q l)) ((bound_is_largest r a L e).0 q (omega (arith, Q-le))))

pub covered_keeps : CoveredKeeps
covered_keeps r s a b c L e =
    let (K, f, h) = busy_le r s c a b L e in
    (K, f, h, bound_le r s c a b L e K f h)
