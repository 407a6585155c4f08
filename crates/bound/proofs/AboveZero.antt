-- No term that counts is below zero. If an instance q ≥ 1 of the busy period waited no longer than to its own release, J + w(q) ≤ q × T, then no more than q
-- instances would have come by w(q), and L's right side would not rise there: the busy period would be over by w(q), which is before L. Assumes nothing.
use mathlib.Core.Path.{◌≡◌, refl}
use mathlib.Core.Bool.{Bool, true, false, cond}
use mathlib.Core.Logic.{⊎_elim}
use Prim.Native.Nat.{ℕ, zero, suc, ◌+◌, ◌-◌, ◌*◌, ◌≤◌, ◌<◌}
use native.Mathlib.Nat.{le_trans, zero-mul, mul-le-mul_right, lt_irrefl, lt_of_not-le, eq-zero-or-pos}
use native.Mathlib.Omega.{arith}
use native.Mathlib.Decide.{dec_le}
use borrow.Author.Tests.{ltb-true}
use lib.Dec.{T, ltb, le→leb}
use lib.IntN.{pos, negsuc, ◌-ℤ◌}
use lib.Signed.{le_z}
use Rattle.laws.specs.Lists.{sum_of}
use Rattle.laws.specs.Search.{first}
use Rattle.std.specs.Prelude.{Some}
use Rattle.laws.proofs.Round.{ceil_at_most}
use Rattle.laws.proofs.Chain.{least_below}
use Rattle.bound.specs.Terms.{Terms}
use Rattle.bound.specs.Bound.{E, demand, side_L, side_W, busy, Q, w}
use Rattle.bound.specs.Claims.{Sound, FirstTermNotBelowZero, TermsAboveZero, TermBelowZero}
use Rattle.bound.proofs.Sides.{E-mono, demand_mono, demand_own, side_L_mono, side_L_pos, busy_is_least}
use Rattle.bound.proofs.Instances.{w_exists}
use Rattle.bound.proofs.Largest.{first_term}

pub first_term_not_below_zero : FirstTermNotBelowZero
first_term_not_below_zero r = rw first_term (le→leb 0 (r.own.J + w r 0 + r.last) (omega arith))

-- where no more than q instances have come by x, L's right side is no more than w(q)'s
sides : (r : Terms) → Sound r → (q x : ℕ) → x + r.own.J ≤ q * r.own.T → side_L r x ≤ side_W r q x
unfolding side_L side_W
sides r s q x h =
    omega (
      arith,
      demand_own r.own r.urgent x,
      mul-le-mul_right r.own.C'' (ceil_at_most (x + r.own.J) q r.own.T s.period h),
      demand_mono r.urgent x (x + r.late + 1) (omega arith),
      E-mono r x (x + r.own.C'') (omega arith),
    )

module _ (r : Terms) (s : Sound r) (L q : ℕ) (b : busy r ≡ Some L) (h : q < Q r L) where
  -- those before it are through
  above : q * r.own.C'' ≤ w r q
  unfolding side_W
  above = omega (arith, (w_exists r s L q b h).0.fixed)

  -- an instance that is not the first waits longer than to its release
  waits : 1 ≤ q → r.own.J + w r q ≤ q * r.own.T → ⊥
  waits p k =
      let l = ((busy_is_least r L).0 b).1 in
      let (e, m) = w_exists r s L q b h in
      let some : r.own.C'' ≤ w r q = omega (arith, above, mul-le-mul_right r.own.C'' p) in
      let over = least_below (side_L r) (side_L_mono r) 1 L (w r q) (side_L_pos r s) l (omega (arith, s.late)) (le_trans (sides r s q (w r q) (omega arith)) (omega (arith, e.fixed))) in
      lt_irrefl L (omega (arith, l.above, s.late))

  pub released : q * r.own.T ≤ r.own.J + w r q
  released =
      ⊎_elim (λ (e : q ≡ 0). rw e (omega (arith, zero-mul r.own.T)))
      (λ p. elim (dec_le (q * r.own.T) (r.own.J + w r q)) [ yes k ↦ k | no k ↦ absurd (waits p (omega (arith, lt_of_not-le k))) ])
      (eq-zero-or-pos q)

-- what is left of a, if c and b are no more than a
left : (a b c : ℕ) → c + b ≤ a → T (le_z (pos c) (pos a -ℤ pos b))
left a zero c h = le→leb c (a + 0) (omega arith)
left a (suc b) c h = go (ltb a (suc b)) refl
  where
    go : (t : Bool) → ltb a (suc b) ≡ t → T (le_z (pos c) (cond t (negsuc (suc b - suc a)) (pos (a - suc b))))
    go true e = absurd (lt_irrefl a (omega (arith, ltb-true a (suc b) e)))
    go false e = le→leb c (a - suc b) (omega arith)

pub terms_above_zero : TermsAboveZero
terms_above_zero r s L q b h = left (r.own.J + w r q + r.last) (q * r.own.T) r.last (omega (arith, released r s L q b h))

pub term_below_zero : TermBelowZero
unfolding busy w first side_L side_W E demand sum_of
term_below_zero = (record { period = omega arith; late = omega arith; ends = omega arith; last = omega arith }, refl, refl, refl, refl)
