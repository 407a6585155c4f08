-- The bound is the largest term, above zero, and at most J + L; the worst instance is the first that has it, and is below L. Assumes nothing.
use mathlib.Core.Path.{◌≡◌, refl, sym, ap, ◌∙◌, subst}
use Prim.Native.Nat.{ℕ, ◌+◌, ◌-◌, ◌*◌, ◌≤◌}
use native.Mathlib.Nat.{zero-mul, add-zero, mul-le-mul_left}
use native.Mathlib.Omega.{arith}
use lib.Dec.{T}
use lib.IntN.{pos, nat_abs, ◌-ℤ◌}
use lib.Signed.{le_z, non_neg, pos-nat_abs}
use Rattle.laws.specs.Signed.{largest_to}
use Rattle.laws.proofs.Round.{ceil_pos}
use Rattle.laws.proofs.Signed.{largest_ge, largest_is, above_pos, diff_le, finds_first_largest}
use Rattle.bound.specs.Terms.{Terms}
use Rattle.bound.specs.Bound.{Q, w, term, bound, worst}
use Rattle.bound.specs.Claims.{Sound, BoundIsLargest, BoundWithin, WorstIsFirst, WorstWithin}
use Rattle.bound.proofs.Sides.{busy_is_least}
use Rattle.bound.proofs.Instances.{room, w_exists}

-- a busy period has an instance
pub some_instance : (r : Terms) → Sound r → (L : ℕ) → 1 ≤ L → 1 ≤ Q r L
some_instance r s L h = ceil_pos (L + r.own.J) r.own.T s.period (omega arith)

-- the term of q = 0 is J + w(0) + C''
pub first_term : (r : Terms) → term r 0 ≡ pos (r.own.J + w r 0 + r.last)
first_term r = ap (λ z. pos (r.own.J + w r 0 + r.last) -ℤ pos z) (zero-mul r.own.T) ∙ ap pos (add-zero (r.own.J + w r 0 + r.last))

-- so the largest is above zero
pub largest_pos : (r : Terms) → Sound r → (n : ℕ) → T (non_neg (largest_to (term r) n)) × (1 ≤ nat_abs (largest_to (term r) n))
largest_pos r s n =
    above_pos (r.own.J + w r 0 + r.last) (largest_to (term r) n) (omega (arith, s.ends))
    (subst (λ z. T (le_z z (largest_to (term r) n))) (first_term r) (largest_ge (term r) n 0 (omega arith)))

pub bound_is : (r : Terms) → Sound r → (L : ℕ) → pos (bound r L) ≡ largest_to (term r) (Q r L - 1)
unfolding bound
bound_is r s L = pos-nat_abs _ (largest_pos r s (Q r L - 1)).0

pub bound_is_largest : BoundIsLargest
unfolding bound
bound_is_largest r s L b =
    let n = some_instance r s L ((busy_is_least r L).0 b).1.above in
    let (q, h, e) = largest_is (term r) (Q r L - 1) in (
      λ q h. subst (λ z. T (le_z (term r q) z)) (sym (bound_is r s L)) (largest_ge (term r) (Q r L - 1) q (omega arith)),
      (q, omega arith, bound_is r s L ∙ e),
      (largest_pos r s (Q r L - 1)).1,
    )

pub bound_within : BoundWithin
bound_within r s L b =
    let (q, h, e) = (bound_is_largest r s L b).1 in
    let l = ((busy_is_least r L).0 b).1 in
    omega (arith, diff_le (bound r L) (r.own.J + w r q + r.last) (q * r.own.T) e, (w_exists r s L q b h).1, room r s L l.fixed l.above q h, s.last)

pub worst_is_first : WorstIsFirst
unfolding worst
worst_is_first r s L q b =
    let n = some_instance r s L ((busy_is_least r L).0 b).1.above in
    let is = bound_is r s L in
    let finds = finds_first_largest (term r) (Q r L - 1) q in (
      λ e. let f = finds.0 e in
          record { counts = omega (arith, f.among); gives = f.largest ∙ sym is; earlier = λ j g. rw is (f.earlier j g) },
      λ h. finds.1 (record { among = omega (arith, h.counts); largest = h.gives ∙ is; earlier = λ j g. rw is at (h.earlier j g) }),
    )

pub worst_within : WorstWithin
worst_within r s L b =
    let l = ((busy_is_least r L).0 b).1 in
    let h = (worst_is_first r s L (worst r L) b).0 refl in
    omega (arith, room r s L l.fixed l.above (worst r L) h.counts, s.late, mul-le-mul_left {m = 1} {n = r.own.C''} (worst r L) (omega (arith, s.late)))
