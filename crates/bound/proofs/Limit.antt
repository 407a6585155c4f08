-- The number of evaluations is at most floor(X / c) + 1: where the chain rises it rises by c at least, since its right side is a sum of costs. Assumes nothing.
use mathlib.Core.Path.{◌≡◌, refl, sym, ap, ◌∙◌}
use mathlib.Core.List.{List, [], ◌∷◌}
use mathlib.Core.Logic.{⊎_elim}
use Prim.Native.Nat.{ℕ, zero, suc, ◌+◌, ◌-◌, ◌*◌, ◌/◌, ◌≤◌}
use native.Mathlib.Nat.{le_refl, le_trans, le-div_iff_mul-le, suc-mul, zero-mul, one-mul, div-le_self}
use native.Mathlib.Omega.{arith}
use Rattle.names.specs.Limits.{ticks}
use Rattle.laws.specs.Lists.{sum_of, smallest_of}
use Rattle.std.specs.Prelude.{Option, Some, None}
use Rattle.laws.proofs.Round.{ceil_mono}
use Rattle.laws.proofs.Lists.{sum_mono}
use Rattle.laws.proofs.Smallest.{smallest_first}
use Rattle.laws.proofs.Steps.{Steps, steps_never, steps_add, steps_times}
use Rattle.bound.specs.Terms.{Share, Terms}
use Rattle.bound.specs.Bound.{E, demand, side_L, busy}
use Rattle.bound.specs.Claims.{Sound}
use Rattle.bound.specs.Evaluations.{chain, evaluations, or_ticks, X, c, limit, Paid, EvaluationsWithin}
use Rattle.bound.proofs.Sides.{side_L_mono, side_L_pos, demand_own, own_first, busy_is_least}
use Rattle.bound.proofs.Evaluations.{Counted, End, found, beyond, ends, found_says, beyond_some, beyond_says}

-- what streams ask for rises by the smallest C'' at least
demand_steps : (d : ℕ) (i : Share) (js : List Share) → d ≤ smallest_of (λ j. j.C'') i js → Steps d (demand (i ∷ js))
unfolding demand sum_of smallest_of
demand_steps d i [] h = steps_add d (steps_times d (λ x y l. ceil_mono i.T (omega arith)) i.C'' h) (steps_never d 0)
demand_steps d i (j ∷ js) h =
    steps_add d (steps_times d (λ x y l. ceil_mono i.T (omega arith)) i.C'' (omega arith)) (demand_steps d j js (omega arith))

module _ (r : Terms) (p : Paid r) where
  noise_steps : Steps (c r) (E r)
  unfolding E
  noise_steps = steps_times (c r) (λ x y l. sum_mono (λ N. ceil_mono N l) r.gaps) r.hit p.hit

  side_steps : Steps (c r) (side_L r)
  unfolding side_L c
  side_steps =
      steps_add (c r) (steps_add (c r) (steps_never (c r) r.B) (demand_steps (c r) r.own r.urgent (omega arith))) noise_steps

  module _ (s : Sound r) where
    -- the chain never falls
    chain_rises : (k : ℕ) → chain r k ≤ chain r (suc k)
    unfolding chain
    chain_rises zero = side_L_pos r s
    chain_rises (suc k) = side_L_mono r (chain r k) (chain r (suc k)) (chain_rises k)

    -- the first evaluation gives c at least
    first_rise : c r ≤ chain r 1
    unfolding chain side_L c
    first_rise =
        omega (arith, smallest_first (λ j. j.C'') r.own r.urgent, own_first r s 1 (omega arith), demand_own r.own r.urgent 1)

    before : (e : ℕ) → suc e ≡ suc (suc e) - 1
    before e = omega arith

    -- and each new one c more
    rise : {k x : ℕ} → Counted r k x → (e : ℕ) → e ≤ k → e * c r ≤ chain r e
    unfolding chain
    rise n zero h = omega (arith, zero-mul (c r))
    rise n (suc zero) h = omega (arith, first_rise, one-mul (c r))
    rise n (suc (suc e)) h =
        omega (
          arith,
          suc-mul (suc e) (c r),
          rise n (suc e) (omega arith),
          ⊎_elim (λ same. absurd (n.new (suc (suc e)) (omega arith) h (sym same ∙ ap (chain r) (before e)))) (λ more. more) (side_steps (chain r e) (chain r (suc e)) (chain_rises e)),
        )

    -- so as many evaluations as did not pass x are at most floor(x / c)
    as_many : {k x : ℕ} → Counted r k x → (e most : ℕ) → e ≤ k → chain r e ≤ most → e ≤ most / c r
    as_many n e most h l = (le-div_iff_mul-le p.some).1 (le_trans (rise n e h) l)

    -- the last one comes on top of those
    within : End r → evaluations r ≤ or_ticks (busy r) / c r + 1
    within (found k x n h e) =
        let (b, q, v) = found_says r k x n h e in
        rw b (omega (arith, q, as_many n k x (le_refl k) (omega (arith, n.value))))
    within (beyond k x n h) =
        let (b, q, v) = beyond_says r k x n h in
        rw b (omega (arith, q, as_many n (k - 1) ticks (omega arith) (n.within (k - 1) (omega (arith, beyond_some n h)))))

pub evaluations_within : EvaluationsWithin
unfolding limit X
evaluations_within r s p = within r p s (ends r s)

-- X and the limit have ten digits at most, whatever the terms are
pub x_fits : (r : Terms) → X r ≤ ticks
unfolding X
x_fits r = go (busy r) refl
  where
    go : (f : Option ℕ) → busy r ≡ f → or_ticks f ≤ ticks
    go (Some L) e = ((busy_is_least r L).0 e).0
    go None e = omega arith

pub limit_fits : (r : Terms) → limit r ≤ ticks + 1
unfolding limit
limit_fits r = omega (arith, div-le_self (X r) (c r), x_fits r)
