-- What a chain keeps from turn to turn: sums that, with the edges, give a right side from the present x on; and the chain for L. Assumes nothing.
use mathlib.Core.Path.{◌≡◌, sym, ap, ◌∙◌}
use mathlib.Core.List.{List}
use Prim.Native.Nat.{ℕ, ◌+◌, ◌-◌, ◌*◌, ◌≤◌, ◌<◌}
use native.Mathlib.Nat.{le_refl, sub-zero}
use native.Mathlib.Omega.{arith}
use Rattle.names.specs.Limits.{ticks}
use Rattle.laws.specs.Lists.{ceil}
use Rattle.std.specs.Prelude.{Some}
use Rattle.bound.specs.Terms.{Terms}
use Rattle.bound.specs.Bound.{side_L, busy}
use Rattle.bound.specs.Evaluations.{chain, searched}
use Rattle.bound.specs.Claims.{Sound}
use Rattle.bound.proofs.Evaluations.{Counted, counted_start, counted_none, counted_fits, counted_found, counted_more, next_value, ends_at_l, ends_beyond}
use Rattle.bound.proofs.Answers.{searched-none}
use Rattle.terms.specs.declared.Gathered.{Gathered}
use Rattle.analysis.specs.declared.searches.Ended.{Ended}
use Rattle.analysis.specs.declared.searches.Own.{Own}
use Rattle.analysis.specs.private.Stairs.{height, start, Moved}
use Rattle.analysis.specs.private.Chains.{own_l, EndsAs, no_bound, MakesUp, RestKept, OwnKept}
use Rattle.terms.specs.Fit.{FitRow}
use Rattle.analysis.proofs.Climbing.{onward_below, onward_later}

-- ---- the stairs
module _ (costs periods edges : List ℕ) (n : ℕ) (rest : ℕ → ℕ) where
  pub kept_start : (x : ℕ) → MakesUp costs periods edges n rest → RestKept costs periods edges n rest x 0
  kept_start x l = record { known = l.known; later = λ y h. omega (arith, l.is y) }

  pub kept_now : (x sum : ℕ) → RestKept costs periods edges n rest x sum → sum + height costs periods edges n (x + start) ≡ rest x
  kept_now x sum k = k.later x (le_refl x)

  pub kept_on : (x sum next : ℕ) (on : List ℕ) → next ≡ sum + height costs periods edges n (x + start) → Moved costs periods edges on n (x + start)
      → RestKept costs periods edges n rest x sum → RestKept costs periods on n rest x next
  kept_on x sum next on e m k =
      record { known = m.known; later = λ y h. omega (arith, e, m.later (y + start) (omega arith), k.later y h) }

  pub kept_up : (x y sum : ℕ) → x ≤ y → RestKept costs periods edges n rest x sum → RestKept costs periods edges n rest y sum
  kept_up x y sum h k = record { known = k.known; later = λ z g. k.later z (omega arith) }

-- ---- i's own stair
module _ (g : Gathered) where
  pub own_start : OwnKept g (record { edge = 0; sum = g.blocking }) 0
  own_start = record { below = omega arith; later = λ y l. ap (λ z. g.blocking + ceil z g.period * g.cost) (sub-zero (y + g.jitter)) }

  -- d periods further on its sum is B and i's own part at x, ..
  pub own_now : (own : Own) (x d : ℕ) → d ≡ ceil (x + g.jitter - own.edge) g.period → OwnKept g own x → own.sum + d * g.cost ≡ own_l g x
  own_now own x d e o = rw e (o.later x (le_refl x))

  -- .. and it is kept
  pub own_on : (own : Own) (x d : ℕ) → d ≡ ceil (x + g.jitter - own.edge) g.period → FitRow g → x ≤ ticks → OwnKept g own x
      → OwnKept g (record { edge = own.edge + d * g.period; sum = own.sum + d * g.cost }) x
  own_on own x d e f h o =
      rw e
      (record {
        below = onward_below own.edge g.period (x + g.jitter) o.below f.own.period (omega (arith, f.own.jitter));
        later = λ y l. omega (arith, onward_later own.edge g.period g.cost (x + g.jitter) (y + g.jitter) f.own.some (omega arith), o.later y l);
      })

  own_up : (own : Own) (x y : ℕ) → x ≤ y → OwnKept g own x → OwnKept g own y
  own_up own x y h o = record { below = o.below; later = λ z l. o.later z (omega arith) }

-- ---- the chain for L, whoever else is on the channel: x is reached after k evaluations, and i's own stair has come there
pub record BusyChain (g : Gathered) (r : Terms) (own : Own) (k x : ℕ) : Type 0 where
  pub counted : Counted r k x
  pub mine : OwnKept g own x

module _ {g : Gathered} {r : Terms} {own : Own} where
  pub busy_start : Sound r → OwnKept g own 0 → BusyChain g r own 0 1
  busy_start s o = record { counted = counted_start s; mine = own_up g own 0 1 (omega arith) o }

  module _ {k x : ℕ} (b : BusyChain g r own k x) where
    -- beyond the last tick there is none
    pub busy_beyond : ticks < x → EndsAs r (record { last = x; evaluations = k })
    busy_beyond h = let e = counted_none b.counted h in record { count = e; last = b.counted.value ∙ ap (chain r) e }

    -- a turn evaluates the right side at x: there L is found, or the chain goes on
    module _ {y : ℕ} (e : y ≡ side_L r x) where
      pub busy_rises : x ≤ y
      busy_rises = omega (arith, b.counted.climb.rises)

      pub busy_fits : x ≤ ticks → k + 1 ≤ ticks
      busy_fits = counted_fits b.counted e

      pub busy_found : x ≤ ticks → y ≡ x → EndsAs r (record { last = y; evaluations = k + 1 })
      busy_found h d = let q = counted_found b.counted e h d in record { count = q; last = next_value b.counted e h ∙ ap (chain r) q }

      pub busy_more : {on : Own} → x ≤ ticks → (y ≡ x → ⊥) → OwnKept g on x → BusyChain g r on (k + 1) y
      busy_more {on} h d o = record { counted = counted_more b.counted e h d; mine = own_up g on x y busy_rises o }

-- ---- what the chain's end says
module _ {r : Terms} (s : Sound r) {e : Ended} (a : EndsAs r e) where
  pub ended_none : (D : ℕ) → ticks < e.last → no_bound e.evaluations ≡ searched r D
  ended_none D h = searched-none r D e.evaluations ((ends_beyond r s).1 (omega (arith, a.last))) a.count

  pub ended_busy : (L : ℕ) → (L ≡ e.last) × (L ≤ ticks) → busy r ≡ Some L
  ended_busy L (is, small) = (ends_at_l r s L).1 (sym (is ∙ a.last), small)
