-- The rules over the terms of a stream are document 01's rules of its plan: the terms of hp(i) are its streams' own airtime, T and J, one by one. Assumes nothing.
use mathlib.Core.Path.{◌≡◌, refl, sym, ap, ◌∙◌}
use mathlib.Core.Bool.{Bool, true, false, cond}
use mathlib.Core.List.{List, [], ◌∷◌, map}
use mathlib.Core.Logic.{◌↔◌}
use Prim.Native.Nat.{ℕ, ◌+◌, ◌*◌}
use native.Mathlib.Omega.{arith}
use lib.Dec.{leb}
use lib.ListN.{get_or}
use Rattle.laws.specs.Lists.{ceil, sum_of}
use Rattle.laws.specs.Search.{Least}
use Rattle.std.specs.Prelude.{Option, Some, None}
use Rattle.laws.proofs.Lists.{sum_same}
use Rattle.bound.specs.declared.Verdict.TheVariants.{Met, Missed, None}
use Rattle.bound.specs.Bound.{E, demand, side_L, side_W, busy, w, bound, answer_for, answer, verdict_number}
use Rattle.bound.proofs.Sides.{busy_is_least, none_exactly}
use Rattle.bound.proofs.Instances.{w_exists}
use Rattle.plan.specs.declared.Timing.{Timing}
use Rattle.plan.specs.declared.Stream.{Stream}
use Rattle.plan.specs.Plan.{Plan, blank, StreamWithin}
use Rattle.plan.specs.Rules.{airtime, late, hp, B, share, terms, row_answer, FitsSlot}
use Rattle.plan.specs.Claims.{noise_cost, right_L, right_W, RightSides, RowNoneExactly, BusyPeriod, HasW, RowWExists}
use Rattle.plan.proofs.Rules.{terms_sound}

sum_map : {A C : Type 0} (f : C → ℕ) (g : A → C) (xs : List A) → sum_of f (map g xs) ≡ sum_of (λ x. f (g x)) xs
unfolding sum_of
sum_map f g [] = refl
sum_map f g (x ∷ xs) = ap (◌+◌ (f (g x))) (sum_map f g xs)

-- what hp(i) asks for
asked : (c : Timing) (js : List Stream) (t : ℕ) → demand (map (share c) js) t ≡ sum_of (λ j. ceil (t + j.jitter) j.period * airtime c j) js
unfolding demand
asked c js t = sum_map (λ j. ceil (t + j.J) j.T * j.C'') (share c) js

-- V, J and 1 in document 01's order
in_order : (c : Timing) (js : List Stream) (w v : ℕ) → sum_of (λ j. ceil (w + v + 1 + j.jitter) j.period * airtime c j) js ≡ sum_of (λ j. ceil (w + v + j.jitter + 1) j.period * airtime c j) js
in_order c js w v =
    sum_same (λ j. let e : w + v + 1 + j.jitter ≡ w + v + j.jitter + 1 = omega arith in ap (λ t. ceil t j.period * airtime c j) e) js

pub right_sides : RightSides
unfolding side_L side_W terms E
right_sides p i = (
  λ L. ap (λ z. B p i + z + noise_cost p i L) (asked p.timing (i ∷ hp p i) L),
  λ q w.
      ap (λ z. B p i + q * airtime p.timing i + z + noise_cost p i (w + airtime p.timing i))
      (asked p.timing (hp p i) (w + late p.timing + 1) ∙ in_order p.timing (hp p i) w (late p.timing)),
)

least_same : (f g : ℕ → ℕ) (s x : ℕ) → ((y : ℕ) → f y ≡ g y) → Least f s x → Least g s x
least_same f g s x e l = record { above = l.above; fixed = sym (e x) ∙ l.fixed; least = λ y a h. l.least y a (e y ∙ h) }

module _ (p : Plan) (i : Stream) where
  -- the busy period of the terms
  pub busy_of : (L : ℕ) → BusyPeriod p i L → busy (terms p i) ≡ Some L
  busy_of L (h, l) = (busy_is_least (terms p i) L).1 (h, least_same (right_L p i) (side_L (terms p i)) 1 L (λ y. sym ((right_sides p i).0 y)) l)

  -- "none" is the verdict exactly where no busy period is found
  not_none : (b : Bool) → cond b Met Missed ≡ None → ⊥
  not_none true e = omega (arith, ap verdict_number e)
  not_none false e = omega (arith, ap verdict_number e)

  found_none : (f : Option ℕ) → busy (terms p i) ≡ f → (answer_for (terms p i) i.deadline f).verdict ≡ None → busy (terms p i) ≡ None
  found_none (Some L) e d = absurd (not_none (leb (bound (terms p i) L) i.deadline) d)
  found_none None e d = e

  none : ((row_answer p i).verdict ≡ None) ↔ (busy (terms p i) ≡ None)
  unfolding answer
  none = (found_none (busy (terms p i)) refl, λ e. ap (λ f. (answer_for (terms p i) i.deadline f).verdict) e)

pub row_none_exactly : RowNoneExactly
row_none_exactly p i =
    let (to, from) = none_exactly (terms p i) in
    let same = (right_sides p i).0 in
    (λ e L a b f. to ((none p i).0 e) L a b (same L ∙ f), λ h. (none p i).1 (from (λ L a b f. h L a b (sym (same L) ∙ f))))

pub has_w : (p : Plan) (i : Stream) → StreamWithin p.timing.nb i → FitsSlot p.timing i → HasW p i
unfolding terms
has_w p i s fits L q b h =
    let (e, m) = w_exists (terms p i) (terms_sound p i s fits) L q (busy_of p i L b) h in
    (least_same (side_W (terms p i) q) (right_W p i q) 0 (w (terms p i) q) ((right_sides p i).1 q) e, m)

pub row_w_exists : RowWExists
row_w_exists p a k h fits = has_w p (get_or p.streams k blank) (a.stream k h) fits
