-- The chain for L, evaluation by evaluation: it stops, at L or beyond the last tick. Assumes nothing.
use mathlib.Core.Path.{◌≡◌, refl, sym, ap, ◌∙◌, subst}
use mathlib.Core.Bool.{Bool, true, false, ◌||◌}
use mathlib.Core.Logic.{◌↔◌, ◌⊎◌, inl, inr, ⊎_elim}
use Prim.Native.Nat.{ℕ, zero, suc, ◌+◌, ◌-◌, ◌≤◌, ◌<◌}
use native.Mathlib.Nat.{eq-or-lt_of_le, le_antisymm, lt_of_not-le}
use native.Mathlib.Decide.{dec_le}
use native.Mathlib.Omega.{arith}
use native.Mathlib.Numerals.{add-one}
use borrow.Author.Tests.{eqb-true, eq-eqb, ltb-true, lt-ltb}
use lib.Dec.{eqb, ltb}
use Rattle.names.specs.Limits.{ticks}
use Rattle.laws.specs.Search.{or_zero}
use Rattle.std.specs.Prelude.{Option, Some, None}
use Rattle.laws.proofs.Search.{first_is, le_unless}
use Rattle.laws.proofs.Chain.{Climb, climb_start, climb_more, climb_found, climb_none}
use Rattle.bound.specs.Terms.{Terms}
use Rattle.bound.specs.Bound.{side_L, busy}
use Rattle.bound.specs.Claims.{Sound}
use Rattle.bound.specs.Evaluations.{chain, stops, evaluations, ChainGoes, IsLast, CountsToLast, EndsAtL, EndsBeyond, EvaluationsFit}
use Rattle.bound.proofs.Sides.{side_L_mono, side_L_pos}

pub chain_goes : ChainGoes
unfolding chain
chain_goes r = (refl, λ k. ap (chain r) (add-one k))

-- ---- where it stops
stops_says : (r : Terms) (k : ℕ) → stops r k ≡ true → (chain r k ≡ chain r (k - 1)) ⊎ (ticks < chain r k)
stops_says r k e = go (eqb (chain r k) (chain r (k - 1))) refl e
  where
    go : (b : Bool) → eqb (chain r k) (chain r (k - 1)) ≡ b → b || ltb ticks (chain r k) ≡ true → (chain r k ≡ chain r (k - 1)) ⊎ (ticks < chain r k)
    go true q d = inl (eqb-true _ _ q)
    go false q d = inr (ltb-true _ _ d)

says_stops : (r : Terms) (k : ℕ) → (chain r k ≡ chain r (k - 1)) ⊎ (ticks < chain r k) → stops r k ≡ true
says_stops r k h = ⊎_elim (λ e. ap (λ b. b || ltb ticks (chain r k)) (eq-eqb _ _ e)) (λ l. go (eqb (chain r k) (chain r (k - 1))) (lt-ltb _ _ l)) h
  where
    go : (b : Bool) {t : Bool} → t ≡ true → b || t ≡ true
    go true e = refl
    go false e = e

last_counts : (r : Terms) (k : ℕ) → k ≤ ticks → IsLast r k → evaluations r ≡ k
unfolding evaluations
last_counts r k h l =
    ap or_zero
    (first_is (stops r) 1 ticks k l.some (omega arith) (says_stops r k l.ends)
    (λ e a b t. ⊎_elim (l.new e a b) (λ far. omega (arith, l.within e b)) (stops_says r e t)))

-- ---- after k evaluations: x is the value, no value was one before, and none but the last may be beyond
pub record Counted (r : Terms) (k x : ℕ) : Type 0 where
  pub climb : Climb (side_L r) 1 x
  pub value : x ≡ chain r k
  pub more : (e : ℕ) → e ≤ k → e < chain r e
  pub new : (e : ℕ) → 1 ≤ e → e ≤ k → chain r e ≡ chain r (e - 1) → ⊥
  pub within : (e : ℕ) → e < k → chain r e ≤ ticks

-- for all numbers up to k + 1, if for those up to k and for k + 1
up_to : (P : ℕ → Type 0) (k e : ℕ) → (e ≤ k → P e) → P (k + 1) → e ≤ k + 1 → P e
up_to P k e all new h = ⊎_elim (λ d. subst P (sym d) new) (λ l. all (omega arith)) (eq-or-lt_of_le h)

module _ {r : Terms} where
  pub counted_start : Sound r → Counted r 0 1
  unfolding chain
  counted_start s =
      record { climb = climb_start _ 1 (side_L_pos r s); value = refl; more = λ e h. first_value e h; new = λ e a b. absurd (omega arith); within = λ e h. absurd (omega arith) }
    where
      first_value : (e : ℕ) → e ≤ 0 → e < chain r e
      first_value e h = let z : e ≡ 0 = omega arith in rw z (omega arith)

  module _ {k x : ℕ} (n : Counted r k x) where
    -- beyond the last tick the chain stops, and there is none
    pub beyond_some : ticks < x → 1 ≤ k
    unfolding chain
    beyond_some h = elim (dec_le 1 k) [ yes l ↦ l | no l ↦ absurd (let z : k ≡ 0 = omega (arith, lt_of_not-le l) in let d : x ≡ 1 = n.value ∙ ap (chain r) z in omega arith) ]

    pub beyond_last : ticks < x → IsLast r k
    beyond_last h =
        record { some = beyond_some h; ends = inr (omega (arith, n.value)); new = λ e a b. n.new e a (omega arith); within = n.within }

    pub beyond_fits : ticks < x → k ≤ ticks
    beyond_fits h = omega (arith, beyond_some h, n.more (k - 1) (omega arith), n.within (k - 1) (omega (arith, beyond_some h)))

    pub counted_none : ticks < x → k ≡ evaluations r
    counted_none h = sym (last_counts r k (beyond_fits h) (beyond_last h))

    pub none_busy : ticks < x → None ≡ busy r
    unfolding busy
    none_busy h = sym (climb_none (side_L r) 1 ticks x (omega arith) n.climb)

    -- one evaluation more
    module _ {y : ℕ} (e : y ≡ side_L r x) (h : x ≤ ticks) where
      pub next_value : y ≡ chain r (k + 1)
      next_value = e ∙ ap (side_L r) n.value ∙ sym ((chain_goes r).1 k)

      pub counted_fits : k + 1 ≤ ticks
      counted_fits = omega (arith, n.more k (omega arith), n.value)

      within_more : (d : ℕ) → d < k + 1 → chain r d ≤ ticks
      within_more d l = ⊎_elim (λ (z : d ≡ k). rw z (omega (arith, n.value))) (λ l. n.within d l) (eq-or-lt_of_le (omega arith))

      -- it gives the same value: the chain stops at L
      pub found_last : y ≡ x → IsLast r (k + 1)
      found_last d =
          let same : k + 1 - 1 ≡ k = omega arith in
          record {
            some = omega arith;
            ends = inl (sym next_value ∙ d ∙ n.value ∙ ap (chain r) (sym same));
            new = λ a b l. n.new a b (omega arith);
            within = within_more;
          }

      pub counted_found : y ≡ x → k + 1 ≡ evaluations r
      counted_found d = sym (last_counts r (k + 1) counted_fits (found_last d))

      pub found_busy : y ≡ x → Some x ≡ busy r
      unfolding busy
      found_busy d = sym (climb_found (side_L r) 1 ticks x y e d (omega arith) n.climb)

      -- or a new one, and the chain goes on
      pub counted_more : (y ≡ x → ⊥) → Counted r (k + 1) y
      counted_more d =
          record {
            climb = climb_more (side_L r) (side_L_mono r) 1 x y e n.climb;
            value = next_value;
            more = λ a l. up_to (λ a. a < chain r a) k a (n.more a) (omega (arith, next_value, n.more k (omega arith), n.value, rises, d)) l;
            new = λ a b l. up_to (λ a. 1 ≤ a → chain r a ≡ chain r (a - 1) → ⊥) k a (λ m b. n.new a b m) (λ b q. d (next_value ∙ q ∙ ap (chain r) same ∙ sym n.value)) l b;
            within = within_more;
          }
        where
          rises : x ≤ y
          rises = omega (arith, n.climb.rises)

          same : k + 1 - 1 ≡ k
          same = omega arith

-- ---- the chain's end
pub data End (r : Terms) : Type 0 where
  found : (k x : ℕ) → Counted r k x → x ≤ ticks → side_L r x ≡ x → End r
  beyond : (k x : ℕ) → Counted r k x → ticks < x → End r

walk : (r : Terms) (fuel k x : ℕ) → Counted r k x → ticks - k ≤ fuel → End r
walk r zero k x n h =
    elim (dec_le x ticks) [ yes l ↦ absurd (omega (arith, counted_fits n refl l)) | no l ↦ beyond k x n (lt_of_not-le l) ]
walk r (suc fuel) k x n h =
    elim (dec_le x ticks) [
      | yes l ↦
          ⊎_elim (λ e. found k x n l (sym e))
          (λ m. walk r fuel (k + 1) (side_L r x) (counted_more n refl l (λ e. omega arith)) (omega arith)) (eq-or-lt_of_le n.climb.rises)
      | no l ↦ beyond k x n (lt_of_not-le l)
    ]

pub ends : (r : Terms) → Sound r → End r
ends r s = walk r ticks 0 1 (counted_start s) (omega arith)

-- ---- what the chain's end says
-- L is where it stands still
pub found_says : (r : Terms) (k x : ℕ) → Counted r k x → x ≤ ticks → side_L r x ≡ x → (busy r ≡ Some x) × (evaluations r ≡ k + 1) × (chain r (evaluations r) ≡ x)
found_says r k x n h e =
    let q = sym (counted_found n (sym e) h refl) in
    (sym (found_busy n (sym e) h refl), q, ap (chain r) q ∙ sym (next_value n (sym e) h))

pub beyond_says : (r : Terms) (k x : ℕ) → Counted r k x → ticks < x → (busy r ≡ None) × (evaluations r ≡ k) × (chain r (evaluations r) ≡ x)
beyond_says r k x n h =
    let q = sym (counted_none n h) in
    (sym (none_busy n h), q, ap (chain r) q ∙ sym n.value)

-- there is no L, or one
either : {L : ℕ} {f : Option ℕ} → f ≡ Some L → f ≡ None → ⊥
either d e = let z : ◌≡◌ {A = ℕ} 0 1 = cc in omega arith

pub counts_to_last : CountsToLast
counts_to_last r s k = (λ e. subst (IsLast r) e (last (ends r s)), one)
  where
    last : End r → IsLast r (evaluations r)
    last (found j x n h e) = subst (IsLast r) (counted_found n (sym e) h refl) (found_last n (sym e) h refl)
    last (beyond j x n h) = subst (IsLast r) (counted_none n h) (beyond_last n h)

    before : (i j : ℕ) → IsLast r i → IsLast r j → i < j → ⊥
    before i j a b h = ⊎_elim (b.new i a.some h) (λ far. omega (arith, b.within i h)) a.ends

    one : IsLast r k → evaluations r ≡ k
    one l =
        let a = last (ends r s) in
        le_antisymm (le_unless (before k (evaluations r) l a)) (le_unless (before (evaluations r) k a l))

pub ends_at_l : EndsAtL
ends_at_l r s L = go (ends r s)
  where
    go : End r → (busy r ≡ Some L) ↔ ((chain r (evaluations r) ≡ L) × (L ≤ ticks))
    go (found k x n h e) =
        let (b, q, v) = found_says r k x n h e in
        (λ d. let z : x ≡ L = ap or_zero (sym b ∙ d) in (v ∙ z, omega arith), λ d. b ∙ ap Some (sym v ∙ d.0))
    go (beyond k x n h) =
        let (b, q, v) = beyond_says r k x n h in
        (λ d. absurd (either d b), λ d. absurd (omega (arith, v, d.0, d.1)))

pub ends_beyond : EndsBeyond
ends_beyond r s = go (ends r s)
  where
    go : End r → (busy r ≡ None) ↔ (ticks < chain r (evaluations r))
    go (found k x n h e) =
        let (b, q, v) = found_says r k x n h e in
        (λ d. absurd (either b d), λ d. absurd (omega (arith, v)))
    go (beyond k x n h) =
        let (b, q, v) = beyond_says r k x n h in
        (λ d. omega (arith, v), λ d. b)

pub evaluations_fit : EvaluationsFit
evaluations_fit r s = go (ends r s)
  where
    go : End r → evaluations r ≤ ticks
    go (found k x n h e) = omega (arith, (found_says r k x n h e).1, counted_fits n refl h)
    go (beyond k x n h) = omega (arith, (beyond_says r k x n h).1, beyond_fits n h)
