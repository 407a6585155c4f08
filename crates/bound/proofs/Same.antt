-- An answer, and the chain for L, take hp(i) by its demand alone, so streams that ask for as much at every time may stand in its place. Assumes nothing.
use mathlib.Core.Path.{◌≡◌, refl, ap, ap₂, fun_ext, ◌∙◌}
use mathlib.Core.Bool.{◌||◌}
use mathlib.Core.List.{List}
use Prim.Native.Nat.{ℕ, zero, suc, ◌+◌, ◌-◌, ◌*◌}
use native.Mathlib.Omega.{arith}
use lib.Dec.{eqb, ltb}
use lib.IntN.{pos, nat_abs, ◌-ℤ◌}
use Rattle.names.specs.Limits.{ticks}
use Rattle.std.specs.Prelude.{Option, Some, None}
use Rattle.laws.specs.Search.{first, first_fixed, or_zero}
use Rattle.laws.specs.Signed.{largest_to, first_largest}
use Rattle.bound.specs.Terms.{Share, Terms}
use Rattle.bound.specs.Bound.{E, demand, side_L, busy, Q, side_W, w, term, bound, worst, verdict, answer_for, answer}
use Rattle.bound.specs.Evaluations.{chain, evaluations, or_ticks, X, searched}
use Rattle.bound.proofs.Sides.{demand_own}

module _ (r : Terms) (js : List Share) (same : (t : ℕ) → demand js t ≡ demand r.urgent t) where
  -- the terms with these streams for hp(i)
  abbrev pub instead : Terms
  instead = record { B = r.B; own = r.own; urgent = js; gaps = r.gaps; hit = r.hit; late = r.late; last = r.last }

  side_L_same : (L : ℕ) → side_L instead L ≡ side_L r L
  unfolding side_L E
  side_L_same L = omega (arith, demand_own r.own js L, demand_own r.own r.urgent L, same L)

  busy_same : busy instead ≡ busy r
  unfolding busy
  busy_same = ap (λ f. first_fixed f 1 ticks) (fun_ext side_L_same)

  side_W_same : (q x : ℕ) → side_W instead q x ≡ side_W r q x
  unfolding side_W E
  side_W_same q x = omega (arith, same (x + r.late + 1))

  w_same : (q : ℕ) → w instead q ≡ w r q
  unfolding w
  w_same q = ap (λ f. or_zero (first_fixed f 0 (ticks + 1))) (fun_ext (side_W_same q))

  term_same : (q : ℕ) → term instead q ≡ term r q
  term_same q = ap (λ x. pos (r.own.J + x + r.last) -ℤ pos (q * r.own.T)) (w_same q)

  bound_same : (L : ℕ) → bound instead L ≡ bound r L
  unfolding bound
  bound_same L = ap (λ f. nat_abs (largest_to f (Q r L - 1))) (fun_ext term_same)

  worst_same : (L : ℕ) → worst instead L ≡ worst r L
  unfolding worst
  worst_same L = ap (λ f. first_largest f (Q r L - 1)) (fun_ext term_same)

  same_answer : (D : ℕ) → answer instead D ≡ answer r D
  unfolding answer
  same_answer D = ap (answer_for instead D) busy_same ∙ go (busy r)
    where
      go : (f : Option ℕ) → answer_for instead D f ≡ answer_for r D f
      go None = refl
      go (Some L) = ap₂ (λ b q. record { verdict = verdict b D; bound = b; instance = q }) (bound_same L) (worst_same L)

  -- ---- the chain for L
  chain_same : (k : ℕ) → chain instead k ≡ chain r k
  unfolding chain
  chain_same zero = refl
  chain_same (suc k) = side_L_same (chain instead k) ∙ ap (side_L r) (chain_same k)

  evaluations_same : evaluations instead ≡ evaluations r
  unfolding evaluations
  evaluations_same = ap (λ (f : ℕ → ℕ). or_zero (first (λ k. eqb (f k) (f (k - 1)) || ltb ticks (f k)) 1 ticks)) (fun_ext chain_same)

  pub same_searched : (D : ℕ) → searched instead D ≡ searched r D
  unfolding searched X
  same_searched D = λ i. record { answer = same_answer D i; evaluations = evaluations_same i; x = or_ticks (busy_same i) }
