-- Functions that rise by c at least wherever they rise: sums of such are such. Assumes nothing.
use mathlib.Core.Path.{◌≡◌, refl, ap}
use mathlib.Core.Logic.{◌⊎◌, inl, inr, ⊎_elim}
use Prim.Native.Nat.{ℕ, suc, ◌+◌, ◌*◌, ◌≤◌}
use native.Mathlib.Nat.{eq-or-lt_of_le, mul-le-mul_right, suc-mul}
use native.Mathlib.Omega.{arith}
use Rattle.laws.proofs.Chain.{Mono}

-- from x to a later y, f stays or rises by c at least
abbrev pub Steps : ℕ → (ℕ → ℕ) → Type 0
Steps c f = (x y : ℕ) → x ≤ y → (f x ≡ f y) ⊎ (f x + c ≤ f y)

module _ (c : ℕ) where
  pub steps_never : (v : ℕ) → Steps c (λ x. v)
  steps_never v x y h = inl refl

  pub steps_add : {f g : ℕ → ℕ} → Steps c f → Steps c g → Steps c (λ x. f x + g x)
  steps_add {f} {g} a b x y h =
      ⊎_elim (λ d. ⊎_elim (λ e. inl (omega arith)) (λ e. inr (omega arith)) (b x y h))
      (λ d. inr (⊎_elim (λ e. omega arith) (λ e. omega arith) (b x y h))) (a x y h)

  -- how often, times what each costs
  pub steps_times : {f : ℕ → ℕ} → Mono f → (d : ℕ) → c ≤ d → Steps c (λ x. f x * d)
  steps_times {f} m d less x y h =
      ⊎_elim (λ e. inl (ap (λ z. z * d) e)) (λ l. inr (omega (arith, suc-mul (f x) d, mul-le-mul_right {m = suc (f x)} {n = f y} d l)))
      (eq-or-lt_of_le (m x y h))
