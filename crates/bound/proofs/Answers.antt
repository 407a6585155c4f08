-- A row's answer, by the two ways to make it, and with the number of its evaluations. Assumes nothing.
use mathlib.Core.Path.{◌≡◌, sym, ap, ap₂, ◌∙◌}
use Prim.Native.Nat.{ℕ}
use Rattle.names.specs.Limits.{ticks}
use Rattle.std.specs.Prelude.{Some, None}
use Rattle.bound.specs.declared.Verdict.TheVariants.{None}
use Rattle.bound.specs.declared.Answer.{Answer}
use Rattle.bound.specs.declared.Searched.{Searched}
use Rattle.bound.specs.Terms.{Terms}
use Rattle.bound.specs.Bound.{busy, bound, worst, verdict, answer_for, answer}
use Rattle.bound.specs.Evaluations.{evaluations, or_ticks, X, searched}

module _ (r : Terms) (D : ℕ) where
  pub answer-none : busy r ≡ None → ◌≡◌ {A = Answer} (record { verdict = None; bound = 0; instance = 0 }) (answer r D)
  unfolding answer
  answer-none e = sym (ap (answer_for r D) e)

  pub answer-bound : (L b q : ℕ) → busy r ≡ Some L → b ≡ bound r L → q ≡ worst r L
      → ◌≡◌ {A = Answer} (record { verdict = verdict b D; bound = b; instance = q }) (answer r D)
  unfolding answer
  answer-bound L b q e d f = ap₂ (λ z y. record { verdict = verdict z D; bound = z; instance = y }) d f ∙ sym (ap (answer_for r D) e)

  -- the number of evaluations, and where the chain ends, are both that X is known by
  pub searched-none : (n : ℕ) → busy r ≡ None → n ≡ evaluations r
      → ◌≡◌ {A = Searched} (record { answer = record { verdict = None; bound = 0; instance = 0 }; evaluations = n; x = ticks }) (searched r D)
  unfolding searched X
  searched-none n e d = ap₂ (λ a m. record { answer = a; evaluations = m; x = ticks }) (answer-none e) d ∙ ap (λ f. record { answer = answer r D; evaluations = evaluations r; x = or_ticks f }) (sym e)

  pub searched-bound : (L n : ℕ) (a : Answer) → busy r ≡ Some L → a ≡ answer r D → n ≡ evaluations r
      → ◌≡◌ {A = Searched} (record { answer = a; evaluations = n; x = L }) (searched r D)
  unfolding searched X
  searched-bound L n a e d f = ap₂ (λ a m. record { answer = a; evaluations = m; x = L }) d f ∙ ap (λ f. record { answer = answer r D; evaluations = evaluations r; x = or_ticks f }) (sym e)
