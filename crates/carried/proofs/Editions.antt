-- Where edition 1, which has no P, has the words that are carried; and no edition has more streams than there are places for. Assumes nothing.
use mathlib.Core.Path.{◌≡◌, ap, ◌∙◌}
use mathlib.Core.Bool.{cond}
use Prim.Native.Nat.{ℕ, ◌-◌, ◌≤◌, ◌<◌}
use native.Mathlib.Omega.{arith}
use borrow.Author.Tests.{lt-ltb, le-ltb}
use Rattle.names.specs.Limits.{streams}
use Rattle.carried.specs.declared.Edition.{Edition, TheVariants.One, TheVariants.Two, TheVariants.Three}
use Rattle.carried.specs.Layout as layout

module _ (n k : ℕ) where
  pub before_P : k < layout.timing_length → layout.in_bodies One n k ≡ k
  before_P h = ap (λ b. cond b k (k - 1) - layout.acknowledgements_before n k) (lt-ltb k layout.timing_length h) ∙ omega arith

  pub past_P : layout.timing_length ≤ k → layout.in_bodies One n k ≡ k - 1 - layout.acknowledgements_before n k
  past_P h = ap (λ b. cond b k (k - 1) - layout.acknowledgements_before n k) (le-ltb k layout.timing_length h)

pub most_places : (edition : Edition) → layout.most_streams edition ≤ streams
most_places One = omega arith
most_places Two = omega arith
most_places Three = omega arith
