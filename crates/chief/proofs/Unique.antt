-- The contract determines its outcome, lent memory included. Assumes nothing.
use mathlib.Core.Path.{◌∙◌, sym, ap}
use mathlib.Core.List.{List}
use Prim.Native.Nat.{ℕ}
use Rattle.laws.specs.Determined.{OneOutcome}
use Rattle.chief.proofs.told.Kinds as told-kinds
use Rattle.chief.proofs.told.Reads as told

pub told_one : OneOutcome 3 told-kinds.ps told-kinds.r told.Post
told_one κs a x y ws us p q = (p.0 ∙ sym q.0, ap (λ (l : List ℕ). (tt, (tt, (l, tt)))) (p.1 ∙ sym q.1))
