-- The contract determines the outcome, lent memory included. Assumes nothing.
use mathlib.Core.Path.{◌∙◌, sym, ap}
use mathlib.Core.List.{List}
use Prim.Native.Nat.{ℕ}
use Rattle.laws.specs.Determined.{OneOutcome}
use Rattle.rewriter.proofs.rewrite.Kinds as rewrite-kinds
use Rattle.rewriter.proofs.rewrite.Reads as rewrite

pub rewrite_one : OneOutcome 2 rewrite-kinds.ps rewrite-kinds.r rewrite.Post
rewrite_one κs a x y ws us p q = (p.0 ∙ sym q.0, ap (λ (l : List ℕ). (tt, (l, tt))) (p.1 ∙ sym q.1))
