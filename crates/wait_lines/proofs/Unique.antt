-- The public contract determines its outcome, lent memory included.
use mathlib.Core.Path.{◌∙◌, sym, ap}
use mathlib.Core.List.{List}
use Prim.Native.Nat.{ℕ}
use Rattle.laws.specs.Determined.{OneOutcome}
use Rattle.wait_lines.proofs.waits.Kinds as waits-kinds
use Rattle.wait_lines.proofs.waits.Reads as waits

pub waits_one : OneOutcome 2 waits-kinds.ps waits-kinds.r waits.Post
waits_one κs a x y ws us p q = (p.0 ∙ sym q.0, ap (λ (l : List ℕ). (tt, (tt, (l, tt)))) (p.1 ∙ sym q.1))
