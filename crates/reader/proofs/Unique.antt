-- The contracts determine the outcomes: each equates the result, and what lent memory ends with, with one value. Assumes nothing.
use mathlib.Core.Path.{refl, sym, ap, ◌∙◌}
use mathlib.Core.List.{List}
use Prim.Native.Nat.{ℕ}
use Rattle.laws.specs.Determined.{OneOutcome}
use Rattle.reader.proofs.carry.Kinds as carry-kinds
use Rattle.reader.proofs.carry.Reads as carry
use Rattle.reader.proofs.read.Kinds as read-kinds
use Rattle.reader.proofs.read.Reads as read

pub carry_one : OneOutcome 2 carry-kinds.ps carry-kinds.r carry.Post
carry_one κs a x y ws us p q = (p.0 ∙ sym q.0, ap (λ (l : List ℕ). (tt, (l, tt))) (p.1 ∙ sym q.1))

pub read_one : OneOutcome 1 read-kinds.ps read-kinds.r read.Post
read_one κs a x y ws us p q = (p ∙ sym q, refl)
