-- The contracts determine the outcomes: each equates the result, or what lent memory ends with, with one value. Assumes nothing.
use mathlib.Core.Path.{refl, sym, ap, ◌∙◌}
use mathlib.Core.List.{List}
use Prim.Native.Nat.{ℕ}
use Rattle.laws.specs.Determined.{OneOutcome}
use Rattle.states.proofs.priorities_from.Kinds as priorities-from-kinds
use Rattle.states.proofs.priorities_from.Reads as priorities-from
use Rattle.states.proofs.state_from.Kinds as state-from-kinds
use Rattle.states.proofs.state_from.Reads as state-from
use Rattle.states.proofs.marks_into.Kinds as marks-into-kinds
use Rattle.states.proofs.marks_into.Reads as marks-into
use Rattle.states.proofs.mark_out.Kinds as mark-out-kinds
use Rattle.states.proofs.mark_out.Reads as mark-out

pub priorities_from_one : OneOutcome 1 priorities-from-kinds.ps priorities-from-kinds.r priorities-from.Post
priorities_from_one κs a x y ws us p q = (p ∙ sym q, refl)

pub state_from_one : OneOutcome 2 state-from-kinds.ps state-from-kinds.r state-from.Post
state_from_one κs a x y ws us p q = (p ∙ sym q, refl)

pub marks_into_one : OneOutcome 1 marks-into-kinds.ps marks-into-kinds.r marks-into.Post
marks_into_one κs a x y ws us p q = (refl, ap (λ (l : List ℕ). (tt, (l, tt))) (p ∙ sym q))

pub mark_out_one : OneOutcome 1 mark-out-kinds.ps mark-out-kinds.r mark-out.Post
mark_out_one κs a x y ws us p q = (refl, ap (λ (l : List ℕ). (tt, (tt, (l, tt)))) (p ∙ sym q))
