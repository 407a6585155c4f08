-- The public contract determines its outcome, lent memory included.
use mathlib.Core.Path.{◌∙◌, sym, ap}
use mathlib.Core.List.{List}
use Prim.Native.Nat.{ℕ}
use Rattle.laws.specs.Determined.{OneOutcome}
use Rattle.replay_screen.proofs.lay_shown.Kinds as lay-shown-kinds
use Rattle.replay_screen.proofs.lay_shown.Reads as lay-shown

pub lay_shown_one : OneOutcome 1 lay-shown-kinds.ps lay-shown-kinds.r lay-shown.Post
lay_shown_one κs a x y ws us p q = (p.place ∙ sym q.place, ap (λ (l : List ℕ). (l, (tt, (tt, (tt, (tt, tt)))))) (p.bytes ∙ sym q.bytes))
