-- The contracts determine the outcomes: each equates the result, and what lent memory ends with, with one value. Assumes nothing.
use mathlib.Core.Path.{refl, sym, ap, ◌∙◌}
use mathlib.Core.List.{List}
use Prim.Native.Nat.{ℕ}
use seplogic.Ra.Ura.{Ura}
use base.Logic.{SProp}
use prog.Memory.{Memory}
use prog.Routine.{Routine}
use types.Logic.{Logic}
use contract.Monad.{Fun, fact_mono}
use denote.Triple.Walked.{needs}
use Rattle.laws.specs.Determined.{OneOutcome}
use Rattle.screen.specs.Determined.{OneOutcomeByHand}
use Rattle.outside.proofs.SaidFromResultU64Refusal.from.Kinds as said-kinds
use Rattle.outside.proofs.SaidFromResultU64Refusal.from.Reads as said
use Rattle.outside.proofs.WeighedFromReason.from.Kinds as reason-kinds
use Rattle.outside.proofs.WeighedFromReason.from.Reads as reason
use Rattle.outside.proofs.WeighedFromCompared.from.Kinds as compared-kinds
use Rattle.outside.proofs.WeighedFromCompared.from.Reads as compared
use Rattle.outside.proofs.livnakesh_answers.Kinds as answers-kinds
use Rattle.outside.proofs.livnakesh_answers.Reads as answers
use Rattle.outside.proofs.livnakesh_rewrite.Kinds as rewrite-kinds
use Rattle.outside.proofs.livnakesh_rewrite.Reads as rewrite
use Rattle.outside.proofs.livnakesh_write.Kinds as write-kinds
use Rattle.outside.proofs.livnakesh_write.Reads as write
use Rattle.outside.specs.contracts.livnakesh_screen as screen
use Rattle.outside.proofs.livnakesh_parting.Kinds as parting-kinds
use Rattle.outside.proofs.livnakesh_parting.Reads as parting
use Rattle.outside.proofs.livnakesh_lighter.Kinds as lighter-kinds
use Rattle.outside.proofs.livnakesh_lighter.Reads as lighter
use Rattle.outside.proofs.livnakesh_start.Kinds as start-kinds
use Rattle.outside.proofs.livnakesh_start.Reads as start
use Rattle.outside.proofs.livnakesh_step.Kinds as step-kinds
use Rattle.outside.proofs.livnakesh_step.Reads as step

pub said_from_one : OneOutcome 0 said-kinds.ps said-kinds.r said.Post
said_from_one κs a x y ws us p q = (p ∙ sym q, refl)

pub weighed_from_reason_one : OneOutcome 0 reason-kinds.ps reason-kinds.r reason.Post
weighed_from_reason_one κs a x y ws us p q = (p ∙ sym q, refl)

pub weighed_from_compared_one : OneOutcome 0 compared-kinds.ps compared-kinds.r compared.Post
weighed_from_compared_one κs a x y ws us p q = (p ∙ sym q, refl)

pub livnakesh_answers_one : OneOutcome 2 answers-kinds.ps answers-kinds.r answers.Post
livnakesh_answers_one κs a x y ws us p q = (p.0 ∙ sym q.0, ap (λ (l : List ℕ). (tt, (l, tt))) (p.1 ∙ sym q.1))

pub livnakesh_rewrite_one : OneOutcome 2 rewrite-kinds.ps rewrite-kinds.r rewrite.Post
livnakesh_rewrite_one κs a x y ws us p q = (p.0 ∙ sym q.0, ap (λ (l : List ℕ). (tt, (l, tt))) (p.1 ∙ sym q.1))

pub livnakesh_write_one : OneOutcome 2 write-kinds.ps write-kinds.r write.Post
livnakesh_write_one κs a x y ws us p q = (p.0 ∙ sym q.0, ap (λ (l : List ℕ). (tt, (tt, (tt, (l, tt))))) (p.1 ∙ sym q.1))

pub livnakesh_parting_one : OneOutcome 0 parting-kinds.ps parting-kinds.r parting.Post
livnakesh_parting_one κs a x y ws us p q = (p ∙ sym q, refl)

pub livnakesh_lighter_one : OneOutcome 2 lighter-kinds.ps lighter-kinds.r lighter.Post
livnakesh_lighter_one κs a x y ws us p q = (p ∙ sym q, refl)

pub livnakesh_start_one : OneOutcome 2 start-kinds.ps start-kinds.r start.Post
livnakesh_start_one κs a x y ws us p q = (p.0 ∙ sym q.0, ap (λ (l : List ℕ). (tt, (tt, (l, tt)))) (p.1 ∙ sym q.1))

pub livnakesh_step_one : OneOutcome 2 step-kinds.ps step-kinds.r step.Post
livnakesh_step_one κs a x y ws us p q = (p.0 ∙ sym q.0, ap (λ (l : List ℕ). (tt, (tt, (tt, (tt, (l, tt)))))) (p.1 ∙ sym q.1))

module _ {M : Type 1} {𝓤 : Ura M} (𝓛 : Logic 𝓤) (mem : Memory → SProp 𝓤) (run : Routine → Fun 𝓤) where
  pub livnakesh_screen_one : OneOutcomeByHand 𝓤 screen.ended (screen.clauses 𝓛 mem run)
  livnakesh_screen_one κs a g x y ws us =
      needs 𝓤 _ _ (λ q. fact_mono 𝓤 _ _ (λ p. (p.0 ∙ sym q.0, ap (λ (l : List ℕ). (tt, (tt, (tt, (l, tt))))) (p.1 ∙ sym q.1))))
