-- The public contract determines its outcome, lent memory included.
use mathlib.Core.Path.{◌∙◌, sym, ap}
use mathlib.Core.List.{List}
use Prim.Native.Nat.{ℕ}
use seplogic.Ra.Ura.{Ura}
use base.Logic.{SProp}
use prog.Memory.{Memory}
use prog.Routine.{Routine}
use types.Logic.{Logic}
use contract.Monad.{Fun, fact_mono}
use denote.Triple.Walked.{needs}
use Rattle.screen.specs.Determined.{OneOutcomeByHand}
use Rattle.screen.specs.contracts.screen as screen

module _ {M : Type 1} {𝓤 : Ura M} (𝓛 : Logic 𝓤) (mem : Memory → SProp 𝓤) (run : Routine → Fun 𝓤) where
  pub screen_one : OneOutcomeByHand 𝓤 screen.ended (screen.clauses 𝓛 mem run)
  screen_one κs a g x y ws us =
      needs 𝓤 _ _ (λ q. fact_mono 𝓤 _ _ (λ p. (p.0 ∙ sym q.0, ap (λ (l : List ℕ). (tt, (tt, (tt, (l, tt))))) (p.1 ∙ sym q.1))))
