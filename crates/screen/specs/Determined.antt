-- What it is for the contract of a function that is lent records to determine its outcome, stated over its clauses: two outcomes of one
-- call that its `ensures` allows at once are equal, the result and all that lent memory ends with.
use Rattle.std.specs.Prelude.{◌≡◌}
use seplogic.Ra.Ura.{Ura}
use base.Logic.{ent, sep}
use contract.Lifetimes.{Lfts}
use contract.Monad.{fact}
use denote.Triple.Entry.{Args, Res}
use denote.Triple.Clauses.{Clauses, Ended, Lasts, at_exit}

abbrev pub OneOutcomeByHand : {M : Type 1} (𝓤 : Ura M) (T : Ended) → Clauses 𝓤 T → Type 1
OneOutcomeByHand 𝓤 T c =
    (κs : Lfts T.signature.lifetimes) (a : Args T.signature κs) (g : (c κs a).ghost) (x y : Res T.signature κs)
    (ws us : Lasts T κs a)
    → ent 𝓤 (sep 𝓤 ((c κs a).ensures g x (at_exit T κs a ws)) ((c κs a).ensures g y (at_exit T κs a us))) (fact 𝓤 ((x ≡ y) × (ws ≡ us)))
