-- What a call says that is lent fewer marks than contenders, and one that is lent enough. Assumes nothing.
use mathlib.Core.Path.{◌≡◌, ap}
use mathlib.Core.List.{List}
use Prim.Native.Nat.{ℕ, ◌≤◌, ◌<◌}
use borrow.Author.Tests.{le-leb, lt-leb}
use lib.ListN.{length}
use Rattle.std.specs.Prelude.{Result, Err}
use Rattle.names.specs.declared.Refusal.{Refusal}
use Rattle.judge.specs.Table.{judge, unless}
use Rattle.judge.proofs.Table.{given, passed}
use Rattle.tournament.specs.Rule.{begun_of, next}
use Rattle.tournament.specs.Answers.{outcome, start_of, step_of}
use Rattle.tournament_state.specs.declared.Phase.{Phase, TheVariants.AtBit}
use Rattle.tournament_state.specs.Refusals.{verdict_of}
use Rattle.states.specs.States.{priorities_from, phase_from, state_from}
use Rattle.outside.specs.Outside.{lent_lines, start_from, step_from, StartEnough, StepEnough}

-- refused 6
abbrev pub six : {A : Type 0} → Result A Refusal
six = Err (record { number = 6; place = 0 })

module _ (NB : ℕ) (ps bs : List ℕ) (phase : Phase) where
  pub fewer : length bs < length ps → judge (lent_lines NB ps bs phase) ≡ six
  fewer h = given _ _ 0 (ap unless (lt-leb (length ps) (length bs) h))

  pub enough : length ps ≤ length bs → judge (lent_lines NB ps bs phase) ≡ verdict_of NB (length ps) (priorities_from ps) phase
  unfolding verdict_of
  enough h = passed _ _ (ap unless (le-leb (length ps) (length bs) h))

pub start_fewer : (NB : ℕ) (ps bs : List ℕ) → length bs < length ps → start_from NB ps bs ≡ six
unfolding start_from
start_fewer NB ps bs h = ap (λ c. outcome c (begun_of NB (length ps) (priorities_from ps))) (fewer NB ps bs (AtBit 1) h)

pub start_enough : StartEnough
unfolding start_from start_of
start_enough NB ps bs h = ap (λ c. outcome c (begun_of NB (length ps) (priorities_from ps))) (enough NB ps bs (AtBit 1) h)

pub step_fewer : (NB phase at : ℕ) (ps bs : List ℕ) → length bs < length ps → step_from NB phase at ps bs ≡ six
unfolding step_from
step_fewer NB phase at ps bs h = ap (λ c. outcome c (next (state_from NB phase at ps bs))) (fewer NB ps bs (phase_from phase at) h)

pub step_enough : StepEnough
unfolding step_from step_of state_from
step_enough NB phase at ps bs h = ap (λ c. outcome c (next (state_from NB phase at ps bs))) (enough NB ps bs (phase_from phase at) h)
