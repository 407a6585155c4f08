-- The state is made of its parts, each as its own function says. Assumes nothing.
use mathlib.Core.Path.{refl}
use Rattle.states.specs.States.{state_from}
use Rattle.states.proofs.state_from.Goals as goal

pub returns : goal.returns
unfolding state_from
returns c =
    rw (c.priorities_from.ensures, c.marks_from.ensures, c.phase_from.ensures) refl
