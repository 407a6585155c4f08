-- The answer of two priorities as a number. Assumes nothing.
use mathlib.Core.Path.{ap, ◌∙◌}
use Rattle.replay_screen.specs.private.Begun.{bit_of, silent_bit}
use Rattle.replay_screen.proofs.silent_bit.Goals as goal

pub returns : goal.returns
unfolding silent_bit
returns c = c.unwrap_or.ensures ∙ ap bit_of c.parting_bit.ensures
