-- The timing's words with their limits beside them are its fields. Assumes nothing.
use mathlib.Core.Path.{refl, ◌∙◌}
use native.Mathlib.Omega.{arith}
use Rattle.carried.proofs.Plans.{timing_back}
use Rattle.fields.specs.private.Bands.{fields_of}
use Rattle.fields.proofs.timing_outside.Goals as goal

pub returns : goal.returns
unfolding fields_of
returns c = c.words_outside.ensures ∙ rw (c.slot_band.ensures, ← timing_back c.args.words.now (omega arith)) refl
