-- In places, the first ten words are those that are lent. Assumes nothing.
use mathlib.Core.Path.{ap, ◌∙◌}
use Rattle.carried.specs.Carried.{entered_timing_in}
use Rattle.carried.proofs.Plans.{timing_in_places}
use Rattle.carried.proofs.timing_from.Goals as goal

pub returns : goal.returns
returns c =
    c.entered_in.ensures
    ∙ ap entered_timing_in c.words_from.ensures
    ∙ timing_in_places c.args.values.now
