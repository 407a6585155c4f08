-- What comes to a C + K are the letters of the timing that is meant.
use mathlib.Core.Path.{sym, ap, subst, ◌∙◌}
use Rattle.carried.specs.Carried.{entered_timing_in, meant_timing, timing_in}
use Rattle.carried.proofs.Plans.{timing_held}
use Rattle.costs.specs.Costs.{Overhead, overheads_of}
use Rattle.costs.proofs.Costs.{overhead_within}
use Rattle.answers.proofs.rows.put_rows.Goals as goal
use Rattle.answers.proofs.rows.put_rows.Goals.{After-overheads_of-over}
use Rattle.answers.proofs.rows.put_rows.Given.{Over}

letters : (g : Over) (o : After-overheads_of-over g) → Overhead (timing_in o.args.words.now) o.overheads_of-over.result
letters g o =
    let t = entered_timing_in o.args.words.now in
    let w = o.requires.places_within.timing in
    let e = o.overheads_of-over.ensures ∙ ap overheads_of (o.timing_in.ensures ∙ timing_held t w) in
    subst (Overhead (meant_timing t)) (sym e) (overhead_within (meant_timing t) w)

pub invariant_of-fine : goal.invariant_of-fine
invariant_of-fine g c = record { within = c.requires.places_within; overhead = letters g (goal.at.invariant_of-fine g c).After-overheads_of-over }

pub invariant_of-fine-2 : goal.invariant_of-fine-2
invariant_of-fine-2 g c = record { within = c.requires.places_within; overhead = letters g (goal.at.invariant_of-fine-2 g c).After-overheads_of-over }
