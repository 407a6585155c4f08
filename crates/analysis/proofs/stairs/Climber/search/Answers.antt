-- The chain ends where the rule says, and the second search finds the largest term.
use borrow.Author.Rules.{rules}
use mathlib.Core.Path.{◌∙◌}
use Rattle.bound.proofs.Answers.{searched-bound}
use Rattle.terms.proofs.Fit.{fit_sound}
use Rattle.analysis.proofs.Chains.{ended_none, ended_busy}
use Rattle.analysis.proofs.stairs.Climber.search.Goals as goal

pub returns-in-None : goal.returns-in-None
returns-in-None g c = c.no_bound.ensures ∙ ended_none (fit_sound _ _ _ c.args.fitting.fit.row) c.busy_period-ended.ensures _ c.in-None.ensures

pub worst-answer-requires : goal.worst-answer-requires
worst-answer-requires g c = (search rules, (ended_busy (fit_sound _ _ _ c.args.fitting.fit.row) c.busy_period-ended.ensures _ c.in-Some.ensures, c.requires))

pub returns-in-Some : goal.returns-in-Some
returns-in-Some g c =
    let found = ended_busy (fit_sound _ _ _ c.args.fitting.fit.row) c.busy_period-ended.ensures _ c.in-Some.ensures in
    searched-bound _ _ _ _ _ found c.worst-answer.ensures c.busy_period-ended.ensures.count
