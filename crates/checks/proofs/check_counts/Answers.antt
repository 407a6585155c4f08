use mathlib.Core.Path.{sym, ap, ◌∙◌}
use Rattle.judge.specs.Table.{unless}
use Rattle.judge.proofs.Table.{passed, nothing_given}
use Rattle.checks.proofs.Counts.{range_refused}
use Rattle.checks.proofs.check_counts.Goals as goal

pub returns-then-in_range : goal.returns-then-in_range
returns-then-in_range c = sym (passed _ _ (ap unless (sym c.in_range.ensures ∙ c.if-in_range.true)) ∙ nothing_given)

pub returns : goal.returns
returns c =
    let a = c.args.counts in
    c.refused.ensures ∙ sym (range_refused a.edition a.n a.m (sym c.in_range.ensures ∙ c.if-in_range.false))
