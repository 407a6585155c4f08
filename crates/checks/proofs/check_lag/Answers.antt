-- Both ways out are the one line's. Assumes nothing.
use mathlib.Core.Path.{sym, ◌∙◌}
use mathlib.Core.List.{[]}
use borrow.Author.Tests.{ltb-true, ltb-false}
use Rattle.names.specs.Limits.{constant}
use Rattle.judge.proofs.Table.{nothing_given}
use Rattle.carried.specs.Carried.{entered_timing_in}
use Rattle.checks.proofs.Fine.{lag_passed, lag_given}
use Rattle.checks.proofs.check_lag.Goals as goal

pub returns-then-too_much : goal.returns-then-too_much
returns-then-too_much c =
    let t = entered_timing_in c.args.words.now in
    c.refused.ensures ∙ sym (lag_given t [] (ltb-true constant _ (sym c.too_much.ensures ∙ c.if-too_much.true)))

pub returns : goal.returns
returns c =
    let t = entered_timing_in c.args.words.now in
    sym (lag_passed t [] (ltb-false constant _ (sym c.too_much.ensures ∙ c.if-too_much.false)) ∙ nothing_given)
