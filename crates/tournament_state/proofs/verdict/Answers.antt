-- Each return is a line of the table, and the tests that led there say that the lines before it are not given. Assumes nothing.
use mathlib.Core.Path.{◌≡◌, sym, ap, ◌∙◌}
use lib.ListN.{drop}
use Rattle.names.specs.Limits.{contenders, bits}
use Rattle.judge.specs.Table.{judge, unless, row_in}
use Rattle.judge.proofs.Table.{given, passed, nothing_given}
use Rattle.tournament_state.specs.Refusals.{one_to, state_lines, verdict_of}
use Rattle.tournament_state.proofs.verdict.Goals as goal
use Rattle.tournament_state.proofs.verdict.Goals.{After-contains, After-contains-2, Else-not-contains, Else-not-contains-2, In_default, Else-not-phase_inside}
use borrow.Author.Rules.{rules}

-- what the tests of two numbers ask
few : (c : After-contains) → c.contains.result ≡ one_to contenders c.args.count
few c = search rules

narrow : (c : After-contains-2) → c.contains-2.result ≡ one_to bits c.args.bits
narrow c = search rules

-- past the contenders, ..
past_7 : (c : Else-not-contains) → let a = c.args in let ls = state_lines a.bits a.count a.priorities a.phase in judge ls ≡ judge (drop 1 ls)
past_7 c = passed _ _ (ap unless (sym (few c.before) ∙ c.if-not-contains.false))

-- .. past the bit count, ..
past_bits : (c : Else-not-contains-2) → let a = c.args in let ls = state_lines a.bits a.count a.priorities a.phase in judge ls ≡ judge (drop 2 ls)
past_bits c = past_7 c.before.before.before.before.before ∙ passed _ _ (ap unless (sym (narrow c.before) ∙ c.if-not-contains-2.false))

-- .. past the priorities, ..
past_fit : (c : In_default) → let a = c.args in let ls = state_lines a.bits a.count a.priorities a.phase in judge ls ≡ judge (drop 3 ls)
past_fit c = past_bits c.before.before.before ∙ passed _ _ (ap row_in (sym c.lowest_unfit.ensures ∙ c.in_default.is))

-- .. and past the phase
past_phase : (c : Else-not-phase_inside) → let a = c.args in let ls = state_lines a.bits a.count a.priorities a.phase in judge ls ≡ judge (drop 4 ls)
past_phase c = past_fit c.before.before ∙ passed _ _ (ap unless (sym c.phase_inside.ensures ∙ c.if-not-phase_inside.false))

pub returns-then-not-contains : goal.returns-then-not-contains
unfolding verdict_of
returns-then-not-contains c =
    c.refused.ensures ∙ sym (given _ _ 0 (ap unless (sym (few (goal.at.returns-then-not-contains c).After-contains) ∙ c.if-not-contains.true)))

pub returns-then-not-contains-2 : goal.returns-then-not-contains-2
unfolding verdict_of
returns-then-not-contains-2 c =
    let at = goal.at.returns-then-not-contains-2 c in
    c.refused-then-not-contains-2.ensures ∙ sym (past_7 at.Else-not-contains ∙ given _ _ 0 (ap unless (sym (narrow at.After-contains-2) ∙ c.if-not-contains-2.true)))

pub returns-in-Some : goal.returns-in-Some
unfolding verdict_of
returns-in-Some c =
    c.refused-in-Some.ensures ∙ sym (past_bits (goal.at.returns-in-Some c).Else-not-contains-2 ∙ given _ _ _ (ap row_in (sym c.lowest_unfit.ensures ∙ c.in-Some.is)))

pub returns-then-not-phase_inside : goal.returns-then-not-phase_inside
unfolding verdict_of
returns-then-not-phase_inside c =
    let at = goal.at.returns-then-not-phase_inside c in
    c.refused-then-not-phase_inside.ensures ∙ sym (past_fit at.In_default ∙ given _ _ 0 (ap unless (sym c.phase_inside.ensures ∙ c.if-not-phase_inside.true)))

pub returns-in-Some-lowest_repeat : goal.returns-in-Some-lowest_repeat
unfolding verdict_of
returns-in-Some-lowest_repeat c =
    let at = goal.at.returns-in-Some-lowest_repeat c in
    c.refused-in-Some-lowest_repeat.ensures ∙ sym (past_phase at.Else-not-phase_inside ∙ given _ _ _ (ap row_in (sym c.in-Some-lowest_repeat.ensures)))

pub returns-in-None : goal.returns-in-None
unfolding verdict_of
returns-in-None c =
    sym (past_phase (goal.at.returns-in-None c).Else-not-phase_inside ∙ passed _ _ (ap row_in (sym c.in-None.ensures)) ∙ nothing_given)
