use mathlib.Core.Path.{◌≡◌, ◌∙◌}
use native.Mathlib.Omega.{arith}
use lib.ListN.{get_or}
use Rattle.laws.specs.Lists.{rows}
use Rattle.laws.proofs.Lists.{lay_more}
use Rattle.tournament_state.proofs.Places.{laid_all, rows_all}
use Rattle.tournament_state.specs.Refusals.{number, none}
use borrow.Author.Rules.{rules}
use Rattle.tournament_state.proofs.numbers.Goals as goal

pub loop-i-init : goal.loop-i-init
unfolding rows
loop-i-init c = search rules

pub loop-i-preserved : goal.loop-i-preserved
loop-i-preserved c =
    let l = c.loop-i in
    (omega arith, rw l.invariant.1 (lay_more (λ k. number (get_or c.args.priorities k none)) 0 128 l.i (search rules)))

pub returns : goal.returns
returns c =
    let ps = c.args.priorities in
    let l = c.loop-i in
    let e : l.i ≡ 128 = omega arith in
    l.invariant.1 ∙ laid_all _ 0 128 l.i (search rules) ∙ rows_all number ps none l.i (search rules)
