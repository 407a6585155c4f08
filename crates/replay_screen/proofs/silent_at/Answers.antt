use mathlib.Core.Path.{◌≡◌}
use mathlib.Core.Bool.{false}
use native.Mathlib.Omega.{arith}
use lib.ListN.{length-take}
use Rattle.names.specs.Limits.{contenders}
use Rattle.laws.specs.Lists.{rows}
use Rattle.laws.proofs.Lists.{lay_more}
use Rattle.tournament_state.specs.Refusals.{none}
use Rattle.std.proofs.lemmas.List.{get_or-take}
use Rattle.replay_screen.specs.private.Begun.{silent_at}
use Rattle.replay_screen.proofs.silent_at.Invariants.{goes}
use borrow.Author.Rules.{rules}
use Rattle.replay_screen.proofs.silent_at.Goals as goal

pub loop-i-init : goal.loop-i-init
unfolding rows
loop-i-init c = search rules

pub loop-i-preserved : goal.loop-i-preserved
loop-i-preserved c =
    let l = c.loop-i in
    let a = c.args in
    let own = get_or-take a.t.count a.t.priorities l.i none (omega (arith, length-take a.t.count a.t.priorities)) in
    rw (l.invariant, c.silent_bit.ensures, own) (lay_more (goes a.t a.won a.k) false contenders l.i (omega (arith, length-take a.t.count a.t.priorities)))

pub returns : goal.returns
unfolding silent_at
returns c =
    let l = c.loop-i in
    let a = c.args in
    let e : l.i ≡ a.t.count = omega (arith, length-take a.t.count a.t.priorities) in
    rw (← e) l.invariant
