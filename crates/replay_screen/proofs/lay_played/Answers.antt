use mathlib.Core.Path.{◌≡◌, refl, sym, ap, ◌∙◌}
use mathlib.Core.List.{◌++◌}
use Prim.Native.Nat.{◌+◌}
use native.Mathlib.Omega.{arith}
use Rattle.tournament_state.specs.declared.Tournament.{Tournament}
use Rattle.tournament_state.proofs.Meaning.{fine_passed}
use Rattle.tournament.specs.Rule.{steps}
use Rattle.text.proofs.Laying.{is, then, last, none}
use Rattle.replay_screen.specs.Shown.{bit_line, bit_lines, winner_line, played_of}
use Rattle.replay_screen.specs.private.Begun.{is_heard}
use Rattle.replay_screen.proofs.Play.{step_fine, bit_more}
use Rattle.replay_screen.proofs.Silent.{end_is, run_fine, silent_gone}
use Rattle.replay_screen.proofs.lay_played.Goals as goal

pub loop-k-init : goal.loop-k-init
unfolding steps bit_lines
loop-k-init c = (omega arith, refl, none _ _ (omega arith))

pub silent_at-silent-requires : goal.silent_at-silent-requires
silent_at-silent-requires c =
    (fine_passed _ _ _ _ c.requires.judged).few

pub unwrap-end-requires : goal.unwrap-end-requires
unwrap-end-requires c = rw c.run.ensures (run_fine c.args.t c.requires)

pub unwrap-after-requires : goal.unwrap-after-requires
unwrap-after-requires c =
    let l = c.loop-k in
    rw c.step.ensures (step_fine c.args.t c.requires l.k l.now l.invariant.1)

pub loop-k-preserved : goal.loop-k-preserved
loop-k-preserved c =
    let l = c.loop-k in
    let k = c.loop-k-test.true in
    let gone = c.silent_at-silent.ensures ∙ silent_gone c.args.t c.requires _ _ (sym c.run.ensures ∙ c.unwrap-end.ensures) c.winning-won.ensures l.k k in
    let m = bit_more c.args.t c.requires l.k l.now _ _ _ k l.invariant.1 (c.unwrap_or-carrier.ensures ∙ ap is_heard c.listen.ensures) (sym c.step.ensures ∙ c.unwrap-after.ensures) gone in
    (omega arith, m.0, is m.1 (then {t = bit_line (l.k + 1) c.unwrap_or-carrier.result c.silent_at-silent.result c.unwrap-after.result.marks} l.invariant.2 (last c.lay_bit-next.ensures) (omega arith)))

pub returns : goal.returns
unfolding played_of
returns c =
    let l = c.loop-k in
    let t = c.args.t in
    let n : l.k ≡ t.bits = omega arith in
    let end = c.unwrap-end.result in
    let e : end ≡ steps t.bits t = end_is t c.requires _ (sym c.run.ensures ∙ c.unwrap-end.ensures) in
    is (ap (λ k. bit_lines t k ++ winner_line end.priorities end.phase) n ∙ ap (λ (s : Tournament). bit_lines t t.bits ++ winner_line s.priorities s.phase) e)
    (then l.invariant.2 (last c.lay_winner.ensures) (omega arith))
