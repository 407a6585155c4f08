-- At a bit the calls give the marks and the phase that the rule names; a finished state is handed back. Assumes nothing.
use mathlib.Core.Path.{◌≡◌, refl, sym, ap, ◌∙◌}
use mathlib.Core.Logic.{◌⊎◌, inl, inr}
use Prim.Native.Nat.{◌≤◌}
use borrow.Author.Tests.{eq-eqb, ne_eqb}
use lib.ListN.{length}
use Rattle.names.specs.declared.Row.{Row}
use Rattle.tournament_state.specs.declared.Phase.TheVariants.{Finished, NoWinner}
use Rattle.tournament_state.specs.declared.Tournament.{Tournament}
use Rattle.tournament.specs.Rule.{marks_after, next_at, next}
use Rattle.tournament.proofs.Turns.{step_at, winner_front}
use borrow.Author.Rules.{rules}
use Rattle.tournament.proofs.next.Goals as goal
use Rattle.tournament.proofs.next.Goals.{Joined-heard, then-heard, else-heard, then-k-t, else-k-t}

-- the marks after it
marks : (c : Joined-heard) → c.if-heard.marks ≡ marks_after c.args.t.now c.in-AtBit.k
unfolding marks_after
marks c =
    elim c.if-heard.branch [
      | then-heard w ↦ w.marks-is ∙ w.silenced-marks.ensures ∙ sym (rw (← c.heard.ensures, w.if-heard.true) refl)
      | else-heard w ↦ w.marks-is ∙ sym (rw (← c.heard.ensures, w.if-heard.false) refl)
    ]

pub returns-after-k-t : goal.returns-after-k-t
returns-after-k-t c =
    let j = (goal.at.returns-after-k-t c).Joined-heard in
    let m : c.args.t.now.count ≤ length c.if-heard.marks = elim c.if-heard.branch [
      | then-heard w ↦ search rules
      | else-heard w ↦ search rules
    ] in
    elim c.if-k-t.branch [
      | then-k-t w ↦ step_at _ _ _ _ c.in-AtBit.is (marks j) (w.phase-is ∙ w.winner-phase.ensures ∙ winner_front _ _ m ∙ sym (rw (eq-eqb _ _ w.if-k-t.true, ← marks j) refl))
      | else-k-t w ↦ step_at _ _ _ _ c.in-AtBit.is (marks j) (w.phase-is ∙ rw (ne_eqb _ _ w.if-k-t.false) refl)
    ]

-- at no bit nothing changes
stays : (t : Tournament) → ((row : Row) × (t.phase ≡ Finished row)) ⊎ (t.phase ≡ NoWinner) → t ≡ next t
unfolding next_at
stays t (inl (row, e)) = sym (ap (next_at t) e)
stays t (inr e) = sym (ap (next_at t) e)

pub returns-in-Finished : goal.returns-in-Finished
returns-in-Finished c = stays _ c.in-Finished.is
