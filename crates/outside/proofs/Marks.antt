-- The claims on lent marks: the tournament's own refusals are all above 6, and only a contender that a step marks out has its byte changed.
-- Assumes nothing.
use mathlib.Core.Path.{◌≡◌, refl, sym, ap, ◌∙◌}
use mathlib.Core.List.{List}
use mathlib.Core.Logic.{◌↔◌}
use Prim.Native.Nat.{ℕ, zero, suc, ◌≤◌, ◌<◌}
use native.Mathlib.Nat.{lt_of_not-le}
use native.Mathlib.Decide.{dec_le}
use native.Mathlib.Omega.{arith}
use lib.ListN.{length, get_or}
use Rattle.std.specs.Prelude.{Ok, Err}
use Rattle.judge.specs.Table.{Checked}
use Rattle.judge.specs.Table.{judge}
use Rattle.judge.proofs.Table.{refused_not_fine}
use Rattle.tournament.specs.Answers.{outcome}
use Rattle.tournament.specs.Rule.{next_at, next}
use Rattle.tournament.proofs.Readiness.{same_size}
use Rattle.tournament_state.specs.declared.Phase.{Phase, TheVariants.AtBit}
use Rattle.tournament_state.specs.declared.Tournament.{Tournament}
use Rattle.tournament_state.proofs.Ranges.{refusal_range}
use Rattle.states.specs.States.{phase_from, state_from, marked_out}
use Rattle.states.proofs.Placed.{unchanged, unused}
use Rattle.outside.specs.Outside.{lent_lines, start_from, step_from, step_bytes, StartSix, StepSix, UnusedKept, FinishedKept}
use Rattle.outside.proofs.Fewer.{six, fewer, enough}

-- ---- the tournament's own refusals are above 6
six_first : (NB : ℕ) (ps bs : List ℕ) (phase : Phase) → (judge (lent_lines NB ps bs phase) ≡ six) ↔ (length bs < length ps)
six_first NB ps bs phase = (
  λ e. elim (dec_le (length ps) (length bs)) [
    | yes h ↦ absurd (omega (arith, refusal_range _ _ _ phase _ (sym (enough NB ps bs phase h) ∙ e)))
    | no h ↦ lt_of_not-le h
  ],
  fewer NB ps bs phase,
)

refused_if : {A T : Type 0} (c : Checked) (after : A) → (c ≡ six) ↔ T → (outcome c after ≡ six) ↔ T
refused_if (Ok _) after h = (λ e. absurd (let z : ◌≡◌ {A = ℕ} 0 1 = cc in omega arith), λ t. absurd (refused_not_fine (sym (h.1 t))))
refused_if (Err r) after h = (λ e. h.0 (let q : r ≡ record { number = 6; place = 0 } = cc in ap Err q), λ t. let q : r ≡ record { number = 6; place = 0 } = (let e = h.1 t in cc) in ap Err q)

pub start_six : StartSix
unfolding start_from
start_six NB ps bs = refused_if _ _ (six_first NB ps bs (AtBit 1))

pub step_six : StepSix
unfolding step_from
step_six NB phase at ps bs = refused_if _ _ (six_first NB ps bs (phase_from phase at))

-- ---- bytes that a step keeps
-- what is so of the bytes as they were, and of those that the state after a step leaves, is so after a call
kept_bytes : (P : List ℕ → Type 0) (c : Checked) (after : Tournament) (found : List ℕ) → P (marked_out after.count after.marks found) → P found → P (step_bytes (outcome c after) found)
kept_bytes P (Ok _) after found p q = p
kept_bytes P (Err r) after found p q = q

-- a step has the contenders that it is lent
counted : (NB phase at : ℕ) (ps bs : List ℕ) → (next (state_from NB phase at ps bs)).count ≡ length ps
unfolding state_from
counted NB phase at ps bs = (same_size (state_from NB phase at ps bs)).1

-- a phase from 1 on is not at a bit, and a finished state is the one that is lent
stays : (NB phase at : ℕ) (ps bs : List ℕ) → 1 ≤ phase → next (state_from NB phase at ps bs) ≡ state_from NB phase at ps bs
unfolding state_from next_at
stays NB zero at ps bs h = absurd (omega arith)
stays NB (suc zero) at ps bs h = refl
stays NB (suc (suc k)) at ps bs h = refl

pub unused_kept : UnusedKept
unfolding step_from
unused_kept NB phase at ps bs i h =
    let t = next (state_from NB phase at ps bs) in
    kept_bytes (λ l. get_or l i 0 ≡ get_or bs i 0) (judge (lent_lines NB ps bs (phase_from phase at))) t bs (unused t.count t.marks bs i (rw (counted NB phase at ps bs) h)) refl

pub finished_kept : FinishedKept
unfolding state_from step_from
finished_kept NB phase at ps bs h =
    kept_bytes (λ l. l ≡ bs) (judge (lent_lines NB ps bs (phase_from phase at))) (next (state_from NB phase at ps bs)) bs
    (ap (λ (t : Tournament). marked_out t.count t.marks bs) (stays NB phase at ps bs h) ∙ unchanged (length ps) bs)
    refl
