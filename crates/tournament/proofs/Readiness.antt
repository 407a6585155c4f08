-- A state that is not refused is ready for a step, and so is the state after it. Assumes nothing.
use mathlib.Core.Path.{◌≡◌, refl}
use mathlib.Core.Bool.{Bool, true, false, cond}
use mathlib.Core.List.{List}
use Prim.Native.Nat.{ℕ, zero, suc, ◌+◌, ◌≤◌}
use native.Mathlib.Numerals.{add-one}
use native.Mathlib.Omega.{arith}
use borrow.Author.Tests.{eqb-false}
use lib.Dec.{eqb}
use lib.ListN.{get_or}
use Rattle.names.specs.declared.Refusal.{Refusal}
use Rattle.std.specs.Prelude.{Option, Some, None, Ok, Err}
use Rattle.judge.specs.Table.{Checked}
use Rattle.laws.proofs.Rows.{finds_lowest}
use Rattle.tournament_state.specs.declared.Phase.{Phase, TheVariants.AtBit, TheVariants.Finished, TheVariants.NoWinner}
use Rattle.tournament_state.specs.declared.Tournament.{Tournament}
use Rattle.tournament_state.specs.Refusals.{PhaseWithin}
use Rattle.tournament_state.proofs.Meaning.{fine_passed}
use Rattle.tournament.specs.Rule.{lowest_marked, finished_by, winner_of, marks_after, next_at, next, steps}
use Rattle.tournament.specs.Answers.{judged_of, outcome}
use Rattle.tournament.specs.private.Ready.{AtABit, Ready}

pub ready_fine : (t : Tournament) → judged_of t ≡ Ok tt → Ready t
ready_fine t e =
    let p = fine_passed t.bits t.count t.priorities t.phase e in
    record { few = p.few; narrow = p.to; within = p.within }

pub ready_bit : (t : Tournament) (k : ℕ) → Ready t → t.phase ≡ AtBit k → AtABit t k
ready_bit t k r e = let h : PhaseWithin t.bits t.count (AtBit k) = rw e at r.within in record { few = r.few; narrow = r.narrow; from = h.0; to = h.1 }

-- ---- the phase after a step is within its limits
winner_within : (NB n : ℕ) (marks : List Bool) → PhaseWithin NB n (winner_of n marks)
unfolding winner_of lowest_marked
winner_within NB n marks = by_found (lowest_marked n marks) refl
  where
    by_found : (f : Option ℕ) → lowest_marked n marks ≡ f → PhaseWithin NB n (finished_by f)
    by_found (Some i) e = let l = (finds_lowest (λ i. get_or marks i false) _ n i).0 e in omega (arith, l.below)
    by_found None e = tt

pub next_within : (t : Tournament) → PhaseWithin t.bits t.count t.phase → PhaseWithin (next t).bits (next t).count (next t).phase
unfolding next_at
next_within t w = by_phase t.phase refl
  where
    by_test : (k : ℕ) → (1 ≤ k) × (k ≤ t.bits) → (b : Bool) → eqb k t.bits ≡ b
        → PhaseWithin t.bits t.count (cond b (winner_of t.count (marks_after t k)) (AtBit (k + 1)))
    by_test k h true e = winner_within t.bits t.count (marks_after t k)
    by_test k h false e = let d : k ≡ t.bits → ⊥ = eqb-false k t.bits e in (omega arith, omega (arith, d))

    by_phase : (p : Phase) → t.phase ≡ p → PhaseWithin (next_at t p).bits (next_at t p).count (next_at t p).phase
    by_phase (AtBit k) e = by_test k (rw e at w) (eqb k t.bits) refl
    by_phase (Finished row) e = w
    by_phase NoWinner e = w

-- ---- and so is all else
pub same_size : (t : Tournament) → ((next t).bits ≡ t.bits) × ((next t).count ≡ t.count)
unfolding next_at
same_size t = by_phase t.phase
  where
    by_phase : (p : Phase) → ((next_at t p).bits ≡ t.bits) × ((next_at t p).count ≡ t.count)
    by_phase (AtBit k) = (refl, refl)
    by_phase (Finished row) = (refl, refl)
    by_phase NoWinner = (refl, refl)

ready_next : (t : Tournament) → Ready t → Ready (next t)
ready_next t r =
    record { few = rw (same_size t).1 r.few; narrow = rw (same_size t).0 r.narrow; within = next_within t r.within }

pub ready_steps : (t : Tournament) → Ready t → (k : ℕ) → Ready (steps k t)
unfolding steps
ready_steps t r zero = r
ready_steps t r (suc k) = ready_next (steps k t) (ready_steps t r k)

pub steps_more : (k : ℕ) (t : Tournament) → steps (k + 1) t ≡ next (steps k t)
unfolding steps
steps_more k t = rw add-one refl

-- ---- an answer from its verdict
module _ {A : Type 0} {v : Checked} where
  pub outcome_fine : {after now : A} → v ≡ Ok tt → now ≡ after → Ok now ≡ outcome v after
  outcome_fine e q = rw (e, q) refl

  pub outcome_refused : (after : A) {r : Refusal} → v ≡ Err r → Err r ≡ outcome v after
  outcome_refused after e = rw e refl
