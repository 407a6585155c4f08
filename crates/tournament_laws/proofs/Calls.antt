-- Calls: what is not refused is not refused after a step, and a start that is not refused is won by a run. Assumes nothing.
use mathlib.Core.Path.{◌≡◌, refl, sym, ap, ◌∙◌}
use mathlib.Core.Bool.{Bool, true, false, cond}
use mathlib.Core.List.{List}
use Prim.Native.Nat.{ℕ, zero, suc, ◌+◌, ◌<◌}
use native.Mathlib.Omega.{arith}
use lib.Dec.{eqb}
use lib.ListN.{length}
use Rattle.names.specs.declared.Priority.{Priority}
use Rattle.names.specs.declared.Refusal.{Refusal}
use Rattle.names.specs.Limits.{contenders}
use Rattle.std.specs.Prelude.{Option, Some, None, Ok, Err}
use Rattle.judge.specs.Table.{Checked}
use Rattle.tournament_state.specs.declared.Phase.{Phase, TheVariants.AtBit, TheVariants.Finished, TheVariants.NoWinner}
use Rattle.tournament_state.specs.declared.Tournament.{Tournament}
use Rattle.tournament_state.specs.Refusals.{verdict_of, number_at, PhaseWithin}
use Rattle.tournament_state.proofs.Meaning.{fine_passed, fine_if_playable}
use Rattle.tournament.specs.Rule.{begun_of, marks_after, lowest_marked, finished_by, winner_of, next_at, next, steps}
use Rattle.tournament.specs.Answers.{judged_of, outcome, left, start_of, step_of, run_of}
use Rattle.tournament.proofs.Readiness.{next_within}
use Rattle.tournament_laws.specs.Facts.{after, calls, NotRefusedLater, RunIsCalls, RunEnds, StartThenRun}
use Rattle.tournament_laws.proofs.Start.{start_priority, start_long, kept_next, kept, start_bits, start_count, start_phase}
use Rattle.tournament_laws.proofs.Winner.{smallest_wins}

-- ---- verdicts on states with the same numbers
same_verdict : {NB NB' n n' : ℕ} {ps ps' : List Priority} {p p' : Phase}
    → NB' ≡ NB → n' ≡ n → ps' ≡ ps → p' ≡ p → verdict_of NB' n' ps' p' ≡ verdict_of NB n ps p
same_verdict a b c d = rw (a, b, c, d) refl

pub not_refused_later : NotRefusedLater
not_refused_later t long e =
    let s = (fine_if_playable t.bits t.count t.priorities t.phase long).0 e in
    let k = kept_next t in
    same_verdict k.bits k.count k.priorities refl
    ∙ (fine_if_playable t.bits t.count t.priorities (next t).phase long).1
    (record { fair = s.fair; from = s.from; to = s.to; within = rw (k.bits, k.count) at (next_within t s.within) })

-- ---- a run, by calls
pub outcome_of : {A : Type 0} (a : Checked) (after : A) → a ≡ Ok tt → outcome a after ≡ Ok after
outcome_of a after e = rw e refl

pub left_after : (a : Checked) (before after : Tournament) → a ≡ Ok tt → left (outcome a after) before ≡ after
left_after a before after e = rw e refl

pub run_is_steps : (t : Tournament) → judged_of t ≡ Ok tt → run_of t ≡ Ok (steps t.bits t)
unfolding run_of
run_is_steps t e = outcome_of (judged_of t) (steps t.bits t) e

pub judged_steps : (t : Tournament) → length t.priorities ≡ contenders → judged_of t ≡ Ok tt → (k : ℕ) → judged_of (steps k t) ≡ Ok tt
unfolding steps
judged_steps t long e zero = e
judged_steps t long e (suc k) =
    not_refused_later (steps k t) (ap length (kept t k).priorities ∙ long) (judged_steps t long e k)

calls_are_steps : (t : Tournament) → length t.priorities ≡ contenders → judged_of t ≡ Ok tt → (k : ℕ) → calls k t ≡ steps k t
unfolding steps calls step_of
calls_are_steps t long e zero = refl
calls_are_steps t long e (suc k) =
    ap (λ s. left (step_of s) s) (calls_are_steps t long e k)
    ∙ left_after (judged_of (steps k t)) (steps k t) (next (steps k t)) (judged_steps t long e k)

calls_refused : (t : Tournament) (r : Refusal) → judged_of t ≡ Err r → (k : ℕ) → calls k t ≡ t
unfolding calls step_of
calls_refused t r e zero = refl
calls_refused t r e (suc k) = ap (λ s. left (step_of s) s) (calls_refused t r e k) ∙ ap (λ a. left (outcome a (next t)) t) e

pub run_is_calls : RunIsCalls
unfolding run_of
run_is_calls t long = by_verdict (judged_of t) refl
  where
    by_verdict : (a : Checked) → judged_of t ≡ a → left (outcome a (steps t.bits t)) t ≡ calls t.bits t
    by_verdict (Ok _) e = sym (calls_are_steps t long e t.bits)
    by_verdict (Err r) e = sym (calls_refused t r e t.bits)

-- ---- a run comes to the end: after k steps it is past bit k
no_bit : (f : Option ℕ) (k : ℕ) → finished_by f ≡ AtBit k → ⊥
no_bit (Some i) k e = let z : ◌≡◌ {A = ℕ} 0 1 = cc in omega arith
no_bit None k e = let z : ◌≡◌ {A = ℕ} 0 1 = cc in omega arith

one_further : (t : Tournament) (m : ℕ) → (next t).phase ≡ AtBit m → (j : ℕ) × (t.phase ≡ AtBit j) × (m ≡ j + 1)
unfolding next_at winner_of
one_further t m q = by_phase t.phase refl q
  where
    by_test : (j : ℕ) (b : Bool) → cond b (winner_of t.count (marks_after t j)) (AtBit (j + 1)) ≡ AtBit m → m ≡ j + 1
    by_test j true e = absurd (no_bit (lowest_marked t.count (marks_after t j)) m e)
    by_test j false e = cc

    by_phase : (p : Phase) → t.phase ≡ p → (next_at t p).phase ≡ AtBit m → (j : ℕ) × (t.phase ≡ AtBit j) × (m ≡ j + 1)
    by_phase (AtBit j) e h = (j, e, by_test j (eqb j t.bits) h)
    by_phase (Finished row) e h = absurd (let z : ◌≡◌ {A = ℕ} 0 1 = cc in omega arith)
    by_phase NoWinner e h = absurd (let z : ◌≡◌ {A = ℕ} 0 1 = cc in omega arith)

past_bit : (t : Tournament) → PhaseWithin t.bits t.count t.phase → (k m : ℕ) → (steps k t).phase ≡ AtBit m → k < m
unfolding steps
past_bit t w zero m e = let h : PhaseWithin t.bits t.count (AtBit m) = rw e at w in h.0
past_bit t w (suc k) m e =
    let (j, q, z) = one_further (steps k t) m e in
    let l = past_bit t w k j q in
    omega arith

steps_within : (t : Tournament) → PhaseWithin t.bits t.count t.phase → (k : ℕ) → PhaseWithin (steps k t).bits (steps k t).count (steps k t).phase
unfolding steps
steps_within t w zero = w
steps_within t w (suc k) = next_within (steps k t) (steps_within t w k)

pub run_ends : RunEnds
run_ends t e k q =
    let w = (fine_passed t.bits t.count t.priorities t.phase e).within in
    let s = steps t.bits t in
    let q' : s.phase ≡ AtBit k = ap (λ r. (left r t).phase) (sym (run_is_steps t e)) ∙ q in
    let l = past_bit t w t.bits k q' in
    let h : PhaseWithin s.bits s.count (AtBit k) = rw q' at (steps_within t w t.bits) in
    omega (arith, (kept t t.bits).bits)

-- ---- a start and a run
handed_out : {A : Type 0} (a : Checked) (after now : A) → outcome a after ≡ Ok now → (a ≡ Ok tt) × (now ≡ after)
handed_out (Ok _) after now e = (refl, sym cc)
handed_out (Err r) after now e = absurd (let z : ◌≡◌ {A = ℕ} 0 1 = cc in omega arith)

module _ (NB n : ℕ) (places : List Priority) where
  -- a start that is not refused hands out the state that the rule begins with, ..
  pub start_fine : (t : Tournament) → start_of NB n places ≡ Ok t → (verdict_of NB n places (AtBit 1) ≡ Ok tt) × (t ≡ begun_of NB n places)
  unfolding start_of
  start_fine t e = handed_out _ _ t e

  -- .. and that state is not refused either
  pub start_judged : length places ≡ contenders → verdict_of NB n places (AtBit 1) ≡ Ok tt → judged_of (begun_of NB n places) ≡ Ok tt
  start_judged long e =
      let s = (fine_if_playable NB n places (AtBit 1) long).0 e in
      let f = s.fair in
      let here : (i : ℕ) → i < n → number_at (begun_of NB n places).priorities i ≡ number_at places i = λ i h. ap (λ (p : Priority). p.0) (start_priority NB n places i (omega (arith, f.few)) h) in
      same_verdict (start_bits NB n places) (start_count NB n places) refl (start_phase NB n places)
      ∙ (fine_if_playable NB n (begun_of NB n places).priorities (AtBit 1) (start_long NB n places f.few (omega (arith, f.few)))).1
      (record {
        fair = record {
          some = f.some;
          few = f.few;
          fit = λ i h. rw (here i h) (f.fit i h);
          distinct = λ i j h k e. f.distinct i j h k (sym (here i h) ∙ e ∙ here j k);
        };
        from = s.from;
        to = s.to;
        within = s.within;
      })

pub start_then_run : StartThenRun
start_then_run NB n places long t e =
    let (d, started) = start_fine NB n places t e in
    let s = (fine_if_playable NB n places (AtBit 1) long).0 d in
    let b = begun_of NB n places in
    let ran : run_of t ≡ Ok (after NB n places NB) = ap run_of started ∙ run_is_steps b (start_judged NB n places long d) ∙ ap (λ k. Ok (steps k b)) (start_bits NB n places) in
    let (w, o) = smallest_wins NB n places (record { bits = s.from; long = long; fair = s.fair }) in
    (w, record { smallest = o.smallest; end = after NB n places NB; accepted = ran; ends = o.ends })
