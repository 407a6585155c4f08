-- A start that is not refused is refused at no bit, so its steps are those of the rule and its carrier is heard at each bit. Assumes nothing.
use mathlib.Core.Path.{◌≡◌, refl, sym, ap, ap₂, ◌∙◌}
use mathlib.Core.Bool.{Bool}
use mathlib.Core.List.{List, ◌++◌}
use Prim.Native.Nat.{ℕ, zero, suc, ◌+◌, ◌-◌, ◌≤◌, ◌<◌}
use native.Mathlib.Numerals.{add-one}
use native.Mathlib.Omega.{arith}
use lib.ListN.{length, take, replicate, length-take}
use lib.Seq.{take_all, take-append-le}
use Rattle.names.specs.declared.Priority.{Priority}
use Rattle.names.specs.declared.Refusal.{Refusal}
use Rattle.names.specs.Limits.{contenders}
use Rattle.tournament_state.specs.declared.Phase.TheVariants.{AtBit}
use Rattle.tournament_state.specs.declared.Tournament.{Tournament}
use Rattle.std.specs.Prelude.{Result, Ok, IsOk}
use Rattle.tournament_state.specs.Refusals.{none, verdict_of}
use Rattle.tournament_state.proofs.Meaning.{fine_passed}
use Rattle.tournament.specs.Rule.{begun_of, heard_at, next, steps}
use Rattle.tournament.specs.Answers.{judged_of, heard_now, carrier_of, start_of, step_of}
use Rattle.tournament_laws.proofs.Steps.{next_bit}
use Rattle.tournament_laws.proofs.Start.{start_long, kept, start_bits, start_count, start_phase}
use Rattle.tournament_laws.proofs.Calls.{outcome_of, judged_steps as steps-judged, start_fine, start_judged}
use Rattle.replay_screen.specs.Shown.{gone, bit_line, bit_lines}
use Rattle.replay_screen.specs.private.Begun.{Begun, is_heard}

-- ---- what a start hands out
module _ (NB n : ℕ) (places : List Priority) (long : length places ≡ contenders) where
  -- it is the start of its own priorities, since a start takes no more than n of them
  again : n ≤ contenders → begun_of NB n places ≡ begun_of NB n (begun_of NB n places).priorities
  unfolding begun_of
  again few =
      let enough : length (take n places) ≡ n = omega (arith, length-take n places) in
      rw (take-append-le n (take n places) (replicate (contenders - n) none) (omega arith), take_all n (take n places) (omega arith)) refl

  pub begun_fine : verdict_of NB n places (AtBit 1) ≡ Ok tt → Begun (begun_of NB n places)
  begun_fine e =
      let few = (fine_passed NB n places (AtBit 1) e).few in
      record {
        judged = start_judged NB n places long e;
        long = start_long NB n places few (omega arith);
        start = again few ∙ ap₂ (λ b c. begun_of b c (begun_of NB n places).priorities) (sym (start_bits NB n places)) (sym (start_count NB n places));
      }

  pub begun_start : (t : Tournament) → start_of NB n places ≡ Ok t → Begun t
  begun_start t e = let (d, s) = start_fine NB n places t e in rw s (begun_fine d)

-- ---- its steps, and what is heard at each
module _ (t : Tournament) (b : Begun t) where
  pub judged_steps : (k : ℕ) → judged_of (steps k t) ≡ Ok tt
  judged_steps k = steps-judged t b.long b.judged k

  at_bit : (k : ℕ) → k < t.bits → (steps k t).phase ≡ AtBit (k + 1)
  unfolding steps
  at_bit zero h = ap (λ (s : Tournament). s.phase) b.start ∙ start_phase t.bits t.count t.priorities
  at_bit (suc k) h =
      let q : suc k + 1 ≡ k + 1 + 1 = omega arith in
      rw q (next_bit (steps k t) (k + 1) (at_bit k (omega arith)) (omega (arith, (kept t k).bits)))

  stepped : (k : ℕ) → step_of (steps k t) ≡ Ok (steps (k + 1) t)
  unfolding steps step_of
  stepped k = rw (add-one k) (outcome_of (judged_of (steps k t)) (next (steps k t)) (judged_steps k))

  heard_at_lem : (k : ℕ) → k < t.bits → carrier_of (steps k t) ≡ Ok (heard_at (steps k t) (k + 1))
  unfolding carrier_of
  heard_at_lem k h =
      let s = steps k t in
      outcome_of (judged_of s) (heard_now s s.phase) (judged_steps k) ∙ ap (λ p. Ok (heard_now s p)) (at_bit k h)

  -- neither a step nor a carrier is refused
  pub step_fine : (k : ℕ) (now : Tournament) → now ≡ steps k t → IsOk (step_of now)
  step_fine k now e = rw (e, stepped k) refl

  pub carrier_fine : (k : ℕ) (now : Tournament) → k < t.bits → now ≡ steps k t → IsOk (carrier_of now)
  carrier_fine k now l e = rw (e, heard_at_lem k l) refl

  -- one bit more
  pub bit_more : (k : ℕ) (now after : Tournament) (h : Bool) (silent : List Bool) → k < t.bits → now ≡ steps k t → h ≡ is_heard (carrier_of now)
      → step_of now ≡ Ok after → silent ≡ gone (steps k t).marks (steps (k + 1) t).marks
      → (after ≡ steps (k + 1) t) × (bit_lines t k ++ bit_line (k + 1) h silent after.marks ≡ bit_lines t (k + 1))
  unfolding bit_lines
  bit_more k now after h silent l e p q g =
      let d : after ≡ steps (k + 1) t = let o : ◌≡◌ {A = Result Tournament Refusal} (Ok after) (Ok (steps (k + 1) t)) = sym q ∙ ap step_of e ∙ stepped k in cc in
      let f : h ≡ heard_at (steps k t) (k + 1) = p ∙ ap is_heard (ap carrier_of e ∙ heard_at_lem k l) in
      (d, rw (f, g, d, add-one k) refl)
