-- A contender goes silent at the bit at which its priority and the winner's part: there a loser's mark goes, and the winner keeps its own.
-- Assumes nothing.
use mathlib.Core.Path.{◌≡◌, refl, sym, ap, ap₂, ◌∙◌}
use mathlib.Core.Bool.{Bool, true, false, not, ◌&&◌}
use mathlib.Core.List.{List, ◌++◌}
use Prim.Native.Nat.{ℕ, suc, ◌+◌, ◌-◌, ◌≤◌, ◌<◌}
use native.Mathlib.Decide.{dec_le}
use native.Mathlib.Nat.{lt_of_not-le}
use native.Mathlib.Numerals.{add-one}
use native.Mathlib.Omega.{arith}
use borrow.Author.Tests.{eqb-true, eqb-false, eq-eqb, ne_eqb, lt-ltb, le-ltb}
use lib.Dec.{eqb, ltb}
use lib.ListN.{get_or, replicate}
use Rattle.std.specs.Prelude.{Result, Ok, Err, IsOk}
use Rattle.names.specs.declared.Priority.{Priority}
use Rattle.names.specs.declared.Refusal.{Refusal}
use Rattle.names.specs.Limits.{contenders, bits}
use Rattle.laws.specs.Lists.{rows}
use Rattle.laws.proofs.Lists.{rows_at}
use Rattle.tournament_state.specs.declared.Phase.TheVariants.{AtBit, Finished}
use Rattle.tournament_state.specs.declared.Tournament.{Tournament}
use Rattle.tournament_state.specs.Refusals.{none, PlayablePair}
use Rattle.tournament_state.proofs.Meaning.{fine_if_playable}
use Rattle.tournament.specs.Rule.{is_in, steps}
use Rattle.tournament.specs.Answers.{parting_bit, parting_of, run_of}
use Rattle.tournament.proofs.Parts.{first_difference, parting_answer}
use Rattle.tournament_laws.specs.Facts.{Start, after, Smallest}
use Rattle.tournament_laws.proofs.Places.{rows_laid}
use Rattle.tournament_laws.proofs.Start.{kept, unused_at_start}
use Rattle.tournament_laws.proofs.Winner.{smallest_wins, winner_stays_in, loser_goes_silent}
use Rattle.tournament_laws.proofs.Calls.{run_is_steps, start_fine}
use Rattle.replay_screen.specs.Shown.{gone}
use Rattle.replay_screen.specs.private.Begun.{Begun, won_with, bit_of, silent_bit, silent_at}
use Rattle.replay_screen.specs.Claims.{SilentWhereTheyPart}

-- in before bit d and out from then on: it goes at bit d
goes_at : (k d : ℕ) → ltb k d && not (ltb (suc k) d) ≡ eqb d (suc k)
goes_at k d =
    elim (dec_le d k) [
      | yes q ↦ ap (λ b. b && not (ltb (suc k) d)) (le-ltb k d q) ∙ sym (ne_eqb d (suc k) (λ e. omega arith))
      | no q ↦ ap (λ b. b && not (ltb (suc k) d)) (lt-ltb k d (lt_of_not-le q)) ∙ by_test (eqb d (suc k)) refl (lt_of_not-le q)
    ]
  where
    by_test : (b : Bool) → eqb d (suc k) ≡ b → k < d → not (ltb (suc k) d) ≡ b
    by_test true e h = ap not (le-ltb (suc k) d (omega (arith, eqb-true d (suc k) e)))
    by_test false e h = let f = eqb-false d (suc k) e in ap not (lt-ltb (suc k) d (omega (arith, f)))

-- ---- from a start that the row w wins
module _ (NB n : ℕ) (places : List Priority) (s : Start NB n places) (narrow : NB ≤ bits) (w : ℕ) (m : Smallest n places w) where
  abbrev own : ℕ → Priority
  own i = get_or places i none

  -- the mark of row i is there before bit k + 1 and is gone after it
  abbrev goes : ℕ → ℕ → Bool
  goes k i = is_in (after NB n places k) i && not (is_in (after NB n places (suc k)) i)

  loser : (i : ℕ) → i < n → (i ≡ w → ⊥) → (k : ℕ) → k < NB → goes k i ≡ eqb (silent_bit NB (own i) (own w)) (suc k)
  unfolding silent_bit
  loser i l d k h =
      let p : PlayablePair NB (own i) (own w) =
      record { from = s.bits; to = narrow; first_fits = s.fair.fit i l; second_fits = s.fair.fit w m.among; differ = λ e. d (s.fair.distinct i w l m.among e) } in
      let bit = parting_bit NB (own i) (own w) in
      let answer = (parting_answer NB (own i) (own w) bit).1 (p, first_difference NB (own i) (own w) p.first_fits p.second_fits p.differ) in
      ap₂ (λ x y. x && not y) (loser_goes_silent NB n places s w i m l d k (omega arith)) (loser_goes_silent NB n places s w i m l d (suc k) (omega arith))
      ∙ goes_at k bit
      ∙ sym (ap (λ r. eqb (bit_of r) (suc k)) answer)

  -- two equal priorities part at no bit
  nowhere : (p : Priority) (k : ℕ) → eqb (silent_bit NB p p) (suc k) ≡ false
  unfolding silent_bit
  nowhere p k = by_answer (parting_of NB p p) refl
    where
      by_answer : (r : Result ℕ Refusal) → parting_of NB p p ≡ r → eqb (bit_of r) (suc k) ≡ false
      by_answer (Ok d) e = absurd (((parting_answer NB p p d).0 e).0.differ refl)
      by_answer (Err r) e = ne_eqb 0 (suc k) (λ z. omega arith)

  winner : (k : ℕ) → k < NB → goes k w ≡ eqb (silent_bit NB (own w) (own w)) (suc k)
  winner k h =
      ap₂ (λ x y. x && not y) (winner_stays_in NB n places s w m k (omega arith)) (winner_stays_in NB n places s w m (suc k) (omega arith))
      ∙ sym (nowhere (own w) k)

  contender : (i : ℕ) → i < n → (k : ℕ) → k < NB → goes k i ≡ eqb (silent_bit NB (own i) (own w)) (suc k)
  contender i l k h = by_test (eqb i w) refl
    where
      by_test : (b : Bool) → eqb i w ≡ b → goes k i ≡ eqb (silent_bit NB (own i) (own w)) (suc k)
      by_test true e = let q : i ≡ w = eqb-true i w e in rw q (winner k h)
      by_test false e = loser i l (eqb-false i w e) k h

  unused : (i : ℕ) → n ≤ i → (k : ℕ) → goes k i ≡ false
  unused i h k = ap (λ b. b && not (is_in (after NB n places (suc k)) i)) (unused_at_start NB n places k i h).1

  marks_gone : (k : ℕ) → k < NB
      → rows n (λ i. eqb (silent_bit NB (own i) (own w)) (suc k)) ++ replicate (contenders - n) false
      ≡ gone (after NB n places k).marks (after NB n places (suc k)).marks
  unfolding gone
  marks_gone k h = rows_laid contenders n _ (goes k) false s.fair.few (λ i l. sym (contender i l k h)) (λ i l. sym (unused i l k))

-- ---- what is shown
pub silent_where_they_part : SilentWhereTheyPart
unfolding gone silent_bit
silent_where_they_part NB n places long t₀ e w m k h i l = (λ t. to _ (eqb-true _ _ (sym each ∙ t)), λ q. each ∙ eq-eqb _ _ (ap bit_of q))
  where
    to : (p : Result ℕ Refusal) → bit_of p ≡ suc k → p ≡ Ok (suc k)
    to (Ok d) q = ap Ok q
    to (Err r) q = absurd (omega arith)

    each : get_or (gone (after NB n places k).marks (after NB n places (suc k)).marks) i false ≡ eqb (silent_bit NB (get_or places i none) (get_or places w none)) (suc k)
    each =
        let p = (fine_if_playable NB n places (AtBit 1) long).0 (start_fine NB n places t₀ e).0 in
        rows_at contenders _ false i (omega (arith, p.fair.few))
        ∙ contender NB n places (record { bits = p.from; long = long; fair = p.fair }) p.to w m i l k h

-- ---- a tournament that was begun
module _ (t : Tournament) (b : Begun t) where
  pub end_is : (end : Tournament) → run_of t ≡ Ok end → end ≡ steps t.bits t
  end_is end e = let o : ◌≡◌ {A = Result Tournament Refusal} (Ok end) (Ok (steps t.bits t)) = sym e ∙ run_is_steps t b.judged in cc

  pub run_fine : IsOk (run_of t)
  run_fine = rw (run_is_steps t b.judged) refl

  pub silent_gone : (end : Tournament) (won : Priority) → run_of t ≡ Ok end → won ≡ won_with end.priorities end.phase
      → (k : ℕ) → k < t.bits → silent_at t won (k + 1) ≡ gone (steps k t).marks (steps (k + 1) t).marks
  unfolding silent_at
  silent_gone end won r e k h =
      let p = (fine_if_playable t.bits t.count t.priorities t.phase b.long).0 b.judged in
      let s : Start t.bits t.count t.priorities = record { bits = p.from; long = b.long; fair = p.fair } in
      let (w, o) = smallest_wins t.bits t.count t.priorities s in
      let phase : (steps t.bits t).phase ≡ Finished (record { 0 = w }) = ap (λ r. (steps t.bits r).phase) b.start ∙ o.ends in
      let its : won ≡ get_or t.priorities w none =
      e ∙ ap (λ (r : Tournament). won_with r.priorities r.phase) (end_is end r) ∙ ap₂ won_with (kept t t.bits).priorities phase in
      rw (its, add-one k)
      (marks_gone t.bits t.count t.priorities s p.to w o.smallest k h
      ∙ ap (λ r. gone (steps k r).marks (steps (suc k) r).marks) (sym b.start))
