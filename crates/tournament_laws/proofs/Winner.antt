-- From a start the smallest wins. After k steps a contender is in exactly if its top k bits are those of the smallest: at the next bit
-- the smallest has a 0 exactly if a carrier is heard. Assumes nothing.
use mathlib.Core.Path.{◌≡◌, refl, sym, ap, ap₂, ◌∙◌, subst}
use mathlib.Core.Bool.{Bool, true, false, true≢false}
use mathlib.Core.List.{List}
use mathlib.Core.Logic.{⊎_elim}
use Prim.Native.Nat.{ℕ, zero, suc, ◌+◌, ◌-◌, ◌%◌, ◌^◌, ◌≤◌, ◌<◌}
use native.Mathlib.Nat.{eq-or-lt_of_le, lt_of_not-le}
use native.Mathlib.Decide.{dec_le}
use native.Mathlib.Omega.{arith}
use borrow.Author.Tests.{eqb-true, eq-eqb, ne_eqb, ltb-true, lt-ltb}
use lib.Dec.{eqb, ltb}
use lib.ListN.{get_or}
use lib.Pow.{shr_mono}
use Rattle.names.specs.declared.Priority.{Priority}
use Rattle.tournament_state.specs.declared.Phase.TheVariants.{AtBit, Finished}
use Rattle.tournament_state.specs.Refusals.{none, number_at, Fair}
use Rattle.tournament.specs.Rule.{bit_at, begun_of, is_in, heard_at, next, steps}
use Rattle.tournament.specs.Answers.{FirstDifference}
use Rattle.tournament.proofs.Bits.{top, bit, top_none, top_all, top_less, top_more, top_fewer, same_top}
use Rattle.tournament.proofs.Parts.{first_difference}
use Rattle.tournament_laws.specs.Facts.{Start, after, Smallest, Won, SmallestWins, LoserGoesSilent, WinnerStaysIn, Handled}
use Rattle.tournament_laws.proofs.Steps.{step_handles_one_bit, lowest_marked_wins}
use Rattle.tournament_laws.proofs.Start.{start_priority, start_in, kept, start_bits, start_count, bit_after_bit}

-- two Bools are equal where each is true when the other is
same_truth : (x y : Bool) → (x ≡ true → y ≡ true) → (y ≡ true → x ≡ true) → x ≡ y
same_truth true y f g = sym (f refl)
same_truth false true f g = g refl
same_truth false false f g = refl

-- the smallest is at most each
least : (n : ℕ) (places : List Priority) (w : ℕ) → Smallest n places w → (i : ℕ) → i < n → number_at places w ≤ number_at places i
least n places w m i h =
    elim (dec_le (number_at places w) (number_at places i)) [
      | yes q ↦ q
      | no q ↦
          let l = lt_of_not-le q in
          absurd (let b = m.below i h (λ e. let z : number_at places i ≡ number_at places w = ap (number_at places) e in omega arith) in omega arith)
    ]

module _ (NB n : ℕ) (places : List Priority) (s : Start NB n places) (w : ℕ) (m : Smallest n places w) where
  -- ---- the state after k steps
  bits_of : (k : ℕ) → (after NB n places k).bits ≡ NB
  bits_of k = (kept (begun_of NB n places) k).bits ∙ start_bits NB n places

  count_of : (k : ℕ) → (after NB n places k).count ≡ n
  count_of k = (kept (begun_of NB n places) k).count ∙ start_count NB n places

  bit_of_lem : (k j i : ℕ) → i < n → bit_at (after NB n places k).bits j (get_or (after NB n places k).priorities i none) ≡ bit NB j (number_at places i)
  bit_of_lem k j i h =
      ap₂ (λ b ps. bit_at b j (get_or ps i none)) (bits_of k) (kept (begun_of NB n places) k).priorities
      ∙ ap (bit_at NB j) (start_priority NB n places i (omega (arith, s.long, s.fair.few)) h)

  fits : (i : ℕ) → i < n → number_at places i < 2 ^ NB
  fits = s.fair.fit

  -- ---- in exactly if the top k bits are the smallest's
  abbrev Agree : ℕ → Type 0
  Agree k = (i : ℕ) → i < n → is_in (after NB n places k) i ≡ eqb (top NB k (number_at places i)) (top NB k (number_at places w))

  agree_start : Agree 0
  unfolding steps
  agree_start i h = start_in NB n places i h ∙ sym (eq-eqb _ _ (top_none NB _ (fits i h) ∙ sym (top_none NB _ (fits w m.among))))

  module _ (k : ℕ) (h : k < NB) (agree : Agree k) where
    handled : Handled (after NB n places k) (k + 1)
    handled = step_handles_one_bit (after NB n places k) (k + 1) (bit_after_bit NB n places k h)

    -- a marked contender has the smallest's top k bits
    in_same : (i : ℕ) → i < n → is_in (after NB n places k) i ≡ true → top NB k (number_at places i) ≡ top NB k (number_at places w)
    in_same i l e = eqb-true _ _ (sym (agree i l) ∙ e)

    same_in : (i : ℕ) → i < n → top NB k (number_at places i) ≡ top NB k (number_at places w) → is_in (after NB n places k) i ≡ true
    same_in i l e = agree i l ∙ eq-eqb _ _ e

    -- a carrier is heard exactly if the smallest has a 0
    heard_zero : heard_at (after NB n places k) (k + 1) ≡ true → bit NB (k + 1) (number_at places w) ≡ 0
    heard_zero e =
        let (i, l, q, z) = handled.carrier.0 e in
        let l' : i < n = rw (count_of k) at l in
        let z' : bit NB (k + 1) (number_at places i) ≡ 0 = sym (bit_of_lem k (k + 1) i l') ∙ z in
        let a : top NB k (number_at places i) ≡ top NB k (number_at places w) = in_same i l' q in
        let b : top NB (k + 1) (number_at places w) ≤ top NB (k + 1) (number_at places i) = shr_mono (NB - (k + 1)) (least n places w m i l') in
        omega (arith, top_less NB k (number_at places i) h, top_less NB k (number_at places w) h)

    zero_heard : (i : ℕ) → i < n → top NB k (number_at places i) ≡ top NB k (number_at places w) → bit NB (k + 1) (number_at places i) ≡ 0 → heard_at (after NB n places k) (k + 1) ≡ true
    zero_heard i l e z = handled.carrier.1 (i, rw (count_of k) l, same_in i l e, bit_of_lem k (k + 1) i l ∙ z)

    -- where a marked contender keeps its mark, its next bit is the smallest's
    next_same : (i : ℕ) → i < n → top NB k (number_at places i) ≡ top NB k (number_at places w)
        → (heard_at (after NB n places k) (k + 1) ≡ true → bit NB (k + 1) (number_at places i) ≡ 0) → bit NB (k + 1) (number_at places i) ≡ bit NB (k + 1) (number_at places w)
    next_same i l e z = by_test (heard_at (after NB n places k) (k + 1)) refl
      where
        by_test : (b : Bool) → heard_at (after NB n places k) (k + 1) ≡ b → bit NB (k + 1) (number_at places i) ≡ bit NB (k + 1) (number_at places w)
        by_test true q = z q ∙ sym (heard_zero q)
        by_test false q =
            let silent : (j : ℕ) → j < n → top NB k (number_at places j) ≡ top NB k (number_at places w) → bit NB (k + 1) (number_at places j) ≡ 0 → ⊥ =
            λ j g a b. true≢false (sym (zero_heard j g a b) ∙ q) in
            omega (arith, silent i l e, silent w m.among refl)

    agree_more : (i : ℕ) → i < n → is_in (next (after NB n places k)) i ≡ eqb (top NB (k + 1) (number_at places i)) (top NB (k + 1) (number_at places w))
    agree_more i l = same_truth _ _ to from
      where
        to : is_in (next (after NB n places k)) i ≡ true → eqb (top NB (k + 1) (number_at places i)) (top NB (k + 1) (number_at places w)) ≡ true
        to e =
            let (q, z) = (handled.marks i (rw (count_of k) l)).0 e in
            let a = in_same i l q in
            eq-eqb _ _ (top_more NB k (number_at places i) (number_at places w) h a (next_same i l a (λ g. sym (bit_of_lem k (k + 1) i l) ∙ z g)))

        from : eqb (top NB (k + 1) (number_at places i)) (top NB (k + 1) (number_at places w)) ≡ true → is_in (next (after NB n places k)) i ≡ true
        from e =
            let q : top NB (k + 1) (number_at places i) ≡ top NB (k + 1) (number_at places w) = eqb-true _ _ e in
            let a : top NB k (number_at places i) ≡ top NB k (number_at places w) = omega (arith, top_less NB k (number_at places i) h, top_less NB k (number_at places w) h) in
            (handled.marks i (rw (count_of k) l)).1 (same_in i l a, λ g. bit_of_lem k (k + 1) i l ∙ ap (λ x. x % 2) q ∙ heard_zero g)

  agrees : (k : ℕ) → k ≤ NB → Agree k
  unfolding steps
  agrees zero h = agree_start
  agrees (suc k) h = λ i l. let e : suc k ≡ k + 1 = omega arith in rw e (agree_more k (omega arith) (agrees k (omega arith)) i l)

  -- ---- the end
  alone : (i : ℕ) → i < n → is_in (after NB n places NB) i ≡ eqb i w
  alone i l = agrees NB (omega arith) i l ∙ rw (top_all NB (number_at places i), top_all NB (number_at places w)) (same_truth _ _
      (λ e. eq-eqb i w (s.fair.distinct i w l m.among (eqb-true _ _ e)))
      (λ e. eq-eqb _ _ (ap (number_at places) (eqb-true i w e))))

  winner_in : (k : ℕ) → k ≤ NB → is_in (after NB n places k) w ≡ true
  winner_in k h = agrees k h w m.among ∙ eq-eqb (top NB k (number_at places w)) (top NB k (number_at places w)) refl

  ends : (k : ℕ) → k ≡ NB → (after NB n places k).phase ≡ Finished (record { 0 = w })
  unfolding steps
  ends zero e = absurd (omega (arith, s.bits))
  ends (suc k) e =
      let t = after NB n places k in
      let last : t.phase ≡ AtBit t.bits = bit_after_bit NB n places k (omega arith) ∙ ap AtBit (omega (arith, bits_of k)) in
      let mark : (i : ℕ) → i < n → is_in (next t) i ≡ eqb i w = λ i l. subst (λ x. is_in (after NB n places x) i ≡ eqb i w) (sym e) (alone i l) in
      (lowest_marked_wins t w last).1
      (record {
        among = rw (count_of (suc k)) m.among;
        marked = mark w m.among ∙ eq-eqb w w refl;
        lowest = λ i l. mark i (omega (arith, m.among)) ∙ ne_eqb i w (λ q. omega arith);
      })

  won : Won NB n places w
  won = record { smallest = m; ends = ends NB refl; alone = alone }

  -- ---- a loser
  silent : (i : ℕ) → i < n → (d : ℕ) → FirstDifference NB (get_or places i none) (get_or places w none) d → (k : ℕ) → k ≤ NB → is_in (after NB n places k) i ≡ ltb k d
  silent i l d r k h = agrees k h i l ∙ same_truth _ _ to from
    where
      to : eqb (top NB k (number_at places i)) (top NB k (number_at places w)) ≡ true → ltb k d ≡ true
      to e =
          elim (dec_le d k) [
            | yes q ↦ absurd (r.differ (ap (λ x. x % 2) (top_fewer NB k (number_at places i) (number_at places w) h (eqb-true _ _ e) d q)))
            | no q ↦ lt-ltb k d (lt_of_not-le q)
          ]

      from : ltb k d ≡ true → eqb (top NB k (number_at places i)) (top NB k (number_at places w)) ≡ true
      from e =
          let q = ltb-true k d e in
          eq-eqb _ _ (same_top NB k (number_at places i) (number_at places w) (fits i l) (fits w m.among) h (λ j a b. r.first j a (omega arith)))

-- ---- some row has the smallest priority
least_row : (p : ℕ → ℕ) (n : ℕ) → (w : ℕ) × (w < suc n) × ((i : ℕ) → i < suc n → p w ≤ p i)
least_row p zero = (0, omega arith, λ i h. let e : i ≡ 0 = omega arith in rw e (omega arith))
least_row p (suc n) =
    let (w, h, f) = least_row p n in
    elim (dec_le (p w) (p (suc n))) [
      | yes q ↦ (w, omega arith, λ i l. ⊎_elim (λ (e : i ≡ suc n). rw e q) (λ g. f i g) (eq-or-lt_of_le {n = i} {m = suc n} (omega arith)))
      | no q ↦
          let g = lt_of_not-le q in
          (suc n, omega arith, λ i l. ⊎_elim (λ (e : i ≡ suc n). rw e (omega arith)) (λ b. let c = f i b in omega arith) (eq-or-lt_of_le {n = i} {m = suc n} (omega arith)))
    ]

pub smallest_row : (NB n : ℕ) (places : List Priority) → Fair NB n places → (w : ℕ) × Smallest n places w
smallest_row NB n places f =
    let (w, h, l) = least_row (number_at places) (n - 1) in
    let e : suc (n - 1) ≡ n = omega (arith, f.some) in
    let a : w < n = rw e at h in
    (w, record { among = a; below = λ i b d. lower i b d (l i (rw e b)) a })
  where
    lower : {w : ℕ} (i : ℕ) → i < n → (i ≡ w → ⊥) → number_at places w ≤ number_at places i → w < n → number_at places w < number_at places i
    lower {w} i b d q a = ⊎_elim (λ z. absurd (d (f.distinct i w b a (sym z)))) (λ g. g) (eq-or-lt_of_le q)

pub smallest_wins : SmallestWins
smallest_wins NB n places s = let (w, m) = smallest_row NB n places s.fair in (w, won NB n places s w m)

pub winner_stays_in : WinnerStaysIn
winner_stays_in NB n places s w m k h = winner_in NB n places s w m k h

pub loser_goes_silent : LoserGoesSilent
loser_goes_silent NB n places s w i m l f k h =
    silent NB n places s w m i l _
    (first_difference NB (get_or places i none) (get_or places w none) (s.fair.fit i l) (s.fair.fit w m.among) (λ e. f (s.fair.distinct i w l m.among e)))
    k h
