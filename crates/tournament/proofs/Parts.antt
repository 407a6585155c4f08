-- Where two priorities part: at the bit after the equal bits at the top, which the leading zeros of their exclusive-or count.
-- Assumes nothing.
use mathlib.Core.Path.{◌≡◌, refl, sym, ap, ◌∙◌, subst}
use mathlib.Core.Bool.{not}
use Prim.Native.Nat.{ℕ, suc, ◌+◌, ◌-◌, ◌%◌, ◌^◌, ◌≤◌, ◌<◌}
use native.Mathlib.Decide.{dec_le}
use native.Mathlib.Nat.{div-eq_of_lt, lt_of_lt_of_le, lt_of_not-le}
use native.Mathlib.Omega.{arith}
use borrow.Author.Tests.{eq-eqb, ne_eqb}
use lib.Dec.{eqb}
use lib.Pow.{pow_mono}
use Rattle.names.specs.declared.Priority.{Priority}
use Rattle.laws.specs.Search.{or_zero}
use Rattle.laws.proofs.Rows.{finds_lowest}
use Rattle.std.specs.Prelude.{Ok, Err}
use Rattle.judge.specs.Table.{Checked}
use Rattle.tournament_state.specs.Refusals.{number, pair_verdict_of, PlayablePair}
use Rattle.tournament_state.proofs.Meaning.{fine_if_playable_pair}
use Rattle.tournament.specs.Rule.{bit_at}
use Rattle.tournament.specs.Answers.{outcome, parting_bit, parting_of, equal_at_top}
use Rattle.tournament.specs.Answers.{FirstDifference, PartingIsFirst, PartingAnswer, PartingByLeadingZeros}
use Rattle.tournament.proofs.Bits.{top, top_more, top_fewer, HighestDifference, highest_difference}

-- the search finds the first difference
parts_at : (NB : ℕ) (a b : Priority) (d : ℕ) → FirstDifference NB a b d → parting_bit NB a b ≡ d
unfolding parting_bit
parts_at NB a b d r =
    ap or_zero
    ((finds_lowest (λ k. not (eqb (bit_at NB k a) (bit_at NB k b))) 1 NB d).1
    (record { above = r.from; below = omega (arith, r.to); passes = ap not (ne_eqb _ _ r.differ); lowest = λ j p q. ap not (eq-eqb _ _ (r.first j p q)) }))

-- ---- the bit after the equal bits is the first difference
module _ (w NB : ℕ) (a b : Priority) (narrow : NB ≤ w) (a-fits : number a < 2 ^ NB) (b-fits : number b < 2 ^ NB) (d : number a ≡ number b → ⊥) where
  abbrev x : ℕ
  x = number a

  abbrev y : ℕ
  y = number b

  -- the highest difference is among the NB bits
  inside : (j : ℕ) → HighestDifference w x y j → j < NB
  inside j h =
      elim (dec_le NB j) [
        | yes q ↦ absurd (h.differ (div-eq_of_lt (lt_of_lt_of_le a-fits (pow_mono q)) ∙ sym (div-eq_of_lt (lt_of_lt_of_le b-fits (pow_mono q)))))
        | no q ↦ lt_of_not-le q
      ]

  -- m bits are equal and the next one differs
  after_equal : (j m : ℕ) → HighestDifference w x y j → m + suc j ≡ NB → FirstDifference NB a b (m + 1)
  after_equal j m h e =
      let above : NB - m ≡ suc j = omega arith in
      let here : NB - (m + 1) ≡ j = omega arith in
      let equal : top NB m x ≡ top NB m y = rw above h.above in
      record {
        from = omega arith;
        to = omega arith;
        differ = λ q. h.differ (rw here at (top_more NB m x y (omega arith) equal q));
        first = λ k p q. ap (λ z. z % 2) (top_fewer NB m x y (omega arith) equal k (omega arith));
      }

  zeros_first : (w - NB ≤ equal_at_top w a b) × FirstDifference NB a b (equal_at_top w a b - (w - NB) + 1)
  zeros_first =
      let (j, h) = highest_difference w x y (lt_of_lt_of_le a-fits (pow_mono narrow)) (lt_of_lt_of_le b-fits (pow_mono narrow)) d in
      let l = inside j h in
      let z = h.zeros in
      (omega arith, after_equal j (equal_at_top w a b - (w - NB)) h (omega arith))

pub parting_by_leading_zeros : PartingByLeadingZeros
parting_by_leading_zeros w NB a b narrow a-fits b-fits d =
    let (l, r) = zeros_first w NB a b narrow a-fits b-fits d in
    (l, parts_at NB a b _ r)

-- ---- so the parting bit is the first difference
pub first_difference : (NB : ℕ) (a b : Priority) → number a < 2 ^ NB → number b < 2 ^ NB → (number a ≡ number b → ⊥) → FirstDifference NB a b (parting_bit NB a b)
first_difference NB a b a-fits b-fits d =
    let (l, r) = zeros_first NB NB a b (omega arith) a-fits b-fits d in
    subst (FirstDifference NB a b) (sym (parts_at NB a b _ r)) r

pub parting_is_first : PartingIsFirst
parting_is_first NB a b a-fits b-fits d k = (λ e. subst (FirstDifference NB a b) e (first_difference NB a b a-fits b-fits d), parts_at NB a b k)

pub parting_answer : PartingAnswer
unfolding parting_of
parting_answer NB a b d = (to, from)
  where
    at_bit : (v : Checked) (k : ℕ) → outcome v k ≡ Ok d → (v ≡ Ok tt) × (k ≡ d)
    at_bit (Ok _) k e = (refl, cc)
    at_bit (Err r) k e = absurd (let z : ◌≡◌ {A = ℕ} 0 1 = cc in omega arith)

    to : parting_of NB a b ≡ Ok d → PlayablePair NB a b × FirstDifference NB a b d
    to e =
        let (v, k) = at_bit (pair_verdict_of NB a b) (parting_bit NB a b) e in
        let s = (fine_if_playable_pair NB a b).0 v in
        (s, (parting_is_first NB a b s.first_fits s.second_fits s.differ d).0 k)

    from : PlayablePair NB a b × FirstDifference NB a b d → parting_of NB a b ≡ Ok d
    from (s, r) =
        rw ((fine_if_playable_pair NB a b).1 s) (ap Ok ((parting_is_first NB a b s.first_fits s.second_fits s.differ d).1 r))
