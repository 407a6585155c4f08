-- The number of evaluations of a plan's streams, and its limit, in the document's letters. Assumes nothing.
use mathlib.Core.Path.{◌≡◌, ap, ◌∙◌}
use Prim.Native.Nat.{ℕ, ◌≤◌, ◌<◌}
use native.Mathlib.Nat.{lt_of_not-le}
use native.Mathlib.Decide.{dec_le}
use native.Mathlib.Omega.{arith}
use lib.ListN.{length}
use Rattle.laws.specs.Lists.{largest_of, smallest_of}
use Rattle.laws.proofs.Smallest.{smallest_first, smallest_above, smallest_map, smallest_all}
use Rattle.bound.specs.Evaluations.{c, Paid}
use Rattle.bound.proofs.Evaluations.{chain_goes, evaluations_fit}
use Rattle.bound.proofs.Limit.{limit_fits, evaluations_within}
use Rattle.plan.specs.declared.Stream.{Stream}
use Rattle.plan.specs.Plan.{Plan, blank, at, Within}
use Rattle.plan.specs.Rules.{airtime, hp, hit, share, terms}
use Rattle.plan.specs.Evaluations.{RowChain, SmallestIs, RowEvaluationsWithin, RowWaitWithin}
use Rattle.plan.proofs.Rules.{letters_are, terms_sound}
use Rattle.plan.proofs.Letters.{right_sides}

pub row_chain : RowChain
row_chain p i = let (starts, goes) = chain_goes (terms p i) in (starts, λ k. goes k ∙ (right_sides p i).0 _)

-- ---- the smallest
-- c, of a plan
pub smallest_of_lem : (p : Plan) (i : Stream) → c (terms p i) ≡ smallest_of (airtime p.timing) i (hp p i)
unfolding c terms
smallest_of_lem p i = smallest_map (λ j. j.C'') (share p.timing) i (hp p i)

pub smallest_is : SmallestIs
smallest_is p i = (
  λ e. smallest_of_lem p i ∙ ap (λ (f : Stream → ℕ). smallest_of f i (hp p i)) (λ z. λ j. ((letters_are p i).0 e).each j z),
  λ h.
      smallest_of_lem p i
      ∙ ap (λ (f : Stream → ℕ). smallest_of f i (hp p i)) (λ z. λ j. ((letters_are p i).1 h).each j z)
      ∙ smallest_all p.timing.p i (hp p i),
)

-- ---- what is paid
module _ (p : Plan) (within : Within p) (k : ℕ) (h : k < length p.streams) where
  abbrev i : Stream
  i = at p k

  -- a message costs a tick at least
  some_cost : (m : ℕ) → m < length p.streams → 1 ≤ airtime p.timing (at p m)
  some_cost m l =
      elim (dec_le 1 p.timing.p) [
        | yes s ↦ omega (arith, ((letters_are p i).1 s).each (at p m), s)
        | no n ↦
            let e = (letters_are p i).0 (omega (arith, lt_of_not-le n)) in
            omega (arith, e.each (at p m), e.whole (at p m), (within.stream m l).some_payload)
      ]

  -- a hit costs no less than i
  own_hit : airtime p.timing i ≤ hit p i
  unfolding hit largest_of
  own_hit =
      elim (dec_le 1 p.timing.p) [
        | yes s ↦ let l = (letters_are p i).1 s in omega (arith, l.each i, l.by_hit)
        | no n ↦ let l = (letters_are p i).0 (omega (arith, lt_of_not-le n)) in omega (arith, l.each i, l.by_hit)
      ]

  paid : Paid (terms p i)
  unfolding terms
  paid =
      let all : 1 ≤ smallest_of (airtime p.timing) i (hp p i) = smallest_above (airtime p.timing) _ blank 1 i p.streams (some_cost k h) (λ m l e. some_cost m l) in
      record {
        some = omega (arith, smallest_of_lem p i);
        hit = omega (arith, smallest_of_lem p i, smallest_first (airtime p.timing) i (hp p i), own_hit);
      }

pub row_evaluations_within : RowEvaluationsWithin
row_evaluations_within p w k h fits = evaluations_within (terms p (at p k)) (terms_sound p (at p k) (w.stream k h) fits) (paid p w k h)

pub row_wait_within : RowWaitWithin
row_wait_within p w k h fits = (evaluations_fit (terms p (at p k)) (terms_sound p (at p k) (w.stream k h) fits), limit_fits (terms p (at p k)))
