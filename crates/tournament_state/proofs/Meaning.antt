-- What the verdict means: line by line, each test is the statement that it tests.
-- Assumes nothing.
use mathlib.Core.Path.{◌≡◌, refl, sym, ap, ◌∙◌}
use mathlib.Core.Bool.{Bool, true, false, not}
use mathlib.Core.List.{List, ◌∷◌, map}
use mathlib.Core.Logic.{◌↔◌}
use Prim.Native.Nat.{ℕ, zero, suc, ◌^◌, ◌≤◌, ◌<◌}
use native.Mathlib.Omega.{arith}
use borrow.Author.Tests.{leb-true, ltb-true, ltb-false, le-leb, lt-ltb, le-ltb, not-true, not-false}
use lib.Dec.{leb}
use lib.ListN.{length, get_or, take, replicate, length-take, length-map, get_or-map}
use lib.Seq.{get_or-take}
use Rattle.names.specs.declared.Priority.{Priority}
use Rattle.names.specs.Limits.{contenders, bits}
use Rattle.laws.proofs.Rows.{finds_lowest, finds_nothing}
use Rattle.laws.proofs.Tests.{both}
use Rattle.std.specs.Prelude.{None, Ok}
use Rattle.repeats.specs.Repeats.{as_row}
use Rattle.repeats.proofs.Repeats.{at_found, nothing_found, at_the_lowest, nothing_if_distinct}
use Rattle.judge.specs.Table.{judge, unless, row_in}
use Rattle.judge.proofs.Table.{passed, not_given, unless_not, row_not, nothing_given, refused_by_the_first}
use Rattle.tournament_state.specs.declared.Phase.{Phase, TheVariants.AtBit, TheVariants.Finished, TheVariants.NoWinner}
use Rattle.tournament_state.specs.Refusals.{number, none, one_to, fits_in, lowest_unfit, phase_inside, lowest_repeat, verdict_of, pair_verdict_of, number_at, StateRefused, PairRefused, PlaceOfEight, PlaceOfNine, PhaseWithin, Playable, FineIfPlayable, PlayablePair, FineIfPlayablePair}

pub state_refused : StateRefused
unfolding verdict_of
state_refused NB n places phase = refused_by_the_first _

pub pair_refused : PairRefused
unfolding pair_verdict_of
pair_refused NB a b = refused_by_the_first _

-- ---- the tests of single numbers
pub one_to_lem : (most x : ℕ) → (one_to most x ≡ true) ↔ ((1 ≤ x) × (x ≤ most))
one_to_lem most x = (
  λ e. let b = both (leb 1 x) (leb x most) e in (leb-true 1 x b.0, leb-true x most b.1),
  λ h. rw (le-leb 1 x h.0, le-leb x most h.1) refl,
)

phase_within : (NB n : ℕ) (phase : Phase) → (phase_inside NB n phase ≡ true) ↔ PhaseWithin NB n phase
phase_within NB n (AtBit k) = one_to_lem NB k
phase_within NB n (Finished row) = (ltb-true _ _, lt-ltb row.0 n)
phase_within NB n NoWinner = (λ e. tt, λ h. refl)

-- ---- the rows whose priority does not fit
module _ (NB : ℕ) (ps : List Priority) where
  abbrev unfit : ℕ → Bool
  unfit i = not (fits_in NB (get_or ps i none))

  fits : (i : ℕ) → unfit i ≡ false → number_at ps i < 2 ^ NB
  fits i e = ltb-true _ _ (not-false (fits_in NB (get_or ps i none)) e)

  fitting : (i : ℕ) → number_at ps i < 2 ^ NB → unfit i ≡ false
  fitting i h = ap not (lt-ltb (number_at ps i) (2 ^ NB) h)

  all_fit : (lowest_unfit NB ps ≡ None) ↔ ((i : ℕ) → i < length ps → number_at ps i < 2 ^ NB)
  unfolding lowest_unfit
  all_fit = (
    λ e i h. fits i ((finds_nothing unfit 0 (length ps)).0 (nothing_found _ e) i (omega arith) (omega arith)),
    λ h. ap as_row ((finds_nothing unfit 0 (length ps)).1 (λ i a b. fitting i (h i (omega arith)))),
  )

pub place_of_eight : PlaceOfEight
unfolding lowest_unfit
place_of_eight NB ps row = (
  λ e.
      let l = (finds_lowest (unfit NB ps) 0 (length ps) row.0).0 (at_found _ row e) in
      (omega (arith, l.below), ltb-false _ _ (not-true (fits_in NB (get_or ps row.0 none)) l.passes), λ j h. fits NB ps j (l.lowest j (omega arith) h)),
  λ h.
      ap as_row
      ((finds_lowest (unfit NB ps) 0 (length ps) row.0).1
      (record {
        above = omega arith;
        below = omega (arith, h.0);
        passes = ap not (le-ltb (number_at ps row.0) (2 ^ NB) h.1);
        lowest = λ j a b. fitting NB ps j (h.2 j b);
      })),
)

-- ---- the rows that repeat an earlier row
pub place_of_nine : PlaceOfNine
place_of_nine ps = at_the_lowest (map number ps)

all_differ : (ps : List Priority) → (lowest_repeat ps ≡ None) ↔ ((i j : ℕ) → i < length ps → j < length ps → number_at ps i ≡ number_at ps j → i ≡ j)
all_differ ps = (
  λ e i j a b s. (nothing_if_distinct (map number ps)).0 e i j (rw long a) (rw long b) (rw (value i, value j) s),
  λ h. (nothing_if_distinct (map number ps)).1 (λ i j a b s. h i j (rw long at a) (rw long at b) (rw (value i, value j) at s)),
)
  where
    long : length (map number ps) ≡ length ps
    long = length-map ps number

    value : (i : ℕ) → get_or (map number ps) i 0 ≡ number_at ps i
    value i = get_or-map number ps i none

-- ---- a state that is fine, line by line
pub record Passed (NB n : ℕ) (places : List Priority) (phase : Phase) : Type 0 where
  pub some : 1 ≤ n
  pub few : n ≤ contenders
  pub from : 1 ≤ NB
  pub to : NB ≤ bits
  pub fit : lowest_unfit NB (take n places) ≡ None
  pub within : PhaseWithin NB n phase
  pub distinct : lowest_repeat (take n places) ≡ None

module _ (NB n : ℕ) (places : List Priority) (phase : Phase) where
  pub fine_passed : verdict_of NB n places phase ≡ Ok tt → Passed NB n places phase
  unfolding verdict_of
  fine_passed e₀ =
      let (seven, e₁) = not_given _ _ e₀ in
      let (width, e₂) = not_given _ _ e₁ in
      let (fit, e₃) = not_given _ _ e₂ in
      let (inside, e₄) = not_given _ _ e₃ in
      let a = (one_to_lem contenders n).0 (unless_not _ seven) in
      let b = (one_to_lem bits NB).0 (unless_not _ width) in
      record {
        some = a.0;
        few = a.1;
        from = b.0;
        to = b.1;
        fit = row_not _ fit;
        within = (phase_within NB n phase).0 (unless_not _ inside);
        distinct = row_not _ (not_given _ _ e₄).0;
      }

  passed_fine : Passed NB n places phase → verdict_of NB n places phase ≡ Ok tt
  unfolding verdict_of
  passed_fine p =
      passed _ _ (ap unless ((one_to_lem contenders n).1 (p.some, p.few)))
      ∙ passed _ _ (ap unless ((one_to_lem bits NB).1 (p.from, p.to)))
      ∙ passed _ _ (ap row_in p.fit)
      ∙ passed _ _ (ap unless ((phase_within NB n phase).1 p.within))
      ∙ passed _ _ (ap row_in p.distinct)
      ∙ nothing_given

pub fine_if_playable : FineIfPlayable
fine_if_playable NB n places phase long = (to, from)
  where
    -- the first n of the places are the contenders
    count : n ≤ contenders → length (take n places) ≡ n
    count h = omega (arith, length-take n places)

    here : (i : ℕ) → i < n → number_at (take n places) i ≡ number_at places i
    here i h = rw (get_or-take n places i none h) refl

    to : verdict_of NB n places phase ≡ Ok tt → Playable NB n places phase
    to e =
        let p = fine_passed NB n places phase e in
        let c = count p.few in
        record {
          fair = record {
            some = p.some;
            few = p.few;
            fit = λ i h. rw (here i h) at ((all_fit NB (take n places)).0 p.fit i (rw c h));
            distinct = λ i j h k s. (all_differ (take n places)).0 p.distinct i j (rw c h) (rw c k) (rw (here i h, here j k) s);
          };
          from = p.from;
          to = p.to;
          within = p.within;
        }

    from : Playable NB n places phase → verdict_of NB n places phase ≡ Ok tt
    from s =
        let f = s.fair in
        let c = count f.few in
        passed_fine NB n places phase
        (record {
          some = f.some;
          few = f.few;
          from = s.from;
          to = s.to;
          fit = (all_fit NB (take n places)).1 (λ i h. let k : i < n = rw c at h in rw (here i k) (f.fit i k));
          within = s.within;
          distinct =
              (all_differ (take n places)).1
              (λ i j h k q. let a : i < n = rw c at h in let b : j < n = rw c at k in f.distinct i j a b (rw (here i a, here j b) at q));
        })

-- ---- two priorities alone are two contenders of a state with no bit and no winner to look at
abbrev pub pair : Priority → Priority → List Priority
pair a b = a ∷ b ∷ replicate 126 none

pub pair_state : (NB : ℕ) (a b : Priority) → verdict_of NB 2 (pair a b) NoWinner ≡ pair_verdict_of NB a b
unfolding verdict_of pair_verdict_of judge
pair_state NB a b = refl

pub fine_if_playable_pair : FineIfPlayablePair
fine_if_playable_pair NB a b = (to, from)
  where
    to : pair_verdict_of NB a b ≡ Ok tt → PlayablePair NB a b
    to e =
        let s = (fine_if_playable NB 2 (pair a b) NoWinner refl).0 (pair_state NB a b ∙ e) in
        record {
          from = s.from;
          to = s.to;
          first_fits = s.fair.fit 0 (omega arith);
          second_fits = s.fair.fit 1 (omega arith);
          differ = λ q. omega (arith, s.fair.distinct 0 1 (omega arith) (omega arith) q);
        }

    fit : PlayablePair NB a b → (i : ℕ) → i < 2 → number_at (pair a b) i < 2 ^ NB
    fit s zero h = s.first_fits
    fit s (suc zero) h = s.second_fits
    fit s (suc (suc i)) h = absurd (omega arith)

    distinct : PlayablePair NB a b → (i j : ℕ) → i < 2 → j < 2 → number_at (pair a b) i ≡ number_at (pair a b) j → i ≡ j
    distinct s zero zero h k e = refl
    distinct s zero (suc zero) h k e = absurd (s.differ e)
    distinct s zero (suc (suc j)) h k e = absurd (omega arith)
    distinct s (suc zero) zero h k e = absurd (s.differ (sym e))
    distinct s (suc zero) (suc zero) h k e = refl
    distinct s (suc zero) (suc (suc j)) h k e = absurd (omega arith)
    distinct s (suc (suc i)) j h k e = absurd (omega arith)

    from : PlayablePair NB a b → pair_verdict_of NB a b ≡ Ok tt
    from s =
        sym (pair_state NB a b)
        ∙ (fine_if_playable NB 2 (pair a b) NoWinner refl).1
        (record {
          fair = record { some = omega arith; few = omega arith; fit = fit s; distinct = distinct s };
          from = s.from;
          to = s.to;
          within = tt;
        })
