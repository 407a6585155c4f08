-- Lent terms within the limits: the theory's conditions hold, and every number fits its word. Assumes nothing.
use mathlib.Core.Path.{◌≡◌}
use mathlib.Core.Bool.{true}
use mathlib.Core.List.{List}
use Prim.Native.Nat.{ℕ, ◌+◌, ◌*◌, ◌^◌, ◌≤◌, ◌<◌}
use native.Mathlib.Nat.{le_trans, mul-le-mul, mul-le-mul_right}
use native.Mathlib.Omega.{arith}
use lib.Dec.{T, leb}
use lib.ListN.{length, get_or}
use borrow.Author.Tests.{leb-true, ltb-true, eqb-true}
use Rattle.names.specs.Limits.{sources, ticks}
use Rattle.laws.specs.Lists.{ceil, sum_of}
use Rattle.laws.proofs.Round.{ceil_le}
use Rattle.laws.proofs.Lists.{sum_rows, sum_to_at_most, every_each}
use Rattle.laws.proofs.Tests.{both}
use Rattle.bound.specs.Terms as Terms
use Rattle.bound.specs.Bound.{E, demand, side_L}
use Rattle.bound.specs.Claims.{Sound}
use Rattle.bound.proofs.Sides.{demand_own}
use Rattle.terms.specs.declared.Gathered.{Gathered}
use Rattle.terms.specs.Gathered.{Lent, terms_with, terms_of, share_at, gap_of, cost, share_fits, source_fits, row_fits, long_enough, fits, SideFits}
use Rattle.terms.specs.Fit.{FitShare, FitRow, Fit}

-- the theory's conditions are of a row's own terms alone
pub fit_sound : (g : Gathered) (shares : List Terms.Share) (gaps : List ℕ) → FitRow g → Sound (terms_with g shares gaps)
fit_sound g shares gaps f = record { period = f.own.some; late = f.late; ends = f.ends; last = f.last }

-- one stream's part, up to 4,294,967,295
most : ℕ
most = (ticks + ticks) * cost

part : (C T J x : ℕ) → FitShare C T J → x ≤ ticks → ceil (x + J) T * C ≤ most
unfolding most
part C T J x s h = mul-le-mul {n₂ = ticks + ticks} {m₂ = cost} (le_trans (ceil_le (x + J) T s.some) (omega (arith, s.jitter))) s.cost

-- B and i's own part
pub alone_fits : (g : Gathered) → FitRow g → (x : ℕ) → x ≤ ticks → g.blocking + ceil (x + g.jitter) g.period * g.cost < 2 ^ 64
unfolding most
alone_fits g f x h = omega (arith, part g.cost g.period g.jitter x f.own h, f.blocking)

pub side_L_fits : (t : Lent) → Fit t → (x : ℕ) → x ≤ ticks → side_L (terms_of t) x < 2 ^ 64
unfolding side_L E demand most
side_L_fits t f x h =
    let g = t.row in
    let d : demand (terms_of t).urgent x ≤ g.urgent * most = le_trans (le_of_eq (sum_rows _ g.urgent (share_at t))) (sum_to_at_most _ most g.urgent (λ k p. part (share_at t k).C'' (share_at t k).T (share_at t k).J x (f.urgent k p) h)) in
    let hits : sum_of (λ N. ceil x N) (terms_of t).gaps ≤ g.sources * ticks = le_trans (le_of_eq (sum_rows _ g.sources (gap_of t))) (sum_to_at_most _ ticks g.sources (λ k p. le_trans (ceil_le x (gap_of t k) (f.some_gap k p)) h)) in
    let e : E (terms_of t) x ≤ sources * ticks * cost = mul-le-mul (le_trans hits (mul-le-mul_right ticks f.row.quiet)) f.row.hit in
    omega (arith, demand_own (terms_of t).own (terms_of t).urgent x, part g.cost g.period g.jitter x f.row.own h, d, mul-le-mul_right most f.row.few, e, f.row.blocking)
  where
    le_of_eq : {a b : ℕ} → a ≡ b → a ≤ b
    le_of_eq e = omega arith

-- ---- the test of the limits, taken apart
share_known : (j : Terms.Share) → share_fits j ≡ true → FitShare j.C'' j.T j.J
share_known j e =
    let (e3, d) = both _ _ e in
    let (e2, c) = both _ _ e3 in
    let (a, b) = both _ _ e2 in
    record { cost = leb-true _ _ a; some = leb-true _ _ b; period = leb-true _ _ c; jitter = leb-true _ _ d }

source_known : (hit each N : ℕ) → source_fits hit each N ≡ true → (1 ≤ N) × (N ≤ ticks) × (each ≡ hit)
source_known hit each N e =
    let (e2, c) = both _ _ e in
    let (a, b) = both (leb 1 N) (leb N ticks) e2 in
    (leb-true _ _ a, leb-true _ _ b, eqb-true _ _ c)

pub row_known : (g : Gathered) → row_fits g ≡ true → FitRow g
unfolding row_fits
row_known g e =
    let (e7, own) = both _ _ e in
    let (e6, quiet) = both _ _ e7 in
    let (e5, few) = both _ _ e6 in
    let (e4, last) = both _ _ e5 in
    let (e3, ends) = both _ _ e4 in
    let (e2, late) = both _ _ e3 in
    let (blocking, hit) = both _ _ e2 in
    record {
      blocking = leb-true _ _ blocking;
      hit = leb-true _ _ hit;
      late = omega (arith, ltb-true g.late g.cost late);
      ends = leb-true _ _ ends;
      last = leb-true _ _ last;
      own = share_known _ own;
      few = leb-true _ _ few;
      quiet = leb-true _ _ quiet;
    }

pub long_known : (t : Lent) → long_enough t ≡ true
    → (t.row.sources + t.row.urgent ≤ length t.costs) × (t.row.sources + t.row.urgent ≤ length t.periods) × (t.row.urgent ≤ length t.jitters)
long_known t e =
    let (e2, c) = both _ _ e in
    let (a, b) = both (leb (t.row.sources + t.row.urgent) (length t.costs)) _ e2 in
    (leb-true _ _ a, leb-true _ _ b, leb-true _ _ c)

pub fit_known : (t : Lent) → fits t ≡ true → Fit t
unfolding fits
fit_known t e =
    let (e3, each) = both _ _ e in
    let (e2, urgent) = both _ _ e3 in
    let (row, long) = both _ _ e2 in
    let (costs, periods, jitters) = long_known t long in
    let source : (k : ℕ) → k < t.row.sources → (1 ≤ gap_of t k) × (gap_of t k ≤ ticks) × (get_or t.costs k 0 ≡ t.row.hit) =
    λ k h. source_known _ _ _ (every_each _ t.row.sources each k h) in
    record {
      row = row_known t.row row;
      costs = costs;
      periods = periods;
      jitters = jitters;
      urgent = λ k h. share_known _ (every_each _ t.row.urgent urgent k h);
      some_gap = λ k h. (source k h).0;
      gap = λ k h. (source k h).1;
      each = λ k h. (source k h).2;
    }

pub side_fits : SideFits
side_fits t e = side_L_fits t (fit_known t e)
