-- Laws of starting the stairs, and what stairs that have started make up. Assumes nothing.
use mathlib.Core.Path.{◌≡◌, refl, sym, ap₂, ◌∙◌}
use mathlib.Core.List.{List}
use Prim.Native.Nat.{ℕ, ◌+◌, ◌-◌, ◌*◌, ◌≤◌, ◌<◌}
use native.Mathlib.Nat.{add_comm, lt_of_not-le}
use native.Mathlib.Decide.{dec_le}
use native.Mathlib.Omega.{arith}
use lib.ListN.{length, get_or}
use Rattle.names.specs.Limits.{ticks}
use Rattle.laws.specs.Lists.{ceil}
use Rattle.laws.proofs.Lists.{sum_to_append, sum_to_same, sum_rows, sum_times}
use Rattle.bound.specs.Bound.{demand, E}
use Rattle.terms.specs.Gathered.{Lent, terms_of, share_at, gap_of, cost}
use Rattle.analysis.specs.private.Stairs.{start, earliest, stair, height, Stairs, Edges, lot, Near, StreamsStarted, SourcesStarted, Started}
use Rattle.analysis.specs.declared.stairs.Climber.{Climber}
use Rattle.analysis.specs.private.Chains.{MakesUp}
use Rattle.terms.specs.Fit.{Fit}
use Rattle.analysis.proofs.Climbing.{near_start}

-- both, one after the other
pub both_started : (jitters : List ℕ) (sources urgent late window : ℕ) (edges begun r : List ℕ) → sources + urgent ≤ length edges → SourcesStarted sources window edges begun
    → StreamsStarted jitters sources urgent late begun r → Started jitters sources urgent late window r
both_started jitters sources urgent late window edges begun r h a b =
    record { long = omega (arith, a.long, b.long); source = λ k h. b.front k h ∙ a.source k h; stream = b.stream }

-- a stair is a noise source's or a stream's
by_place : {P : Type 0} (sources urgent k : ℕ) → k < sources + urgent → (k < sources → P) → ((j : ℕ) → j < urgent → k ≡ sources + j → P) → P
by_place sources urgent k h a b = elim (dec_le sources k) [ yes l ↦ b (k - sources) (omega arith) (omega arith) | no l ↦ a (lt_of_not-le l) ]

-- no stair starts so early as the earliest
pub started_near : {R L : ℕ} (jitters : List ℕ) (sources urgent late window : ℕ) (c : Climber R L) → late ≤ cost → window ≤ cost → ((k : ℕ) → k < urgent → get_or jitters k 0 ≤ ticks)
    → Started jitters sources urgent late window c.edges → sources + urgent ≤ length c.nearest * lot → ((b : ℕ) → b < length c.nearest → get_or c.nearest b 0 ≡ earliest)
    → Near c (sources + urgent)
started_near jitters sources urgent late window c p q small s room none =
    near_start c (sources + urgent) room
    (λ k h. by_place sources urgent k h (λ l. rw (s.source k l) (omega arith)) (λ j l e. rw (e, s.stream j l) (omega (arith, small j l))))
    none

-- ---- what was lent and has started makes up a right side's rest
module _ (t : Lent) (f : Fit t) (late window : ℕ) (p : late ≤ cost) (q : window ≤ cost) (edges : List ℕ) (s : Started t.jitters t.row.sources t.row.urgent late window edges) where
  -- of each stair, what holds of sources and of streams
  of_each : {P : Type 0} (k : ℕ) → k < t.row.sources + t.row.urgent → (k < t.row.sources → P) → ((j : ℕ) → j < t.row.urgent → k ≡ t.row.sources + j → P) → P
  of_each = by_place t.row.sources t.row.urgent

  laid_stairs : Stairs t.costs t.periods (t.row.sources + t.row.urgent)
  laid_stairs =
      record {
        few = omega (arith, f.row.few, f.row.quiet);
        costs_long = f.costs;
        periods_long = f.periods;
        cost = λ k h. of_each k h (λ l. rw (f.each k l) f.row.hit) (λ j l e. rw e (f.urgent j l).cost);
        some = λ k h. of_each k h (λ l. f.some_gap k l) (λ j l e. rw e (f.urgent j l).some);
        period = λ k h. of_each k h (λ l. f.gap k l) (λ j l e. rw e (f.urgent j l).period);
      }

  laid_known : Edges edges (t.row.sources + t.row.urgent)
  laid_known =
      record {
        long = s.long;
        below = λ k h. of_each k h (λ l. rw (s.source k l) (omega arith)) (λ j l e. rw (e, s.stream j l) (omega arith));
      }

  -- how high the stairs are: the demand of hp(i), and the hits
  stream_height : (x k : ℕ) → k < t.row.urgent → stair t.costs t.periods edges (x + start) (t.row.sources + k) ≡ ceil (x + late + (share_at t k).J) (share_at t k).T * (share_at t k).C''
  stream_height x k h =
      let e : x + start - (start - (get_or t.jitters k 0 + late)) ≡ x + late + get_or t.jitters k 0 = omega (arith, (f.urgent k h).jitter) in
      rw (s.stream k h, e) refl

  source_height : (x k : ℕ) → k < t.row.sources → stair t.costs t.periods edges (x + start) k ≡ ceil (x + window) (gap_of t k) * t.row.hit
  source_height x k h =
      let e : x + start - (start - window) ≡ x + window = omega arith in
      rw (s.source k h, f.each k h, e) refl

  laid_height : (x : ℕ) → height t.costs t.periods edges (t.row.sources + t.row.urgent) (x + start) ≡ demand (terms_of t).urgent (x + late) + E (terms_of t) (x + window)
  unfolding height demand E
  laid_height x =
      sum_to_append (stair t.costs t.periods edges (x + start)) t.row.sources t.row.urgent
      ∙ ap₂ ◌+◌
      (sum_to_same _ _ t.row.sources (source_height x) ∙ sym (sum_rows (λ N. ceil (x + window) N * t.row.hit) t.row.sources (gap_of t)) ∙ sym (sum_times (λ N. ceil (x + window) N) t.row.hit (terms_of t).gaps))
      (sum_to_same _ _ t.row.urgent (stream_height x) ∙ sym (sum_rows (λ j. ceil (x + late + j.J) j.T * j.C'') t.row.urgent (share_at t)))
      ∙ add_comm (E (terms_of t) (x + window)) (demand (terms_of t).urgent (x + late))

  pub laid : (rest : ℕ → ℕ) → ((x : ℕ) → demand (terms_of t).urgent (x + late) + E (terms_of t) (x + window) ≡ rest x)
      → MakesUp t.costs t.periods edges (t.row.sources + t.row.urgent) rest
  laid rest h = record { stairs = laid_stairs; known = laid_known; is = λ x. laid_height x ∙ h x }
