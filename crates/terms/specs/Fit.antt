-- Lent terms within the limits, fact by fact, for the contracts of private functions: what `fits` of Gathered.antt says, taken apart.
use Rattle.std.specs.Prelude.{◌≡◌, ℕ, ◌+◌, ◌≤◌, ◌<◌, length, get_or}
use Rattle.names.specs.Limits.{streams, sources, ticks}
use Rattle.terms.specs.declared.Gathered.{Gathered}
use Rattle.terms.specs.Gathered.{Lent, gap_of, share_at, cost}

-- a stream: its cost, period and jitter
pub record FitShare (C T J : ℕ) : Type 0 where
  pub cost : C ≤ cost
  pub some : 1 ≤ T
  pub period : T ≤ ticks
  pub jitter : J ≤ ticks

-- a row's own terms
pub record FitRow (g : Gathered) : Type 0 where
  pub blocking : g.blocking ≤ cost
  pub hit : g.hit ≤ cost
  pub late : g.late + 1 ≤ g.cost
  pub ends : 1 ≤ g.last
  pub last : g.last ≤ g.cost
  pub own : FitShare g.cost g.period g.jitter
  pub few : g.urgent ≤ streams
  pub quiet : g.sources ≤ sources

-- all that is lent
pub record Fit (t : Lent) : Type 0 where
  pub row : FitRow t.row
  pub costs : t.row.sources + t.row.urgent ≤ length t.costs
  pub periods : t.row.sources + t.row.urgent ≤ length t.periods
  pub jitters : t.row.urgent ≤ length t.jitters
  pub urgent : (k : ℕ) → k < t.row.urgent → FitShare (share_at t k).C'' (share_at t k).T (share_at t k).J
  pub some_gap : (k : ℕ) → k < t.row.sources → 1 ≤ gap_of t k
  pub gap : (k : ℕ) → k < t.row.sources → gap_of t k ≤ ticks
  pub each : (k : ℕ) → k < t.row.sources → get_or t.costs k 0 ≡ t.row.hit
