-- A right side as stairs: a stair costs its cost just after its edge, and again every period.
use Rattle.std.specs.Prelude.{◌≡◌, List, ℕ, ◌+◌, ◌-◌, ◌*◌, ◌^◌, ◌≤◌, ◌<◌, length, get_or}
use Rattle.names.specs.Limits.{ticks}
use Rattle.laws.specs.Lists.{ceil, sum_to}
use Rattle.terms.specs.Gathered.{stairs as most, cost}
use Rattle.analysis.specs.declared.stairs.Climber.{Climber}

-- how high stair k is at x
abbrev pub stair : List ℕ → List ℕ → List ℕ → ℕ → ℕ → ℕ
stair costs periods edges x k = ceil (x - get_or edges k 0) (get_or periods k 0) * get_or costs k 0

-- how high the first n stairs are at x
unfoldable pub height : List ℕ → List ℕ → List ℕ → ℕ → ℕ → ℕ
height costs periods edges n x = sum_to (stair costs periods edges x) n

-- time's start, where no edge comes to, where none is yet, and the latest time that is looked at
abbrev pub start : ℕ
start = 2 * (ticks + 1)

abbrev pub far : ℕ
far = 2 * start

abbrev pub earliest : ℕ
earliest = 2 ^ 31

abbrev pub latest : ℕ
latest = start + ticks

-- the costs and periods of n stairs are lent, and within the limits
pub record Stairs (costs periods : List ℕ) (n : ℕ) : Type 0 where
  pub few : n ≤ most
  pub costs_long : n ≤ length costs
  pub periods_long : n ≤ length periods
  pub cost : (k : ℕ) → k < n → get_or costs k 0 ≤ cost
  pub some : (k : ℕ) → k < n → 1 ≤ get_or periods k 0
  pub period : (k : ℕ) → k < n → get_or periods k 0 ≤ ticks

-- there is room for the edges of n stairs, and these stay below `far`
pub record Edges (edges : List ℕ) (n : ℕ) : Type 0 where
  pub long : n ≤ length edges
  pub below : (k : ℕ) → k < n → get_or edges k 0 < far

-- the first edge at or after x, or the edge itself where x has not passed it
abbrev pub onward : ℕ → ℕ → ℕ → ℕ
onward edge period x = edge + ceil (x - edge) period * period

-- the stairs from `from` up to `to` went on to x, and the others stayed
pub record Gone (periods edges next : List ℕ) (from to x : ℕ) : Type 0 where
  pub long : length next ≡ length edges
  pub gone : (k : ℕ) → from ≤ k → k < to → get_or next k 0 ≡ onward (get_or edges k 0) (get_or periods k 0) x
  pub front : (k : ℕ) → k < from → get_or next k 0 ≡ get_or edges k 0
  pub waits : (k : ℕ) → to ≤ k → get_or next k 0 ≡ get_or edges k 0

-- the stairs from `from` up to `to` may go on to x: what they rise by, added to a sum, stays within a word
pub record Due (costs periods edges : List ℕ) (from to x sum : ℕ) : Type 0 where
  pub up : from ≤ to
  pub stairs : Stairs costs periods to
  pub known : Edges edges to
  pub early : x ≤ latest
  pub room : sum + height costs periods edges to x < 2 ^ 64 + height costs periods edges from x

-- the stairs from `from` up to `to` went on to x, and the total is the sum and what they rise by
pub record Risen (costs periods edges next : List ℕ) (from to x sum total : ℕ) : Type 0 where
  pub gained : total + height costs periods edges from x ≡ sum + height costs periods edges to x
  pub gone : Gone periods edges next from to x

-- no edge of those from `from` up to `to` is before v
abbrev pub NoEdgeBefore : ℕ → List ℕ → ℕ → ℕ → Type 0
NoEdgeBefore v edges from to = (k : ℕ) → from ≤ k → k < to → v ≤ get_or edges k 0

-- stairs stand in lots of eight, the last of which need not be full
abbrev pub lot : ℕ
lot = 8

-- where the lot that starts at k ends, if there are n stairs
pub record LotEnds (k n r : ℕ) : Type 0 where
  pub after : k < r
  pub within : r ≤ n
  pub short : r ≤ k + lot
  pub whole : r < n → r ≡ k + lot

-- there is room for all lots, and for each an edge that none of the lot is before
pub record Near {R L : ℕ} (c : Climber R L) (n : ℕ) : Type 0 where
  pub long : n ≤ length c.nearest * lot
  pub before : (b k : ℕ) → b * lot ≤ k → k < b * lot + lot → k < n → get_or c.nearest b 0 ≤ get_or c.edges k 0

-- there is room for the edges of n stairs, and for the nearest of each lot
pub record Room (edges nearest n : ℕ) : Type 0 where
  pub each : n ≤ edges
  pub lots : n ≤ nearest * lot

-- stairs that may climb: their edges, and the nearest of each lot, are known
pub record Stand {R L : ℕ} (costs periods : List ℕ) (c : Climber R L) (n : ℕ) : Type 0 where
  pub stairs : Stairs costs periods n
  pub known : Edges c.edges n
  pub near : Near c n

-- lot b, which is from `from` up to `to`, has a new nearest edge, and the other lots keep theirs
pub record NewNearest {R L : ℕ} (c next : Climber R L) (b from to : ℕ) : Type 0 where
  pub long : length next.nearest ≡ length c.nearest
  pub this : NoEdgeBefore (get_or next.nearest b 0) next.edges from to
  pub others : (a : ℕ) → (a ≡ b → ⊥) → get_or next.nearest a 0 ≡ get_or c.nearest a 0

-- the edges went on to x: the stairs' height from there on is what it was at x, and what the new edges give
pub record Moved (costs periods edges next : List ℕ) (n x : ℕ) : Type 0 where
  pub known : Edges next n
  pub later : (y : ℕ) → x ≤ y → height costs periods edges n y ≡ height costs periods edges n x + height costs periods next n y

-- the stairs of n noise sources start `window` before time's start
pub record SourcesStarted (n window : ℕ) (edges r : List ℕ) : Type 0 where
  pub long : length r ≡ length edges
  pub source : (k : ℕ) → k < n → get_or r k 0 ≡ start - window

-- the stairs of n streams start their jitter and `late` before time's start, and those before them stay
pub record StreamsStarted (jitters : List ℕ) (from n late : ℕ) (edges r : List ℕ) : Type 0 where
  pub long : length r ≡ length edges
  pub front : (k : ℕ) → k < from → get_or r k 0 ≡ get_or edges k 0
  pub stream : (k : ℕ) → k < n → get_or r (from + k) 0 ≡ start - (get_or jitters k 0 + late)

-- all stairs have started
pub record Started (jitters : List ℕ) (sources urgent late window : ℕ) (r : List ℕ) : Type 0 where
  pub long : sources + urgent ≤ length r
  pub source : (k : ℕ) → k < sources → get_or r k 0 ≡ start - window
  pub stream : (k : ℕ) → k < urgent → get_or r (sources + k) 0 ≡ start - (get_or jitters k 0 + late)
