-- A full load: terms that have no busy period, shown without a search. Rows without a bound are proved so (P4 and P5).
use Rattle.std.specs.Prelude.{◌≡◌, ◌∷◌, ℕ, ◌+◌, ◌*◌, ◌/◌, ◌≤◌, ◌<◌}
use Rattle.std.specs.Prelude.{None}
use Rattle.laws.specs.Lists.{sum_of}
use Rattle.bound.specs.Terms.{Share, Terms}
use Rattle.bound.specs.Bound.{busy}

-- what a stream is sure to ask for in d ticks: floor(d / T) × C''
abbrev pub asks : ℕ → Share → ℕ
asks d j = d / j.T * j.C''

-- the load of i and hp(i) in d ticks, ..
unfoldable pub load : Terms → ℕ → ℕ
load r d = sum_of (asks d) (r.own ∷ r.urgent)

-- .. and what their jitter adds to it: 0 exactly if none of those that ask has a jitter
unfoldable pub delayed : Terms → ℕ → ℕ
delayed r d = sum_of (λ j. asks d j * j.J) (r.own ∷ r.urgent)

-- d ticks are full: the load takes all of them, and it takes more, or some jitter counts
pub record Full (r : Terms) (d : ℕ) : Type 0 where
  pub all : d ≤ load r d
  pub more : d < load r d + delayed r d

-- then there is no busy period
abbrev pub FullIsNone : Type 0
FullIsNone = (r : Terms) (d : ℕ) → Full r d → busy r ≡ None
