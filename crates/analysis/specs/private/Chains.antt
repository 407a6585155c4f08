-- The chains for L and for w: what each keeps from turn to turn, and where it stands still.
use Rattle.std.specs.Prelude.{◌≡◌, cond, List, [], ℕ, ◌+◌, ◌-◌, ◌*◌, ◌≤◌, ◌<◌}
use Rattle.std.specs.Int.Signed.{lt_z}
use Rattle.names.specs.Limits.{ticks}
use Rattle.laws.specs.Lists.{ceil}
use Rattle.laws.specs.Search.{Least}
use Rattle.bound.specs.Terms.{Terms}
use Rattle.bound.specs.declared.Verdict.TheVariants.{None}
use Rattle.bound.specs.declared.Searched.{Searched}
use Rattle.bound.specs.Evaluations.{chain, evaluations}
use Rattle.bound.specs.Bound.{demand, E}
use Rattle.terms.specs.declared.Gathered.{Gathered}
use Rattle.terms.specs.Gathered.{terms_with}
use Rattle.analysis.specs.declared.searches.Ended.{Ended}
use Rattle.analysis.specs.declared.searches.Own.{Own}
use Rattle.analysis.specs.declared.searches.Reached.{Reached}
use Rattle.analysis.specs.private.Stairs.{height, start, far, Stairs, Edges}

-- B and i's own part of L's right side
abbrev pub own_l : Gathered → ℕ → ℕ
own_l g x = g.blocking + ceil (x + g.jitter) g.period * g.cost

-- what the right sides of L and of w(q) have besides B and i's own part
abbrev pub rest_L : Terms → ℕ → ℕ
rest_L r x = demand r.urgent x + E r x

abbrev pub rest_W : Terms → ℕ → ℕ
rest_W r x = demand r.urgent (x + r.late + 1) + E r (x + r.own.C'')

-- the stairs, and edges that are where they start, make up a right side's rest
pub record MakesUp (costs periods edges : List ℕ) (n : ℕ) (rest : ℕ → ℕ) : Type 0 where
  pub stairs : Stairs costs periods n
  pub known : Edges edges n
  pub is : (x : ℕ) → height costs periods edges n (x + start) ≡ rest x

-- what a chain keeps: a sum that, with the edges, gives the rest from x on
pub record RestKept (costs periods edges : List ℕ) (n : ℕ) (rest : ℕ → ℕ) (x sum : ℕ) : Type 0 where
  pub known : Edges edges n
  pub later : (y : ℕ) → x ≤ y → sum + height costs periods edges n (y + start) ≡ rest y

-- what a chain keeps of i's own stair: a sum that, with the edge, gives B and i's own part from x on
pub record OwnKept (g : Gathered) (own : Own) (x : ℕ) : Type 0 where
  pub below : own.edge < far
  pub later : (y : ℕ) → x ≤ y → own.sum + ceil (y + g.jitter - own.edge) g.period * g.cost ≡ own_l g y

-- where the chain for L ended, and how many evaluations it took
pub record EndsAs (r : Terms) (e : Ended) : Type 0 where
  pub last : e.last ≡ chain r (evaluations r)
  pub count : e.evaluations ≡ evaluations r

-- what is said of a stream that is none
abbrev pub no_bound : ℕ → Searched
no_bound n = record { answer = record { verdict = None; bound = 0; instance = 0 }; evaluations = n; x = ticks }

-- a right side whose rest is a sum and what the stairs rise by
abbrev pub side : List ℕ → List ℕ → List ℕ → ℕ → ℕ → ℕ → ℕ → ℕ
side costs periods edges n base sum x = base + (sum + height costs periods edges n (x + start))

-- a right side rises at `from`, and does not rise any more somewhere within the limit
pub record Bounded (f : ℕ → ℕ) (from : ℕ) : Type 0 where
  pub rises : from ≤ f from
  pub top : ℕ
  pub above : from ≤ top
  pub small : top ≤ ticks
  pub stops : f top ≤ top

-- the side's least fixed point from `from` on, and edges that have come there
pub record Settled (costs periods edges next : List ℕ) (n base sum from r : ℕ) : Type 0 where
  pub least : Least (side costs periods edges n base sum) from r
  pub small : r ≤ ticks
  pub kept : RestKept costs periods next n (λ x. sum + height costs periods edges n (x + start)) r (r - base)

-- the larger of two terms, of equal ones the first
abbrev pub larger_of : Reached → Reached → Reached
larger_of best next = cond (lt_z best.term next.term) next best

-- the terms of a row with nobody else on the channel
abbrev pub alone_terms : Gathered → Terms
alone_terms g = terms_with g [] []
