-- Document 02, request 08, over the terms r of a stream i: how many evaluations the search for L takes, and how many it takes at most.
use Rattle.std.specs.Prelude.{◌≡◌, Bool, ◌||◌, [], ◌↔◌, ◌⊎◌, ℕ, zero, suc, ◌+◌, ◌-◌, ◌/◌, ◌≤◌, ◌<◌, eqb, ltb}
use Rattle.names.specs.Limits.{ticks}
use Rattle.laws.specs.Lists.{smallest_of}
use Rattle.laws.specs.Search.{first, or_zero}
use Rattle.std.specs.Prelude.{Option, Some, None}
use Rattle.bound.specs.declared.Searched.{Searched}
use Rattle.bound.specs.declared.Wait.{Wait}
use Rattle.bound.specs.Terms.{Terms}
use Rattle.bound.specs.Bound.{side_L, busy, answer}
use Rattle.bound.specs.Claims.{Sound}

-- the chain for L: it starts at 1, and puts each value into L's right side. This is its value after k evaluations
unfoldable pub chain : Terms → ℕ → ℕ
chain r zero = 1
chain r (suc k) = side_L r (chain r k)

-- it stops at a value that repeats, or at the first beyond 4,294,967,295
abbrev pub stops : Terms → ℕ → Bool
stops r k = eqb (chain r k) (chain r (k - 1)) || ltb ticks (chain r k)

-- the number of evaluations, the last one included; the chain does stop (CountsToLast)
unfoldable pub evaluations : Terms → ℕ
evaluations r = or_zero (first (stops r) 1 ticks)

-- X: L, or 4,294,967,295 for none
abbrev pub or_ticks : Option ℕ → ℕ
or_ticks (Some L) = L
or_ticks None = ticks

unfoldable pub X : Terms → ℕ
X r = or_ticks (busy r)

-- c: the smallest C'' among i and hp(i), each of which is P in slots
unfoldable pub c : Terms → ℕ
c r = smallest_of (λ j. j.C'') r.own r.urgent

-- the most evaluations: floor(X / c) + 1
unfoldable pub limit : Terms → ℕ
limit r = X r / c r + 1

-- the answer of a stream with the deadline D, with the number of evaluations and X
unfoldable pub searched : Terms → ℕ → Searched
searched r D = record { answer = answer r D; evaluations = evaluations r; x = X r }

-- the number and the limit, side by side
abbrev pub wait : Terms → Wait
wait r = record { evaluations = evaluations r; limit = limit r }

-- ---- What is proved of the chain; the proofs are in proofs/Evaluations.antt, proofs/Limit.antt and proofs/Full.antt.

-- each value is the right side of the one before it
abbrev pub ChainGoes : Type 0
ChainGoes = (r : Terms) → (chain r 0 ≡ 1) × ((k : ℕ) → chain r (k + 1) ≡ side_L r (chain r k))

-- the k-th evaluation is the last: its value repeats or is beyond, and none before it did
pub record IsLast (r : Terms) (k : ℕ) : Type 0 where
  pub some : 1 ≤ k
  pub ends : (chain r k ≡ chain r (k - 1)) ⊎ (ticks < chain r k)
  pub new : (e : ℕ) → 1 ≤ e → e < k → chain r e ≡ chain r (e - 1) → ⊥
  pub within : (e : ℕ) → e < k → chain r e ≤ ticks

-- there is a last one, and the number is its
abbrev pub CountsToLast : Type 0
CountsToLast = (r : Terms) → Sound r → (k : ℕ) → (evaluations r ≡ k) ↔ IsLast r k

-- the chain ends at L exactly if L exists, ..
abbrev pub EndsAtL : Type 0
EndsAtL = (r : Terms) → Sound r → (L : ℕ) → (busy r ≡ Some L) ↔ ((chain r (evaluations r) ≡ L) × (L ≤ ticks))

-- .. and beyond 4,294,967,295 exactly for none
abbrev pub EndsBeyond : Type 0
EndsBeyond = (r : Terms) → Sound r → (busy r ≡ None) ↔ (ticks < chain r (evaluations r))

-- where each C'' is a tick at least, and a hit costs no less than the smallest, ..
pub record Paid (r : Terms) : Type 0 where
  pub some : 1 ≤ c r
  pub hit : c r ≤ r.hit

-- .. the number is at most floor(X / c) + 1
abbrev pub EvaluationsWithin : Type 0
EvaluationsWithin = (r : Terms) → Sound r → Paid r → evaluations r ≤ limit r

-- whatever the costs are, it has ten digits at most: each evaluation before the last adds a tick
abbrev pub EvaluationsFit : Type 0
EvaluationsFit = (r : Terms) → Sound r → evaluations r ≤ ticks

-- a stream alone on the channel whose messages come as fast as they are sent
pub record Full (r : Terms) : Type 0 where
  pub nobody : r.urgent ≡ []
  pub quiet : r.gaps ≡ []
  pub period : r.own.T ≡ r.own.C''
  pub small : r.own.C'' ≤ ticks

-- each evaluation adds one message, and the chain goes on beyond the last tick: it is none, and the number is known without walking the
-- chain, where the jitter is one period, ..
abbrev pub FullLate : Type 0
FullLate =
    (r : Terms) → Sound r → Full r → r.B ≡ 0 → r.own.J ≡ r.own.C''
    → (busy r ≡ None) × (evaluations r ≡ ticks / r.own.C'')

-- .. and where there is no jitter, but some blocking
abbrev pub FullBlocked : Type 0
FullBlocked =
    (r : Terms) → Sound r → Full r → r.own.J ≡ 0 → 1 ≤ r.B → r.B ≤ r.own.C''
    → (busy r ≡ None) × (evaluations r ≡ (ticks - r.B) / r.own.C'' + 1)
