-- Document 02, request 08, of the streams of a plan: the answer with the number of evaluations, and the number beside its limit. The chain,
-- the number and the limit are in the crate bound, specs/Evaluations.antt.
use Rattle.std.specs.Prelude.{◌≡◌, List, map, ℕ, ◌+◌, ◌≤◌, ◌<◌, length}
use Rattle.names.specs.Limits.{ticks}
use Rattle.laws.specs.Lists.{smallest_of}
use Rattle.bound.specs.declared.Searched.{Searched}
use Rattle.bound.specs.declared.Wait.{Wait}
use Rattle.bound.specs.Evaluations.{chain, evaluations, c, limit, searched, wait}
use Rattle.plan.specs.declared.Stream.{Stream}
use Rattle.plan.specs.Plan.{Plan, at, Within}
use Rattle.plan.specs.Rules.{C'', hp, terms, FitsSlot}
use Rattle.plan.specs.Claims.{right_L}

-- of the stream i, and of all streams in file order
abbrev pub row_searched : Plan → Stream → Searched
row_searched p i = searched (terms p i) i.deadline

abbrev pub searches : Plan → List Searched
searches p = map (row_searched p) p.streams

abbrev pub row_wait : Plan → Stream → Wait
row_wait p i = wait (terms p i)

abbrev pub waits : Plan → List Wait
waits p = map (row_wait p) p.streams

-- ---- What is proved of them; the proofs are in proofs/Evaluations.antt.

-- the chain of i starts at 1, and puts each value into the right side of its L
abbrev pub RowChain : Type 0
RowChain =
    (p : Plan) (i : Stream) → (chain (terms p i) 0 ≡ 1) × ((k : ℕ) → chain (terms p i) (k + 1) ≡ right_L p i (chain (terms p i) k))

-- c is the smallest C'' among i and hp(i), and in slots P
abbrev pub SmallestIs : Type 0
SmallestIs =
    (p : Plan) (i : Stream)
    → (p.timing.p ≡ 0 → c (terms p i) ≡ smallest_of (C'' p.timing) i (hp p i)) × (1 ≤ p.timing.p → c (terms p i) ≡ p.timing.p)

-- each stream of a plan within the limits that fits its slot has a number of evaluations that is at most floor(X / c) + 1
abbrev pub RowEvaluationsWithin : Type 0
RowEvaluationsWithin =
    (p : Plan) → Within p → (k : ℕ) → k < length p.streams → FitsSlot p.timing (at p k)
    → let r = terms p (at p k) in evaluations r ≤ limit r

-- both have ten digits at most
abbrev pub RowWaitWithin : Type 0
RowWaitWithin =
    (p : Plan) → Within p → (k : ℕ) → k < length p.streams → FitsSlot p.timing (at p k)
    → let w = row_wait p (at p k) in (w.evaluations ≤ ticks) × (w.limit ≤ ticks + 1)
