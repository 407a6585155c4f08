-- What is proved of a plan's streams, in document 01's letters; the proofs are in proofs/. So the rules over terms are those of plans.
use Rattle.std.specs.Prelude.{◌≡◌, ◌∷◌, ◌↔◌, ℕ, ◌+◌, ◌-◌, ◌*◌, ◌≤◌, ◌<◌, length}
use Rattle.names.specs.Limits.{ticks}
use Rattle.laws.specs.Lists.{ceil, sum_of, largest_of}
use Rattle.laws.specs.Search.{Least}
use Rattle.bound.specs.declared.Verdict.TheVariants.{None}
use Rattle.bound.specs.Bound.{side_L, side_W, w}
use Rattle.bound.specs.Claims.{Sound}
use Rattle.plan.specs.declared.Stream.{Stream}
use Rattle.plan.specs.Plan.{Plan, at, StreamWithin, Within}
use Rattle.plan.specs.Rules.{«V», C', C'', airtime, late, hp, lp, B, hit, terms, row_answer, FitsSlot}

-- E(t) is the sum over sources of ceil(t / N), times what a hit costs
abbrev pub noise_cost : Plan → Stream → ℕ → ℕ
noise_cost p i t = sum_of (λ N. ceil t N) p.gaps * hit p i

-- B + sum over i and hp(i) of ceil((L + J) / T) × C'' + E(L), where C'' is the airtime: P in slots
abbrev pub right_L : Plan → Stream → ℕ → ℕ
right_L p i L = B p i + sum_of (λ j. ceil (L + j.jitter) j.period * airtime p.timing j) (i ∷ hp p i) + noise_cost p i L

-- B + q × C'' + sum over hp(i) of ceil((w + V + J + 1) / T) × C'' + E(w + C''), in slots with 0 for V
abbrev pub right_W : Plan → Stream → ℕ → ℕ → ℕ
right_W p i q w =
    let t = p.timing in
    let own = airtime t i in
    B p i + q * own + sum_of (λ j. ceil (w + late t + j.jitter + 1) j.period * airtime t j) (hp p i) + noise_cost p i (w + own)

-- these are the right sides of the terms of i
abbrev pub RightSides : Type 0
RightSides = (p : Plan) (i : Stream) → ((L : ℕ) → side_L (terms p i) L ≡ right_L p i L) × ((q w : ℕ) → side_W (terms p i) q w ≡ right_W p i q w)

-- what the letters are of a kit that has no master node, ..
pub record SelfLetters (p : Plan) (i : Stream) : Type 0 where
  pub whole : (j : Stream) → C'' p.timing j ≡ «V» p.timing + C' p.timing j
  pub each : (j : Stream) → airtime p.timing j ≡ C'' p.timing j
  pub joins : late p.timing ≡ «V» p.timing
  pub blocked : B p i ≡ largest_of (λ j. C' p.timing j - 1) (lp p i)
  pub by_hit : hit p i ≡ largest_of (C'' p.timing) (i ∷ hp p i)

-- .. and of one that has, where each message takes a slot of P ticks
pub record SlotLetters (p : Plan) (i : Stream) : Type 0 where
  pub whole : (j : Stream) → C'' p.timing j ≡ C' p.timing j + p.timing.h
  pub each : (j : Stream) → airtime p.timing j ≡ p.timing.p
  pub joins : late p.timing ≡ 0
  pub blocked : B p i ≡ p.timing.p - 1
  pub by_hit : hit p i ≡ p.timing.p
  pub at_end : (terms p i).last ≡ C' p.timing i + p.timing.h

abbrev pub LettersAre : Type 0
LettersAre = (p : Plan) (i : Stream) → (p.timing.p ≡ 0 → SelfLetters p i) × (1 ≤ p.timing.p → SlotLetters p i)

-- i is "none" exactly if no L from 1 to 4,294,967,295 is its own right side
abbrev pub RowNoneExactly : Type 0
RowNoneExactly = (p : Plan) (i : Stream) → ((row_answer p i).verdict ≡ None) ↔ ((L : ℕ) → 1 ≤ L → L ≤ ticks → right_L p i L ≡ L → ⊥)

-- the busy period L of i: the least positive whole number that is its own right side, and at most 4,294,967,295
abbrev pub BusyPeriod : Plan → Stream → ℕ → Type 0
BusyPeriod p i L = (L ≤ ticks) × Least (right_L p i) 1 L

-- i has w(q) for q from 0 to Q - 1: it is the least whole number that is its own right side, and at most L - C'', in slots L - P
abbrev pub HasW : Plan → Stream → Type 0
HasW p i =
    (L q : ℕ) → BusyPeriod p i L → q < ceil (L + i.jitter) i.period
    → Least (right_W p i q) 0 (w (terms p i) q) × (w (terms p i) q ≤ L - airtime p.timing i)

-- w(q) always exists: each stream of a plan within the limits has it, if it fits its slot
abbrev pub RowWExists : Type 0
RowWExists = (p : Plan) → Within p → (k : ℕ) → k < length p.streams → FitsSlot p.timing (at p k) → HasW p (at p k)

-- the terms of a stream within the limits that fits its slot are such as the theorems of the bound take
abbrev pub TermsSound : Type 0
TermsSound = (p : Plan) (i : Stream) → StreamWithin p.timing.nb i → FitsSlot p.timing i → Sound (terms p i)

-- no bound is more than 8,589,934,590, and the worst instance is below 4,294,967,295
abbrev pub RowWithin : Type 0
RowWithin =
    (p : Plan) (i : Stream) → StreamWithin p.timing.nb i → FitsSlot p.timing i
    → ((row_answer p i).bound ≤ ticks + ticks) × ((row_answer p i).instance < ticks)
