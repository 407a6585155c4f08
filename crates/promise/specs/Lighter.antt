-- When a second plan, `new`, is lighter than a first, `old`, and what that promises; proved in proofs/Promise.antt, and for fewer rows in
-- proofs/Fewer.antt.
use Rattle.std.specs.Prelude.{◌≡◌, List, ◌∷◌, ◌++◌, ◌↔◌, ℕ, ◌≤◌, ◌<◌, length}
use Rattle.std.specs.Prelude.{Some}
use Rattle.bound.specs.Bound.{busy, bound}
use Rattle.bound.specs.declared.Verdict.TheVariants.{Met}
use Rattle.cover.specs.Cover.{Partnered}
use Rattle.plan.specs.declared.Timing.{Timing}
use Rattle.plan.specs.declared.Stream.{Stream}
use Rattle.plan.specs.Plan.{Plan, at}
use Rattle.plan.specs.Rules.{terms, row_answer}
use Rattle.checks.specs.Checks.{Right}

-- two streams are under one label
abbrev pub Namesakes : Stream → Stream → Type 0
Namesakes a b = a.label.0 ≡ b.label.0

-- both plans have a master node, or neither has, whatever the editions of their files
abbrev pub SameKit : Timing → Timing → Type 0
SameKit old new = (old.p ≡ 0) ↔ (new.p ≡ 0)

-- no timing constant, nor the number of priority bits, nor P, is greater
pub record NoGreater (old new : Timing) : Type 0 where
  pub f : new.f ≤ old.f
  pub e : new.e ≤ old.e
  pub tfcs : new.tfcs ≤ old.tfcs
  pub swx : new.swx ≤ old.swx
  pub h : new.h ≤ old.h
  pub g : new.g ≤ old.g
  pub etg : new.etg ≤ old.etg
  pub nb : new.nb ≤ old.nb
  pub p : new.p ≤ old.p

-- period and deadline are no shorter, jitter, payload and acknowledgement no longer
pub record Eased (old new : Stream) : Type 0 where
  pub period : old.period ≤ new.period
  pub deadline : old.deadline ≤ new.deadline
  pub jitter : new.jitter ≤ old.jitter
  pub payload : new.payload ≤ old.payload
  pub acknowledgement : new.acknowledgement ≤ old.acknowledgement

-- row k of the second plan stands in row r of the first
pub record Stands (old new : Plan) (k r : ℕ) : Type 0 where
  pub among : r < length old.streams
  pub label : Namesakes (at new k) (at old r)
  pub eased : Eased (at old r) (at new k)

pub record Lighter (old new : Plan) : Type 0 where
  pub kit : SameKit old.timing new.timing
  pub timing : NoGreater old.timing new.timing
  -- each stream of the second stands in the first under its label
  pub row : (k : ℕ) → k < length new.streams → ℕ
  pub stands : (k : ℕ) (h : k < length new.streams) → Stands old new k (row k h)
  -- in the same order of priority
  pub order : (j k : ℕ) (h : j < length new.streams) (i : k < length new.streams) → (at new j).priority.0 < (at new k).priority.0
      → (at old (row j h)).priority.0 < (at old (row k i)).priority.0
  -- each noise source of the second has its own partner in the first, with a gap no shorter
  pub gaps : Partnered (λ gap partner. partner ≤ gap) new.gaps old.gaps

-- a plan that is not refused
abbrev pub NotRefused : Plan → Type 0
NotRefused p = Right (length p.streams) (length p.gaps) p

-- each stream of the second that has a bound in the first has one in the second, no larger, and "met" stays "met"
pub record Kept (old new : Plan) (k r : ℕ) : Type 0 where
  pub bound : (L : ℕ) → busy (terms old (at old r)) ≡ Some L
      → (K : ℕ) × (busy (terms new (at new k)) ≡ Some K) × (bound (terms new (at new k)) K ≤ bound (terms old (at old r)) L)
  pub met : (row_answer old (at old r)).verdict ≡ Met → (row_answer new (at new k)).verdict ≡ Met

abbrev pub LighterKeeps : Type 0
LighterKeeps =
    (old new : Plan) → NotRefused old → NotRefused new
    → (l : Lighter old new) (k : ℕ) (h : k < length new.streams) → Kept old new k (l.row k h)

-- ---- fewer rows

-- the same constants and noise, and each stream of the second is one of the first, with nothing changed
pub record Fewer (old new : Plan) : Type 0 where
  pub timing : new.timing ≡ old.timing
  pub gaps : new.gaps ≡ old.gaps
  pub row : (k : ℕ) → k < length new.streams → ℕ
  pub among : (k : ℕ) (h : k < length new.streams) → row k h < length old.streams
  pub same : (k : ℕ) (h : k < length new.streams) → at new k ≡ at old (row k h)

abbrev pub FewerKeeps : Type 0
FewerKeeps =
    (old new : Plan) → NotRefused old → NotRefused new
    → (f : Fewer old new) (k : ℕ) (h : k < length new.streams) → Kept old new k (f.row k h)

-- one stream of a plan is pulled, and some are left: those in the rows before it and behind it
pub record Pulled (p : Plan) : Type 0 where
  pub before : List Stream
  pub stream : Stream
  pub behind : List Stream
  pub rows : p.streams ≡ before ++ stream ∷ behind
  pub left : 1 ≤ length (before ++ behind)

-- the plan without it
abbrev pub without : (p : Plan) → Pulled p → Plan
without p q = record { timing = p.timing; streams = q.before ++ q.behind; gaps = p.gaps }

-- it is not refused either, and has fewer rows, so that each stream that is left keeps its promise
abbrev pub PulledKeeps : Type 0
PulledKeeps = (p : Plan) → NotRefused p → (q : Pulled p) → NotRefused (without p q) × Fewer p (without p q)
