-- What is proved of the definitions of the bound, in document 01's words; the proofs are in proofs/. With these the definitions can be
-- believed without reading how they search.
use Rattle.std.specs.Prelude.{◌≡◌, [], ◌↔◌, ℕ, ◌+◌, ◌-◌, ◌≤◌, ◌<◌, T, pos, neg_ℤ}
use Rattle.std.specs.Int.Signed.{le_z, lt_z}
use Rattle.names.specs.Limits.{ticks}
use Rattle.laws.specs.Search.{Least}
use Rattle.std.specs.Prelude.{Some, None}
use Rattle.bound.specs.Terms.{Terms}
use Rattle.bound.specs.Bound.{side_L, busy, Q, side_W, w, term, bound, worst}

-- L is the least positive whole number with L = its right side, and at most 4,294,967,295 ..
abbrev pub BusyIsLeast : Type 0
BusyIsLeast = (r : Terms) (L : ℕ) → (busy r ≡ Some L) ↔ ((L ≤ ticks) × Least (side_L r) 1 L)

-- .. and i is "none" exactly if no such L is at most 4,294,967,295
abbrev pub NoneExactly : Type 0
NoneExactly = (r : Terms) → (busy r ≡ None) ↔ ((L : ℕ) → 1 ≤ L → L ≤ ticks → side_L r L ≡ L → ⊥)

-- What the terms of a stream i have where its plan is within the limits, and all that is asked here; nothing is asked of hp(i) and the gaps
pub record Sound (r : Terms) : Type 0 where
  -- i's own period is a tick at least
  pub period : 1 ≤ r.own.T
  -- i's C'' is more than V: C'' = V + C', and C' is a tick at least
  pub late : r.late + 1 ≤ r.own.C''
  -- what the message itself takes at the end is a tick at least, and no more than C''
  pub ends : 1 ≤ r.last
  pub last : r.last ≤ r.own.C''

-- w(q) always exists, and is never more than L - C''
abbrev pub WExists : Type 0
WExists = (r : Terms) → Sound r → (L q : ℕ) → busy r ≡ Some L → q < Q r L → Least (side_W r q) 0 (w r q) × (w r q ≤ L - r.own.C'')

-- one instance more takes C'' more at least
abbrev pub WRises : Type 0
WRises = (r : Terms) → Sound r → (L q : ℕ) → busy r ≡ Some L → q + 1 < Q r L → w r q + r.own.C'' ≤ w r (q + 1)

-- the bound is the largest term: no term is above it, it is one of them, and it is above zero
abbrev pub BoundIsLargest : Type 0
BoundIsLargest =
    (r : Terms) → Sound r → (L : ℕ) → busy r ≡ Some L
    → ((q : ℕ) → q < Q r L → T (le_z (term r q) (pos (bound r L))))
    × ((q : ℕ) × (q < Q r L) × (pos (bound r L) ≡ term r q))
    × (1 ≤ bound r L)

-- q is the worst instance: it is one of the instances, its term is the bound, and no earlier one reaches it
pub record IsWorst (r : Terms) (L q : ℕ) : Type 0 where
  pub counts : q < Q r L
  pub gives : term r q ≡ pos (bound r L)
  pub earlier : (e : ℕ) → e < q → T (lt_z (term r e) (pos (bound r L)))

-- the one that is named is that one, and no other
abbrev pub WorstIsFirst : Type 0
WorstIsFirst = (r : Terms) → Sound r → (L q : ℕ) → busy r ≡ Some L → (worst r L ≡ q) ↔ IsWorst r L q

-- a stream alone on the channel, with nobody more urgent and no noise, has its first instance as the worst, however many there are
abbrev pub AloneIsFirst : Type 0
AloneIsFirst = (r : Terms) → Sound r → (L : ℕ) → busy r ≡ Some L → r.urgent ≡ [] → r.gaps ≡ [] → worst r L ≡ 0

-- the term of q = 0 is never below zero, whatever the terms are
abbrev pub FirstTermNotBelowZero : Type 0
FirstTermNotBelowZero = (r : Terms) → T (le_z (pos 0) (term r 0))

-- nor is that of any other instance of the busy period, q < Q: it is what the message itself takes at the end, or more. An instance that
-- waited no longer than to its own release would have found the busy period over
abbrev pub TermsAboveZero : Type 0
TermsAboveZero = (r : Terms) → Sound r → (L q : ℕ) → busy r ≡ Some L → q < Q r L → T (le_z (pos r.last) (term r q))

-- A term may be below zero as a number, though only for a q that does not count. Of a stream that takes 23 ticks in 100:
abbrev pub sparse : Terms
sparse =
    record {
      B = 16;
      own = record { C'' = 23; T = 100; J = 0 };
      urgent = [];
      gaps = [];
      hit = 23;
      late = 8;
      last = 23;
    }

-- its busy period of 39 ticks has one instance, and the term of the next one, q = 1, is 39 + 23 - 100
abbrev pub TermBelowZero : Type 0
TermBelowZero = Sound sparse × (busy sparse ≡ Some 39) × (Q sparse 39 ≡ 1) × (w sparse 1 ≡ 39) × (term sparse 1 ≡ neg_ℤ (pos 38))

-- the bound is at most J + L, so it fits its word: with J and L at most 4,294,967,295 it has ten digits at most
abbrev pub BoundWithin : Type 0
BoundWithin = (r : Terms) → Sound r → (L : ℕ) → busy r ≡ Some L → bound r L ≤ r.own.J + L

-- the worst instance is below L, since each instance takes a tick at least: it has ten digits at most too
abbrev pub WorstWithin : Type 0
WorstWithin = (r : Terms) → Sound r → (L : ℕ) → busy r ≡ Some L → worst r L < L
