-- The smallest cost up to a row's place is c of its terms, the smallest C'' among i and hp(i), in slots P; and so what is told of the row is the rules'. Assumes nothing.
use mathlib.Core.Path.{◌≡◌, refl, sym, ap, ap₂, ◌∙◌}
use mathlib.Core.Bool.{true}
use mathlib.Core.Logic.{⊎_elim}
use mathlib.Core.List.{List}
use Prim.Native.Nat.{ℕ, ◌+◌, ◌-◌, ◌*◌, ◌/◌, ◌≤◌, ◌<◌, min}
use native.Mathlib.Nat.{le_refl, le_antisymm, eq-or-lt_of_le, lt_of_not-le}
use native.Mathlib.Decide.{dec_le}
use native.Mathlib.Omega.{arith}
use borrow.Author.Tests.{ltb-true, lt-ltb}
use lib.Dec.{ltb}
use lib.ListN.{length, get_or}
use Rattle.names.specs.Limits.{ticks}
use Rattle.laws.specs.Lists.{smallest_of, rows}
use Rattle.laws.specs.Ranks.{rank}
use Rattle.laws.proofs.Lists.{rows_at, length_rows}
use Rattle.laws.proofs.Ranks.{rank_below, rank_less, rank_onto}
use Rattle.laws.proofs.Smallest.{smallest_first, smallest_below, smallest_above}
use Rattle.bound.specs.declared.Searched.{Searched}
use Rattle.bound.specs.declared.Wait.{Wait}
use Rattle.bound.specs.Evaluations.{c, limit, searched}
use Rattle.bound.proofs.Limit.{x_fits}
use Rattle.plan.specs.declared.Stream.{Stream}
use Rattle.plan.specs.Plan.{Plan, blank}
use Rattle.plan.specs.Rules.{airtime, hp, terms}
use Rattle.plan.specs.Evaluations.{row_searched, row_wait}
use Rattle.plan.proofs.Rules.{terms_sound}
use Rattle.plan.proofs.Evaluations.{smallest_of_lem}
use Rattle.carried.specs.Carried.{entered_in, timing_in, plan_in}
use Rattle.row_words.specs.RowWords.{row_words, words_per_row, wait_words, words_per_wait, with_row}
use Rattle.answers.specs.Answers.{Told, Answers, Waits}
use Rattle.answers.specs.Answers.{per_row, words_of}
use Rattle.answers.specs.private.Gather.{row_stream, urgency, PlacesWithin, Cheapest, RowTold, Ordered}

-- ---- place after place: v is the smallest of the last one and of those from a on and before k
pub record SoFar (l : List ℕ) (a b k v : ℕ) : Type 0 where
  pub from : a ≤ k
  pub to : k ≤ b
  pub last : v ≤ get_or l b 0
  pub least : (j : ℕ) → a ≤ j → j < k → v ≤ get_or l j 0
  pub one : (j : ℕ) × (a ≤ j) × (j ≤ b) × (v ≡ get_or l j 0)

pub far_none : (l : List ℕ) (a b : ℕ) → a ≤ b → SoFar l a b a (get_or l b 0)
far_none l a b h =
    record { from = le_refl a; to = h; last = le_refl _; least = λ j g e. absurd (omega arith); one = (b, h, le_refl b, refl) }

pub far_more : {l : List ℕ} {a b k v r : ℕ} → k < b → r ≡ min v (get_or l k 0) → SoFar l a b k v → SoFar l a b (k + 1) r
far_more {l} {a} {b} {k} {v} {r} h e s =
    record {
      from = omega (arith, s.from);
      to = omega arith;
      last = omega (arith, s.last);
      least = λ j g d. ⊎_elim (λ (same : j ≡ k). rw same (omega arith)) (λ less. omega (arith, s.least j g less)) (eq-or-lt_of_le (omega arith));
      one = elim (dec_le v (get_or l k 0)) [
        | yes less ↦ let (j, f, t, q) = s.one in (j, f, t, omega arith)
        | no more ↦ (k, s.from, omega arith, omega (arith, lt_of_not-le more))
      ];
    }

pub far_all : {l : List ℕ} {a b k v : ℕ} → b ≤ k → SoFar l a b k v → Cheapest l a b v
far_all {l} {a} {b} {k} {v} h s =
    record { least = λ j f t. ⊎_elim (λ (same : j ≡ b). rw same s.last) (λ less. s.least j f (omega arith)) (eq-or-lt_of_le t); one = s.one }

-- ---- of row k
module _ (ws : List ℕ) (n m k : ℕ) (fine : PlacesWithin ws n m) (among : k < n) (costs : List ℕ) (o : Ordered (airtime (timing_in ws)) ws n m n costs) where
  abbrev p : Plan
  p = plan_in n m ws

  abbrev i : Stream
  i = row_stream ws k

  abbrev at : ℕ → ℕ
  at = rank (urgency ws) n

  -- row j in the plan
  row_at : (j : ℕ) → j < n → get_or (rows n (row_stream ws)) j blank ≡ row_stream ws j
  row_at j h = rows_at n (row_stream ws) blank j h

  -- a row is more urgent exactly if its place is before that of row k
  more_urgent : (j : ℕ) → j < n → ltb (at j) (at k) ≡ ltb (urgency ws j) (urgency ws k)
  more_urgent j h = rank_less (urgency ws) n j k h

  module _ (v : ℕ) (s : Cheapest costs m (m + at k) v) where
    no_less : (j : ℕ) → j < n → at j ≤ at k → v ≤ airtime (timing_in ws) (row_stream ws j)
    no_less j h l = omega (arith, o.is j h, s.least (m + at j) (omega arith) (omega arith))

    -- it is no more than the smallest ..
    below : v ≤ smallest_of (airtime (timing_in ws)) i (hp p i)
    unfolding entered_in
    below =
        smallest_above (airtime (timing_in ws)) (λ j. ltb j.priority.0 i.priority.0) blank v i (rows n (row_stream ws)) (no_less k among (omega arith))
        (λ j h e.
        let l : j < n = omega (arith, length_rows n (row_stream ws)) in
        let f : ltb (urgency ws j) (urgency ws k) ≡ true = ap (λ z. ltb z.priority.0 i.priority.0) (sym (row_at j l)) ∙ e in
        rw (row_at j l) (no_less j l (omega (arith, ltb-true (at j) (at k) (more_urgent j l ∙ f)))))

    -- .. since it is one of them
    above : smallest_of (airtime (timing_in ws)) i (hp p i) ≤ v
    unfolding entered_in
    above =
        let (a, h, l, e) = s.one in
        let (j, g, f) = rank_onto (urgency ws) n fine.apart (a - m) (omega (arith, rank_below (urgency ws) n k among)) in
        let there : m + at j ≡ a = omega (arith, f) in
        let is : v ≡ airtime (timing_in ws) (row_stream ws j) = e ∙ ap (λ z. get_or costs z 0) (sym there) ∙ o.is j g in
        ⊎_elim
        (λ (d : at j ≡ at k).
        let same : v ≡ airtime (timing_in ws) i = is ∙ sym (o.is j g) ∙ ap (λ z. get_or costs (m + z) 0) d ∙ o.is k among in
        omega (arith, smallest_first (airtime (timing_in ws)) i (hp p i)))
        (λ d.
        let passes : ltb (urgency ws j) (urgency ws k) ≡ true = sym (more_urgent j g) ∙ lt-ltb (at j) (at k) d in
        let least = smallest_below (airtime (timing_in ws)) (λ j. ltb j.priority.0 i.priority.0) blank i (rows n (row_stream ws)) j (omega (arith, length_rows n (row_stream ws))) (rw (row_at j g) passes) in
        let least₂ : smallest_of (airtime (timing_in ws)) i (hp p i) ≤ airtime (timing_in ws) (row_stream ws j) = rw (row_at j g) at least in
        omega arith)
        (eq-or-lt_of_le (omega (arith, there, l)))

    pub cheapest_is : v ≡ c (terms p i)
    unfolding entered_in
    cheapest_is = le_antisymm below above ∙ sym (smallest_of_lem p i)

    -- a message costs a tick at least
    pub cheapest_some : 1 ≤ v
    unfolding entered_in terms
    cheapest_some =
        let (a, h, l, e) = s.one in
        let (j, g, f) = rank_onto (urgency ws) n fine.apart (a - m) (omega (arith, rank_below (urgency ws) n k among)) in
        let there : m + at j ≡ a = omega (arith, f) in
        omega (arith, e, ap (λ z. get_or costs z 0) there, o.is j g, (terms_sound p (row_stream ws j) (fine.stream j g) (fine.slots j g)).late)

  -- ---- with its answer, what is told of it
  module _ (s : Searched) (e : s ≡ row_searched p i) where
    pub x_within : s.x ≤ ticks
    unfolding searched
    x_within = omega (arith, ap (λ s. s.x) e, x_fits (terms p i))

    wait_is : (v : ℕ) → v ≡ c (terms p i) → ◌≡◌ {A = Wait} (record { evaluations = s.evaluations; limit = s.x / v + 1 }) (row_wait p i)
    unfolding searched limit
    wait_is v d = ap₂ (λ s v. record { evaluations = s.evaluations; limit = s.x / v + 1 }) e d

    pub row_told : (told : Told) (out next : List ℕ) → RowTold told s costs m (m + at k) k out next → next ≡ with_row (per_row told) out k (words_of told p i)
    row_told Answers out next r = r ∙ ap (λ s. with_row words_per_row out k (row_words s)) e
    row_told Waits out next (v, least, r) = r ∙ ap (λ w. with_row words_per_wait out k (wait_words w)) (wait_is v (cheapest_is v least))

-- ---- what is told of n rows has room where it is lent
pub some_words : (told : Told) → 1 ≤ per_row told
some_words Answers = omega arith
some_words Waits = omega arith

pub row_long : (told : Told) (p : Plan) (i : Stream) → length (words_of told p i) ≡ per_row told
row_long Answers p i = refl
row_long Waits p i = refl

pub rows_fit : (told : Told) (k n : ℕ) → k < n → per_row told * k + per_row told ≤ per_row told * n
rows_fit Answers k n h = omega arith
rows_fit Waits k n h = omega arith
