-- A plan with fewer rows is lighter, since each stream stands in itself; and a plan from which one stream is pulled is such a plan, and not refused.
-- Assumes nothing.
use mathlib.Core.Path.{◌≡◌, refl, sym, ap, ◌∙◌}
use mathlib.Core.List.{List, [], ◌∷◌, ◌++◌, map, map-append}
use Prim.Native.Nat.{ℕ, zero, suc, ◌≤◌, ◌<◌}
use native.Mathlib.Nat.{le_refl, suc_inj}
use native.Mathlib.Omega.{arith}
use lib.ListN.{length, get_or, length-append}
use Rattle.cover.specs.Cover.{Partnered}
use Rattle.plan.specs.declared.Timing.{Timing}
use Rattle.plan.specs.declared.Stream.{Stream}
use Rattle.plan.specs.Plan.{Plan, blank, at}
use Rattle.repeats.specs.Repeats.{Distinct}
use Rattle.promise.specs.Lighter.{NoGreater, Eased, Lighter, NotRefused, Fewer, FewerKeeps, Pulled, without, PulledKeeps}
use Rattle.promise.proofs.Promise.{lighter_keeps}

-- ---- fewer rows are lighter
partners_of_itself : {A : Type 0} (R : A → A → Type 0) → ((x : A) → R x x) → (xs : List A) → Partnered R xs xs
unfolding Partnered
partners_of_itself R r [] = tt
partners_of_itself R r (x ∷ xs) = ([], x, xs, refl, r x, partners_of_itself R r xs)

no_greater_than_itself : (t : Timing) → NoGreater t t
no_greater_than_itself t =
    record {
      f = le_refl _;
      e = le_refl _;
      tfcs = le_refl _;
      swx = le_refl _;
      h = le_refl _;
      g = le_refl _;
      etg = le_refl _;
      nb = le_refl _;
      p = le_refl _;
    }

eased_as_itself : (s : Stream) → Eased s s
eased_as_itself s = record { period = le_refl _; deadline = le_refl _; jitter = le_refl _; payload = le_refl _; acknowledgement = le_refl _ }

pub fewer_lighter : (old new : Plan) → Fewer old new → Lighter old new
fewer_lighter old new f =
    record {
      kit = (λ e. ap (λ t. t.p) f.timing ∙ e, λ e. sym (ap (λ t. t.p) f.timing) ∙ e);
      timing = rw f.timing (no_greater_than_itself old.timing);
      row = f.row;
      stands = λ k h. record { among = f.among k h; label = ap (λ s. s.label.0) (f.same k h); eased = rw (f.same k h) (eased_as_itself (at old (f.row k h))) };
      order = λ j k h i l. rw (f.same j h, f.same k i) at l;
      gaps = rw f.gaps (partners_of_itself (λ gap partner. partner ≤ gap) le_refl old.gaps);
    }

pub fewer_keeps : FewerKeeps
unfolding fewer_lighter
fewer_keeps old new a b f k h = lighter_keeps old new a b (fewer_lighter old new f) k h

-- ---- one row is pulled: where row k of the others stood, if n stand before it
stood : ℕ → ℕ → ℕ
stood zero k = suc k
stood (suc n) zero = zero
stood (suc n) (suc k) = suc (stood n k)

stood_at : {A : Type 0} (us : List A) (s : A) (vs : List A) (k : ℕ) (d : A) → get_or (us ++ vs) k d ≡ get_or (us ++ s ∷ vs) (stood (length us) k) d
unfolding stood
stood_at [] s vs k d = refl
stood_at (u ∷ us) s vs zero d = refl
stood_at (u ∷ us) s vs (suc k) d = stood_at us s vs k d

stood_below : (n k m : ℕ) → k < m → stood n k < suc m
unfolding stood
stood_below zero k m h = omega arith
stood_below (suc n) zero m h = omega arith
stood_below (suc n) (suc k) zero h = absurd (omega arith)
stood_below (suc n) (suc k) (suc m) h = omega (arith, stood_below n k m (omega arith))

stood_among : {A : Type 0} (us : List A) (s : A) (vs : List A) (k : ℕ) → k < length (us ++ vs) → stood (length us) k < length (us ++ s ∷ vs)
stood_among us s vs k h =
    omega (arith, stood_below (length us) k (length (us ++ vs)) h, length-append us vs, length-append us (s ∷ vs))

stood_apart : (n i j : ℕ) → stood n i ≡ stood n j → i ≡ j
unfolding stood
stood_apart zero i j e = suc_inj e
stood_apart (suc n) zero zero e = refl
stood_apart (suc n) zero (suc j) e = absurd (omega arith)
stood_apart (suc n) (suc i) zero e = absurd (omega arith)
stood_apart (suc n) (suc i) (suc j) e = ap suc (stood_apart n i j (suc_inj e))

-- ---- the plan without it
distinct_without : (us : List ℕ) (s : ℕ) (vs : List ℕ) → Distinct (us ++ s ∷ vs) → Distinct (us ++ vs)
distinct_without us s vs d i j g h e =
    stood_apart (length us) i j
    (d (stood (length us) i) (stood (length us) j) (stood_among us s vs i g) (stood_among us s vs j h) (sym (stood_at us s vs i 0) ∙ e ∙ stood_at us s vs j 0))

numbers_without : (p : Plan) (q : Pulled p) (f : Stream → ℕ) → Distinct (map f p.streams) → Distinct (map f (without p q).streams)
numbers_without p q f d =
    rw (map-append f q.before q.behind)
    (distinct_without (map f q.before) (f q.stream) (map f q.behind) (rw (q.rows, map-append) at d))

fewer_without : (p : Plan) (q : Pulled p) → Fewer p (without p q)
fewer_without p q =
    record {
      timing = refl;
      gaps = refl;
      row = λ k h. stood (length q.before) k;
      among = λ k h. rw q.rows (stood_among q.before q.stream q.behind k h);
      same = λ k h. rw q.rows (stood_at q.before q.stream q.behind k blank);
    }

right_without : (p : Plan) → NotRefused p → (q : Pulled p) → NotRefused (without p q)
right_without p a q =
    let f = fewer_without p q in
    record {
      within =
          record {
            some_stream = q.left;
            count = omega (arith, a.within.count, fewer);
            sources = a.within.sources;
            timing = a.within.timing;
            stream = λ k h. rw (f.same k h) (a.within.stream (f.row k h) (f.among k h));
            gap = a.within.gap;
          };
      count = refl;
      sources = refl;
      label = λ k h. rw (f.same k h) (a.label (f.row k h) (f.among k h));
      priorities = numbers_without p q (λ s. s.priority.0) a.priorities;
      labels = numbers_without p q (λ s. s.label.0) a.labels;
      slots = λ k h. rw (f.same k h) (a.slots (f.row k h) (f.among k h));
    }
  where
    fewer : length (q.before ++ q.behind) < length p.streams
    fewer = rw q.rows (omega (arith, length-append q.before q.behind, length-append q.before (q.stream ∷ q.behind)))

pub pulled_keeps : PulledKeeps
pulled_keeps p a q = (right_without p a q, fewer_without p q)
