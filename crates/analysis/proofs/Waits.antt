-- The searches for w(q) climb once: each may start where the one before ended, and C'' further on; and what is kept of their terms. Assumes nothing.
use mathlib.Core.Path.{◌≡◌, refl, sym, ap, ap₂, ◌∙◌, subst}
use mathlib.Core.Bool.{Bool, true, false, cond}
use mathlib.Core.List.{List}
use Prim.Native.Nat.{ℕ, ◌+◌, ◌-◌, ◌*◌, ◌^◌, ◌≤◌, ◌<◌}
use native.Mathlib.Nat.{le_trans, suc-mul, zero-mul}
use native.Mathlib.Numerals.{add-one}
use native.Mathlib.Omega.{arith}
use lib.IntN.{ℤ, pos, ◌-ℤ◌}
use lib.Signed.{lt_z}
use Rattle.names.specs.Limits.{ticks}
use Rattle.laws.specs.Lists.{ceil, rows}
use Rattle.laws.specs.Signed.{max_Z, largest_to, FirstLargest}
use Rattle.laws.proofs.Round.{ceil_room}
use Rattle.laws.proofs.Signed.{largest_start, largest_more, first_start, first_more}
use Rattle.std.specs.Prelude.{Some}
use Rattle.laws.proofs.Chain.{least_later, least_agrees}
use Rattle.bound.specs.Terms.{Terms}
use Rattle.bound.specs.Bound.{side_W, busy, Q, w, term}
use Rattle.bound.specs.Claims.{Sound}
use Rattle.bound.proofs.Sides.{side_W_mono, busy_is_least}
use Rattle.bound.proofs.Largest.{some_instance}
use Rattle.bound.proofs.Instances.{room, settles, w_exists, w_rises, side_W_suc}
use Rattle.terms.specs.Gathered.{Lent, terms_of}
use Rattle.analysis.specs.declared.searches.Reached.{Reached}
use Rattle.analysis.specs.declared.stairs.Climber.{Climber}
use Rattle.analysis.specs.private.Stairs.{Near}
use Rattle.analysis.specs.private.Chains.{side, rest_W, alone_terms, MakesUp, RestKept, Bounded, Settled, larger_of}
use Rattle.analysis.proofs.Chains.{kept_start, kept_up}

-- w(q)'s right side is B + q × C'' and the rest
side_W_parts : (r : Terms) (q x : ℕ) → side_W r q x ≡ r.B + q * r.own.C'' + rest_W r x
unfolding side_W
side_W_parts r q x = omega arith

-- what a search for w(q) starts from: the right side from there on, and that neither w(q) nor the right side is below
pub record WaitSearch (r : Terms) (L : ℕ) (costs periods edges : List ℕ) (n q base sum from : ℕ) : Type 0 where
  pub counts : q < Q r L
  pub based : base ≡ r.B + q * r.own.C''
  pub kept : RestKept costs periods edges n (rest_W r) from sum
  pub low : from ≤ w r q
  pub rises : from ≤ side_W r q from

module _ {r : Terms} {L : ℕ} (s : Sound r) (b : busy r ≡ Some L) where
  -- w(q) is B + q × C'' at least, and within the limit
  pub above_base : (q : ℕ) → q < Q r L → r.B + q * r.own.C'' ≤ w r q
  above_base q h = omega (arith, (w_exists r s L q b h).0.fixed, side_W_parts r q (w r q))

  pub w_small : (q : ℕ) → q < Q r L → w r q + r.own.C'' ≤ ticks
  w_small q h =
      let l = (busy_is_least r L).0 b in
      omega (arith, (w_exists r s L q b h).1, l.0, room r s L l.1.fixed l.1.above q h)

  module _ {costs periods edges : List ℕ} {n : ℕ} where
    -- the search for w(0) starts at 0
    pub search_first : MakesUp costs periods edges n (rest_W r) → WaitSearch r L costs periods edges n 0 r.B 0 0
    search_first m =
        record {
          counts = some_instance r s L ((busy_is_least r L).0 b).1.above;
          based = omega (arith, zero-mul r.own.C'');
          kept = kept_start costs periods edges n (rest_W r) 0 m;
          low = omega arith;
          rises = omega arith;
        }

    -- the search for w(q + 1) starts at w(q) + C''
    pub search_next : (q : ℕ) {base wait : ℕ} → q + 1 < Q r L → base ≡ r.B + q * r.own.C'' → wait ≡ w r q → RestKept costs periods edges n (rest_W r) wait (wait - base)
        → WaitSearch r L costs periods edges n (q + 1) (base + r.own.C'') (wait - base) (wait + r.own.C'')
    search_next q {base} {wait} h e i k =
        let c = r.own.C'' in
        record {
          counts = h;
          based = omega (arith, ap (λ k. k * c) (add-one q), suc-mul q c);
          kept = kept_up costs periods edges n (rest_W r) wait (wait + c) (wait - base) (omega arith) k;
          low = omega (arith, w_rises r s L q b h);
          rises = omega (arith, (w_exists r s L q b (omega arith)).0.fixed, side_W_suc r q (wait + c), side_W_mono r q (w r q) (wait + c) (omega arith));
        }

  module _ {costs periods edges : List ℕ} {n q base sum from : ℕ} (h : WaitSearch r L costs periods edges n q base sum from) where
    agrees : (z : ℕ) → from ≤ z → side costs periods edges n base sum z ≡ side_W r q z
    agrees z g = omega (arith, h.based, h.kept.later z g, side_W_parts r q z)

    pub bounded : Bounded (side costs periods edges n base sum) from
    bounded =
        let l = (busy_is_least r L).0 b in
        let up : from ≤ L - r.own.C'' = le_trans h.low (w_exists r s L q b h.counts).1 in
        record {
          rises = rw (agrees from (omega arith)) h.rises;
          top = L - r.own.C'';
          above = up;
          small = omega (arith, l.0);
          stops = rw (agrees (L - r.own.C'') up) (settles r s L l.1.fixed l.1.above q h.counts);
        }

    module _ {next : List ℕ} {y : ℕ} (t : Settled costs periods edges next n base sum from y) where
      pub is_w : y ≡ w r q
      is_w =
          least_agrees _ (side_W r q) from y (w r q) agrees t.least (least_later (side_W r q) 0 from (w r q) (w_exists r s L q b h.counts).0 (omega arith) h.low)

      pub goes_on : RestKept costs periods next n (rest_W r) y (y - base)
      goes_on = record { known = t.kept.known; later = λ z g. t.kept.later z g ∙ h.kept.later z (omega (arith, t.least.above)) }

-- as many periods as there are instances before are within L + J
pub gone_small : (l jitter period q : ℕ) → l ≤ ticks → jitter ≤ ticks → 1 ≤ period → q < ceil (l + jitter) period → q * period < 2 ^ 63
gone_small l jitter period q a b p h = omega (arith, ceil_room q (l + jitter) period p h)

-- a term of the code is a term of the rule
pub term_is : (r : Terms) (q wait : ℕ) → wait ≡ w r q → pos (r.own.J + r.last + wait) -ℤ pos (q * r.own.T) ≡ term r q
term_is r q wait e = let a : r.own.J + r.last + wait ≡ r.own.J + w r q + r.last = omega arith in ap (λ z. pos z -ℤ pos (q * r.own.T)) a

-- ---- the worst of the instances up to q, and its term
pub record WorstTo (f : ℕ → ℤ) (q : ℕ) (best : Reached) : Type 0 where
  pub term : best.term ≡ largest_to f q
  pub first : FirstLargest f q best.instance

pub worst_start : (f : ℕ → ℤ) (z : ℤ) → z ≡ f 0 → WorstTo f 0 (record { term = z; instance = 0 })
worst_start f z e = record { term = e ∙ sym (largest_start f); first = first_start f }

field : {A : Type 0} (p : Reached → A) (t : Bool) (a b : Reached) → p (cond t a b) ≡ cond t (p a) (p b)
field p true a b = refl
field p false a b = refl

-- the next one is named only where its term is larger
pub worst_more : (f : ℕ → ℤ) (q : ℕ) (best : Reached) (z : ℤ) → WorstTo f q best → z ≡ f (q + 1) → WorstTo f (q + 1) (larger_of best (record { term = z; instance = q + 1 }))
worst_more f q best z k e =
    let next : Reached = record { term = z; instance = q + 1 } in
    let test : lt_z best.term z ≡ lt_z (largest_to f q) (f (q + 1)) = ap₂ lt_z k.term e in
    record {
      term = field (λ r. r.term) (lt_z best.term z) next best ∙ ap₂ max_Z k.term e ∙ largest_more f q;
      first = subst (FirstLargest f (q + 1))
          (sym (field (λ r. r.instance) (lt_z best.term z) next best ∙ ap (λ t. cond t (q + 1) best.instance) test))
          (first_more f q best.instance k.first);
    }

-- ---- what is kept from instance to instance: the wait of q, the edges where it came to, and the worst so far
pub record WaitsTo {R K : ℕ} (r : Terms) (L : ℕ) (costs periods : List ℕ) (c : Climber R K) (n q base wait : ℕ) (best : Reached) : Type 0 where
  pub counts : q < Q r L
  pub based : base ≡ r.B + q * r.own.C''
  pub is : wait ≡ w r q
  pub kept : RestKept costs periods c.edges n (rest_W r) wait (wait - base)
  pub worst : WorstTo (term r) q best
  pub near : Near c n

-- ---- nobody else on the channel
pub alone_terms_lem : (t : Lent) → t.row.urgent ≡ 0 → t.row.sources ≡ 0 → terms_of t ≡ alone_terms t.row
unfolding rows
alone_terms_lem t e d = rw (e, d) refl
