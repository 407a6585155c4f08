use borrow.Author.Rules.{rules}
use mathlib.Core.Path.{◌≡◌, sym, ap, ◌∙◌, subst}
use Prim.Native.Nat.{ℕ, ◌+◌, ◌-◌, ◌*◌, ◌≤◌, ◌<◌}
use native.Mathlib.Nat.{zero-mul, add_assoc}
use native.Mathlib.Omega.{arith}
use lib.IntN.{pos, nat_abs, ◌-ℤ◌}
use mir.Syntax.{w64}
use mir.Val.{to_z, of_z, SFits}
use mir.Facts.{to_z-of_z, Fits-nat_abs}
use Rattle.names.specs.Limits.{ticks}
use Rattle.std.specs.Prelude.{Some}
use Rattle.laws.specs.Signed.{largest_to, FirstLargest}
use Rattle.laws.proofs.Signed.{finds_first_largest}
use Rattle.bound.specs.declared.Answer.{Answer}
use Rattle.bound.specs.Bound as rule
use Rattle.bound.specs.Claims.{Sound}
use Rattle.bound.proofs.Sides.{busy_is_least}
use Rattle.bound.proofs.Largest.{largest_pos}
use Rattle.bound.proofs.Answers.{answer-bound}
use Rattle.terms.specs.Gathered.{lent_terms}
use Rattle.terms.proofs.Fit.{fit_sound}
use Rattle.analysis.specs.declared.fitting.Fitting.{Fitting}
use Rattle.analysis.specs.private.Fitting.{terms_in, stairs_in}
use Rattle.analysis.specs.private.Chains.{rest_W, MakesUp, larger_of}
use Rattle.analysis.proofs.Starts.{laid}
use Rattle.analysis.proofs.Waits.{WaitSearch, WaitsTo, search_first, search_next, above_base, w_small, bounded, is_w, goes_on, gone_small, term_is, WorstTo, worst_start, worst_more}
use Rattle.analysis.proofs.stairs.Climber.worst.Given.{Over}
use Rattle.analysis.proofs.stairs.Climber.worst.Goals as goal
use Rattle.analysis.proofs.stairs.Climber.worst.Goals.{After-start, After-loop-q, At-loop-q, In-loop-q}

-- the theory's conditions hold of what is lent
sound : (f : Fitting) → Sound (terms_in f)
sound f = fit_sound _ _ _ f.fit.row

-- the busy period is within the limit
within : (f : Fitting) (l : ℕ) → rule.busy (terms_in f) ≡ Some l → l ≤ ticks
within f l e = ((busy_is_least (terms_in f) l).0 e).0

-- for w a release V after a cycle's start still counts, and the noise's window is C'' longer
started : (g : Over) (c : After-start g)
    → let f = c.args.fitting in
    MakesUp f.terms.costs.now f.terms.periods.now c.start.new.self.edges (stairs_in f) (rest_W (terms_in f))
started g c =
    let f = c.args.fitting in
    let r = terms_in f in
    laid (lent_terms f.terms) f.fit (r.late + 1) r.own.C'' (omega (arith, f.fit.row.late, f.fit.row.own.cost)) f.fit.row.own.cost _ c.start.ensures.started (rest_W r) (λ x. ap (λ z. rule.demand r.urgent z + rule.E r (x + r.own.C'')) (sym (add_assoc x r.late 1)))

pub instances-count-requires-clause-l_le_ticks : goal.instances-count-requires-clause-l_le_ticks
instances-count-requires-clause-l_le_ticks g c = within c.args.fitting c.args.l c.requires.busy

-- the search for w(0)
first : (g : Over) (c : After-start g)
    → let f = c.args.fitting in
    WaitSearch (terms_in f) c.args.l f.terms.costs.now f.terms.periods.now c.start.new.self.edges (stairs_in f) 0 f.terms.row.blocking 0 0
first g c = search_first (sound c.args.fitting) c.requires.busy (started g c)

pub settled-wait-requires : goal.settled-wait-requires
settled-wait-requires g c =
    let lay = started g (goal.at.settled-wait-requires g c).After-start in (
      search rules,
      (
        record { stairs = lay.stairs; known = lay.known; near = c.start.ensures.near },
        bounded (sound c.args.fitting) c.requires.busy (first g (goal.at.settled-wait-requires g c).After-start),
      ),
    )

pub loop-q-init : goal.loop-q-init
loop-q-init g c =
    let row = c.args.fitting.terms.row in
    let r = terms_in c.args.fitting in
    let s = sound c.args.fitting in
    let b = c.requires.busy in
    let f = first g (goal.at.loop-q-init g c).After-start in
    let k = c.settled-wait.ensures.settled in
    let w = is_w s b f k in
    let u : SFits w64 c.term-first.result = record { sfits = c.term-first.type_inv } in
    record {
      counts = f.counts;
      based = f.based;
      is = w;
      kept = goes_on s b f k;
      worst = worst_start (rule.term r) _ (to_z-of_z u ∙ c.term-first.ensures ∙ ap (λ z. pos (row.jitter + row.last + c.settled-wait.result) -ℤ pos z) (sym (zero-mul row.period)) ∙ term_is r 0 _ w);
      near = c.settled-wait.ensures.near;
    }

-- what is known of the wait of the instance before q
low : (g : Over) (c : At-loop-q g) → c.loop-q.base ≤ c.loop-q.wait
low g c =
    let i = c.loop-q.invariant in
    omega (arith, above_base (sound c.args.fitting) c.requires.busy (c.loop-q.q - 1) i.counts, i.based, i.is)

high : (g : Over) (c : At-loop-q g) → c.loop-q.wait + c.args.fitting.terms.row.cost ≤ ticks
high g c =
    let i = c.loop-q.invariant in
    omega (arith, w_small (sound c.args.fitting) c.requires.busy (c.loop-q.q - 1) i.counts, i.is)

pub overflow_sub-sum : goal.overflow_sub-sum
overflow_sub-sum g c = low g (goal.at.overflow_sub-sum g c).At-loop-q

pub overflow_add-base : goal.overflow_add-base
overflow_add-base g c = omega (arith, low g (goal.at.overflow_add-base g c).At-loop-q, high g (goal.at.overflow_add-base g c).At-loop-q)

pub overflow_add-wait : goal.overflow_add-wait
overflow_add-wait g c = omega (arith, high g (goal.at.overflow_add-wait g c).At-loop-q)

-- q is an instance too, and comes next
comes : (g : Over) (c : In-loop-q g) → c.loop-q.q ≡ c.loop-q.q - 1 + 1
comes g c = omega (arith, c.loop-q.auto.q)

next : (g : Over) (c : In-loop-q g) → c.loop-q.q - 1 + 1 < rule.Q (terms_in c.args.fitting) c.args.l
next g c = omega (arith, comes g c, c.instances-count.ensures, c.loop-q-test.true)

-- the search for its wait
again : (g : Over) (c : In-loop-q g)
    → let f = c.args.fitting in
    let l = c.loop-q in
    WaitSearch (terms_in f) c.args.l f.terms.costs.now f.terms.periods.now l.self.edges (stairs_in f) (l.q - 1 + 1) (l.base + f.terms.row.cost) (l.wait - l.base) (l.wait + f.terms.row.cost)
again g c =
    let i = c.loop-q.invariant in
    search_next (sound c.args.fitting) c.requires.busy (c.loop-q.q - 1) (next g c) i.based i.is i.kept

pub settled-wait-requires-in-loop-q : goal.settled-wait-requires-in-loop-q
settled-wait-requires-in-loop-q g c =
    let i = c.loop-q.invariant in (
      search rules,
      (
        record { stairs = (started g (goal.at.settled-wait-requires-in-loop-q g c).After-start).stairs; known = i.kept.known; near = i.near },
        bounded (sound c.args.fitting) c.requires.busy (again g (goal.at.settled-wait-requires-in-loop-q g c).In-loop-q),
      ),
    )

pub term-next-requires-clause-b_bound : goal.term-next-requires-clause-b_bound
term-next-requires-clause-b_bound g c =
    let f = c.args.fitting in
    gone_small c.args.l _ _ _ (within f c.args.l c.requires.busy) f.fit.row.own.jitter f.fit.row.own.some (omega (arith, c.instances-count.ensures, c.loop-q-test.true))

pub loop-q-preserved : goal.loop-q-preserved
loop-q-preserved g c =
    let a = c.args in
    let row = a.fitting.terms.row in
    let r = terms_in a.fitting in
    let s = sound a.fitting in
    let b = c.requires.busy in
    let l = c.loop-q in
    let i = l.invariant in
    let v = c.settled-wait-in-loop-q in
    let k = v.ensures.settled in
    let f = again g (goal.at.loop-q-preserved g c).In-loop-q in
    let up = comes g (goal.at.loop-q-preserved g c).In-loop-q in
    let w = is_w s b f k in
    let u : SFits w64 c.term-next.result = record { sfits = c.term-next.type_inv } in
    let is = to_z-of_z u ∙ c.term-next.ensures ∙ ap (λ m. pos (row.jitter + row.last + v.result) -ℤ pos (m * row.period)) up ∙ term_is r (l.q - 1 + 1) _ w in
    let more = worst_more (rule.term r) (l.q - 1) l.best _ i.worst is in
    let done : WaitsTo r a.l a.fitting.terms.costs.now a.fitting.terms.periods.now v.new.self (stairs_in a.fitting) (l.q - 1 + 1) (l.base + row.cost) v.result c.larger-best.result =
    record {
      counts = next g (goal.at.loop-q-preserved g c).In-loop-q;
      based = f.based;
      is = w;
      kept = goes_on s b f k;
      worst = subst (WorstTo (rule.term r) (l.q - 1 + 1)) (ap (λ (m : ℕ). larger_of l.best (record { term = to_z w64 (of_z w64 c.term-next.result); instance = m })) (sym up) ∙ sym c.larger-best.ensures) more;
      near = v.ensures.near;
    } in
    let e : l.q - 1 + 1 ≡ l.q + 1 - 1 = omega (arith, up) in
    subst (λ (m : ℕ). WaitsTo r a.l a.fitting.terms.costs.now a.fitting.terms.periods.now v.new.self (stairs_in a.fitting) m (l.base + row.cost) v.result c.larger-best.result) e done

pub overflow_cast-best : goal.overflow_cast-best
overflow_cast-best g c =
    let u : SFits w64 c.loop-q.best.term = search rules in
    (rw (to_z-of_z u, c.loop-q.invariant.worst.term) (largest_pos _ (sound c.args.fitting) _).0, rw (to_z-of_z u) (Fits-nat_abs tt u))

-- the last instance has had its turn
last : (g : Over) (c : After-loop-q g) → c.loop-q.q - 1 ≡ rule.Q (terms_in c.args.fitting) c.args.l - 1
last g c =
    omega (arith, c.loop-q.invariant.counts, c.loop-q-test.false, c.loop-q.auto.q, c.loop-q.auto.q-end, c.instances-count.ensures)

pub returns : goal.returns
unfolding rule.bound rule.worst
returns g c =
    let a = c.args in
    let r = terms_in a.fitting in
    let l = c.loop-q in
    let e = last g (goal.at.returns g c).After-loop-q in
    let u : SFits w64 l.best.term = search rules in
    let x = nat_abs (to_z w64 (of_z w64 l.best.term)) in
    let told : ◌≡◌ {A = Answer} c.judged.result (record { verdict = rule.verdict x a.deadline; bound = x; instance = l.best.instance }) = c.judged.ensures in
    told
    ∙ answer-bound r a.deadline a.l x l.best.instance c.requires.busy
    (ap nat_abs (to_z-of_z u ∙ l.invariant.worst.term ∙ ap (largest_to (rule.term r)) e))
    (sym ((finds_first_largest (rule.term r) _ l.best.instance).1 (subst (λ n. FirstLargest (rule.term r) n l.best.instance) e l.invariant.worst.first)))
