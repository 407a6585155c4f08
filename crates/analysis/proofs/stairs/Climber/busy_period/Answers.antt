use mathlib.Core.Path.{◌≡◌, ap, ◌∙◌}
use Prim.Native.Nat.{◌+◌, ◌^◌, ◌<◌}
use native.Mathlib.Nat.{add-zero}
use borrow.Author.Rules.{rules}
use native.Mathlib.Omega.{arith}
use Rattle.bound.specs.Bound.{demand, E, side_L}
use Rattle.terms.specs.Gathered.{Lent, lent_terms, terms_of}
use Rattle.analysis.specs.private.Chains.{own_l, rest_L, MakesUp, RestKept}
use Rattle.analysis.proofs.Chains.{kept_start, kept_now, kept_on, kept_up, busy_start, busy_rises, busy_found, busy_more, busy_beyond}
use Rattle.terms.proofs.Fit.{fit_sound, side_L_fits}
use Rattle.analysis.proofs.Sides.{side_L_parts}
use Rattle.analysis.proofs.Starts.{laid}
use Rattle.analysis.proofs.stairs.Climber.busy_period.Given.{Over}
use Rattle.analysis.proofs.stairs.Climber.busy_period.Goals as goal
use Rattle.analysis.proofs.stairs.Climber.busy_period.Goals.{After-climbed-rest, After-own_at-own, After-start, In-loop-x}

-- for L no one is late, and the noise's window is as long as L
started : (g : Over) (c : After-start g)
    → let a = c.args in
    let t : Lent = lent_terms a.fitting.terms in
    MakesUp t.costs t.periods c.start.new.self.edges (t.row.sources + t.row.urgent) (rest_L (terms_of t))
started g c =
    let a = c.args in
    let t : Lent = lent_terms a.fitting.terms in
    let r = terms_of t in
    laid t c.args.fitting.fit 0 0 (omega arith) (omega arith) _ c.start.ensures.started (rest_L r) (λ x. ap (λ z. demand r.urgent z + E r z) (add-zero x))

-- the right side at x fits, and with it each of its parts
room : (g : Over) (c : In-loop-x g)
    → let a = c.args in
    let t : Lent = lent_terms a.fitting.terms in
    own_l t.row c.loop-x.x + rest_L (terms_of t) c.loop-x.x < 2 ^ 64
room g c =
    let a = c.args in
    let t : Lent = lent_terms a.fitting.terms in
    let x = c.loop-x.x in
    omega (arith, side_L_parts t x, side_L_fits t c.args.fitting.fit x c.loop-x-test.true)

-- the rest at x, and the edges after it
theirs : (g : Over) (c : After-climbed-rest g)
    → let a = c.args in
    c.climbed-rest.result ≡ rest_L (terms_of (lent_terms a.fitting.terms)) c.loop-x.x
theirs g c = c.climbed-rest.ensures.value ∙ kept_now _ _ _ _ _ _ _ c.loop-x.invariant.1

came : (g : Over) (c : After-climbed-rest g)
    → let a = c.args in
    let t : Lent = lent_terms a.fitting.terms in
    RestKept t.costs t.periods c.climbed-rest.new.self.edges (t.row.sources + t.row.urgent) (rest_L (terms_of t)) c.loop-x.x c.climbed-rest.result
came g c = kept_on _ _ _ _ _ _ _ _ _ c.climbed-rest.ensures.value c.climbed-rest.ensures.moved c.loop-x.invariant.1

-- the evaluation is L's right side at x
evaluated : (g : Over) (c : After-own_at-own g)
    → let a = c.args in
    c.own_at-own.result.sum + c.climbed-rest.result ≡ side_L (terms_of (lent_terms a.fitting.terms)) c.loop-x.x
evaluated g c =
    let a = c.args in
    omega (arith, c.own_at-own.ensures.sum_value, c.climbed-rest.ensures.value ∙ kept_now _ _ _ _ _ _ _ c.loop-x.invariant.1, side_L_parts (lent_terms a.fitting.terms) c.loop-x.x)

pub loop-x-init : goal.loop-x-init
loop-x-init g c = (
  busy_start (fit_sound _ _ _ c.args.fitting.fit.row) c.own_start-own.ensures,
  kept_start _ _ _ _ _ 1 (started g (goal.at.loop-x-init g c).After-start),
  c.start.ensures.near,
)

pub climbed-rest-requires : goal.climbed-rest-requires
climbed-rest-requires g c =
    let k = c.loop-x.invariant.1 in (
      search rules,
      (
        record {
          up = omega arith;
          stairs = (started g (goal.at.climbed-rest-requires g c).After-start).stairs;
          known = k.known;
          early = omega (arith, c.loop-x-test.true);
          room = omega (arith, room g (goal.at.climbed-rest-requires g c).In-loop-x, kept_now _ _ _ _ _ _ _ k);
        },
        c.loop-x.invariant.2,
      ),
    )

pub overflow_add-y : goal.overflow_add-y
overflow_add-y g c =
    omega (arith, room g (goal.at.overflow_add-y g c).In-loop-x, c.own_at-own.ensures.sum_value, theirs g (goal.at.overflow_add-y g c).After-climbed-rest)

pub returns-then-y-x : goal.returns-then-y-x
returns-then-y-x g c =
    busy_found c.loop-x.invariant.0 (evaluated g (goal.at.returns-then-y-x g c).After-own_at-own) c.loop-x-test.true c.if-y-x.true

pub loop-x-smaller : goal.loop-x-smaller
loop-x-smaller g c =
    omega (arith, busy_rises c.loop-x.invariant.0 (evaluated g (goal.at.loop-x-smaller g c).After-own_at-own), c.loop-x-test.true, c.if-y-x.false)

pub loop-x-preserved : goal.loop-x-preserved
loop-x-preserved g c =
    let b = c.loop-x.invariant.0 in
    let e = evaluated g (goal.at.loop-x-preserved g c).After-own_at-own in (
      busy_more b e c.loop-x-test.true c.if-y-x.false c.own_at-own.ensures.own_kept_2,
      kept_up _ _ _ _ _ _ _ _ (busy_rises b e) (came g (goal.at.loop-x-preserved g c).After-climbed-rest),
      c.climbed-rest.ensures.near_2,
    )

pub returns : goal.returns
returns g c = busy_beyond c.loop-x.invariant.0 (omega arith)
