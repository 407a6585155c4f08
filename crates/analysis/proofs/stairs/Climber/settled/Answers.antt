use mathlib.Core.Path.{◌≡◌, sym, ◌∙◌, subst}
use Prim.Native.Nat.{◌+◌, ◌-◌, ◌≤◌}
use borrow.Author.Rules.{rules}
use native.Mathlib.Omega.{arith}
use Rattle.laws.proofs.Chain.{climb_least, climb_below, stays}
use Rattle.analysis.specs.private.Fitting.{stairs_in}
use Rattle.analysis.specs.private.Stairs.{height, start}
use Rattle.analysis.specs.private.Chains.{side, RestKept}
use Rattle.analysis.proofs.Climbing.{side_mono}
use Rattle.analysis.proofs.Chains.{kept_now, kept_on}
use Rattle.analysis.proofs.stairs.Climber.settled.Given.{Over}
use Rattle.analysis.proofs.stairs.Climber.settled.Goals as goal
use Rattle.analysis.proofs.stairs.Climber.settled.Goals.{After-climbed-total, At-loop-x}

-- the chain, and the next of it, stay at or below where the side stops rising
below : (g : Over) (c : At-loop-x g) → c.loop-x.x ≤ c.requires.bounded.top
below g c =
    let p = c.requires.bounded in
    climb_below _ (side_mono _ _ _ _ _ _) _ _ _ p.rises c.loop-x.invariant.0 p.above p.stops

next : (g : Over) (c : At-loop-x g)
    → let a = c.args in
    a.base + (c.loop-x.total + height a.fitting.terms.costs.now a.fitting.terms.periods.now c.loop-x.self.edges (stairs_in a.fitting) (c.loop-x.x + start)) ≤ c.requires.bounded.top
next g c =
    let a = c.args in
    omega (arith, kept_now _ _ _ _ _ _ _ c.loop-x.invariant.1, stays _ (side_mono a.fitting.terms.costs.now a.fitting.terms.periods.now a.self.now.edges (stairs_in a.fitting) a.base a.sum) c.loop-x.x _ (below g c) c.requires.bounded.stops)

-- the evaluation is the side at x, and the edges have come there
evaluated : (g : Over) (c : After-climbed-total g)
    → let a = c.args in
    a.base + c.climbed-total.result ≡ side a.fitting.terms.costs.now a.fitting.terms.periods.now a.self.now.edges (stairs_in a.fitting) a.base a.sum c.loop-x.x
evaluated g c = omega (arith, c.climbed-total.ensures.value, kept_now _ _ _ _ _ _ _ c.loop-x.invariant.1)

came : (g : Over) (c : After-climbed-total g)
    → let a = c.args in
    RestKept a.fitting.terms.costs.now a.fitting.terms.periods.now c.climbed-total.new.self.edges (stairs_in a.fitting) (λ y. a.sum + height a.fitting.terms.costs.now a.fitting.terms.periods.now a.self.now.edges (stairs_in a.fitting) (y + start)) c.loop-x.x c.climbed-total.result
came g c = kept_on _ _ _ _ _ _ _ _ _ c.climbed-total.ensures.value c.climbed-total.ensures.moved c.loop-x.invariant.1

pub overflow_add-x : goal.overflow_add-x
overflow_add-x g c = omega (arith, below g (goal.at.overflow_add-x g c).At-loop-x, c.requires.bounded.small)

pub climbed-total-requires : goal.climbed-total-requires
climbed-total-requires g c =
    let l = (goal.at.climbed-total-requires g c).At-loop-x in
    let p = c.requires in (
      search rules,
      (
        record {
          up = omega arith;
          stairs = p.stand.stairs;
          known = c.loop-x.invariant.1.known;
          early = omega (arith, below g l, p.bounded.small);
          room = omega (arith, next g l, p.bounded.small);
        },
        c.loop-x.invariant.2,
      ),
    )

pub overflow_add-y : goal.overflow_add-y
overflow_add-y g c = omega (arith, next g (goal.at.overflow_add-y g c).At-loop-x, c.climbed-total.ensures.value, c.requires.bounded.small)

pub returns-then-y-x-clause-settled : goal.returns-then-y-x-clause-settled
returns-then-y-x-clause-settled g c =
    let d = (goal.at.returns-then-y-x-clause-settled g c).After-climbed-total in
    let e : c.climbed-total.result ≡ c.loop-x.x - c.args.base = omega (arith, c.if-y-x.true) in
    record {
      least = climb_least _ _ _ (sym (evaluated g d) ∙ c.if-y-x.true) c.loop-x.invariant.0;
      small = omega (arith, below g (goal.at.returns-then-y-x-clause-settled g c).At-loop-x, c.requires.bounded.small);
      kept = subst (RestKept _ _ _ _ _ _) e (came g d);
    }

pub loop-x-smaller : goal.loop-x-smaller
loop-x-smaller g c =
    omega (
      arith,
      next g (goal.at.loop-x-smaller g c).At-loop-x,
      c.climbed-total.ensures.value,
      c.requires.bounded.small,
      c.loop-x.invariant.0.rises,
      evaluated g (goal.at.loop-x-smaller g c).After-climbed-total,
      c.if-y-x.false,
    )
