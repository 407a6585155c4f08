use mathlib.Core.Path.{◌≡◌, ap, ◌∙◌}
use Prim.Native.Nat.{◌+◌, ◌*◌}
use borrow.Author.Rules.{rules}
use native.Mathlib.Omega.{arith}
use Rattle.analysis.specs.private.Fitting.{stairs_in}
use Rattle.analysis.specs.private.Stairs.{height, lot, LotEnds}
use Rattle.analysis.proofs.Climbing.{gone_none, gone_on, gone_edges, gone_moved, height_none, height_le, height_part, fewer_stairs, fewer_edges, near_lot, near_on}
use Rattle.analysis.proofs.stairs.Climber.climbed.Given.{Over}
use Rattle.analysis.proofs.stairs.Climber.climbed.Goals as goal
use Rattle.analysis.proofs.stairs.Climber.climbed.Goals.{After-min-to, In-loop-b}

-- the lot of this turn
starts : (g : Over) (c : In-loop-b g) → c.loop-b.from ≡ c.loop-b.b * lot
starts g c = omega (arith, c.loop-b.invariant.0, c.loop-b-test.true, c.div_ceil-b-end.ensures, c.stairs-n.ensures)

ends : (g : Over) (c : After-min-to g) → LotEnds c.loop-b.from (stairs_in c.args.fitting) c.min-to.result
ends g c =
    let s = starts g (goal.at.After-min-to g c).In-loop-b in
    record {
      after = omega (arith, s, c.min-to.ensures, c.loop-b-test.true, c.div_ceil-b-end.ensures);
      within = omega (arith, c.min-to.ensures, c.stairs-n.ensures);
      short = omega (arith, c.min-to.ensures);
      whole = λ h. omega (arith, c.min-to.ensures, c.stairs-n.ensures);
    }

-- what the stairs up to there rise by, from the edges at this turn, is no more than what all rise by from the first ones
room : (g : Over) (c : After-min-to g)
    → let a = c.args in
    let t = a.fitting.terms in
    let l = c.loop-b in
    l.total + height t.costs.now t.periods.now l.self.edges c.min-to.result a.x
    ≡ a.sum + height t.costs.now t.periods.now a.self.now.edges c.min-to.result a.x + height t.costs.now t.periods.now l.self.edges l.from a.x
room g c =
    let a = c.args in
    let t = a.fitting.terms in
    let l = c.loop-b in
    omega (arith, l.invariant.1, height_part t.costs.now t.periods.now a.self.now.edges l.self.edges a.x l.from c.min-to.result (omega (arith, (ends g c).after)) l.invariant.2)

pub loop-b-init : goal.loop-b-init
loop-b-init g c =
    let a = c.args in
    let t = a.fitting.terms in
    (omega arith, omega (arith, height_none t.costs.now t.periods.now a.self.now.edges a.x), gone_none _ _ _ _, c.requires.near)

pub climbed_lot-total-requires : goal.climbed_lot-total-requires
climbed_lot-total-requires g c =
    let l = c.loop-b in
    let a = c.args in
    let t = a.fitting.terms in
    let p = c.requires.due in
    let m = (goal.at.climbed_lot-total-requires g c).After-min-to in
    let s = starts g (goal.at.climbed_lot-total-requires g c).In-loop-b in
    let e = ends g m in (
      search rules,
      (
        record {
          up = omega (arith, e.after);
          stairs = fewer_stairs _ _ _ _ e.within p.stairs;
          known = fewer_edges _ _ _ e.within (gone_edges _ _ _ _ _ _ _ p.stairs p.known p.early l.invariant.2);
          early = p.early;
          room = omega (
            arith,
            room g m,
            p.room,
            height_none t.costs.now t.periods.now a.self.now.edges a.x,
            height_le t.costs.now t.periods.now a.self.now.edges a.x c.min-to.result (stairs_in a.fitting) e.within,
          );
        },
        (omega (arith, s, e.after, e.within, l.invariant.3.long), near_lot _ _ _ _ _ s e l.invariant.3),
      ),
    )

pub loop-b-preserved : goal.loop-b-preserved
loop-b-preserved g c =
    let l = c.loop-b in
    let m = (goal.at.loop-b-preserved g c).After-min-to in
    let s = starts g (goal.at.loop-b-preserved g c).In-loop-b in
    let e = ends g m in
    let t = c.climbed_lot-total.ensures in (
      omega (arith, s, c.min-to.ensures),
      omega (arith, room g m, t.risen.gained),
      gone_on _ _ _ _ _ _ _ (omega (arith, e.after)) l.invariant.2 t.risen.gone,
      near_on _ _ _ _ _ _ _ _ s e t.risen.gone t.new_nearest l.invariant.3,
    )

-- after the last lot all stairs have gone on
all : (g : Over) (c : goal.After-loop-b g) → c.loop-b.from ≡ stairs_in c.args.fitting
all g c = omega (arith, c.loop-b.invariant.0, c.loop-b-test.false, c.loop-b.auto.b-end, c.div_ceil-b-end.ensures, c.stairs-n.ensures)

pub returns-clause-value : goal.returns-clause-value
returns-clause-value g c =
    let a = c.args in
    let t = a.fitting.terms in
    c.loop-b.invariant.1 ∙ ap (λ k. a.sum + height t.costs.now t.periods.now a.self.now.edges k a.x) (all g c)

pub returns-clause-moved : goal.returns-clause-moved
returns-clause-moved g c =
    let p = c.requires.due in
    let e = all g c in
    gone_moved _ _ _ _ _ _ p.stairs p.known p.early (rw e at c.loop-b.invariant.2)
