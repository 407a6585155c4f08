use mathlib.Core.Path.{◌≡◌, ap}
use Prim.Native.Nat.{◌+◌, ◌*◌, ◌^◌, ◌<◌}
use native.Mathlib.Omega.{arith}
use lib.ListN.{length, get_or}
use Rattle.analysis.specs.private.Stairs.{height, onward}
use Rattle.analysis.proofs.Climbing.{gone_more, gone_height, height_le, nearest_more}
use Rattle.analysis.proofs.stairs.lot_at.Goals as goal
use Rattle.analysis.proofs.stairs.lot_at.Goals.{After-rises-d, In-loop-k}

-- stair k is lent, and there is room for it
within : (c : In-loop-k)
    → let l = c.loop-k in
    let a = c.args in
    (l.k < length l.edges) × (length l.edges ≡ length a.edges.now) × (l.k < length a.costs.now) × (l.k < length a.periods.now)
within c =
    let l = c.loop-k in
    let p = c.requires in
    let t = c.loop-k-test.true in
    (omega (arith, l.invariant.1.long, p.known.long, t), l.invariant.1.long, omega (arith, p.stairs.costs_long, t), omega (arith, p.stairs.periods_long, t))

-- where the edge goes on to
on : (c : After-rises-d)
    → let l = c.loop-k in
    let p = get_or c.args.periods.now l.k 0 in
    get_or l.edges l.k 0 + c.rises-d.result * p ≡ onward (get_or l.edges l.k 0) p c.args.x
on c =
    let l = c.loop-k in
    ap (λ d. get_or l.edges l.k 0 + d * get_or c.args.periods.now l.k 0) c.rises-d.ensures

-- what is gained so far is part of the whole
gained : (c : After-rises-d)
    → let l = c.loop-k in
    let a = c.args in
    height a.costs.now a.periods.now a.edges.now (l.k + 1) a.x
    ≡ height a.costs.now a.periods.now a.edges.now l.k a.x + c.rises-d.result * get_or a.costs.now l.k 0
gained c =
    let l = c.loop-k in
    let a = c.args in
    gone_height a.costs.now a.periods.now a.edges.now l.edges a.from a.x l.k c.rises-d.result c.rises-d.ensures l.invariant.1

rest : (c : After-rises-d)
    → let l = c.loop-k in
    l.total + c.rises-d.result * get_or c.args.costs.now l.k 0 < 2 ^ 64
rest c =
    let a = c.args in
    let l = c.loop-k in
    omega (arith, gained c, l.invariant.0, height_le a.costs.now a.periods.now a.edges.now a.x (l.k + 1) a.to (omega (arith, c.loop-k-test.true)), c.requires.room)

pub overflow_mul-total : goal.overflow_mul-total
overflow_mul-total c = omega (arith, rest (goal.at.overflow_mul-total c).After-rises-d)

pub overflow_add-total : goal.overflow_add-total
overflow_add-total c = omega (arith, rest (goal.at.overflow_add-total c).After-rises-d)

pub loop-k-preserved : goal.loop-k-preserved
loop-k-preserved c =
    let l = c.loop-k in
    let w = within (goal.at.loop-k-preserved c).In-loop-k in
    let r = (goal.at.loop-k-preserved c).After-rises-d in (
      omega (arith, gained r, l.invariant.0),
      gone_more _ _ _ _ _ _ _ l.auto.k (omega (arith, w.0, w.1)) (on r) l.invariant.1,
      nearest_more l.edges _ l.k _ _ _ w.0 c.min-nearest.ensures l.invariant.2,
    )
