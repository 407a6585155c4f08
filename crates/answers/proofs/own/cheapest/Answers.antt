use native.Mathlib.Omega.{arith}
use native.Mathlib.Nat.{add-zero, add_assoc}
use Prim.Native.Nat.{◌+◌, ◌≤◌}
use Rattle.answers.proofs.Cheapest.{far_none, far_more, far_all}
use Rattle.answers.proofs.Gather.{part_long, part_at}
use Rattle.answers.proofs.own.cheapest.Goals as goal

pub loop-cost-init : goal.loop-cost-init
loop-cost-init c =
    let a = c.args in
    rw (add-zero a.from) (far_none a.costs.now a.from a.to c.requires.from_le_to)

pub loop-cost-preserved : goal.loop-cost-preserved
loop-cost-preserved c =
    let a = c.args in
    let l = c.loop-cost in
    let i = l.cost-index in
    let long = part_long a.from a.to a.costs.now (omega (arith, c.requires.to_in_bounds)) in
    let h : a.from + i + 1 ≤ a.to = omega (arith, long, c.loop-cost-test.true) in
    let here = part_at a.from a.to a.costs.now i (omega (arith, h)) in
    rw (← (add_assoc a.from i 1)) (far_more (omega (arith, h)) (omega (arith, here)) l.invariant)

pub returns : goal.returns
returns c =
    let a = c.args in
    far_all (omega (arith, part_long a.from a.to a.costs.now (omega (arith, c.requires.to_in_bounds)), c.loop-cost-test.false)) c.loop-cost.invariant
