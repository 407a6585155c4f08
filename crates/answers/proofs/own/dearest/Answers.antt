use native.Mathlib.Omega.{arith}
use native.Mathlib.Nat.{add-zero, add_assoc}
use mathlib.Core.Path.{◌≡◌, sym, ap, ap₂, ◌∙◌}
use Prim.Native.Nat.{◌+◌, max}
use Rattle.answers.specs.private.Gather.{largest_in}
use Rattle.answers.proofs.Gather.{largest_none, largest_next, part_long, part_at}
use Rattle.answers.proofs.own.dearest.Goals as goal

pub loop-cost-init : goal.loop-cost-init
loop-cost-init c =
    let a = c.args in
    (sym (ap (largest_in a.costs.now a.from) (add-zero a.from) ∙ largest_none a.costs.now a.from), omega arith)

pub loop-cost-preserved : goal.loop-cost-preserved
loop-cost-preserved c =
    let a = c.args in
    let l = c.loop-cost in
    let i = l.cost-index in
    let costs = a.costs.now in
    let long = part_long a.from a.to costs c.requires.to_in_bounds in
    let here = part_at a.from a.to costs i (omega (arith, long, c.loop-cost-test.true)) in
    let small = c.requires.by_index (a.from + i) (omega arith) (omega (arith, long, c.loop-cost-test.true)) in (
      c.max-most.ensures
          ∙ ap₂ max l.invariant.0 here
          ∙ largest_next costs a.from (a.from + i) (omega arith)
          ∙ ap (largest_in costs a.from) (add_assoc a.from i 1),
      omega (arith, c.max-most.ensures, l.invariant.1, here, small),
    )

pub returns : goal.returns
returns c =
    let a = c.args in
    let l = c.loop-cost in
    let e : a.from + l.cost-index ≡ a.to = omega (arith, part_long a.from a.to a.costs.now c.requires.to_in_bounds, c.requires.from_le_to, c.loop-cost-test.false) in
    c.from.ensures ∙ l.invariant.0 ∙ ap (largest_in a.costs.now a.from) e
