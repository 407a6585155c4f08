-- Each part is the rules' of the same place: what stands before it is hp(i), and what stands behind it lp(i).
use native.Mathlib.Omega.{arith}
use Prim.Native.Nat.{◌<◌}
use Rattle.names.specs.Limits.{streams}
use Rattle.laws.proofs.Ranks.{rank_below}
use Rattle.answers.specs.private.Gather.{urgency}
use Rattle.answers.proofs.Terms.{costs_within, row_of_lem}
use Rattle.answers.proofs.own.gathered.Goals as goal
use Rattle.answers.proofs.own.gathered.Goals.{Start}

few : (s : Start) → s.args.row.0 < streams
few s = omega (arith, s.args.fine.within.few, s.requires.row_lt_n)

-- its place is one of the n
within : (s : Start) → s.args.place < s.args.fine.n
within s =
    let k = s.args.row.0 in
    omega (arith, s.requires.place_value, rank_below (urgency s.args.fine.words.now) s.args.fine.n k s.requires.row_lt_n)

pub overflow_add-here : goal.overflow_add-here
overflow_add-here c =
    omega (arith, within (goal.at.overflow_add-here c).Start, c.args.fine.within.few, c.args.fine.within.quiet)

pub overflow_add-here-2 : goal.overflow_add-here-2
overflow_add-here-2 c =
    omega (arith, within (goal.at.overflow_add-here-2 c).Start, c.args.fine.within.few, c.args.fine.within.quiet)

pub overflow_add-here-3 : goal.overflow_add-here-3
overflow_add-here-3 c =
    omega (arith, within (goal.at.overflow_add-here-3 c).Start, c.args.fine.within.few, c.args.fine.within.quiet)

pub offset_bounds-costs-here : goal.offset_bounds-costs-here
offset_bounds-costs-here c =
    omega (arith, within (goal.at.offset_bounds-costs-here c).Start, c.args.fine.within.few, c.args.fine.within.quiet)

pub bounds-costs-here : goal.bounds-costs-here
bounds-costs-here c = omega (arith, within (goal.at.bounds-costs-here c).Start, c.requires.ordered.long)

pub dearest-hit-requires-clause-to_in_bounds : goal.dearest-hit-requires-clause-to_in_bounds
dearest-hit-requires-clause-to_in_bounds c =
    omega (arith, within (goal.at.dearest-hit-requires-clause-to_in_bounds c).Start, c.requires.ordered.long)

pub dearest-hit-requires-clause-by_index : goal.dearest-hit-requires-clause-by_index
dearest-hit-requires-clause-by_index c =
    λ k h l.
    costs_within _ _ _ _ c.args.fine.within c.args.fine.overhead _ c.requires.ordered k (omega (arith, h))
    (omega (arith, l, within (goal.at.dearest-hit-requires-clause-by_index c).Start))

pub dearest-behind-requires-clause-from_le_to : goal.dearest-behind-requires-clause-from_le_to
dearest-behind-requires-clause-from_le_to c = omega (arith, within (goal.at.dearest-behind-requires-clause-from_le_to c).Start)

pub dearest-behind-requires-clause-by_index : goal.dearest-behind-requires-clause-by_index
dearest-behind-requires-clause-by_index c =
    λ k h l. costs_within _ _ _ _ c.args.fine.within c.args.fine.overhead _ c.requires.ordered k (omega (arith, h)) l

pub returns : goal.returns
returns c =
    let t = c.word_of-period.ensures in
    let j = c.word_of-jitter.ensures in
    row_of_lem _ c.args.fine.n c.args.fine.m c.args.fine.over c.args.fine.within c.args.fine.overhead c.args.row.0 c.requires.row_lt_n _ c.requires.ordered c.args.place
    _ _ _ _ _ _ c.requires.place_value c.dearest-hit.ensures c.dearest-behind.ensures c.blocking.ensures (t.value, t.upper_bound) (j.value, j.upper_bound)
    c.whole_of-last.ensures
