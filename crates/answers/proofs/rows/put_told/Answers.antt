use native.Mathlib.Omega.{arith}
use mathlib.Core.Path.{◌≡◌, refl, sym, ap, ◌∙◌, subst}
use native.Mathlib.Nat.{mul-zero}
use mathlib.Core.List.{◌++◌, flat_map}
use Prim.Native.Nat.{◌+◌, ◌*◌, ◌<◌}
use lib.ListN.{get_or, take, drop, length-take}
use Rattle.std.proofs.lemmas.List.{get_or-take}
use Rattle.laws.specs.Lists.{rows}
use Rattle.laws.specs.Ranks.{rank}
use Rattle.laws.proofs.Ranks.{rank_below}
use Rattle.carried.specs.Carried.{entered_in}
use Rattle.row_words.proofs.RowWords.{put_next}
use Rattle.answers.specs.Answers.{per_row, words_of}
use Rattle.answers.specs.private.Gather.{row_stream, urgency, Cheapest, RowTold}
use Rattle.answers.specs.private.FinePlan.{plan_held}
use Rattle.answers.proofs.Cheapest.{some_words, row_long, rows_fit, cheapest_some, x_within, row_told}
use Rattle.answers.proofs.rows.put_told.Goals as goal
use Rattle.answers.proofs.rows.put_told.Goals.{In-loop-k}
use Rattle.answers.proofs.rows.put_told.Given.{Over}

row : (g : Over) (d : In-loop-k g) → d.loop-k.k < d.args.fine.n
row g d = omega (arith, d.loop-k-test.true, length-take d.args.fine.n d.args.places.now)

-- the row's place is within the costs
seated : (g : Over) (d : In-loop-k g) → get_or (take d.args.fine.n d.args.places.now) d.loop-k.k 0 ≡ rank (urgency d.args.fine.words.now) d.args.fine.n d.loop-k.k
seated g d = get_or-take d.args.fine.n d.args.places.now d.loop-k.k 0 (row g d) ∙ d.requires.seats.is _ (row g d)

within : (g : Over) (d : In-loop-k g) → get_or (take d.args.fine.n d.args.places.now) d.loop-k.k 0 < d.args.fine.n
within g d = omega (arith, seated g d, rank_below (urgency d.args.fine.words.now) d.args.fine.n d.loop-k.k (row g d))

pub overflow_add-fine : goal.overflow_add-fine
overflow_add-fine g c = let f = c.args.fine.within in omega (arith, within g (goal.at.overflow_add-fine g c).In-loop-k, f.few, f.quiet)

pub put_row-requires-clause-to_in_bounds : goal.put_row-requires-clause-to_in_bounds
put_row-requires-clause-to_in_bounds g c =
    omega (arith, within g (goal.at.put_row-requires-clause-to_in_bounds g c).In-loop-k, c.searched_row-s.ensures.in_order_2.cost.long)

pub put_row-requires-clause-x_le_ticks : goal.put_row-requires-clause-x_le_ticks
put_row-requires-clause-x_le_ticks g c =
    let d = (goal.at.put_row-requires-clause-x_le_ticks g c).In-loop-k in
    x_within _ _ _ _ c.args.fine.within (row g d) _ c.searched_row-s.ensures.in_order_2.cost _ c.searched_row-s.ensures.value

pub put_row-requires-clause-by_index : goal.put_row-requires-clause-by_index
put_row-requires-clause-by_index g c =
    let d = (goal.at.put_row-requires-clause-by_index g c).In-loop-k in
    λ v l.
    cheapest_some _ _ _ _ c.args.fine.within (row g d) _ c.searched_row-s.ensures.in_order_2.cost v
    (subst (λ place. Cheapest c.searched_row-s.new.costs c.args.fine.m (c.args.fine.m + place) v) (seated g d) l)

pub loop-k-init : goal.loop-k-init
unfolding rows flat_map
loop-k-init g c =
    (sym (ap (λ j. drop j c.args.out.now) (mul-zero (per_row g.T.Tell.told))), refl, c.requires.in_order, refl)

pub loop-k-preserved : goal.loop-k-preserved
loop-k-preserved g c =
    let put = c.put_row in
    let r = c.searched_row-s in
    let l = c.loop-k in
    let s = c.args in
    let p = c.requires in
    let d = (goal.at.loop-k-preserved g c).In-loop-k in
    let h = row g d in
    let told = subst (λ place. RowTold g.T.Tell.told r.result r.new.costs s.fine.m (s.fine.m + place) l.k l.out put.new.out) (seated g d) put.ensures in (
      row_told _ _ _ _ s.fine.within h _ r.ensures.in_order_2.cost _ r.ensures.value g.T.Tell.told l.out _ told
          ∙ put_next (per_row g.T.Tell.told) (words_of g.T.Tell.told _) (some_words g.T.Tell.told) (row_long g.T.Tell.told _) (row_stream s.fine.words.now) l.k _ _
          (omega (arith, rows_fit g.T.Tell.told l.k s.fine.n h, p.n_in_bounds)) l.invariant.0,
      put.auto.out ∙ l.invariant.1,
      r.ensures.in_order_2,
      r.auto.costs ∙ l.invariant.3,
    )

pub returns : goal.returns
unfolding entered_in
returns g c =
    let s = c.args in
    let l = c.loop-k in
    let e : l.k ≡ s.fine.n = omega (arith, length-take s.fine.n s.places.now, c.requires.seats.long, c.loop-k-test.false) in
    let p = plan_held s.fine in
    l.invariant.0 ∙ ap (λ k. flat_map (words_of g.T.Tell.told p) (rows k (row_stream s.fine.words.now)) ++ drop (per_row g.T.Tell.told * k) s.out.now) e
