-- What words whose plan is fine give the analysis, place by place. Assumes nothing.
use mathlib.Core.Path.{◌≡◌, sym, ap, ◌∙◌}
use mathlib.Core.List.{List}
use Prim.Native.Nat.{ℕ, ◌<◌}
use native.Mathlib.Omega.{arith}
use lib.ListN.{length, get_or}
use Rattle.laws.specs.Lists.{rows}
use Rattle.laws.proofs.Lists.{rows_at, rows_map, length_rows}
use Rattle.plan.specs.Plan.{blank}
use Rattle.std.specs.Prelude.{Ok}
use Rattle.judge.specs.Table.{judge}
use Rattle.checks.specs.Checks.{priorities, lines}
use Rattle.checks.proofs.Fine.{meant_is_right}
use Rattle.carried.specs.declared.Edition.{Edition}
use Rattle.carried.specs.Layout as layout
use Rattle.carried.specs.Carried.{entered_in}
use Rattle.answers.specs.private.Gather.{PlacesWithin, row_stream, urgency}

pub fine_places : (edition : Edition) (ws : List ℕ) (n m : ℕ) → judge (lines edition n m (entered_in n m ws)) ≡ Ok tt → PlacesWithin ws n m
unfolding entered_in
fine_places edition ws n m e =
    let r = meant_is_right edition n m (entered_in n m ws) e in
    let w = r.within in
    let listed = rows_map (λ s. s.priority.0) n (row_stream ws) in
    let many : length (priorities (rows n (row_stream ws))) ≡ n = ap length listed ∙ length_rows n (urgency ws) in
    let at : (k : ℕ) → k < n → get_or (priorities (rows n (row_stream ws))) k 0 ≡ urgency ws k =
    λ k h. ap (λ l. get_or l k 0) listed ∙ rows_at n (urgency ws) 0 k h in
    record {
      few = omega (arith, w.count, length_rows n (row_stream ws));
      quiet = omega (arith, w.sources, length_rows m (λ k. get_or ws (layout.gap_at n k) 0));
      timing = w.timing;
      stream = λ k h. rw (rows_at n (row_stream ws) blank k h) at (w.stream k (omega (arith, length_rows n (row_stream ws))));
      gap = λ k h. rw (rows_at m (λ k. get_or ws (layout.gap_at n k) 0) 0 k h) at (w.gap k (omega (arith, length_rows m (λ k. get_or ws (layout.gap_at n k) 0))));
      apart = λ i j h l e. r.priorities i j (omega (arith, many)) (omega (arith, many)) (at i h ∙ e ∙ sym (at j l));
      slots = λ k h. rw (rows_at n (row_stream ws) blank k h) at (r.slots k (omega (arith, length_rows n (row_stream ws))));
    }
