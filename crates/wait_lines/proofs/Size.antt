-- How many bytes the lines have at most. Assumes nothing.
use mathlib.Core.List.{List, [], ◌∷◌, map}
use Prim.Native.Nat.{ℕ, suc, ◌*◌, ◌/◌, ◌%◌, ◌^◌, ◌≤◌, ◌<◌}
use native.Mathlib.Nat.{suc-mul, mul-le-mul_right}
use native.Mathlib.Omega.{arith}
use lib.ListN.{length, get_or, length-append}
use Rattle.names.specs.Limits.{ticks}
use Rattle.bound.specs.declared.Wait.{Wait}
use Rattle.plan.specs.declared.Stream.{Stream}
use Rattle.plan.specs.Plan.{blank}
use Rattle.decimal.proofs.Decimal.{few_digits}
use Rattle.text.specs.Listing.{group, listed_rows}
use Rattle.wait_lines.specs.Lines.{wait_header, wait_row, lines_of, LargestLines}

row_size : (s : Stream) (w : Wait) → s.label.0 ≤ ticks → w.evaluations < 10 ^ 10 → w.limit < 10 ^ 10 → length (wait_row s w) ≤ 34
unfolding wait_row
row_size s w l e i =
    simp length-append
    (omega (
      arith,
      few_digits 5 (s.label.0 / group) (omega arith) (omega arith),
      few_digits 5 (s.label.0 % group) (omega arith) (omega arith),
      few_digits 10 w.evaluations (omega arith) e,
      few_digits 10 w.limit (omega arith) i,
    ))

rows_size : (ss : List Stream) (waits : List Wait) → ((k : ℕ) → k < length ss → (get_or ss k blank).label.0 ≤ ticks)
    → ((k : ℕ) → k < length waits → get_or (map (λ w. w.evaluations) waits) k 0 < 10 ^ 10)
    → ((k : ℕ) → k < length waits → get_or (map (λ w. w.limit) waits) k 0 < 10 ^ 10)
    → length (listed_rows wait_row ss waits) ≤ length ss * 34
unfolding listed_rows
rows_size [] waits l e i = omega arith
rows_size (x ∷ ss) [] l e i = omega arith
rows_size (x ∷ ss) (w ∷ waits) l e i =
    omega (
      arith,
      length-append (wait_row x w) (listed_rows wait_row ss waits),
      suc-mul (length ss) 34,
      row_size x w (l 0 (omega arith)) (e 0 (omega arith)) (i 0 (omega arith)),
      rows_size ss waits (λ k g. l (suc k) (omega arith)) (λ k g. e (suc k) (omega arith)) (λ k g. i (suc k) (omega arith)),
    )

pub largest_lines : LargestLines
unfolding lines_of
largest_lines p waits h =
    omega (
      arith,
      length-append wait_header (listed_rows wait_row p.streams waits),
      rows_size p.streams waits h.label h.evaluations h.limit,
      mul-le-mul_right 34 h.count,
    )
