-- The loop leaves at the first row that repeats an earlier one, so no row behind it does; and the bucket of each row behind it is met. Assumes nothing.
use mathlib.Core.Path.{◌≡◌}
use mathlib.Core.Bool.{Bool, true, false}
use mathlib.Core.List.{List}
use Prim.Native.Nat.{ℕ, ◌<◌}
use lib.ListN.{length, get_or}
use Rattle.laws.proofs.Rows.{NoneBelow}
use Rattle.repeats.specs.Repeats.{repeats_at}
use Rattle.repeats.specs.private.Buckets.{bucket_of}
use Rattle.repeats.proofs.first_by_buckets.Given as goal

-- the bucket of each of the first i rows is met, of n
abbrev pub Met : ℕ → List ℕ → List Bool → ℕ → Type 0
Met n xs met i = (j : ℕ) → j < i → get_or met (bucket_of n (get_or xs j 0)) false ≡ true

abbrev pub invariant-loop-i : goal.invariant-loop-i
invariant-loop-i g l = NoneBelow (repeats_at l.values) l.i × (length l.met ≡ g.row.COUNT) × Met g.row.COUNT l.values l.met l.i
