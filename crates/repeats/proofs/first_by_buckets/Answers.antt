use borrow.Author.Rules.{rules}
use borrow.Author.Tests.{ne_eqb}
use mathlib.Core.Path.{◌≡◌, refl, sym, ap, ◌∙◌}
use mathlib.Core.Bool.{Bool, true, false, true≢false, ◌||◌}
use mathlib.Core.List.{List}
use Prim.Native.Nat.{ℕ, zero, suc, ◌+◌, ◌-◌, ◌≤◌, ◌<◌}
use native.Mathlib.Nat.{le_refl}
use native.Mathlib.Numerals.{add-one}
use native.Mathlib.Omega.{arith}
use lib.Dec.{eqb}
use lib.ListN.{length, get_or, set, take, drop, length-set}
use Rattle.std.specs.List.{list_any}
use Rattle.std.proofs.lemmas.List.Folds.{list_any_more}
use Rattle.std.proofs.lemmas.Grind.{common_steps}
use Rattle.laws.proofs.Rows.{none_more, found_at, found_none, some_none}
use Rattle.laws.specs.Rows.{some}
use Rattle.repeats.specs.Repeats.{repeats_at, as_row, first_repeat}
use Rattle.repeats.specs.private.Buckets.{bucket_of}
use Rattle.repeats.proofs.first_by_buckets.Invariants.{Met}
use Rattle.repeats.proofs.first_by_buckets.Given.{Over}
use Rattle.repeats.proofs.first_by_buckets.Goals as goal
use Rattle.repeats.proofs.first_by_buckets.Goals.{Joined-else-met-b, else-met-b-via-then-met-b+else-contains, else-met-b-via-else-met-b}

-- a row whose bucket is not met repeats none
unmet : (n : ℕ) (xs : List ℕ) (met : List Bool) (i : ℕ) → Met n xs met i → get_or met (bucket_of n (get_or xs i 0)) false ≡ false → repeats_at xs i ≡ false
unmet n xs met i all m =
    some_none _ i i (λ k h. ne_eqb _ _ (λ e. true≢false (sym (all k h) ∙ ap (λ v. get_or met (bucket_of n v) false) e ∙ m))) (le_refl i)

-- an element of the front is one of the first numbers' elements
any_some : (p : ℕ → Bool) (xs : List ℕ) (i : ℕ) → i ≤ length xs → list_any p (take i xs) ≡ some (λ j. p (get_or xs j 0)) i
unfolding some
any_some p xs zero h = refl
any_some p xs (suc i) h =
    ap (λ n. list_any p (take n xs)) (sym (add-one i))
    ∙ list_any_more p xs i 0 (omega arith)
    ∙ ap (λ b. b || p (get_or xs i 0)) (any_some p xs i (omega arith))

-- the list from row 0 up to a row contains the row's value exactly if the row repeats another
same : (xs : List ℕ) (from i : ℕ) → from ≡ 0 → i ≤ length xs → list_any (λ y. eqb y (get_or xs i 0)) (take (i - from) (drop from xs)) ≡ repeats_at xs i
same xs from i e h =
    let all : i - 0 ≡ i = omega arith in
    rw (e, all) (any_some (λ y. eqb y (get_or xs i 0)) xs i h)

no_repeat : (g : Over) (c : Joined-else-met-b g) → repeats_at c.args.values.now c.loop-i.i ≡ false
no_repeat g c =
    let a = c.args in
    let l = c.loop-i in
    elim c.else-met-b.branch [
      | else-met-b-via-then-met-b+else-contains w ↦ sym (w.contains.ensures.value ∙ same a.values.now _ l.i (omega arith) (omega arith)) ∙ w.if-contains.false
      | else-met-b-via-else-met-b w ↦
          unmet g.row.COUNT a.values.now l.met l.i l.invariant.2 (ap (λ b. get_or l.met b false) (sym c.bucket-b.ensures.value) ∙ w.if-met-b.false)
    ]

-- a row's bucket is met after it
met_more : (n : ℕ) (xs : List ℕ) (met : List Bool) (i b : ℕ) → b < length met → b ≡ bucket_of n (get_or xs i 0) → Met n xs met i → Met n xs (set met b true) (i + 1)
met_more n xs met i b h e all = grind (arith, common_steps)

pub loop-i-preserved : goal.loop-i-preserved
loop-i-preserved g c =
    let l = c.loop-i in (
      none_more _ _ l.invariant.0 (no_repeat g c),
      length-set l.met _ _ ∙ l.invariant.1,
      met_more _ _ l.met l.i _ (omega (arith, l.invariant.1, c.bucket-b.ensures.upper_bound)) c.bucket-b.ensures.value l.invariant.2,
    )

pub returns-then-contains : goal.returns-then-contains
unfolding first_repeat
returns-then-contains g c =
    let xs = c.args.values.now in
    let l = c.loop-i in
    ap as_row (sym (found_at (repeats_at xs) (length xs) l.i l.invariant.0 (search rules) (sym (c.contains.ensures.value ∙ same xs _ l.i (omega arith) (omega arith)) ∙ c.if-contains.true)))

pub returns : goal.returns
unfolding first_repeat
returns g c =
    let xs = c.args.values.now in
    let l = c.loop-i in
    ap as_row (sym (found_none (repeats_at xs) (length xs) l.i l.invariant.0 (search rules)))
