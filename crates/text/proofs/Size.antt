-- How many bytes a listing has at most: each field by its digits, each row by its fields. Assumes nothing.
use mathlib.Core.Path.{ap}
use mathlib.Core.List.{List, [], ◌∷◌, map}
use Prim.Native.Nat.{ℕ, suc, ◌+◌, ◌*◌, ◌/◌, ◌%◌, ◌^◌, ◌≤◌, ◌<◌}
use native.Mathlib.Nat.{suc-mul, mul-le-mul_right}
use native.Mathlib.Omega.{arith}
use lib.ListN.{length, get_or, length-append}
use Rattle.bound.specs.declared.Verdict.{Verdict, TheVariants.Met, TheVariants.Missed, TheVariants.None}
use Rattle.bound.specs.declared.Answer.{Answer}
use Rattle.plan.specs.declared.Stream.{Stream}
use Rattle.plan.specs.Plan.{blank}
use Rattle.decimal.proofs.Decimal.{few_digits}
use Rattle.text.specs.Listing.{group, bounded_text, verdict_text, header, row, listed_rows, listing_of, refused_of}
use Rattle.text.proofs.Laying.{all_put}
use Rattle.text.specs.Claims.{beside, Printed, LargestListing, NeverFull, LargestRefusal}

-- ---- the fields
bounded_size : (w : ℕ) (v : Verdict) (b : ℕ) → 1 ≤ w → b < 10 ^ w → length (bounded_text v b) ≤ w
bounded_size w Met b h l = few_digits w b h l
bounded_size w Missed b h l = few_digits w b h l
bounded_size w None b h l = h

verdict_size : (v : Verdict) → length (verdict_text v) ≤ 6
verdict_size Met = omega arith
verdict_size Missed = omega arith
verdict_size None = omega arith

-- ---- the lines
row_size : (w : ℕ) (s : Stream) (a : Answer) → 1 ≤ w → Printed s → a.bound < 10 ^ w → a.instance < 10 ^ w → length (row s a) ≤ beside + 2 * w
unfolding row
row_size w s a h p l i =
    simp length-append
    (omega (
      arith,
      few_digits 5 (s.label.0 / group) (omega arith) (omega (arith, p.label)),
      few_digits 5 (s.label.0 % group) (omega arith) (omega arith),
      few_digits 10 s.priority.0 (omega arith) (omega (arith, p.priority)),
      bounded_size w a.verdict a.bound h l,
      bounded_size w a.verdict a.instance h i,
      few_digits 10 s.deadline (omega arith) (omega (arith, p.deadline)),
      verdict_size a.verdict,
    ))

rows_size : (w : ℕ) (ss : List Stream) (answers : List Answer) → 1 ≤ w
    → ((k : ℕ) → k < length ss → Printed (get_or ss k blank)) → ((k : ℕ) → k < length answers → get_or (map (λ a. a.bound) answers) k 0 < 10 ^ w)
    → ((k : ℕ) → k < length answers → get_or (map (λ a. a.instance) answers) k 0 < 10 ^ w)
    → length (listed_rows row ss answers) ≤ length ss * (beside + 2 * w)
unfolding listed_rows
rows_size w [] answers h p l i = omega arith
rows_size w (s ∷ ss) [] h p l i = omega arith
rows_size w (s ∷ ss) (a ∷ answers) h p l i =
    omega (
      arith,
      length-append (row s a) (listed_rows row ss answers),
      suc-mul (length ss) (beside + 2 * w),
      row_size w s a h (p 0 (omega arith)) (l 0 (omega arith)) (i 0 (omega arith)),
      rows_size w ss answers h (λ k g. p (suc k) (omega arith)) (λ k g. l (suc k) (omega arith)) (λ k g. i (suc k) (omega arith)),
    )

-- ---- the listing
pub largest_listing : LargestListing
unfolding listing_of
largest_listing w p answers h l =
    omega (
      arith,
      length-append header (listed_rows row p.streams answers),
      rows_size w p.streams answers h l.stream l.bound l.instance,
      mul-le-mul_right (beside + 2 * w) l.count,
    )

pub never_full : NeverFull
never_full p answers buffer l h =
    ap (λ x. x.0) (all_put (listing_of p answers) buffer (omega (arith, largest_listing 20 p answers (omega arith) l)))

-- ---- the line of a refusal
pub largest_refusal : LargestRefusal
unfolding refused_of
largest_refusal r n p =
    simp length-append (omega (arith, few_digits 10 r.number (omega arith) (omega arith), few_digits 20 r.place (omega arith) (omega arith)))
