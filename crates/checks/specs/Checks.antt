-- Document 01, "When the answer is no", and document 02, requests 01, 05, 06 and 07: refusals 2, 3, 11, 4, 5 and 10 of what is entered, as the
-- lines of their table. The order of the lines decides, and not the size of a number.
use Rattle.std.specs.Prelude.{◌≡◌, Bool, ◌&&◌, List, [], ◌∷◌, ◌++◌, map, ◌↔◌, ℕ, ◌+◌, ◌≤◌, ◌<◌, leb, eqb, length, get_or}
use Rattle.names.specs.Limits.{sources, constant, ticks}
use Rattle.std.specs.Prelude.{Option, Some, None, Ok}
use Rattle.judge.specs.Table.{Checked}
use Rattle.laws.specs.Search.{first}
use Rattle.repeats.specs.Repeats.{first_repeat, Distinct}
use Rattle.judge.specs.Table.{Line, judge, unless_at, unless, row_in}
use Rattle.plan.specs.declared.Timing.{Timing}
use Rattle.plan.specs.declared.Stream.{Stream}
use Rattle.plan.specs.declared.Sheet.{Sheet}
use Rattle.plan.specs.Plan.{Plan, plan_of, blank, at, Within}
use Rattle.plan.specs.Rules.{exceeds_slot, FitsSlot}
use Rattle.carried.specs.declared.Edition.{Edition, TheVariants.Three}
use Rattle.carried.specs.declared.EnteredTiming.{EnteredTiming}
use Rattle.carried.specs.Layout as layout
use Rattle.carried.specs.Carried.{Entered, meant_timing, meant, plainly}
use Rattle.fields.specs.Fields.{fields, lowest, SlotWithin}

-- ---- the counts

-- n is 1 to 256, in editions 1 and 2 1 to 64, and m is 0 to 8
abbrev pub in_range : Edition → ℕ → ℕ → Bool
in_range edition n m = leb 1 n && leb n (layout.most_streams edition) && leb m sources

-- 2: n or m is outside its range
abbrev pub range_lines : Edition → ℕ → ℕ → List Line
range_lines edition n m = record { number = 2; place = unless (in_range edition n m) } ∷ []

-- .. or there are not so many streams and gaps: a sheet may count more than its places
abbrev pub counted : Edition → ℕ → ℕ → Entered → Bool
counted edition n m v = in_range edition n m && eqb (length v.streams) n && eqb (length v.gaps) m

-- ---- the fields

-- the byte at which a field that was found stands in a plan file of an edition with n streams
abbrev pub byte_in : Edition → ℕ → Option ℕ → Option ℕ
byte_in edition n (Some k) = Some (layout.byte_of (layout.in_bodies edition n k))
byte_in edition n None = None

-- 3: a field is outside its limits (the lowest)
abbrev pub field_lines : Edition → Entered → List Line
field_lines edition v = record { number = 3; place = byte_in edition (length v.streams) (lowest 0 (fields edition v)) } ∷ []

-- 11: ETG + LAG is above 65,535 (the byte of ETG, the same in every edition)
abbrev pub lag_lines : EnteredTiming → List Line
lag_lines t = record { number = 11; place = unless_at (layout.byte_of layout.etg_at) (leb (t.etg + t.lag) constant) } ∷ []

-- ---- the rows

abbrev pub priorities : List Stream → List ℕ
priorities ss = map (λ s. s.priority.0) ss

abbrev pub labels : List Stream → List ℕ
labels ss = map (λ s. s.label.0) ss

-- 4: two streams have one priority; 5: two streams have one label (the lowest row that repeats an earlier row)
abbrev pub row_lines : List Stream → List Line
row_lines ss =
    record { number = 4; place = row_in (first_repeat (priorities ss)) }
    ∷ record { number = 5; place = row_in (first_repeat (labels ss)) }
    ∷ []

-- 10: a stream's C'' exceeds P (the lowest row)
abbrev pub slot_lines : Timing → List Stream → List Line
slot_lines t ss = record { number = 10; place = first (λ k. exceeds_slot t (get_or ss k blank)) 0 (length ss) } ∷ []

-- ---- all of them: 3, then 11, then 4 and 5, then 10

abbrev pub value_lines : Edition → Entered → List Line
value_lines edition v =
    field_lines edition v ++ lag_lines v.timing ++ row_lines v.streams ++ slot_lines (meant_timing v.timing) v.streams

-- of what is entered in an edition and said to be n streams and m noise sources
abbrev pub lines : Edition → ℕ → ℕ → Entered → List Line
lines edition n m v = record { number = 2; place = unless (counted edition n m v) } ∷ value_lines edition v

-- the answer to a sheet's values, which have no LAG, with the places of edition 3
unfoldable pub checked_of : Sheet → Checked
checked_of s = judge (lines Three s.count s.sources (plainly (plan_of s)))

-- ---- What is proved of the table of a plan's refusals; the proofs are in proofs/Fine.antt.

-- a plan of n streams and m gaps that is within the limits, with distinct priorities and distinct labels, each stream fitting its slot
pub record Right (n m : ℕ) (p : Plan) : Type 0 where
  pub within : Within p
  pub count : length p.streams ≡ n
  pub sources : length p.gaps ≡ m
  pub label : (k : ℕ) → k < length p.streams → (at p k).label.0 ≤ ticks
  pub priorities : Distinct (priorities p.streams)
  pub labels : Distinct (labels p.streams)
  pub slots : (k : ℕ) → k < length p.streams → FitsSlot p.timing (at p k)

-- what is entered is fine exactly if a right plan is meant, with a P of the edition, none in edition 1, one in edition 2, either in edition 3,
-- and no more streams than the edition may have
abbrev pub FineIfRight : Type 0
FineIfRight =
    (edition : Edition) (n m : ℕ) (v : Entered)
    → (judge (lines edition n m v) ≡ Ok tt) ↔ (SlotWithin edition v.timing.p × (n ≤ layout.most_streams edition) × Right n m (meant v))

-- what a sheet that is fine promises
abbrev pub FineWithin : Type 0
FineWithin =
    (s : Sheet) → checked_of s ≡ Ok tt
    → Within (plan_of s) × (length (plan_of s).streams ≡ s.count) × (length (plan_of s).gaps ≡ s.sources)
