-- What owning a sheet tells of its arrays: it has 256 places for streams and 8 for gaps, and a loop over them reads the plan. Assumes nothing.
use mathlib.Core.Path.{◌≡◌, sym, ap, ◌∙◌}
use Prim.Native.Nat.{ℕ, ◌<◌, min}
use native.Mathlib.Omega.{arith}
use denote.RattleType.{Valss, owns}
use denote.Shadow.{shadow}
use denote.Struct.Declared as declared
use lib.ListN.{length, get_or, take, length-take}
use lib.Seq.{get_or-take}
use Rattle.names.specs.Limits.{streams, sources}
use Rattle.laws.proofs.Lists.{take_min}
use Rattle.plan.specs.declared.Sheet.{Sheet}
use Rattle.plan.specs.Plan.{plan_of, blank}
use Rattle.plan.specs.contracts.Sheet as sheet

-- a function is handed this of a parameter that is a sheet, as `.well_formed.0.1.1` of the first
abbrev pub Owned : Sheet → Type 0
Owned s =
    (vss : Valss (declared.shape sheet.the_type).fields) × shadow (owns (declared.shape sheet.the_type).fields ((sheet.the_type).to s) vss)

pub stream_places : (s : Sheet) → Owned s → length s.streams ≡ streams
stream_places s g = g.1.1.0.1.0.1

pub gap_places : (s : Sheet) → Owned s → length s.gaps ≡ sources
gap_places s g = g.1.1.1.1.0.1.0.1

-- ---- the plan on a sheet, as a loop over n of its places reads it
-- n rows are counted: as many as the plan has, and the plan's
pub streams_taken : (s : Sheet) → Owned s → (n : ℕ) → n ≡ min s.count streams
    → (n ≡ length (plan_of s).streams) × (take n s.streams ≡ (plan_of s).streams)
streams_taken s o n e = (
  e ∙ ap (min s.count) (sym (stream_places s o)) ∙ sym (length-take s.count s.streams),
  ap (λ k. take k s.streams) e ∙ take_min s.count streams s.streams (omega (arith, stream_places s o)),
)

pub gaps_taken : (s : Sheet) → Owned s → (n : ℕ) → n ≡ min s.sources sources
    → (n ≡ length (plan_of s).gaps) × (take n s.gaps ≡ (plan_of s).gaps)
gaps_taken s o n e = (
  e ∙ ap (min s.sources) (sym (gap_places s o)) ∙ sym (length-take s.sources s.gaps),
  ap (λ k. take k s.gaps) e ∙ take_min s.sources sources s.gaps (omega (arith, gap_places s o)),
)

-- row k of the plan is what place k has
pub row_in_place : (s : Sheet) (k : ℕ) → k < length (plan_of s).streams → get_or (plan_of s).streams k blank ≡ get_or s.streams k blank
row_in_place s k h = get_or-take s.count s.streams k blank (omega (arith, length-take s.count s.streams))
