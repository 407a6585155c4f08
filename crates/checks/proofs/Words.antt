-- A sheet and its words are answered alike: counts in range give the same values, and others are refused 2 either way. Assumes nothing.
use mathlib.Core.Path.{◌≡◌, sym, ap, ap₂, ◌∙◌}
use mathlib.Core.Bool.{false}
use mathlib.Core.List.{List, [], ◌++◌}
use Prim.Native.Nat.{◌≤◌}
use native.Mathlib.Omega.{arith}
use lib.Seq.{length-take-le}
use Rattle.names.specs.Limits.{streams, sources}
use Rattle.plan.specs.declared.Sheet.{Sheet}
use Rattle.plan.specs.Plan.{plan_of}
use Rattle.carried.specs.declared.Edition.TheVariants.{Three}
use Rattle.carried.specs.Carried.{Entered, plainly, entered_in, values_of, in_places}
use Rattle.plan.proofs.Places.{Owned, stream_places, gap_places}
use Rattle.carried.proofs.Plans.{own_places}
use Rattle.std.specs.Prelude.{Ok}
use Rattle.judge.specs.Table.{Line, judge}
use Rattle.checks.specs.Checks.{in_range, lines, checked_of}
use Rattle.judge.proofs.Table.{fine_parts}
use Rattle.checks.proofs.Counts.{by_range, out_of_range}
use Rattle.checks.proofs.Fine.{fine_is_right}

module _ (s : Sheet) (o : Owned s) where
  -- what is entered in the sheet's words
  abbrev pub entered_in_words : Entered
  entered_in_words = entered_in s.count s.sources (in_places (values_of (plan_of s)))

  pub same_entered : s.count ≤ streams → s.sources ≤ sources → entered_in_words ≡ plainly (plan_of s)
  same_entered few quiet =
      let n = length-take-le s.count s.streams (omega (arith, stream_places s o)) in
      let m = length-take-le s.sources s.gaps (omega (arith, gap_places s o)) in
      ap₂ (λ i j. entered_in i j (in_places (values_of (plan_of s)))) (sym n) (sym m) ∙ own_places (plainly (plan_of s)) (omega arith) (omega arith)

  -- the table of the values, with whatever lines after it
  module _ (more : List Line) where
    both_refused : in_range Three s.count s.sources ≡ false
        → judge (lines Three s.count s.sources entered_in_words ++ more) ≡ judge (lines Three s.count s.sources (plainly (plan_of s)) ++ more)
    both_refused e = out_of_range Three s.count s.sources e entered_in_words more ∙ sym (out_of_range Three s.count s.sources e (plainly (plan_of s)) more)

    pub same_lines : judge (lines Three s.count s.sources entered_in_words ++ more) ≡ judge (lines Three s.count s.sources (plainly (plan_of s)) ++ more)
    same_lines =
        by_range Three s.count s.sources (λ few quiet. ap (λ v. judge (lines Three s.count s.sources v ++ more)) (same_entered few quiet)) both_refused

pub same_check : (s : Sheet) (o : Owned s) → judge (lines Three s.count s.sources (entered_in_words s o)) ≡ checked_of s
unfolding checked_of
same_check s o = same_lines s o []

-- .. and a sheet that is fine has its own plan in its words
pub same_entered_if_fine : (s : Sheet) (o : Owned s) (more : List Line) → judge (lines Three s.count s.sources (plainly (plan_of s)) ++ more) ≡ Ok tt
    → entered_in_words s o ≡ plainly (plan_of s)
same_entered_if_fine s o more e =
    let r = fine_is_right s.count s.sources (plan_of s) (fine_parts (lines Three s.count s.sources (plainly (plan_of s))) more e).0 in
    same_entered s o (omega (arith, r.count, r.within.count)) (omega (arith, r.sources, r.within.sources))
