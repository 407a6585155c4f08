-- The waits of a plan file have room where the largest listing has, and no number is above its limit. Assumes nothing.
use mathlib.Core.Path.{◌≡◌, sym, ap, subst, ◌∙◌}
use mathlib.Core.List.{List, map}
use Prim.Native.Nat.{ℕ, ◌+◌, ◌^◌, ◌≤◌, ◌<◌}
use native.Mathlib.Omega.{arith}
use lib.ListN.{length, get_or, length-map}
use Rattle.std.specs.Prelude.{Result, Ok}
use Rattle.names.specs.Limits.{ticks}
use Rattle.plan.specs.Plan.{Plan, plan_of, blank, at}
use Rattle.plan.specs.Evaluations.{row_wait, waits}
use Rattle.plan.proofs.Evaluations.{row_evaluations_within, row_wait_within}
use Rattle.checks.specs.Checks.{Right}
use Rattle.file.specs.File.{read_of, read_said, read_sheet}
use Rattle.plan.specs.declared.Sheet.{Sheet}
use Rattle.names.specs.declared.Refusal.{Refusal}
use Rattle.file.proofs.Reading.{fine_read}
use Rattle.file.proofs.RoundTrip.{plan_read, right_read, own_sheet}
use Rattle.text.proofs.Laying.{all_put}
use Rattle.wait_lines.specs.Lines.{lines_of, Printed}
use Rattle.wait_lines.proofs.Size.{largest_lines}
use Rattle.desk.proofs.Fits.{in_row_lem}
use Rattle.desk.specs.Desk.{waits_as, shown_waits, WaitsFit, WaitsWithin}

module _ (n m : ℕ) (p : Plan) (r : Right n m p) where
  within : (k : ℕ) → k < length p.streams → (row_wait p (at p k)).evaluations ≤ (row_wait p (at p k)).limit
  within k h = row_evaluations_within p r.within k h (r.slots k h)

  module _ (k : ℕ) (h : k < length (waits p)) where
    among : k < length p.streams
    among = omega (arith, length-map p.streams (row_wait p))

    small : ((row_wait p (at p k)).evaluations ≤ ticks) × ((row_wait p (at p k)).limit ≤ ticks + 1)
    small = row_wait_within p r.within k among (r.slots k among)

    small_number : get_or (map (λ w. w.evaluations) (waits p)) k 0 < 10 ^ 10
    small_number = rw (in_row_lem (λ w. w.evaluations) (row_wait p) p.streams k blank among) (omega (arith, small.0))

    small_limit : get_or (map (λ w. w.limit) (waits p)) k 0 < 10 ^ 10
    small_limit = rw (in_row_lem (λ w. w.limit) (row_wait p) p.streams k blank among) (omega (arith, small.1))

  printed : Printed p (waits p)
  printed = record { count = r.within.count; label = r.label; evaluations = small_number; limit = small_limit }

-- the plan of a file's sheet is the one that was read
module _ (bs : List ℕ) (e : read_said (read_of bs) ≡ Ok tt) where
  abbrev p : Plan
  p = plan_read bs (fine_read bs e)

  right : Right (fine_read bs e).n (fine_read bs e).m p
  right = right_read bs (fine_read bs e)

  same : plan_of (read_sheet (read_of bs)) ≡ p
  same = ap (λ (r : Result Sheet Refusal). plan_of (read_sheet r)) (fine_read bs e).read ∙ own_sheet bs (fine_read bs e)

pub waits_fit : WaitsFit
unfolding shown_waits
waits_fit bs buffer e h =
    let q = p bs e in
    let shows : shown_waits bs ≡ lines_of q (waits q) = ap (λ k. waits_as k (plan_of (read_sheet (read_of bs)))) e ∙ ap (λ z. lines_of z (waits z)) (same bs e) in
    let size = largest_lines q (waits q) (printed _ _ q (right bs e)) in
    rw shows (ap (λ x. x.0) (all_put (lines_of q (waits q)) buffer (omega arith)))

pub waits_within : WaitsWithin
waits_within bs e = subst (λ q. (k : ℕ) → k < length q.streams → (row_wait q (at q k)).evaluations ≤ (row_wait q (at q k)).limit) (sym (same bs e)) (within _ _ (p bs e) (right bs e))
