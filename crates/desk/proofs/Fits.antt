-- A listing of a plan file is no longer than the largest: its fields are words of 32 bits, its bounds and instances have ten digits. Assumes nothing.
use mathlib.Core.Path.{◌≡◌, refl, ap, ◌∙◌}
use mathlib.Core.List.{List, [], ◌∷◌, map}
use Prim.Native.Nat.{ℕ, zero, suc, ◌+◌, ◌^◌, ◌≤◌, ◌<◌}
use native.Mathlib.Omega.{arith}
use lib.ListN.{length, get_or, length-map}
use lib.Pow.{pow_mono}
use Rattle.names.specs.Limits.{ticks}
use Rattle.plan.specs.declared.Stream.{Stream}
use Rattle.plan.specs.Plan.{Plan, plan_of, blank}
use Rattle.plan.specs.Rules.{row_answer, answers}
use Rattle.plan.proofs.Rules.{row_within}
use Rattle.checks.specs.Checks.{Right}
use Rattle.std.specs.Prelude.{Result}
use Rattle.names.specs.declared.Refusal.{Refusal}
use Rattle.plan.specs.declared.Sheet.{Sheet}
use Rattle.file.specs.File.{read_said, read_sheet}
use Rattle.file.proofs.Reading.{fine_read}
use Rattle.file.proofs.RoundTrip.{plan_read, right_read, own_sheet}
use Rattle.text.specs.Claims.{Printed, Listed}
use Rattle.text.specs.Listing.{listing_of}
use Rattle.text.proofs.Laying.{all_put}
use Rattle.text.proofs.Size.{largest_listing}
use Rattle.desk.specs.Desk.{shown_as, shown, ListingFits}

-- a row's value, whatever stands past the last row
pub in_row_lem : {A B : Type 0} (f : B → ℕ) (g : A → B) (l : List A) (k : ℕ) (d : A) → k < length l → get_or (map f (map g l)) k 0 ≡ f (g (get_or l k d))
in_row_lem f g [] k d h = absurd (omega arith)
in_row_lem f g (x ∷ l) zero d h = refl
in_row_lem f g (x ∷ l) (suc k) d h = in_row_lem f g l k d (omega arith)

module _ (n m : ℕ) (p : Plan) (r : Right n m p) where
  printed : (k : ℕ) → k < length p.streams → Printed (get_or p.streams k blank)
  printed k h =
      let s = r.within.stream k h in
      record {
        label = r.label k h;
        priority = omega (arith, s.priority, pow_mono r.within.timing.nb);
        deadline = s.deadline;
      }

  module _ (k : ℕ) (h : k < length (answers p)) where
    among : k < length p.streams
    among = omega (arith, length-map p.streams (row_answer p))

    abbrev i : Stream
    i = get_or p.streams k blank

    small : ((row_answer p i).bound ≤ ticks + ticks) × ((row_answer p i).instance < ticks)
    small = row_within p i (r.within.stream k among) (r.slots k among)

    small_bound : get_or (map (λ a. a.bound) (answers p)) k 0 < 10 ^ 10
    small_bound = rw (in_row_lem (λ a. a.bound) (row_answer p) p.streams k blank among) (omega (arith, small.0))

    small_instance : get_or (map (λ a. a.instance) (answers p)) k 0 < 10 ^ 10
    small_instance = rw (in_row_lem (λ a. a.instance) (row_answer p) p.streams k blank among) (omega (arith, small.1))

  listed : Listed 10 p (answers p)
  listed = record { count = r.within.count; stream = printed; bound = small_bound; instance = small_instance }

pub listing_fits : ListingFits
unfolding shown
listing_fits bs buffer e h =
    let f = fine_read bs e in
    let p = plan_read bs f in
    let right = right_read bs f in
    let shows : shown bs ≡ listing_of p (answers p) = ap (λ (r : Result Sheet Refusal). shown_as (read_said r) (plan_of (read_sheet r))) f.read ∙ ap (λ q. listing_of q (answers q)) (own_sheet bs f) in
    let size = largest_listing 10 p (answers p) (omega arith) (listed f.n f.m p right) in
    rw shows (ap (λ x. x.0) (all_put (listing_of p (answers p)) buffer (omega arith)))
