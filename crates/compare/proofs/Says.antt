-- What is said of two plans: that the second is lighter exactly if neither is refused and it is, and then that each of its streams keeps its
-- promise. Said of any two answers that are fine only where the plan is not refused, so that sheets and files are instances. Assumes nothing.
use mathlib.Core.Path.{◌≡◌, refl}
use mathlib.Core.Logic.{◌↔◌}
use Prim.Native.Nat.{ℕ, ◌<◌}
use native.Mathlib.Omega.{arith}
use lib.ListN.{length}
use Rattle.plan.specs.declared.Sheet.{Sheet}
use Rattle.plan.specs.Plan.{Plan, plan_of}
use Rattle.std.specs.Prelude.{Result, Ok, Err}
use Rattle.judge.specs.Table.{Checked}
use Rattle.compare.specs.declared.Reason.{Reason}
use Rattle.checks.specs.Checks.{checked_of}
use Rattle.checks.proofs.Fine.{fine_is_right, own_counts}
use Rattle.promise.specs.Lighter.{Lighter, NotRefused, Kept}
use Rattle.promise.proofs.Promise.{lighter_keeps}
use Rattle.compare.specs.declared.Compared.TheVariants.{Lighter as Compared-as-Lighter}
use Rattle.compare.specs.Changes.{changes, compared_as, compared_of}
use Rattle.compare.specs.Claims.{SaysLighter}
use Rattle.compare.proofs.Exactly.{lighter_exactly}

-- what "lighter" says
lighter_says : (a b : Checked) (c : Result (Unit {0}) Reason) → compared_as a b c ≡ Compared-as-Lighter → (a ≡ Ok tt) × (b ≡ Ok tt) × (c ≡ Ok tt)
lighter_says (Err r) b c e = absurd (let z : ◌≡◌ {A = ℕ} 0 1 = cc in omega arith)
lighter_says (Ok _) (Err r) c e = absurd (let z : ◌≡◌ {A = ℕ} 0 1 = cc in omega arith)
lighter_says (Ok _) (Ok _) (Err r) e = absurd (let z : ◌≡◌ {A = ℕ} 0 1 = cc in omega arith)
lighter_says (Ok _) (Ok _) (Ok _) e = (refl, refl, refl)

-- ---- two plans, and answers to them that are fine only where they are not refused
module _ (old new : Plan) (a b : Checked) (first : a ≡ Ok tt → NotRefused old) (second : b ≡ Ok tt → NotRefused new) where
  pub said_exactly : (compared_as a b (changes old new) ≡ Compared-as-Lighter) ↔ ((a ≡ Ok tt) × (b ≡ Ok tt) × Lighter old new)
  said_exactly = (
    λ e. let (f, s, n) = lighter_says a b (changes old new) e in (f, s, (lighter_exactly old new (first f) (second s)).0 n),
    λ q. let (f, s, l) = q in λ i. compared_as (f i) (s i) ((lighter_exactly old new (first f) (second s)).1 l i),
  )

  pub said_kept : compared_as a b (changes old new) ≡ Compared-as-Lighter
      → (l : Lighter old new) (k : ℕ) (h : k < length new.streams) → Kept old new k (l.row k h)
  said_kept e = let (f, s, n) = lighter_says a b (changes old new) e in lighter_keeps old new (first f) (second s)

-- ---- two sheets
sheet_not_refused : (s : Sheet) → checked_of s ≡ Ok tt → NotRefused (plan_of s)
unfolding checked_of
sheet_not_refused s e = own_counts s.count s.sources (plan_of s) (fine_is_right s.count s.sources (plan_of s) e)

pub said_of_sheets : (old new : Sheet) → SaysLighter old new (compared_of old new)
unfolding compared_of
said_of_sheets old new =
    record {
      is = refl;
      exactly = said_exactly (plan_of old) (plan_of new) (checked_of old) (checked_of new) (sheet_not_refused old) (sheet_not_refused new);
      kept = said_kept (plan_of old) (plan_of new) (checked_of old) (checked_of new) (sheet_not_refused old) (sheet_not_refused new);
    }
