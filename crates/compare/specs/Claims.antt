-- What is proved of the test; the proofs are in proofs/First.antt, ConstantPlaces.antt, Exactly.antt and Says.antt.
use Rattle.std.specs.Prelude.{◌≡◌, ◌↔◌, ℕ, ◌<◌, length}
use Rattle.plan.specs.declared.Sheet.{Sheet}
use Rattle.plan.specs.Plan.{Plan, plan_of}
use Rattle.std.specs.Prelude.{Result, Ok, Err}
use Rattle.checks.specs.Checks.{checked_of}
use Rattle.promise.specs.Lighter.{Lighter, NotRefused, Kept}
use Rattle.compare.specs.declared.Reason.{Reason}
use Rattle.compare.specs.declared.Compared.{Compared, TheVariants.Lighter as Compared-as-Lighter}
use Rattle.compare.specs.Changes.{first_change, many_constants, constant, place_of, changes, compared_of}

-- r is one of the changes, and there is none before it
pub record FirstChange (f : ℕ → Result (Unit {0}) Reason) (n : ℕ) (r : Reason) : Type 0 where
  pub i : ℕ
  pub among : i < n
  pub change : f i ≡ Err r
  pub before : (j : ℕ) → j < i → f j ≡ Ok tt

-- the first change is r exactly if r is so, ..
abbrev pub ChangeIfFirst : Type 0
ChangeIfFirst = (f : ℕ → Result (Unit {0}) Reason) (n : ℕ) (r : Reason) → (first_change f n ≡ Err r) ↔ FirstChange f n r

-- .. and nothing exactly if there is no change
abbrev pub NothingIfNone : Type 0
NothingIfNone = (f : ℕ → Result (Unit {0}) Reason) (n : ℕ) → (first_change f n ≡ Ok tt) ↔ ((i : ℕ) → i < n → f i ≡ Ok tt)

-- each constant has the place that it is counted by
abbrev pub PlaceOfConstant : Type 0
PlaceOfConstant = (k : ℕ) → k < many_constants → place_of (constant k) ≡ k

-- of two plans that are not refused, no condition is broken exactly if the second is lighter
abbrev pub LighterExactly : Type 0
LighterExactly = (old new : Plan) → NotRefused old → NotRefused new → (changes old new ≡ Ok tt) ↔ Lighter old new

-- what is said of two sheets: that the second is lighter is said exactly if neither is refused and it is; and then each of its streams
-- stands in the first and keeps its promise
pub record SaysLighter (old new : Sheet) (r : Compared) : Type 0 where
  pub is : r ≡ compared_of old new
  pub exactly : (r ≡ Compared-as-Lighter) ↔ ((checked_of old ≡ Ok tt) × (checked_of new ≡ Ok tt) × Lighter (plan_of old) (plan_of new))
  pub kept : r ≡ Compared-as-Lighter → (l : Lighter (plan_of old) (plan_of new)) (k : ℕ) (h : k < length (plan_of new).streams)
      → Kept (plan_of old) (plan_of new) k (l.row k h)
