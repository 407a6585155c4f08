-- The numbers of evaluations of document 01's plans: short chains are computed, and long ones are those of a stream that fills the channel. Assumes nothing.
use mathlib.Core.Path.{◌≡◌, refl, ap₂}
use Prim.Native.Nat.{ℕ, ◌+◌, ◌/◌}
use native.Mathlib.Omega.{arith}
use Rattle.names.specs.Limits.{ticks}
use Rattle.std.specs.Prelude.{None}
use Rattle.laws.specs.Lists.{sum_of, largest_of, smallest_of, those}
use Rattle.laws.specs.Search.{first}
use Rattle.bound.specs.Terms.{Terms}
use Rattle.bound.specs.Bound.{E, demand, side_L, busy}
use Rattle.bound.specs.Claims.{Sound}
use Rattle.bound.specs.Evaluations.{chain, evaluations, or_ticks, X, c, limit, wait, Full}
use Rattle.bound.proofs.Full.{full_late, full_blocked}
use Rattle.plan.specs.Plan.{at}
use Rattle.plan.specs.Rules.{self_or_slotted, B, hit, terms}
use Rattle.carried.specs.Carried.{Entered, meant}
use Rattle.figures.specs.Plans.{P5, P5Before, blocked}
use Rattle.figures.specs.Evaluations.{Takes, Evaluations}

-- ---- a row that is none: its number, and the limit by the last tick
none_takes : (r : Terms) (number : ℕ) → (busy r ≡ None) × (evaluations r ≡ number) → wait r ≡ record { evaluations = number; limit = ticks / c r + 1 }
unfolding limit X
none_takes r number (e, d) = ap₂ (λ n f. record { evaluations = n; limit = or_ticks f / c r + 1 }) d e

abbrev row0 : Entered → Terms
row0 v = terms (meant v) (at (meant v) 0)

p5 : Takes P5 0 171798691 171798692
unfolding largest_of smallest_of those self_or_slotted B hit terms c
p5 =
    let r = row0 P5 in
    let s : Sound r = record { period = omega arith; late = omega arith; ends = omega arith; last = omega arith } in
    let f : Full r = record { nobody = refl; quiet = refl; period = refl; small = omega arith } in
    none_takes r 171798691 (full_late r s f refl refl)

p5_before : Takes P5Before 0 186737708 186737709
unfolding largest_of smallest_of those self_or_slotted B hit terms c
p5_before =
    let r = row0 P5Before in
    let s : Sound r = record { period = omega arith; late = omega arith; ends = omega arith; last = omega arith } in
    let f : Full r = record { nobody = refl; quiet = refl; period = refl; small = omega arith } in
    none_takes r 186737708 (full_late r s f refl refl)

blocked_takes : Takes blocked 0 171798692 171798692
unfolding largest_of smallest_of those self_or_slotted B hit terms c
blocked_takes =
    let r = row0 blocked in
    let s : Sound r = record { period = omega arith; late = omega arith; ends = omega arith; last = omega arith } in
    let f : Full r = record { nobody = refl; quiet = refl; period = refl; small = omega arith } in
    none_takes r 171798692 (full_blocked r s f refl (omega arith) (omega arith))

pub evaluations_are : Evaluations
unfolding sum_of largest_of smallest_of those first E demand side_L busy self_or_slotted B hit terms chain evaluations X c limit
evaluations_are =
    (refl, refl, refl, refl, refl, refl, refl, refl, refl, refl, refl, refl, refl, refl, p5, p5_before, blocked_takes)
