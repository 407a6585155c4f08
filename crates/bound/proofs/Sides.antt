-- Both right sides climb, so the chain from 1 finds the least positive busy period or shows that there is none. Assumes nothing.
use mathlib.Core.Path.{◌≡◌, refl}
use mathlib.Core.List.{List, ◌∷◌}
use Prim.Native.Nat.{ℕ, ◌+◌, ◌*◌, ◌≤◌}
use native.Mathlib.Nat.{mul-le-mul_right}
use native.Mathlib.Omega.{arith}
use Rattle.names.specs.Limits.{ticks}
use Rattle.laws.specs.Lists.{ceil, sum_of}
use Rattle.laws.proofs.Round.{ceil_mono, ceil_pos}
use Rattle.laws.proofs.Lists.{sum_mono}
use Rattle.laws.proofs.Chain.{Mono}
use Rattle.laws.proofs.Search.{finds_least, finds_none}
use Rattle.bound.specs.Terms.{Share, Terms}
use Rattle.bound.specs.Bound.{E, demand, side_L, side_W, busy}
use Rattle.bound.specs.Claims.{Sound, BusyIsLeast, NoneExactly}

pub E-mono : (r : Terms) → Mono (E r)
unfolding E
E-mono r x y h = mul-le-mul_right _ (sum_mono (λ N. ceil_mono N h) r.gaps)

pub demand_mono : (js : List Share) → Mono (demand js)
unfolding demand
demand_mono js x y h = sum_mono (λ j. mul-le-mul_right _ (ceil_mono j.T (omega arith))) js

-- i's own share apart from that of hp(i)
pub demand_own : (i : Share) (js : List Share) (x : ℕ) → demand (i ∷ js) x ≡ ceil (x + i.J) i.T * i.C'' + demand js x
unfolding demand sum_of
demand_own i js x = refl

pub side_L_mono : (r : Terms) → Mono (side_L r)
unfolding side_L
side_L_mono r x y h = omega (arith, demand_mono (r.own ∷ r.urgent) x y h, E-mono r x y h)

pub side_W_mono : (r : Terms) (q : ℕ) → Mono (side_W r q)
unfolding side_W
side_W_mono r q x y h =
    omega (arith, demand_mono r.urgent (x + r.late + 1) (y + r.late + 1) (omega arith), E-mono r (x + r.own.C'') (y + r.own.C'') (omega arith))

-- i's own share of L's right side is C'' at least
pub own_first : (r : Terms) → Sound r → (x : ℕ) → 1 ≤ x → r.own.C'' ≤ ceil (x + r.own.J) r.own.T * r.own.C''
own_first r s x h =
    omega (arith, mul-le-mul_right r.own.C'' (ceil_pos (x + r.own.J) r.own.T s.period (omega arith)))

pub side_L_pos : (r : Terms) → Sound r → 1 ≤ side_L r 1
unfolding side_L
side_L_pos r s = omega (arith, s.late, own_first r s 1 (omega arith), demand_own r.own r.urgent 1)

pub busy_is_least : BusyIsLeast
unfolding busy
busy_is_least r L =
    let f = finds_least (side_L r) 1 ticks L in
    (λ e. (omega (arith, (f.0 e).0), (f.0 e).1), λ h. f.1 (omega (arith, h.0), h.1))

pub none_exactly : NoneExactly
unfolding busy
none_exactly r =
    let f = finds_none (side_L r) 1 ticks in
    (λ e L a b. f.0 e L a (omega arith), λ h. f.1 (λ L a b. h L a (omega arith)))
