-- A full load has no busy period: d times the right side of L is the load times L at least, and more. Assumes nothing.
use mathlib.Core.Path.{◌≡◌, ap}
use mathlib.Core.Logic.{⊎_elim}
use mathlib.Core.List.{List, [], ◌∷◌}
use Prim.Native.Nat.{ℕ, ◌+◌, ◌-◌, ◌*◌, ◌/◌, ◌≤◌, ◌<◌}
use native.Mathlib.Nat.{le_of_eq, mul-le-mul_right, mul-le-mul_left, le-mul_of_pos_right, div-zero, div-mul-le_self, eq-zero-or-pos}
use native.Mathlib.Nat.{mul-add, add-mul, mul_assoc, mul_comm, mul_right_comm, zero-mul}
use native.Mathlib.Omega.{arith}
use Rattle.laws.specs.Lists.{ceil, sum_of}
use Rattle.laws.proofs.Round.{ceil_covers}
use Rattle.bound.specs.Terms.{Share}
use Rattle.bound.specs.Bound.{demand, side_L}
use Rattle.bound.proofs.Sides.{none_exactly}
use Rattle.figures.specs.Load.{asks, load, delayed, FullIsNone}

-- ceil(a / n) periods cover a, and d ticks hold floor(d / n) periods
part : (d a n : ℕ) → d / n * a ≤ d * ceil a n
part d a n = ⊎_elim (λ (e : n ≡ 0). rw (e, div-zero d, zero-mul) (omega arith)) go (eq-zero-or-pos n)
  where
    go : 1 ≤ n → d / n * a ≤ d * ceil a n
    go h =
        let covered : d / n * a ≤ d / n * (ceil a n * n) = mul-le-mul_left (d / n) (ceil_covers a n h) in
        let held : d / n * n * ceil a n ≤ d * ceil a n = mul-le-mul_right (ceil a n) (div-mul-le_self d n) in
        omega (arith, ap (◌*◌ (d / n)) (mul_comm (ceil a n) n), mul_assoc (d / n) n (ceil a n))

-- one stream
one : (d x : ℕ) (j : Share) → asks d j * x + asks d j * j.J ≤ d * (ceil (x + j.J) j.T * j.C'')
one d x j =
    let t = x + j.J in
    omega (
      arith,
      mul-add (asks d j) x j.J,
      mul_right_comm (d / j.T) j.C'' t,
      mul-le-mul_right j.C'' (part d t j.T),
      mul_assoc d (ceil t j.T) j.C'',
    )

-- all of them
each : (d x : ℕ) (js : List Share) → sum_of (asks d) js * x + sum_of (λ j. asks d j * j.J) js ≤ d * demand js x
unfolding sum_of demand
each d x [] = omega (arith, zero-mul x)
each d x (j ∷ js) =
    omega (
      arith,
      one d x j,
      each d x js,
      add-mul (asks d j) (sum_of (asks d) js) x,
      mul-add d (ceil (x + j.J) j.T * j.C'') (demand js x),
    )

-- over plain numbers: load s, delay r and demand f in d ticks
over : (d x s r f : ℕ) → 1 ≤ x → d ≤ s → d < s + r → s * x + r ≤ d * f → f ≤ x → ⊥
over d x s r f h a b k g =
    omega (arith, mul-le-mul_left d g, mul-le-mul_right x (le_of_eq back), add-mul (s - d) d x, le-mul_of_pos_right (s - d) h)
  where
    back : s - d + d ≡ s
    back = omega arith

pub full_is_none : FullIsNone
unfolding side_L load delayed
full_is_none r d h =
    (none_exactly r).1
    (λ L a b e. over d L (load r d) (delayed r d) (demand (r.own ∷ r.urgent) L) a h.all h.more (each d L (r.own ∷ r.urgent)) (omega (arith, e)))
