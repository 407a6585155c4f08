-- A stream alone on the channel whose messages come as fast as they are sent: the values of its chain in closed form, and so how many there are. Assumes nothing.
use mathlib.Core.Path.{◌≡◌, refl, sym, ap, ◌∙◌}
use Prim.Native.Nat.{ℕ, zero, suc, ◌+◌, ◌-◌, ◌*◌, ◌/◌, ◌≤◌, ◌<◌}
use native.Mathlib.Nat.{le_refl, le_trans, zero-mul, one-mul, suc-mul, mul-le-mul_right, mul-add-div_right, lt-div-mul-add, div-mul-le_self}
use native.Mathlib.Omega.{arith}
use mathlib.Core.Logic.{inr}
use Rattle.names.specs.Limits.{ticks}
use Rattle.laws.specs.Lists.{ceil}
use Rattle.std.specs.Prelude.{None}
use Rattle.laws.proofs.Round.{ceil_pos, ceil_at_most}
use Rattle.bound.specs.Terms.{Terms}
use Rattle.bound.specs.Bound.{side_L, busy}
use Rattle.bound.specs.Claims.{Sound}
use Rattle.bound.specs.Evaluations.{chain, evaluations, Full, FullLate, FullBlocked}
use Rattle.bound.proofs.Sides.{demand_own}
use Rattle.bound.proofs.Alone.{no_demand, no_noise}
use Rattle.bound.proofs.Evaluations.{counts_to_last, ends_beyond}

-- k periods and a part of one, or one more, are k + 1 periods
ceil_past : (c k d : ℕ) → 1 ≤ d → d ≤ c → ceil (k * c + d) c ≡ k + 1
ceil_past c k d h l =
    let e : k * c + d + (c - 1) ≡ k * c + (d + (c - 1)) = omega arith in
    let one : ceil d c ≡ 1 = omega (arith, ceil_pos d c (omega arith) h, ceil_at_most d 1 c (omega arith) (omega (arith, one-mul c))) in
    ap (λ z. z / c) e ∙ mul-add-div_right (omega arith) k (d + (c - 1)) ∙ ap (◌+◌ k) one

-- ---- a chain that goes on by c from c + e
module _ (r : Terms) (s : Sound r) (c e : ℕ) (some : 1 ≤ c) (one : 1 ≤ e) (small : e ≤ ticks) (first : side_L r 1 ≡ c + e)
    (goes : (k : ℕ) → side_L r (suc k * c + e) ≡ suc (suc k) * c + e) where
  values : (k : ℕ) → chain r (suc k) ≡ suc k * c + e
  unfolding chain
  values zero = first ∙ omega (arith, one-mul c)
  values (suc k) = ap (side_L r) (values k) ∙ goes k

  abbrev last : ℕ
  last = (ticks - e) / c

  -- each is new, ..
  before : (k : ℕ) → suc (suc k) - 1 ≡ suc k
  before k = omega arith

  starts : chain r (1 - 1) ≡ 1
  unfolding chain
  starts = refl

  new : (k : ℕ) → 1 ≤ k → chain r k ≡ chain r (k - 1) → ⊥
  new zero h d = omega arith
  new (suc zero) h d = omega (arith, values 0, one-mul c, d, starts)
  new (suc (suc k)) h d = omega (arith, values (suc k), values k, suc-mul (suc k) c, d, ap (chain r) (before k))

  -- .. and within the limit but for the last
  within : (k : ℕ) → k < suc last → chain r k ≤ ticks
  unfolding chain
  within zero h = omega arith
  within (suc k) h =
      let less : suc k * c ≤ last * c = mul-le-mul_right {m = suc k} {n = last} c (omega arith) in
      omega (arith, values k, div-mul-le_self (ticks - e) c)

  beyond : ticks < chain r (suc last)
  beyond = omega (arith, values last, suc-mul last c, lt-div-mul-add {a = ticks - e} some)

  pub steady : (busy r ≡ None) × (evaluations r ≡ last + 1)
  steady =
      let e = (counts_to_last r s (suc last)).1 (record { some = omega arith; ends = inr beyond; new = λ k h l. new k h; within = within }) in
      ((ends_beyond r s).1 (rw e beyond), e ∙ omega arith)

-- ---- a stream alone, whose T is its C''
module _ (r : Terms) (s : Sound r) (f : Full r) where
  abbrev c : ℕ
  c = r.own.C''

  some : 1 ≤ c
  some = omega (arith, s.late)

  -- its right side has its own share alone
  side_alone : (x : ℕ) → side_L r x ≡ r.B + ceil (x + r.own.J) c * c
  unfolding side_L
  side_alone x =
      omega (arith, demand_own r.own r.urgent x, no_demand r f.nobody x, no_noise r f.quiet x, ap (λ t. ceil (x + r.own.J) t * c) f.period)

  -- at x, which is J less than k periods and a part of one
  side_at : (x k d : ℕ) → x + r.own.J ≡ k * c + d → 1 ≤ d → d ≤ c → side_L r x ≡ r.B + (k * c + c)
  side_at x k d e h l =
      let n : ceil (x + r.own.J) c ≡ suc k = ap (λ z. ceil z c) e ∙ ceil_past c k d h l ∙ omega arith in
      side_alone x ∙ ap (λ m. r.B + m * c) n ∙ ap (◌+◌ r.B) (suc-mul k c)

pub full_late : FullLate
full_late r s f b j =
    let c = r.own.C'' in
    let more : 1 * c + (ticks - c) ≡ ticks = omega (arith, one-mul c, f.small) in
    let less : ticks / c ≡ 1 + (ticks - c) / c = ap (λ z. z / c) (sym more) ∙ mul-add-div_right (some r s f) 1 (ticks - c) in
    let (none, number) = steady r s c c (some r s f) (some r s f) f.small
    (side_at r s f 1 1 1 (omega (arith, j, one-mul c)) (omega arith) (some r s f) ∙ omega (arith, b, one-mul c))
    (λ k. side_at r s f (suc k * c + c) (suc (suc k)) c (omega (arith, j, suc-mul (suc k) c)) (some r s f) (le_refl c) ∙ omega (arith, b)) in
    (none, number ∙ omega (arith, less))

pub full_blocked : FullBlocked
full_blocked r s f j h l =
    let c = r.own.C'' in
    steady r s c r.B (some r s f) h (le_trans l f.small)
    (side_at r s f 1 0 1 (omega (arith, j, zero-mul c)) (omega arith) (some r s f) ∙ omega (arith, zero-mul c))
    (λ k. side_at r s f (suc k * c + r.B) (suc k) r.B (omega (arith, j)) h l ∙ omega (arith, suc-mul (suc k) c))
