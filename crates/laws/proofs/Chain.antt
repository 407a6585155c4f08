-- The chain s, f s, f (f s), .. of a function that never falls, once for every such function: it finds the least fixed point from s on, or
-- shows that there is none in range. Assumes nothing.
use mathlib.Core.Path.{◌≡◌, refl, sym, ◌∙◌}
use mathlib.Core.Logic.{⊎_elim}
use Prim.Native.Nat.{ℕ, zero, suc, ◌+◌, ◌-◌, ◌≤◌, ◌<◌}
use native.Mathlib.Nat.{le_refl, le_trans, le_antisymm, lt_of_not-le, eq-or-lt_of_le}
use native.Mathlib.Omega.{arith}
use native.Mathlib.Decide.{dec_le}
use Rattle.std.specs.Prelude.{Option, Some, None}
use Rattle.laws.specs.Search.{first_fixed, Least}
use Rattle.laws.proofs.Search.{finds_least, finds_none, le_unless}

-- f never falls
abbrev pub Mono : (ℕ → ℕ) → Type 0
Mono f = (x y : ℕ) → x ≤ y → f x ≤ f y

-- no fixed point of f is among lo .. x - 1
abbrev pub Clear : (ℕ → ℕ) → ℕ → ℕ → Type 0
Clear f lo x = (y : ℕ) → lo ≤ y → y < x → f y ≡ y → ⊥

-- ---- a loop that runs the chain: x is reached, nothing was passed, and the next is no lower
pub record Climb (f : ℕ → ℕ) (lo x : ℕ) : Type 0 where
  pub above : lo ≤ x
  pub clear : Clear f lo x
  pub rises : x ≤ f x

pub climb_start : (f : ℕ → ℕ) (lo : ℕ) → lo ≤ f lo → Climb f lo lo
climb_start f lo h = record { above = le_refl lo; clear = λ y a b e. omega arith; rises = h }

pub climb_more : (f : ℕ → ℕ) → Mono f → (lo x y : ℕ) → y ≡ f x → Climb f lo x → Climb f lo y
climb_more f m lo x y e c =
    rw e (record { above = le_trans c.above c.rises; clear = passed; rises = m x (f x) c.rises })
  where
    passed : Clear f lo (f x)
    passed y a b e = elim (dec_le x y) [ yes h ↦ omega (arith, m x y h) | no h ↦ c.clear y a (lt_of_not-le h) e ]

-- it stands still: there is the least fixed point
pub climb_least : (f : ℕ → ℕ) (lo x : ℕ) → f x ≡ x → Climb f lo x → Least f lo x
climb_least f lo x e c = record { above = c.above; fixed = e; least = λ y a g. le_unless (λ b. c.clear y a b g) }

pub climb_found : (f : ℕ → ℕ) (lo n x y : ℕ) → y ≡ f x → y ≡ x → x < lo + n → Climb f lo x → first_fixed f lo n ≡ Some x
climb_found f lo n x y e d h c = (finds_least f lo n x).1 (h, climb_least f lo x (sym e ∙ d) c)

-- it has passed the last number: there is none
pub climb_none : (f : ℕ → ℕ) (lo n x : ℕ) → lo + n ≤ x → Climb f lo x → first_fixed f lo n ≡ None
climb_none f lo n x h c = (finds_none f lo n).1 (λ y a b g. c.clear y a (omega arith) g)

-- ---- where f does not rise at z, the chain from s ≤ z stays at or below z, and there is a fixed point there
pub stays : (f : ℕ → ℕ) → Mono f → (x z : ℕ) → x ≤ z → f z ≤ z → f x ≤ z
stays f m x z h k = le_trans (m x z h) k

settles : (f : ℕ → ℕ) → Mono f → (k s z : ℕ) → z - s ≤ k → s ≤ f s → s ≤ z → f z ≤ z → (x : ℕ) × (s ≤ x) × (x ≤ z) × (f x ≡ x)
settles f m zero s z h r a d = (s, le_refl s, a, omega (arith, m s z a))
settles f m (suc k) s z h r a d =
    ⊎_elim (λ e. (s, le_refl s, a, sym e))
    (λ l. let (x, p, q, e) = settles f m k (f s) z (omega arith) (m s (f s) r) (stays f m s z a d) d in (x, le_trans r p, q, e))
    (eq-or-lt_of_le r)

pub settled : (f : ℕ → ℕ) → Mono f → (s n z : ℕ) → s ≤ f s → s ≤ z → z < s + n → f z ≤ z → (x : ℕ) × (first_fixed f s n ≡ Some x) × (x ≤ z) × Least f s x
settled f m s n z r a b d = go (first_fixed f s n) refl
  where
    go : (g : Option ℕ) → first_fixed f s n ≡ g → (x : ℕ) × (first_fixed f s n ≡ Some x) × (x ≤ z) × Least f s x
    go (Some x) e =
        let h = (finds_least f s n x).0 e in
        let (y, p, q, g) = settles f m (z - s) s z (le_refl _) r a d in
        (x, e, le_trans (h.1.least y p g) q, h.1)
    go None e =
        let (y, p, q, g) = settles f m (z - s) s z (le_refl _) r a d in
        absurd ((finds_none f s n).0 e y p (omega arith) g)

-- the least fixed point is below every point that f does not push up
pub least_below : (f : ℕ → ℕ) → Mono f → (s x z : ℕ) → s ≤ f s → Least f s x → s ≤ z → f z ≤ z → x ≤ z
least_below f m s x z r l a d =
    let (y, p, q, g) = settles f m (z - s) s z (le_refl _) r a d in le_trans (l.least y p g) q

-- .. and so is the whole chain
pub climb_below : (f : ℕ → ℕ) → Mono f → (s x z : ℕ) → s ≤ f s → Climb f s x → s ≤ z → f z ≤ z → x ≤ z
climb_below f m s x z r c a d =
    let (y, p, q, g) = settles f m (z - s) s z (le_refl _) r a d in le_unless (λ h. c.clear y p (omega arith) g)

-- the search may start anywhere between s and the least fixed point from s on
pub least_later : (f : ℕ → ℕ) (s t x : ℕ) → Least f s x → s ≤ t → t ≤ x → Least f t x
least_later f s t x l a b = record { above = b; fixed = l.fixed; least = λ y c e. l.least y (le_trans a c) e }

-- two functions that agree from s on have one least fixed point there
pub least_agrees : (f g : ℕ → ℕ) (s x y : ℕ) → ((z : ℕ) → s ≤ z → f z ≡ g z) → Least f s x → Least g s y → x ≡ y
least_agrees f g s x y e a b =
    le_antisymm (a.least y b.above (e y b.above ∙ b.fixed)) (b.least x a.above (sym (e x a.above) ∙ a.fixed))
