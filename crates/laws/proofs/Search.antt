-- What the search for the first number means. Assumes nothing.
use mathlib.Core.Path.{◌≡◌, refl, sym, ap, ◌∙◌, subst}
use mathlib.Core.Bool.{Bool, true, false}
use mathlib.Core.Logic.{⊎_elim}
use Prim.Native.Nat.{ℕ, zero, suc, ◌+◌, ◌≤◌, ◌<◌}
use native.Mathlib.Nat.{le_refl, le_antisymm, lt_of_not-le, eq-or-lt_of_le}
use native.Mathlib.Omega.{arith}
use native.Mathlib.Decide.{dec_le}
use borrow.Author.Tests.{eqb-true, eq-eqb}
use lib.Dec.{T, eqb}
use Rattle.std.specs.Prelude.{Option, Some, None}
use Rattle.laws.specs.Search.{first, first_fixed, Least, FindsLeast, FindsNone}

-- what an answer of the search says
abbrev Seen : (ℕ → Bool) → ℕ → ℕ → Option ℕ → Type 0
Seen t lo n (Some x) = (lo ≤ x) × (x < lo + n) × (t x ≡ true) × ((y : ℕ) → lo ≤ y → y < x → t y ≡ true → ⊥)
Seen t lo n None = (y : ℕ) → lo ≤ y → y < lo + n → t y ≡ true → ⊥

tf : {b : Bool} → b ≡ true → b ≡ false → ⊥
tf p q = subst T (sym p ∙ q) tt

pub le_unless : {x y : ℕ} → (y < x → ⊥) → x ≤ y
le_unless {x} {y} h = elim (dec_le x y) [ yes p ↦ p | no p ↦ absurd (h (lt_of_not-le p)) ]

-- one number more, in front
more : (t : ℕ → Bool) (n lo : ℕ) (b : Bool) → t lo ≡ b → (r : Option ℕ) → Seen t (suc lo) n r → Seen t lo (suc n) (elim b [ true ↦ Some lo | false ↦ r ])
more t n lo true q r s = (le_refl lo, omega arith, q, λ y a b. absurd (omega arith))
more t n lo false q (Some x) s =
    (omega arith, omega arith, s.2, λ y a b e. ⊎_elim (λ d. tf (ap t d ∙ e) q) (λ d. s.3 y d b e) (eq-or-lt_of_le a))
more t n lo false q None s = λ y a b e. ⊎_elim (λ d. tf (ap t d ∙ e) q) (λ d. s y d (omega arith) e) (eq-or-lt_of_le a)

seen : (t : ℕ → Bool) (n lo : ℕ) → Seen t lo n (first t lo n)
unfolding first
seen t zero lo = λ y a b e. omega arith
seen t (suc n) lo = more t n lo (t lo) refl (first t (suc lo) n) (seen t n (suc lo))

-- no two answers say the same
seen_one : (t : ℕ → Bool) (n lo : ℕ) (r s : Option ℕ) → Seen t lo n r → Seen t lo n s → r ≡ s
seen_one t n lo (Some x) (Some y) a b = ap Some (le_antisymm (le_unless (λ h. a.3 y b.0 h b.2)) (le_unless (λ h. b.3 x a.0 h a.2)))
seen_one t n lo (Some x) None a b = absurd (b x a.0 a.1 a.2)
seen_one t n lo None (Some x) a b = absurd (a x b.0 b.1 b.2)
seen_one t n lo None None a b = refl

-- the first that passes is found
pub first_is : (t : ℕ → Bool) (lo n x : ℕ) → lo ≤ x → x < lo + n → t x ≡ true → ((y : ℕ) → lo ≤ y → y < x → t y ≡ true → ⊥) → first t lo n ≡ Some x
first_is t lo n x a b e f = seen_one t n lo (first t lo n) (Some x) (seen t n lo) (a, b, e, f)

pub finds_least : FindsLeast
finds_least f lo n x = (to, from)
  where
    to : first_fixed f lo n ≡ Some x → (x < lo + n) × Least f lo x
    to e =
        let s = subst (Seen (λ x. eqb (f x) x) lo n) e (seen (λ x. eqb (f x) x) n lo) in
        (s.1, record { above = s.0; fixed = eqb-true _ _ s.2; least = λ y a g. le_unless (λ b. s.3 y a b (eq-eqb _ _ g)) })

    from : (x < lo + n) × Least f lo x → first_fixed f lo n ≡ Some x
    from h = first_is (λ x. eqb (f x) x) lo n x h.1.above h.0 (eq-eqb _ _ h.1.fixed) (λ y a b g. omega (arith, h.1.least y a (eqb-true _ _ g)))

pub finds_none : FindsNone
finds_none f lo n = (
  λ e y a b g. subst (Seen (λ x. eqb (f x) x) lo n) e (seen (λ x. eqb (f x) x) n lo) y a b (eq-eqb _ _ g),
  λ h. seen_one (λ x. eqb (f x) x) n lo _ None (seen (λ x. eqb (f x) x) n lo) (λ y a b g. h y a b (eqb-true _ _ g)),
)
