-- When terms cover other terms, and what then carries over; proved in proofs/.
use Rattle.std.specs.Prelude.{◌≡◌, List, [], ◌∷◌, ◌++◌, ◌↔◌, ℕ, ◌≤◌, ◌<◌, length, get_or}
use Rattle.std.specs.Prelude.{Some}
use Rattle.bound.specs.Terms.{Share, Terms}
use Rattle.bound.specs.Bound.{busy, bound}
use Rattle.bound.specs.Claims.{Sound}

-- each of a list has its own partner in another list: x's partner y is taken out before the rest look for theirs
unfoldable pub Partnered : {A : Type 0} → (A → A → Type 0) → List A → List A → Type 0
Partnered R [] ys = Unit {0}
Partnered {A} R (x ∷ xs) ys = (us : List A) × (y : A) × (vs : List A) × (ys ≡ us ++ y ∷ vs) × R x y × Partnered R xs (us ++ vs)

-- an injection: each place of one list has a place of the other, with a partner there, and no two have the same
pub record Injection {A : Type 0} (R : A → A → Type 0) (d : A) (xs ys : List A) : Type 0 where
  pub place : ℕ → ℕ
  pub within : (i : ℕ) → i < length xs → place i < length ys
  pub partner : (i : ℕ) → i < length xs → R (get_or xs i d) (get_or ys (place i) d)
  pub own : (i j : ℕ) → i < length xs → j < length xs → place i ≡ place j → i ≡ j

-- own partners are exactly an injection, whatever makes a partner; d only stands past the end of a list
abbrev pub PartneredExactly : Type 1
PartneredExactly = (A : Type 0) (R : A → A → Type 0) (d : A) (xs ys : List A) → Partnered R xs ys ↔ Injection R d xs ys

-- a share is no heavier than its partner: cost and jitter no greater, period no shorter
pub record NoHeavier (x y : Share) : Type 0 where
  pub some : 1 ≤ y.T
  pub cost : x.C'' ≤ y.C''
  pub period : y.T ≤ x.T
  pub jitter : x.J ≤ y.J

-- a gap is no shorter than its partner
pub record NoShorter (x y : ℕ) : Type 0 where
  pub some : 1 ≤ y
  pub gap : y ≤ x

-- r covers s
pub record Covers (r s : Terms) : Type 0 where
  pub blocking : s.B ≤ r.B
  pub own : NoHeavier s.own r.own
  pub urgent : Partnered NoHeavier s.urgent r.urgent
  pub gaps : Partnered NoShorter s.gaps r.gaps
  pub hit : s.hit ≤ r.hit
  pub late : s.late ≤ r.late
  pub last : s.last ≤ r.last

-- what is covered has a busy period where the cover has one, and a bound that is no larger
abbrev pub CoveredKeeps : Type 0
CoveredKeeps =
    (r s : Terms) → Sound r → Sound s → Covers r s → (L : ℕ) → busy r ≡ Some L → (K : ℕ) × (busy s ≡ Some K) × (K ≤ L) × (bound s K ≤ bound r L)
