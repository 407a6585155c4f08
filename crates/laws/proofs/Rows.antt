-- What `some` and `first` mean, by induction on how many rows are looked at; and the turns of a loop that looks at them.
-- Assumes nothing.
use mathlib.Core.Path.{◌≡◌, refl, sym, ap, ◌∙◌, subst}
use mathlib.Core.Bool.{Bool, true, false, ◌||◌, true≢false}
use mathlib.Core.Logic.{◌⊎◌, inl, inr, ⊎_elim}
use Prim.Native.Nat.{ℕ, zero, suc, ◌+◌, ◌≤◌, ◌<◌}
use native.Mathlib.Nat.{le_refl, le_antisymm, eq-or-lt_of_le, lt_of_not-le}
use native.Mathlib.Decide.{dec_le}
use native.Mathlib.Numerals.{add-one}
use native.Mathlib.Omega.{arith}
use borrow.Author.Count.{below_none, below_more}
use Rattle.std.specs.Prelude.{Option, Some, None}
use Rattle.laws.specs.Search.{first}
use Rattle.laws.specs.Rows.{some, Lowest, SomePasses, FindsLowest, FindsNothing}

pub is_false : (b : Bool) → (b ≡ true → ⊥) → b ≡ false
is_false true h = absurd (h refl)
is_false false h = refl

-- ---- some row passes
or_split : (x y : Bool) → x || y ≡ true → (x ≡ true) ⊎ (y ≡ true)
or_split true y e = inl refl
or_split false y e = inr e

or_right : (x y : Bool) → y ≡ true → x || y ≡ true
or_right true y e = refl
or_right false y e = e

or_false : (x : Bool) → x ≡ x || false
or_false true = refl
or_false false = refl

passing : (t : ℕ → Bool) (n : ℕ) → some t n ≡ true → (i : ℕ) × (i < n) × (t i ≡ true)
unfolding some
passing t zero e = absurd (true≢false (sym e))
passing t (suc n) e =
    ⊎_elim (λ h. let (i, l, p) = passing t n h in (i, omega arith, p)) (λ h. (n, omega arith, h)) (or_split (some t n) (t n) e)

passed : (t : ℕ → Bool) (n i : ℕ) → i < n → t i ≡ true → some t n ≡ true
unfolding some
passed t zero i h e = absurd (omega arith)
passed t (suc n) i h e =
    ⊎_elim
    (λ (q : i ≡ n). or_right (some t n) (t n) (rw q at e))
    (λ l. rw (passed t n i l e) refl)
    (eq-or-lt_of_le {n = i} {m = n} (omega arith))

pub some_passes : SomePasses
some_passes t n = (passing t n, λ (i, l, e). passed t n i l e)

-- ---- the lowest that passes
-- what an answer of the search says
abbrev Said : (ℕ → Bool) → ℕ → ℕ → Option ℕ → Type 0
Said t lo n (Some x) = Lowest t lo n x
Said t lo n None = (y : ℕ) → lo ≤ y → y < lo + n → t y ≡ false

-- one number more, in front
more : (t : ℕ → Bool) (n lo : ℕ) (b : Bool) → t lo ≡ b → (r : Option ℕ) → Said t (suc lo) n r → Said t lo (suc n) (elim b [ true ↦ Some lo | false ↦ r ])
more t n lo true q r s = record { above = le_refl lo; below = omega arith; passes = q; lowest = λ y a b. absurd (omega arith) }
more t n lo false q (Some x) s =
    record {
      above = omega (arith, s.above);
      below = omega (arith, s.below);
      passes = s.passes;
      lowest = λ y a b. ⊎_elim (λ (e : lo ≡ y). rw (← e) q) (λ h. s.lowest y h b) (eq-or-lt_of_le a);
    }
more t n lo false q None s = λ y a b. ⊎_elim (λ (e : lo ≡ y). rw (← e) q) (λ h. s y h (omega arith)) (eq-or-lt_of_le a)

said : (t : ℕ → Bool) (n lo : ℕ) → Said t lo n (first t lo n)
unfolding first
said t zero lo = λ y a b. absurd (omega arith)
said t (suc n) lo = more t n lo (t lo) refl (first t (suc lo) n) (said t n (suc lo))

-- no two answers say the same
pub not_below : {b : Bool} {x y : ℕ} → b ≡ true → (y < x → b ≡ false) → x ≤ y
not_below {b} {x} {y} p f = elim (dec_le x y) [ yes h ↦ h | no h ↦ absurd (true≢false (sym p ∙ f (lt_of_not-le h))) ]

one : (t : ℕ → Bool) (n lo : ℕ) (r s : Option ℕ) → Said t lo n r → Said t lo n s → r ≡ s
one t n lo (Some x) (Some y) a b =
    ap Some (le_antisymm (not_below b.passes (a.lowest y b.above)) (not_below a.passes (b.lowest x a.above)))
one t n lo (Some x) None a b = absurd (true≢false (sym a.passes ∙ b x a.above a.below))
one t n lo None (Some x) a b = absurd (true≢false (sym b.passes ∙ a x b.above b.below))
one t n lo None None a b = refl

pub finds_lowest : FindsLowest
finds_lowest t lo n x = (λ e. subst (Said t lo n) e (said t n lo), λ h. one t n lo _ (Some x) (said t n lo) h)

pub finds_nothing : FindsNothing
finds_nothing t lo n = (λ e. subst (Said t lo n) e (said t n lo), λ h. one t n lo _ None (said t n lo) h)

-- ---- a loop that leaves at the first row that passes: what it knows of the rows behind it
abbrev pub NoneBelow : (ℕ → Bool) → ℕ → Type 0
NoneBelow t i = (k : ℕ) → k < i → t k ≡ false

pub none_yet : (t : ℕ → Bool) → NoneBelow t 0
none_yet t = below_none (λ k. t k ≡ false)

pub none_more : (t : ℕ → Bool) (i : ℕ) → NoneBelow t i → t i ≡ false → NoneBelow t (i + 1)
none_more t = below_more (λ k. t k ≡ false)

pub found_at : (t : ℕ → Bool) (n i : ℕ) → NoneBelow t i → i < n → t i ≡ true → first t 0 n ≡ Some i
found_at t n i h l e = (finds_lowest t 0 n i).1 (record { above = omega arith; below = omega arith; passes = e; lowest = λ y a b. h y b })

pub found_none : (t : ℕ → Bool) (n i : ℕ) → NoneBelow t i → n ≤ i → first t 0 n ≡ None
found_none t n i h l = (finds_nothing t 0 n).1 (λ y a b. h y (omega arith))

pub some_at : (t : ℕ → Bool) (n i : ℕ) → i < n → t i ≡ true → some t n ≡ true
some_at = passed

pub some_none : (t : ℕ → Bool) (n i : ℕ) → NoneBelow t i → n ≤ i → some t n ≡ false
some_none t n i h l = is_false (some t n) (λ e. let (k, b, p) = passing t n e in true≢false (sym p ∙ h k (omega arith)))

-- ---- a loop that looks at every row and keeps in a flag whether one passed
pub flag_none : (t : ℕ → Bool) → false ≡ some t 0
unfolding some
flag_none t = refl

pub flag_up : (t : ℕ → Bool) (i : ℕ) {b : Bool} → t i ≡ true → b ≡ true → b ≡ some t (i + 1)
flag_up t i e d = d ∙ sym (some_at t (i + 1) i (omega arith) e)

pub flag_kept : (t : ℕ → Bool) (i : ℕ) {a b : Bool} → a ≡ some t i → t i ≡ false → b ≡ a → b ≡ some t (i + 1)
unfolding some
flag_kept t i h e d = d ∙ h ∙ rw (add-one, e) (or_false (some t i))
