-- The first change: of two, of tests one after the other, and of n, with the turns of a loop that looks for it.
-- Assumes nothing.
use mathlib.Core.Path.{◌≡◌, refl, sym, ap, ◌∙◌}
use mathlib.Core.Bool.{Bool, true, false}
use mathlib.Core.Logic.{⊎_elim}
use Prim.Native.Nat.{ℕ, zero, suc, ◌+◌, ◌≤◌, ◌<◌}
use native.Mathlib.Nat.{suc_inj, eq-or-lt_of_le}
use native.Mathlib.Numerals.{add-one}
use native.Mathlib.Omega.{arith}
use borrow.Author.Tests.{leb-true, le-leb, lt-leb}
use lib.Dec.{leb}
use Rattle.std.specs.Prelude.{Result, Ok, Err}
use Rattle.compare.specs.declared.Reason.{Reason}
use Rattle.compare.specs.Changes.{must, ◌or◌, first_change}
use Rattle.compare.specs.Claims.{FirstChange, ChangeIfFirst, NothingIfNone}

-- the answers are of this type
abbrev pub Change : Type 0
Change = Result (Unit {0}) Reason

pub of_not_nothing : {r : Reason} → ◌≡◌ {A = Change} (Err r) (Ok tt) → ⊥
of_not_nothing e = let z : ◌≡◌ {A = ℕ} 0 1 = cc in omega arith

-- ---- the first of two
pub or_nothing : (a b : Result (Unit {0}) Reason) → a or b ≡ Ok tt → (a ≡ Ok tt) × (b ≡ Ok tt)
or_nothing (Err r) b e = absurd (of_not_nothing e)
or_nothing (Ok _) b e = (refl, e)

pub nothing_or : (a b : Result (Unit {0}) Reason) → a ≡ Ok tt → a or b ≡ b
nothing_or a b e = ap (λ c. c or b) e

pub of_or : (a b : Result (Unit {0}) Reason) (r : Reason) → a ≡ Err r → a or b ≡ Err r
of_or a b r e = ap (λ c. c or b) e

pub both_nothing : (a b : Result (Unit {0}) Reason) → a ≡ Ok tt → b ≡ Ok tt → a or b ≡ Ok tt
both_nothing a b e f = nothing_or a b e ∙ f

-- ---- what must hold
pub must_nothing : (t : Bool) (r : Reason) → must t r ≡ Ok tt → t ≡ true
must_nothing true r e = refl
must_nothing false r e = absurd (of_not_nothing e)

pub must_true : (t : Bool) (r : Reason) → t ≡ true → must t r ≡ Ok tt
must_true t r e = ap (λ b. must b r) e

pub must_false : (t : Bool) (r : Reason) → t ≡ false → must t r ≡ Err r
must_false t r e = ap (λ b. must b r) e

-- ---- tests of numbers one after the other: the first that fails is the change, if those before it pass
pub passes : (a b : ℕ) (r : Reason) → must (leb a b) r ≡ Ok tt → a ≤ b
passes a b r e = leb-true a b (must_nothing (leb a b) r e)

pub passes_then : (a b : ℕ) (r : Reason) (c : Result (Unit {0}) Reason) → must (leb a b) r or c ≡ Ok tt → (a ≤ b) × (c ≡ Ok tt)
passes_then a b r c e = let (h, d) = or_nothing (must (leb a b) r) c e in (passes a b r h, d)

pub no_reason : (a b : ℕ) (r : Reason) → a ≤ b → must (leb a b) r ≡ Ok tt
no_reason a b r h = must_true (leb a b) r (le-leb a b h)

pub a_reason : (a b : ℕ) (r : Reason) → b < a → must (leb a b) r ≡ Err r
a_reason a b r h = must_false (leb a b) r (lt-leb a b h)

pub pass : (a b : ℕ) (r : Reason) (c : Result (Unit {0}) Reason) {d : Result (Unit {0}) Reason} → a ≤ b → d ≡ c → d ≡ must (leb a b) r or c
pass a b r c h e = e ∙ sym (nothing_or (must (leb a b) r) c (no_reason a b r h))

pub fail : (a b : ℕ) (r : Reason) (c : Result (Unit {0}) Reason) → b < a → Err r ≡ must (leb a b) r or c
fail a b r c h = sym (of_or (must (leb a b) r) c r (a_reason a b r h))

-- ---- the first of n: nothing
none_of : (f : ℕ → Result (Unit {0}) Reason) (n : ℕ) → first_change f n ≡ Ok tt → (i : ℕ) → i < n → f i ≡ Ok tt
unfolding first_change
none_of f zero e i h = absurd (omega arith)
none_of f (suc n) e i h =
    let (a, b) = or_nothing (first_change f n) (f n) e in
    ⊎_elim (λ (d : suc i ≡ suc n). rw (suc_inj d) b) (λ l. none_of f n a i (omega arith)) (eq-or-lt_of_le h)

none_changes : (f : ℕ → Result (Unit {0}) Reason) (n : ℕ) → ((i : ℕ) → i < n → f i ≡ Ok tt) → first_change f n ≡ Ok tt
unfolding first_change
none_changes f zero h = refl
none_changes f (suc n) h = both_nothing (first_change f n) (f n) (none_changes f n (λ i l. h i (omega arith))) (h n (omega arith))

pub nothing_if_none : NothingIfNone
nothing_if_none f n = (none_of f n, none_changes f n)

-- ---- the first of n: a reason
-- the turns of a loop
pub change_none : (f : ℕ → Result (Unit {0}) Reason) → first_change f 0 ≡ Ok tt
unfolding first_change
change_none f = refl

pub change_more : (f : ℕ → Result (Unit {0}) Reason) (k : ℕ) → first_change f k ≡ Ok tt → f k ≡ Ok tt → first_change f (k + 1) ≡ Ok tt
unfolding first_change
change_more f k e d = rw add-one (both_nothing (first_change f k) (f k) e d)

pub change_here : (f : ℕ → Result (Unit {0}) Reason) (n k : ℕ) (r : Reason) → k < n → first_change f k ≡ Ok tt → f k ≡ Err r → first_change f n ≡ Err r
unfolding first_change
change_here f zero k r h e d = absurd (omega arith)
change_here f (suc n) k r h e d =
    ⊎_elim
    (λ (q : suc k ≡ suc n). rw (← suc_inj q) (nothing_or (first_change f k) (f k) e ∙ d))
    (λ l. of_or (first_change f n) (f n) r (change_here f n k r (omega arith) e d))
    (eq-or-lt_of_le h)

first_of : (f : ℕ → Result (Unit {0}) Reason) (n : ℕ) (r : Reason) → first_change f n ≡ Err r → FirstChange f n r
unfolding first_change
first_of f zero r e = absurd (of_not_nothing (sym e))
first_of f (suc n) r e = go (first_change f n) refl e (first_of f n r)
  where
    go : (c : Result (Unit {0}) Reason) → first_change f n ≡ c → c or f n ≡ Err r → (first_change f n ≡ Err r → FirstChange f n r) → FirstChange f (suc n) r
    go (Err q) d g more = let s = more (d ∙ g) in record { i = s.i; among = omega (arith, s.among); change = s.change; before = s.before }
    go (Ok _) d g more = record { i = n; among = omega arith; change = g; before = none_of f n d }

pub change_if_first : ChangeIfFirst
change_if_first f n r = (first_of f n r, λ s. change_here f n s.i r s.among (none_changes f s.i s.before) s.change)
