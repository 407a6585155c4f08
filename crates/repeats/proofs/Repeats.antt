-- What the lowest repeat means: `first` and `some` mean what they say, and the values are compared as numbers.
-- Assumes nothing.
use mathlib.Core.Path.{◌≡◌, refl, sym, ap, ◌∙◌}
use mathlib.Core.Bool.{true, true≢false}
use mathlib.Core.List.{List}
use mathlib.Core.Logic.{⊎_elim}
use Prim.Native.Nat.{ℕ, ◌≤◌, ◌<◌}
use native.Mathlib.Nat.{eq-or-lt_of_le, lt_of_not-le}
use native.Mathlib.Decide.{dec_le}
use native.Mathlib.Omega.{arith}
use borrow.Author.Tests.{eqb-true, eq-eqb}
use lib.Dec.{eqb}
use lib.ListN.{length, get_or}
use Rattle.names.specs.declared.Row.{Row}
use Rattle.std.specs.Prelude.{Option, Some, None}
use Rattle.repeats.specs.Repeats.{repeats_at, as_row, first_repeat, Repeats, AtTheLowest, NothingIfDistinct}
use Rattle.laws.proofs.Rows.{is_false, not_below, some_passes, finds_lowest, finds_nothing}

repeats : (xs : List ℕ) (i : ℕ) → i < length xs → repeats_at xs i ≡ true → Repeats xs i
repeats xs i h e =
    let (j, l, s) = (some_passes (λ j. eqb (get_or xs j 0) (get_or xs i 0)) i).0 e in
    record { j = j; earlier = l; among = h; same = eqb-true _ _ s }

repeated : (xs : List ℕ) (i : ℕ) → Repeats xs i → repeats_at xs i ≡ true
repeated xs i r = (some_passes (λ j. eqb (get_or xs j 0) (get_or xs i 0)) i).1 (r.j, r.earlier, eq-eqb _ _ r.same)

-- a row comes from the number that was found
pub at_found : (f : Option ℕ) (r : Row) → as_row f ≡ Some r → f ≡ Some r.0
at_found (Some i) r e = let q : ◌≡◌ {A = Row} (record { 0 = i }) r = cc in ap (λ (x : Row). Some x.0) q
at_found None r e = absurd (let z : ◌≡◌ {A = ℕ} 0 1 = cc in omega arith)

pub nothing_found : (f : Option ℕ) → as_row f ≡ None → f ≡ None
nothing_found (Some i) e = absurd (let z : ◌≡◌ {A = ℕ} 0 1 = cc in omega arith)
nothing_found None e = refl

pub at_the_lowest : AtTheLowest
unfolding first_repeat
at_the_lowest xs r = (to, from)
  where
    to : first_repeat xs ≡ Some r → Repeats xs r.0 × ((i : ℕ) → Repeats xs i → r.0 ≤ i)
    to e =
        let l = (finds_lowest (repeats_at xs) 0 (length xs) r.0).0 (at_found _ r e) in
        (repeats xs r.0 (omega (arith, l.below)) l.passes, λ i p. not_below (repeated xs i p) (l.lowest i (omega arith)))

    from : Repeats xs r.0 × ((i : ℕ) → Repeats xs i → r.0 ≤ i) → first_repeat xs ≡ Some r
    from h =
        ap as_row
        ((finds_lowest (repeats_at xs) 0 (length xs) r.0).1
        (record {
          above = omega arith;
          below = omega (arith, h.0.among);
          passes = repeated xs r.0 h.0;
          lowest = λ i a b. is_false (repeats_at xs i) (λ e. omega (arith, h.0.among, h.1 i (repeats xs i (omega (arith, h.0.among)) e)));
        }))

pub nothing_if_distinct : NothingIfDistinct
unfolding first_repeat
nothing_if_distinct xs = (to, from)
  where
    to : first_repeat xs ≡ None → (i j : ℕ) → i < length xs → j < length xs → get_or xs i 0 ≡ get_or xs j 0 → i ≡ j
    to e i j a b s =
        let none = (finds_nothing (repeats_at xs) 0 (length xs)).0 (nothing_found _ e) in
        let apart : (k l : ℕ) → k < l → l < length xs → get_or xs k 0 ≡ get_or xs l 0 → ⊥ =
        λ k l p q r. true≢false (sym (repeated xs l (record { j = k; earlier = p; among = q; same = r })) ∙ none l (omega arith) (omega arith)) in
        elim (dec_le i j) [
          | yes h ↦ ⊎_elim (λ q. q) (λ l. absurd (apart i j l b s)) (eq-or-lt_of_le h)
          | no h ↦ absurd (apart j i (lt_of_not-le h) a (sym s))
        ]

    from : ((i j : ℕ) → i < length xs → j < length xs → get_or xs i 0 ≡ get_or xs j 0 → i ≡ j) → first_repeat xs ≡ None
    from h =
        ap as_row
        ((finds_nothing (repeats_at xs) 0 (length xs)).1
        (λ i a b. is_false (repeats_at xs i) (λ e. let p = repeats xs i (omega arith) e in omega (arith, p.earlier, h p.j i (omega (arith, p.earlier)) (omega arith) p.same))))
