-- Laws of every table of refusals: one line; the first line that is given; tables after tables. Assumes nothing.
use mathlib.Core.Path.{◌≡◌, refl, sym, ap, ◌∙◌}
use mathlib.Core.Bool.{Bool, true, false}
use mathlib.Core.List.{List, [], ◌∷◌, ◌++◌}
use Prim.Native.Nat.{ℕ, zero, suc, ◌<◌}
use native.Mathlib.Omega.{arith}
use lib.ListN.{length}
use Rattle.names.specs.declared.Refusal.{Refusal}
use Rattle.std.specs.Prelude.{Option, Some, None, Ok, Err}
use Rattle.judge.specs.Table.{Checked}
use Rattle.names.specs.declared.Row.{Row}
use Rattle.laws.proofs.Tests.{apart}
use Rattle.judge.specs.Table.{Line, judge, unless_at, unless, row_in, ◌then◌, line_at, FirstGiven, RefusedByTheFirst, FineIfNone, JudgedInTurn}

-- ---- one line
pub given : (l : Line) (ls : List Line) (p : ℕ) → l.place ≡ Some p → judge (l ∷ ls) ≡ Err (record { number = l.number; place = p })
unfolding judge
given l ls p e = rw (judge, e) refl

pub passed : (l : Line) (ls : List Line) → l.place ≡ None → judge (l ∷ ls) ≡ judge ls
unfolding judge
passed l ls e = rw (judge, e) refl

pub nothing_given : judge [] ≡ Ok tt
unfolding judge
nothing_given = refl

pub refused_not_fine : {r : Refusal} → ◌≡◌ {A = Checked} (Err r) (Ok tt) → ⊥
refused_not_fine e = let z : ◌≡◌ {A = ℕ} 0 1 = cc in omega arith

-- what was not given, where the answer is fine
pub not_given : (l : Line) (ls : List Line) → judge (l ∷ ls) ≡ Ok tt → (l.place ≡ None) × (judge ls ≡ Ok tt)
not_given l ls e = go l.place refl
  where
    go : (f : Option ℕ) → l.place ≡ f → (l.place ≡ None) × (judge ls ≡ Ok tt)
    go (Some p) d = absurd (refused_not_fine (sym (given l ls p d) ∙ e))
    go None d = (d, sym (passed l ls d) ∙ e)

-- a test that is a line's passes where the line is not given, and a row that is its place was not found
pub unless_at_not : (place : ℕ) (t : Bool) → unless_at place t ≡ None → t ≡ true
unless_at_not place true e = refl
unless_at_not place false e = absurd (apart e)

pub unless_not : (t : Bool) → unless t ≡ None → t ≡ true
unless_not = unless_at_not 0

pub row_not : (r : Option Row) → row_in r ≡ None → r ≡ None
row_not (Some r) e = absurd (apart e)
row_not None e = refl

-- ---- the first line that is given
later : (l : Line) (ls : List Line) (r : Refusal) → l.place ≡ None → FirstGiven ls r → FirstGiven (l ∷ ls) r
later l ls r e g = record { i = suc g.i; among = omega (arith, g.among); number = g.number; place = g.place; before = before }
  where
    before : (j : ℕ) → j < suc g.i → (line_at (l ∷ ls) j).place ≡ None
    before zero h = e
    before (suc j) h = g.before j (omega arith)

first_of : (ls : List Line) (r : Refusal) → judge ls ≡ Err r → FirstGiven ls r
first_of [] r e = absurd (refused_not_fine (sym e ∙ nothing_given))
first_of (l ∷ ls) r e = go l.place refl (first_of ls r)
  where
    go : (f : Option ℕ) → l.place ≡ f → (judge ls ≡ Err r → FirstGiven ls r) → FirstGiven (l ∷ ls) r
    go (Some p) d more =
        let same : ◌≡◌ {A = Checked} (Err (record { number = l.number; place = p })) (Err r) = sym (given l ls p d) ∙ e in
        let q : ◌≡◌ {A = Refusal} (record { number = l.number; place = p }) r = cc in
        record { i = 0; among = omega arith; number = ap (λ (x : Refusal). x.number) q; place = d ∙ ap (λ (x : Refusal). Some x.place) q; before = λ j h. absurd (omega arith) }
    go None d more = later l ls r d (more (sym (passed l ls d) ∙ e))

first_given : (ls : List Line) (r : Refusal) (i : ℕ) → i < length ls → (line_at ls i).number ≡ r.number → (line_at ls i).place ≡ Some r.place
    → ((j : ℕ) → j < i → (line_at ls j).place ≡ None) → judge ls ≡ Err r
first_given [] r i h a b c = absurd (omega arith)
first_given (l ∷ ls) r zero h a b c = given l ls r.place b ∙ ap (λ n. Err (record { number = n; place = r.place })) a
first_given (l ∷ ls) r (suc i) h a b c =
    passed l ls (c 0 (omega arith)) ∙ first_given ls r i (omega arith) a b (λ j k. c (suc j) (omega arith))

pub refused_by_the_first : RefusedByTheFirst
refused_by_the_first ls r = (first_of ls r, λ g. first_given ls r g.i g.among g.number g.place g.before)

none_of : (ls : List Line) → judge ls ≡ Ok tt → (i : ℕ) → i < length ls → (line_at ls i).place ≡ None
none_of [] e i h = absurd (omega arith)
none_of (l ∷ ls) e zero h = (not_given l ls e).0
none_of (l ∷ ls) e (suc i) h = none_of ls (not_given l ls e).1 i (omega arith)

none_given : (ls : List Line) → ((i : ℕ) → i < length ls → (line_at ls i).place ≡ None) → judge ls ≡ Ok tt
none_given [] h = nothing_given
none_given (l ∷ ls) h = passed l ls (h 0 (omega arith)) ∙ none_given ls (λ i k. h (suc i) (omega arith))

pub fine_if_none : FineIfNone
fine_if_none ls = (none_of ls, none_given ls)

-- ---- a table after a table
pub judged_in_turn : JudgedInTurn
unfolding judge
judged_in_turn [] ls = refl
judged_in_turn (k ∷ ks) ls = go k.place refl (judged_in_turn ks ls)
  where
    go : (f : Option ℕ) → k.place ≡ f → judge (ks ++ ls) ≡ judge ks then judge ls → judge (k ∷ ks ++ ls) ≡ judge (k ∷ ks) then judge ls
    go (Some p) d more = given k (ks ++ ls) p d ∙ ap (λ c. c then judge ls) (sym (given k ks p d))
    go None d more = passed k (ks ++ ls) d ∙ more ∙ ap (λ c. c then judge ls) (sym (passed k ks d))

pub fine_then : (ks ls : List Line) → judge ks ≡ Ok tt → judge (ks ++ ls) ≡ judge ls
fine_then ks ls e = judged_in_turn ks ls ∙ ap (λ c. c then judge ls) e

pub refused_then : (ks ls : List Line) (r : Refusal) → judge ks ≡ Err r → judge (ks ++ ls) ≡ Err r
refused_then ks ls r e = judged_in_turn ks ls ∙ ap (λ c. c then judge ls) e

pub fine_parts : (ks ls : List Line) → judge (ks ++ ls) ≡ Ok tt → (judge ks ≡ Ok tt) × (judge ls ≡ Ok tt)
fine_parts ks ls e = go (judge ks) refl
  where
    go : (c : Checked) → judge ks ≡ c → (judge ks ≡ Ok tt) × (judge ls ≡ Ok tt)
    go (Ok _) d = (d, sym (fine_then ks ls d) ∙ e)
    go (Err r) d = absurd (refused_not_fine (sym (refused_then ks ls r d) ∙ e))
