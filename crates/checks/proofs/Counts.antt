-- The counts: each way to be out of range, and what follows for the whole table. Assumes nothing.
use mathlib.Core.Path.{◌≡◌, refl, sym, ap, ◌∙◌}
use mathlib.Core.Bool.{Bool, true, false, ◌&&◌, and-true, and-false}
use mathlib.Core.List.{List, ◌∷◌, ◌++◌}
use Prim.Native.Nat.{ℕ, ◌≤◌, ◌<◌}
use native.Mathlib.Nat.{le_trans, lt_of_not-le}
use native.Mathlib.Decide.{dec_le}
use borrow.Author.Tests.{le-leb, lt-leb, leb-true, eq-eqb}
use lib.Dec.{leb, eqb}
use lib.ListN.{length}
use Rattle.names.specs.Limits.{streams, sources}
use Rattle.names.specs.declared.Refusal.{Refusal}
use Rattle.laws.proofs.Lists.{length_rows}
use Rattle.laws.proofs.Tests.{both}
use Rattle.std.specs.Prelude.{Ok, Err}
use Rattle.judge.specs.Table.{Checked}
use Rattle.judge.specs.Table.{Line, judge, unless, ◌then◌}
use Rattle.judge.proofs.Table.{given, passed, nothing_given, not_given, unless_not, refused_not_fine, refused_then, judged_in_turn}
use Rattle.carried.specs.declared.Edition.{Edition}
use Rattle.carried.specs.Layout as layout
use Rattle.carried.proofs.Editions.{most_places}
use Rattle.carried.specs.Carried.{Entered, meant_timing, entered_in}
use Rattle.checks.specs.Checks.{in_range, range_lines, counted, field_lines, lag_lines, row_lines, slot_lines, value_lines, lines}

module _ (edition : Edition) (n m : ℕ) where
  pub too_few_lem : n < 1 → in_range edition n m ≡ false
  too_few_lem h = simp (lt-leb 1 n h)

  pub too_many : layout.most_streams edition < n → in_range edition n m ≡ false
  too_many h = simp (lt-leb n (layout.most_streams edition) h, and-false)

  pub too_noisy : sources < m → in_range edition n m ≡ false
  too_noisy h = simp (lt-leb m sources h, and-false)

  pub within_range : 1 ≤ n → n ≤ layout.most_streams edition → m ≤ sources → in_range edition n m ≡ true
  within_range a b c = simp (le-leb 1 n a, le-leb n (layout.most_streams edition) b, le-leb m sources c)

  pub range_within : in_range edition n m ≡ true → (1 ≤ n) × (n ≤ layout.most_streams edition) × (m ≤ sources)
  range_within e =
      let most = layout.most_streams edition in
      let (ab, c) = both (leb 1 n && leb n most) (leb m sources) e in
      let (a, b) = both (leb 1 n) (leb n most) ab in
      (leb-true 1 n a, leb-true n most b, leb-true m sources c)

  -- the counts are few enough for the places, or else out of range
  pub by_range : {A : Type 0} → (n ≤ streams → m ≤ sources → A) → (in_range edition n m ≡ false → A) → A
  by_range in-places out =
      elim (dec_le n (layout.most_streams edition)) [
        | yes few ↦ elim (dec_le m sources) [ yes quiet ↦ in-places (le_trans few (most_places edition)) quiet | no noisy ↦ out (too_noisy (lt_of_not-le noisy)) ]
        | no many ↦ out (too_many (lt_of_not-le many))
      ]

  pub range_refused : in_range edition n m ≡ false → judge (range_lines edition n m) ≡ Err (record { number = 2; place = 0 })
  range_refused e = given _ _ 0 (ap unless e)

  pub range_fine : 1 ≤ n → n ≤ layout.most_streams edition → m ≤ sources → judge (range_lines edition n m) ≡ Ok tt
  range_fine a b c = passed _ _ (ap unless (within_range a b c)) ∙ nothing_given

  pub range_number : (r : Refusal) → judge (range_lines edition n m) ≡ Err r → r ≡ record { number = 2; place = 0 }
  range_number r e = go (in_range edition n m) refl
    where
      go : (t : Bool) → in_range edition n m ≡ t → r ≡ record { number = 2; place = 0 }
      go true d = absurd (refused_not_fine (sym e ∙ passed _ _ (ap unless d) ∙ nothing_given))
      go false d = let same : ◌≡◌ {A = Checked} (Err r) (Err (record { number = 2; place = 0 })) = sym e ∙ range_refused d in cc

  pub fine_range : judge (range_lines edition n m) ≡ Ok tt → (1 ≤ n) × (n ≤ streams) × (m ≤ sources)
  fine_range e = let (some, few, quiet) = range_within (unless_not (in_range edition n m) (not_given _ _ e).0) in (some, le_trans few (most_places edition), quiet)

  -- counts out of range are refused 2 at 0, whatever is entered and whatever comes after its lines
  pub out_of_range : in_range edition n m ≡ false → (v : Entered) (more : List Line) → judge (lines edition n m v ++ more) ≡ Err (record { number = 2; place = 0 })
  out_of_range e v more = refused_then (lines edition n m v) more _ (given _ _ 0 (ap (λ t. unless (t && eqb (length v.streams) n && eqb (length v.gaps) m)) e))

  -- what has as many streams and gaps as are said
  module _ (v : Entered) (n-is : length v.streams ≡ n) (m-is : length v.gaps ≡ m) where
    pub counted_so : counted edition n m v ≡ in_range edition n m
    counted_so = rw (eq-eqb (length v.streams) n n-is, eq-eqb (length v.gaps) m m-is) (and-true (in_range edition n m && true) ∙ and-true (in_range edition n m))

    pub ranges_counted : judge (range_lines edition n m ++ value_lines edition v) ≡ judge (lines edition n m v)
    ranges_counted = ap (λ t. judge (record { number = 2; place = unless t } ∷ value_lines edition v)) (sym counted_so)

  -- of the words that are carried as many streams and gaps are taken as are said, so their table is judged part by part
  pub carried_in_parts : (ws : List ℕ)
      → let v = entered_in n m ws in
      judge (lines edition n m v)
      ≡ judge (range_lines edition n m) then judge (field_lines edition v) then judge (lag_lines v.timing) then judge (row_lines v.streams) then judge (slot_lines (meant_timing v.timing) v.streams)
  unfolding entered_in
  carried_in_parts ws =
      let v = entered_in n m ws in
      let slots = slot_lines (meant_timing v.timing) v.streams in
      let rows = row_lines v.streams in
      sym (ranges_counted v (length_rows n _) (length_rows m _))
      ∙ judged_in_turn (range_lines edition n m) (value_lines edition v)
      ∙ ap (λ c. judge (range_lines edition n m) then c)
      (judged_in_turn (field_lines edition v) (lag_lines v.timing ++ rows ++ slots)
      ∙ ap (λ c. judge (field_lines edition v) then c)
      (judged_in_turn (lag_lines v.timing) (rows ++ slots)
      ∙ ap (λ c. judge (lag_lines v.timing) then c) (judged_in_turn rows slots)))
