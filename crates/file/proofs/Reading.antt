-- What the contents say, answer by answer; what reading gives then; what a fine answer says. Assumes nothing.
use Rattle.file.specs.File.{read_said, counts_said}
use mathlib.Core.Path.{◌≡◌, refl, sym, ap, ap₂, ◌∙◌}
use mathlib.Core.Bool.{Bool, true, false}
use mathlib.Core.List.{List, ◌++◌}
use Prim.Native.Nat.{ℕ, ◌≤◌}
use native.Mathlib.Omega.{arith}
use borrow.Author.Tests.{eqb-true}
use lib.Dec.{eqb}
use lib.ListN.{length, take, drop, replicate}
use Rattle.names.specs.Limits.{streams, sources}
use Rattle.names.specs.declared.Refusal.{Refusal}
use Rattle.laws.proofs.Tests.{both}
use Rattle.words.specs.Words.{words_of}
use Rattle.words.proofs.Laws.{laid_on_zeros}
use Rattle.std.specs.Prelude.{Ok, Err}
use Rattle.judge.specs.Table.{Checked}
use Rattle.judge.specs.Table.{judge, unless}
use Rattle.judge.proofs.Table.{given, passed, not_given, refused_then, unless_not}
use Rattle.plan.specs.Plan.{Plan}
use Rattle.carried.specs.declared.Edition.{Edition, TheVariants.Three}
use Rattle.carried.specs.Layout as layout
use Rattle.carried.specs.Carried.{plainly, entered_in, entered_words, in_places, sheet_of}
use Rattle.carried.proofs.Plans.{one_sheet, own_places}
use Rattle.checks.specs.Checks.{range_lines, value_lines, lines, checked_of}
use Rattle.checks.proofs.Counts.{range_number, fine_range, ranges_counted}
use Rattle.carried.specs.declared.Counts.{Counts}
use Rattle.std.specs.Prelude.{Result}
use Rattle.file.specs.File.{contents, edition_in, count_in, sources_in, entered_at, plan_at, same, size_right, contents_right, contents_lines, counts_as, counts_of, carried_as, carried_of, lines_in, read_as, read_of}
use Rattle.file.proofs.Same.{same_eq}
use Rattle.file.proofs.Bodies.{length_at}

-- what is entered in a file has as many streams and gaps as are said
at_counts : (edition : Edition) (n m : ℕ) (bs : List ℕ) → judge (range_lines edition n m ++ value_lines edition (entered_at edition n m bs)) ≡ judge (lines edition n m (entered_at edition n m bs))
at_counts edition n m bs =
    let (n-is, m-is) = length_at edition n m (drop layout.contents_length (words_of bs)) in
    ranges_counted edition n m (entered_at edition n m bs) n-is m-is

-- ---- what the contents say, answer by answer
abbrev pub refused_counts : ℕ → Result Counts Refusal
refused_counts number = Err (record { number = number; place = 0 })

-- 1
pub said_size : (bs : List ℕ) → size_right bs ≡ false → counts_of bs ≡ refused_counts 1
unfolding counts_of
said_size bs e =
    let edition = edition_in (words_of bs) in
    ap (λ c. counts_as c edition (count_in edition (words_of bs)) (sources_in (words_of bs))) (given _ _ 0 (ap unless e))

module _ (bs : List ℕ) (edition : Edition) (n m : ℕ) (x : edition_in (words_of bs) ≡ edition) (e : count_in edition (words_of bs) ≡ n) (d : sources_in (words_of bs) ≡ m)
    (one : size_right bs ≡ true) where
  -- 2, by the words or the end
  pub said_contents : contents_right edition n m bs ≡ false → counts_of bs ≡ refused_counts 2
  unfolding counts_of
  said_contents two = rw (x, e, d) (ap (λ c. counts_as c edition n m) (passed _ _ (ap unless one) ∙ given _ _ 0 (ap unless two)))

  -- n and m, or 2 by their ranges
  past_contents : contents_right edition n m bs ≡ true → counts_of bs ≡ counts_as (judge (range_lines edition n m)) edition n m
  unfolding counts_of
  past_contents two = rw (x, e, d) (ap (λ c. counts_as c edition n m) (passed _ _ (ap unless one) ∙ passed _ _ (ap unless two)))

  pub said_counts : contents_right edition n m bs ≡ true → judge (range_lines edition n m) ≡ Ok tt → counts_of bs ≡ counts_said edition n m
  said_counts two three = past_contents two ∙ ap (λ c. counts_as c edition n m) three

  -- 2, by the ranges, whatever the contents
  pub said_ranges : (r : Refusal) → judge (range_lines edition n m) ≡ Err r → counts_of bs ≡ Err r
  said_ranges r three = go (contents_right edition n m bs) refl
    where
      go : (b : Bool) → contents_right edition n m bs ≡ b → counts_of bs ≡ Err r
      go true two = past_contents two ∙ ap (λ c. counts_as c edition n m) three
      go false two = said_contents two ∙ ap (λ q. Err q) (sym (range_number edition n m r three))

  -- what reading gives where the first two lines are not given
  pub read_values : contents_right edition n m bs ≡ true → read_of bs ≡ read_as (judge (lines edition n m (entered_at edition n m bs))) (plan_at edition n m bs)
  unfolding read_of
  read_values two =
      rw (x, e, d) (ap (λ c. read_as c (plan_at edition n m bs)) (passed _ _ (ap unless one) ∙ passed _ _ (ap unless two) ∙ at_counts edition n m bs))

-- ---- an answer with its edition and its counts
pub as_refused : (edition : Edition) (n m : ℕ) (c : Checked) (r : Refusal) → counts_as c edition n m ≡ Err r → c ≡ Err r
as_refused edition n m (Ok _) r e = absurd (let z : ◌≡◌ {A = ℕ} 0 1 = cc in omega arith)
as_refused edition n m (Err q) r e = cc

as_fine : (edition : Edition) (n m : ℕ) (c : Checked) (x : Edition) (a b : ℕ) → counts_as c edition n m ≡ counts_said x a b → (c ≡ Ok tt) × (edition ≡ x) × (n ≡ a) × (m ≡ b)
as_fine edition n m (Ok _) x a b e =
    let d : ◌≡◌ {A = Counts} (record { edition = edition; n = n; m = m }) (record { edition = x; n = a; m = b }) = cc in
    (refl, ap (λ c. c.edition) d, ap (λ c. c.n) d, ap (λ c. c.m) d)
as_fine edition n m (Err q) x a b e = absurd (let z : ◌≡◌ {A = ℕ} 0 1 = cc in omega arith)

-- a refusal of the contents is that of the file
pub counts_refused : (bs : List ℕ) (r : Refusal) → counts_of bs ≡ Err r → read_of bs ≡ Err r
unfolding counts_of read_of
counts_refused bs r e =
    let edition = edition_in (words_of bs) in
    let n = count_in edition (words_of bs) in
    let m = sources_in (words_of bs) in
    let lines = contents_lines edition n m bs in
    ap (λ c. read_as c (plan_at edition n m bs)) (refused_then lines (value_lines edition (entered_at edition n m bs)) r (as_refused edition n m (judge lines) r e))

-- ---- the lines of the contents are not given
-- what right contents say
right_contents : (edition : Edition) (n m : ℕ) (bs : List ℕ) → contents_right edition n m bs ≡ true → (take layout.contents_length (words_of bs) ≡ contents edition n m) × (length bs ≡ layout.size edition n m)
right_contents edition n m bs e =
    let (c, d) = both (same (take layout.contents_length (words_of bs)) (contents edition n m)) (eqb (length bs) (layout.size edition n m)) e in
    (same_eq _ _ c, eqb-true (length bs) (layout.size edition n m) d)

module _ (bs : List ℕ) (edition : Edition) (n m : ℕ) (e : counts_of bs ≡ counts_said edition n m) where
  -- the edition, n and m are what they say
  pub first_fine : (edition_in (words_of bs) ≡ edition) × (count_in edition (words_of bs) ≡ n) × (sources_in (words_of bs) ≡ m) × (judge (contents_lines edition n m bs) ≡ Ok tt)
  unfolding counts_of
  first_fine =
      let z = edition_in (words_of bs) in
      let a = count_in z (words_of bs) in
      let b = sources_in (words_of bs) in
      let (j, x, p, q) = as_fine z a b (judge (contents_lines z a b bs)) edition n m e in
      (x, ap (λ x. count_in x (words_of bs)) (sym x) ∙ p, q, sym (ap (λ z. judge (contents_lines z a b bs)) x ∙ ap₂ (λ x y. judge (contents_lines edition x y bs)) p q) ∙ j)

  two_fine : (size_right bs ≡ true) × (contents_right edition n m bs ≡ true) × (judge (range_lines edition n m) ≡ Ok tt)
  two_fine =
      let (x, p, q, j) = first_fine in
      let (one, j₁) = not_given _ _ j in
      let (two, j₂) = not_given _ _ j₁ in
      (unless_not (size_right bs) one, unless_not (contents_right edition n m bs) two, j₂)

  -- the answer is then that to the values
  pub counts_are : read_of bs ≡ read_as (judge (lines edition n m (entered_at edition n m bs))) (plan_at edition n m bs)
  counts_are = read_values bs edition n m first_fine.0 first_fine.1 first_fine.2 two_fine.0 two_fine.1

  -- there are as many streams and gaps as a plan may have, ..
  pub counts_right : (1 ≤ n) × (n ≤ streams) × (m ≤ sources)
  counts_right = fine_range edition n m two_fine.2

  -- .. and the file ends where they say
  pub counts_size : length bs ≡ layout.size edition n m
  counts_size = (right_contents edition n m bs two_fine.1).1

  -- what is entered in the words that are carried, laid onto zeros, is what is entered in the file
  pub counts_entered : {ws : List ℕ} → ws ≡ carried_of bs (replicate layout.largest 0) → entered_in n m ws ≡ entered_at edition n m bs
  counts_entered d =
      let v = entered_at edition n m bs in
      let (n-is, m-is) = length_at edition n m (drop layout.contents_length (words_of bs)) in
      ap (entered_in n m) (d ∙ ap (λ r. carried_as r bs (replicate layout.largest 0)) e ∙ laid_on_zeros (entered_words v) layout.largest)
      ∙ ap₂ (λ i j. entered_in i j (in_places (entered_words v))) (sym n-is) (sym m-is)
      ∙ own_places v (omega (arith, n-is, counts_right)) (omega (arith, m-is, counts_right))

-- ---- what a fine answer says
pub record ReadFine (bs : List ℕ) : Type 0 where
  pub edition : Edition
  pub said : edition ≡ edition_in (words_of bs)
  pub n : ℕ
  pub m : ℕ
  pub size : length bs ≡ layout.size edition n m
  pub contents : take layout.contents_length (words_of bs) ≡ contents edition n m
  pub values : judge (lines edition n m (entered_at edition n m bs)) ≡ Ok tt
  pub read : read_of bs ≡ Ok (sheet_of (plan_at edition n m bs))

answer_of_lem : (c : Checked) (p : Plan) → read_said (read_as c p) ≡ Ok tt → c ≡ Ok tt
answer_of_lem (Ok _) p e = refl
answer_of_lem (Err r) p e = e

pub fine_read : (bs : List ℕ) → read_said (read_of bs) ≡ Ok tt → ReadFine bs
unfolding read_of
fine_read bs e =
    let edition = edition_in (words_of bs) in
    let n = count_in edition (words_of bs) in
    let m = sources_in (words_of bs) in
    let p = plan_at edition n m bs in
    let j = answer_of_lem (judge (lines_in edition n m bs)) p e in
    let (one, j₁) = not_given _ _ j in
    let (two, j₂) = not_given _ _ j₁ in
    let (c, d) = right_contents edition n m bs (unless_not (contents_right edition n m bs) two) in
    record {
      edition = edition;
      said = refl;
      n = n;
      m = m;
      size = d;
      contents = c;
      values = sym (at_counts edition n m bs) ∙ j₂;
      read = ap (λ c. read_as c p) j;
    }

-- ---- the answer to a plan's sheet is that to the plan, entered
pub checked_sheet : (n m : ℕ) (p : Plan) → length p.streams ≡ n → length p.gaps ≡ m → n ≤ streams → m ≤ sources
    → checked_of (sheet_of p) ≡ judge (lines Three n m (plainly p))
unfolding checked_of
checked_sheet n m p e d few quiet =
    ap (λ q. judge (lines Three (length p.streams) (length p.gaps) (plainly q))) (one_sheet p (omega arith) (omega arith))
    ∙ ap₂ (λ a b. judge (lines Three a b (plainly p))) e d
