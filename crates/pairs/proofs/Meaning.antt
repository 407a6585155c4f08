-- A text up to a byte has no such byte, and the byte follows it: so a line and its names are what stands between newlines and spaces.
-- Assumes nothing.
use mathlib.Core.Path.{◌≡◌, refl, sym, ap, ap₂, ◌∙◌}
use mathlib.Core.Bool.{Bool, true, false, cond, not, ◌&&◌, true≢false}
use mathlib.Core.List.{List, [], ◌∷◌, ◌++◌, append_assoc, append-nil}
use Prim.Native.Nat.{ℕ, suc, ◌+◌, ◌-◌, ◌≤◌, ◌<◌, min}
use native.Mathlib.Numerals.{add-one}
use native.Mathlib.Decide.{dec_le}
use native.Mathlib.Nat.{lt_of_not-le}
use native.Mathlib.Omega.{arith}
use borrow.Author.Tests.{ltb-true, eqb-true, eq-eqb}
use lib.Dec.{ltb, eqb}
use lib.ListN.{length, take, drop, length-append, length-drop, take-append-drop}
use lib.Seq.{drop-append_seam, drop-append-add, take-append_seam, take_all, drop-drop}
use Rattle.laws.proofs.Tests.{both}
use Rattle.std.specs.Prelude.{Option, Some, None}
use Rattle.pairs.specs.declared.Part.{Part}
use Rattle.ascii.specs.Ascii.{space, newline}
use Rattle.pairs.specs.Pairs.{Named, Names, Wrong, Over, names_as, before, free, line_from, next_line, first_name, second_name, two_names, part, name_in, line_as, line_of, Name, ReadsItsNames, ReadsItsLast, Two, OnlyTwoNames, Ordered, InOrder, WrongGoesOn, GoesOn, ends, stops, NothingPassedOver, OverAtTheEnd}
use Rattle.pairs.proofs.Laws.{length_rest, before_short, before_start, two_names_lem, over, inside}

-- ---- a text up to a byte
pub before_free : (c : ℕ) (xs : List ℕ) → free c (before c xs) ≡ true
unfolding before free
before_free c [] = refl
before_free c (x ∷ xs) = go (eqb x c) refl (before_free c xs)
  where
    go : (b : Bool) → eqb x c ≡ b → free c (before c xs) ≡ true → free c (cond b [] (x ∷ before c xs)) ≡ true
    go true e h = refl
    go false e h = rw e h

-- such a byte follows it, unless it is all
pub parted : (c : ℕ) (xs : List ℕ) → length (before c xs) < length xs → xs ≡ before c xs ++ c ∷ drop (suc (length (before c xs))) xs
unfolding before
parted c [] h = absurd (omega arith)
parted c (x ∷ xs) h = go (eqb x c) refl h (parted c xs)
  where
    go : (b : Bool) → eqb x c ≡ b → length (cond b [] (x ∷ before c xs)) < suc (length xs)
        → (length (before c xs) < length xs → xs ≡ before c xs ++ c ∷ drop (suc (length (before c xs))) xs)
        → x ∷ xs ≡ cond b [] (x ∷ before c xs) ++ c ∷ drop (suc (length (cond b [] (x ∷ before c xs)))) (x ∷ xs)
    go true e h more = ap (λ y. y ∷ xs) (eqb-true x c e)
    go false e h more = ap (λ l. x ∷ l) (more (omega arith))

-- what has no such byte is the text up to the one that follows it, ..
free_before : (c : ℕ) (xs ys : List ℕ) → free c xs ≡ true → before c (xs ++ c ∷ ys) ≡ xs
unfolding before free
free_before c [] ys h = rw (eq-eqb c c refl) refl
free_before c (x ∷ xs) ys h = go (eqb x c) refl h (free_before c xs ys)
  where
    go : (b : Bool) → eqb x c ≡ b → not b && free c xs ≡ true → (free c xs ≡ true → before c (xs ++ c ∷ ys) ≡ xs) → cond b [] (x ∷ before c (xs ++ c ∷ ys)) ≡ x ∷ xs
    go true e h more = absurd (true≢false (sym h))
    go false e h more = ap (λ l. x ∷ l) (more h)

-- .. and where none follows it, all of it
free_all : (c : ℕ) (xs : List ℕ) → free c xs ≡ true → before c xs ≡ xs
unfolding before free
free_all c [] h = refl
free_all c (x ∷ xs) h = go (eqb x c) refl h (free_all c xs)
  where
    go : (b : Bool) → eqb x c ≡ b → not b && free c xs ≡ true → (free c xs ≡ true → before c xs ≡ xs) → cond b [] (x ∷ before c xs) ≡ x ∷ xs
    go true e h more = absurd (true≢false (sym h))
    go false e h more = ap (λ l. x ∷ l) (more h)

free_both : (c : ℕ) (xs ys : List ℕ) → free c xs ≡ true → free c ys ≡ true → free c (xs ++ ys) ≡ true
unfolding free
free_both c [] ys h k = k
free_both c (x ∷ xs) ys h k = go (not (eqb x c)) h (free_both c xs ys)
  where
    go : (b : Bool) → b && free c xs ≡ true → (free c xs ≡ true → free c ys ≡ true → free c (xs ++ ys) ≡ true) → b && free c (xs ++ ys) ≡ true
    go true h more = more h k
    go false h more = h

free_parts : (c : ℕ) (xs ys : List ℕ) → free c (xs ++ ys) ≡ true → (free c xs ≡ true) × (free c ys ≡ true)
unfolding free
free_parts c [] ys h = (refl, h)
free_parts c (x ∷ xs) ys h = go (not (eqb x c)) h (free_parts c xs ys)
  where
    go : (b : Bool) → b && free c (xs ++ ys) ≡ true → (free c (xs ++ ys) ≡ true → (free c xs ≡ true) × (free c ys ≡ true)) → (b && free c xs ≡ true) × (free c ys ≡ true)
    go true h more = more h
    go false h more = absurd (true≢false (sym h))

-- ---- two names are read as these names
module _ (old new : List ℕ) (o : Name old) (n : Name new) where
  abbrev two : List ℕ
  two = old ++ space ∷ new

  first_is : first_name two ≡ old
  first_is = free_before space old new o.no_space

  second_is : second_name two ≡ new
  second_is = ap (λ l. drop (length l + 1) two) first_is ∙ drop-append-add old (space ∷ new) 1

  one_line : free newline two ≡ true
  unfolding free
  one_line = free_both newline old (space ∷ new) o.no_newline n.no_newline

  names_read : (at next : ℕ) → line_as two at next ≡ Names (part at old) (part (at + length old + 1) new) next
  unfolding line_as
  names_read at next =
      let k : length (first_name two) ≡ length old = ap length first_is in
      let m : length (second_name two) ≡ length new = ap length second_is in
      let all : length (before space (second_name two)) ≡ length (second_name two) = ap (λ l. length (before space l)) second_is ∙ ap length (free_all space new n.no_space) ∙ sym m in
      let long : length two ≡ length old + suc (length new) = length-append old (space ∷ new) in
      ap (λ m. Some (record { names = m; next = next }))
      (sym
      (two_names_lem two at (at + length old) (at + length old + 1 + length new) (omega arith) (omega arith)
      (omega (arith, o.some))
      (omega (arith, n.some))
      (omega arith)))

-- the line that starts after what is done
line_after : (done line rest : List ℕ) → before newline (line ++ rest) ≡ line → line_from (done ++ (line ++ rest)) (length done) ≡ line
line_after done line rest e = ap (before newline) (drop-append_seam done (line ++ rest)) ∙ e

-- a line that is not empty, whatever rest follows it
read_after : (done line rest : List ℕ) (next : ℕ) → 1 ≤ length line → before newline (line ++ rest) ≡ line
    → min (length done + length line + 1) (length done + length line + length rest) ≡ next
    → line_of (done ++ (line ++ rest)) (length done) ≡ line_as line (length done) next
read_after done line rest next h e d =
    let text = done ++ (line ++ rest) in
    let long : length text ≡ length done + length line + length rest = length-append done (line ++ rest) ∙ omega (arith, length-append line rest) in
    let l : line_from text (length done) ≡ line = line_after done line rest e in
    inside text (length done) (omega arith)
    ∙ ap₂ (λ m n. line_as m (length done) n) l (ap₂ (λ a b. min (length done + a + 1) b) (ap length l) long ∙ d)

pub reads_its_names : ReadsItsNames
reads_its_names done old new rest o n =
    let line = two old new o n in
    let long : length line ≡ length old + suc (length new) = length-append old (space ∷ new) in
    let text : done ++ old ++ space ∷ new ++ newline ∷ rest ≡ done ++ (line ++ newline ∷ rest) = simp append_assoc in
    ap (λ t. line_of t (length done)) text
    ∙ read_after done line (newline ∷ rest) (length done + length old + 1 + length new + 1) (omega arith) (free_before newline line rest (one_line old new o n)) (omega arith)
    ∙ names_read old new o n (length done) (length done + length old + 1 + length new + 1)

pub reads_its_last : ReadsItsLast
reads_its_last done old new o n =
    let line = two old new o n in
    let long : length line ≡ length old + suc (length new) = length-append old (space ∷ new) in
    let text : done ++ old ++ space ∷ new ≡ done ++ (line ++ []) = append_assoc done old (space ∷ new) ∙ ap (λ l. done ++ l) (sym (append-nil line)) in
    ap (λ t. line_of t (length done)) text
    ∙ read_after done line [] (length done + length old + 1 + length new) (omega arith)
    (ap (before newline) (append-nil line) ∙ free_all newline line (one_line old new o n))
    (omega arith)
    ∙ names_read old new o n (length done) (length done + length old + 1 + length new)

-- ---- nothing is passed over
module _ (text : List ℕ) (at : ℕ) (h : at < length text) where
  abbrev line : List ℕ
  line = line_from text at

  long : at + length (drop at text) ≡ length text
  long = length_rest at text (omega arith)

  goes_on : GoesOn text at
  goes_on =
      elim (dec_le (length (drop at text)) (length line)) [
        | yes g ↦
            stops (sym (take_all (length line) (drop at text) g) ∙ before_start newline (drop at text))
            (omega (arith, long, before_short newline (drop at text)))
        | no g ↦
            let more : length line < length (drop at text) = lt_of_not-le g in
            let next : at + suc (length line) ≡ next_line text at = omega (arith, long) in
            ends (parted newline (drop at text) more ∙ ap (λ l. line ++ newline ∷ l) (drop-drop (suc (length line)) at text ∙ ap (λ n. drop n text) next))
      ]

pub nothing_passed_over : NothingPassedOver
nothing_passed_over text at h = (goes_on text at h, before_free newline (drop at text))

-- ---- nothing else is read as two names
abbrev names_of : Named → Option (Part × Part)
names_of (Some line) = line.names
names_of None = None

abbrev pub next_of : Named → ℕ
next_of (Some line) = line.next
next_of None = 0

module _ (l : List ℕ) (at next : ℕ) where
  abbrev old : Part
  old = part at (first_name l)

  abbrev new : Part
  new = part (at + length (first_name l) + 1) (second_name l)

  as_names : (p q : Part) (n : ℕ) → line_as l at next ≡ Names p q n → (two_names l ≡ true) × (old ≡ p) × (new ≡ q) × (next ≡ n)
  unfolding line_as names_as
  as_names p q n e = go (two_names l) refl (ap names_of e)
    where
      go : (b : Bool) → two_names l ≡ b → cond {A = Option (Part × Part)} b (Some (old, new)) None ≡ Some (p, q) → (two_names l ≡ true) × (old ≡ p) × (new ≡ q) × (next ≡ n)
      go true d f =
          let pair : ◌≡◌ {A = Part × Part} (old, new) (p, q) = cc in
          (d, ap (λ x. x.0) pair, ap (λ x. x.1) pair, ap next_of e)
      go false d f = absurd (let z : ◌≡◌ {A = ℕ} 0 1 = cc in omega arith)

  as_wrong : (n : ℕ) → line_as l at next ≡ Wrong n → next ≡ n
  unfolding line_as
  as_wrong n e = ap next_of e

  not_over : line_as l at next ≡ Over → ⊥
  unfolding line_as
  not_over e = let z : ◌≡◌ {A = ℕ} 0 1 = cc in omega arith

pub over_at_the_end : OverAtTheEnd
over_at_the_end text at = (back, over text at)
  where
    back : line_of text at ≡ Over → length text ≤ at
    back e =
        elim (dec_le (length text) at) [
          | yes h ↦ h
          | no h ↦ absurd (not_over _ at _ (sym (inside text at (lt_of_not-le h)) ∙ e))
        ]

-- a line that is there starts before the text's end
pub not_yet_over : (text : List ℕ) (at : ℕ) → (line_of text at ≡ Over → ⊥) → at < length text
not_yet_over text at h =
    elim (dec_le (length text) at) [
      | yes g ↦ absurd (h (over text at g))
      | no g ↦ lt_of_not-le g
    ]

module _ (text : List ℕ) (at : ℕ) (p q : Part) (next : ℕ) (e : line_of text at ≡ Names p q next) where
  abbrev l : List ℕ
  l = line_from text at

  starts : at < length text
  starts = not_yet_over text at (λ o. let z : ◌≡◌ {A = ℕ} 0 1 = let d : Names p q next ≡ Over = sym e ∙ o in cc in omega arith)

  read : (two_names l ≡ true) × (part at (first_name l) ≡ p) × (part (at + length (first_name l) + 1) (second_name l) ≡ q) × (next_line text at ≡ next)
  read = as_names l at (next_line text at) p q next (sym (inside text at starts) ∙ e)

  -- neither name is empty, and the second has no space
  tests : (1 ≤ length (first_name l)) × (1 ≤ length (second_name l)) × (free space (second_name l) ≡ true)
  tests =
      let (ab, c) = both (ltb 0 (length (first_name l)) && ltb 0 (length (second_name l))) (free space (second_name l)) read.0 in
      let (a, b) = both (ltb 0 (length (first_name l))) (ltb 0 (length (second_name l))) ab in
      (ltb-true 0 (length (first_name l)) a, ltb-true 0 (length (second_name l)) b, c)

  -- so the line is the first name, a space and the second, ..
  whole : l ≡ first_name l ++ space ∷ second_name l
  whole =
      let h : length (first_name l) < length l = omega (arith, length-drop (length (first_name l) + 1) l, tests.1) in
      parted space l h ∙ ap (λ n. first_name l ++ space ∷ drop n l) (sym (add-one (length (first_name l))))

  -- .. and the text goes on after it
  rest : drop at text ≡ first_name l ++ (space ∷ second_name l ++ drop (length l) (drop at text))
  rest =
      sym (take-append-drop (length l) (drop at text))
      ∙ ap (λ a. a ++ drop (length l) (drop at text)) (before_start newline (drop at text) ∙ whole)
      ∙ append_assoc (first_name l) (space ∷ second_name l) (drop (length l) (drop at text))

  old_bytes : name_in text p ≡ first_name l
  old_bytes =
      let k = length (first_name l) in
      let n : at + k - at ≡ k = omega arith in
      ap (name_in text) (sym read.1) ∙ ap₂ (λ a b. take a b) n rest ∙ take-append_seam (first_name l) _

  new_bytes : name_in text q ≡ second_name l
  new_bytes =
      let k = length (first_name l) in
      let from : at + k + 1 ≡ at + (k + 1) = omega arith in
      let n : at + k + 1 + length (second_name l) - (at + k + 1) ≡ length (second_name l) = omega arith in
      let left : drop (at + k + 1) text ≡ second_name l ++ drop (length l) (drop at text) =
      ap (λ a. drop a text) from ∙ sym (drop-drop (k + 1) at text) ∙ ap (drop (k + 1)) rest ∙ drop-append-add (first_name l) _ 1 in
      ap (name_in text) (sym read.2) ∙ ap₂ (λ a b. take a b) n left ∙ take-append_seam (second_name l) _

  names_free : (free newline (first_name l) ≡ true) × (free newline (second_name l) ≡ true)
  unfolding free
  names_free =
      let f : free newline (first_name l ++ space ∷ second_name l) ≡ true = ap (free newline) (sym whole) ∙ before_free newline (drop at text) in
      let (a, b) = free_parts newline (first_name l) (space ∷ second_name l) f in
      (a, b)

  stand : Two text at p q next
  stand =
      record {
        old_name = rw old_bytes (record { some = tests.0; no_space = before_free space l; no_newline = names_free.0 });
        new_name = rw new_bytes (record { some = tests.1; no_space = tests.2; no_newline = names_free.1 });
        line = rw (old_bytes, new_bytes) whole;
        next_is = sym read.3;
      }

  ordered : Ordered text at p q next
  ordered =
      let k = length (first_name l) in
      let m = length (second_name l) in
      let old-from : at ≡ p.from = ap (λ a. a.from) read.1 in
      let old-to : at + k ≡ p.to = ap (λ a. a.to) read.1 in
      let new-from : at + k + 1 ≡ q.from = ap (λ a. a.from) read.2 in
      let new-to : at + k + 1 + m ≡ q.to = ap (λ a. a.to) read.2 in
      let long : length l ≡ k + suc m = ap length whole ∙ length-append (first_name l) (space ∷ second_name l) in
      let short = before_short newline (drop at text) in
      let all = length_rest at text (omega (arith, starts)) in
      let next_is = read.3 in
      record {
        starts = sym old-from;
        first = omega (arith, tests.0);
        parted = omega arith;
        second = omega (arith, tests.1);
        next_begins = omega arith;
        end = omega arith;
      }

pub only_two_names : OnlyTwoNames
only_two_names text at p q next e = stand text at p q next e

pub in_order : InOrder
in_order text at p q next e = ordered text at p q next e

pub wrong_goes_on : WrongGoesOn
wrong_goes_on text at next e =
    let h : at < length text = not_yet_over text at (λ o. let z : ◌≡◌ {A = ℕ} 0 1 = let d : Wrong next ≡ Over = sym e ∙ o in cc in omega arith) in
    let d : next_line text at ≡ next = as_wrong (line_from text at) at (next_line text at) next (sym (inside text at h) ∙ e) in
    (omega arith, omega arith)
