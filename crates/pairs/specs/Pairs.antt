-- Two names a line, parted by one space; a last line need not end in a newline.
use Rattle.std.specs.Prelude.{◌≡◌, Bool, true, cond, not, ◌&&◌, Option, Some, None, List, [], ◌∷◌, ◌++◌, ◌↔◌, ℕ, ◌+◌, ◌-◌, min, ◌≤◌, ◌<◌, ltb, eqb, length, take, drop}
use Rattle.ascii.specs.Ascii.{space, newline}
use Rattle.pairs.specs.declared.Part.{Part}
use Rattle.pairs.specs.declared.Line.{Line}

-- what a line is: two names, or not two names, each with the place of the next line; or the text is over
abbrev pub Named : Type 0
Named = Option Line

abbrev pub Names : Part → Part → ℕ → Named
Names old new next = Some (record { names = Some (old, new); next = next })

abbrev pub Wrong : ℕ → Named
Wrong next = Some (record { names = None; next = next })

abbrev pub Over : Named
Over = None

-- a text up to the first such byte, or all of it
unfoldable pub before : ℕ → List ℕ → List ℕ
before c [] = []
before c (x ∷ xs) = cond (eqb x c) [] (x ∷ before c xs)

-- a text has no such byte
unfoldable pub free : ℕ → List ℕ → Bool
free c [] = true
free c (x ∷ xs) = not (eqb x c) && free c xs

-- the line that starts at a place, without its newline
abbrev pub line_from : List ℕ → ℕ → List ℕ
line_from text at = before newline (drop at text)

-- the next line starts after the newline, or where the text ends
abbrev pub next_line : List ℕ → ℕ → ℕ
next_line text at = min (at + length (line_from text at) + 1) (length text)

-- a line's names: what stands before its first space, and what comes after that
abbrev pub first_name : List ℕ → List ℕ
first_name l = before space l

abbrev pub second_name : List ℕ → List ℕ
second_name l = drop (length (first_name l) + 1) l

-- neither is empty, and there is no other space
abbrev pub two_names : List ℕ → Bool
two_names l = ltb 0 (length (first_name l)) && ltb 0 (length (second_name l)) && free space (second_name l)

-- where a name stands that starts at a place
abbrev pub part : ℕ → List ℕ → Part
part from name = record { from = from; to = from + length name }

-- the bytes of a part of a text
abbrev pub name_in : List ℕ → Part → List ℕ
name_in text p = take (p.to - p.from) (drop p.from text)

-- where the names stand of a line that starts at a place, if it is two names
unfoldable pub names_as : List ℕ → ℕ → Option (Part × Part)
names_as l at = cond (two_names l) (Some (part at (first_name l), part (at + length (first_name l) + 1) (second_name l))) None

-- what a line is that starts at a place and is followed by the next line
unfoldable pub line_as : List ℕ → ℕ → ℕ → Named
line_as l at next = Some (record { names = names_as l at; next = next })

-- what the line is that starts at a place of a text
unfoldable pub line_of : List ℕ → ℕ → Named
line_of text at = cond (ltb at (length text)) (line_as (line_from text at) at (next_line text at)) Over

-- ---- What is proved of the lines of a text; the proofs are in proofs/Meaning.antt.

-- a name is not empty, and has neither a space nor a newline
pub record Name (name : List ℕ) : Type 0 where
  pub some : 1 ≤ length name
  pub no_space : free space name ≡ true
  pub no_newline : free newline name ≡ true

-- two names with a space between are read as these names, wherever the line stands and whatever comes after it, ..
abbrev pub ReadsItsNames : Type 0
ReadsItsNames =
    (done old new rest : List ℕ) → Name old → Name new
    → let at = length done in
    let second = at + length old + 1 in
    line_of (done ++ old ++ space ∷ new ++ newline ∷ rest) at ≡ Names (part at old) (part second new) (second + length new + 1)

-- .. also on a last line that has no newline
abbrev pub ReadsItsLast : Type 0
ReadsItsLast =
    (done old new : List ℕ) → Name old → Name new
    → let at = length done in
    let second = at + length old + 1 in
    line_of (done ++ old ++ space ∷ new) at ≡ Names (part at old) (part second new) (second + length new)

-- what is read as two names is two names with a space between, and they are the whole line
pub record Two (text : List ℕ) (at : ℕ) (old new : Part) (next : ℕ) : Type 0 where
  pub old_name : Name (name_in text old)
  pub new_name : Name (name_in text new)
  pub line : line_from text at ≡ name_in text old ++ space ∷ name_in text new
  pub next_is : next ≡ next_line text at

abbrev pub OnlyTwoNames : Type 0
OnlyTwoNames = (text : List ℕ) (at : ℕ) (old new : Part) (next : ℕ) → line_of text at ≡ Names old new next → Two text at old new next

-- the names stand in the text one after the other, and the next line after them
pub record Ordered (text : List ℕ) (at : ℕ) (old new : Part) (next : ℕ) : Type 0 where
  pub starts : old.from ≡ at
  pub first : old.from < old.to
  pub parted : new.from ≡ old.to + 1
  pub second : new.from < new.to
  pub next_begins : new.to ≤ next
  pub end : next ≤ length text

abbrev pub InOrder : Type 0
InOrder = (text : List ℕ) (at : ℕ) (old new : Part) (next : ℕ) → line_of text at ≡ Names old new next → Ordered text at old new next

-- after a wrong line the next one starts further on
abbrev pub WrongGoesOn : Type 0
WrongGoesOn = (text : List ℕ) (at next : ℕ) → line_of text at ≡ Wrong next → (at < next) × (next ≤ length text)

-- from a place on a text is its line, a newline, and what stands from the next line on; or it is its last line
pub data GoesOn (text : List ℕ) (at : ℕ) : Type 0 where
  ends : drop at text ≡ line_from text at ++ newline ∷ drop (next_line text at) text → GoesOn text at
  stops : drop at text ≡ line_from text at → next_line text at ≡ length text → GoesOn text at

-- so nothing is passed over, and no line has a newline
abbrev pub NothingPassedOver : Type 0
NothingPassedOver = (text : List ℕ) (at : ℕ) → at < length text → GoesOn text at × (free newline (line_from text at) ≡ true)

-- a text is over at its end, and not before
abbrev pub OverAtTheEnd : Type 0
OverAtTheEnd = (text : List ℕ) (at : ℕ) → (line_of text at ≡ Over) ↔ (length text ≤ at)
