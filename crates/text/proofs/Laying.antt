-- What it is to lay texts into a buffer, by the question that a proof asks: stores one after the other, one text and then another, a text byte
-- by byte, a number digit by digit, and a text that is measured and then put or not. Other crates lay their texts by these laws. Assumes nothing.
use mathlib.Core.Path.{◌≡◌, refl, sym, ap, ◌∙◌}
use mathlib.Core.List.{List, [], ◌∷◌, ◌++◌, append-nil}
use Prim.Native.Nat.{ℕ, suc, ◌+◌, ◌-◌, ◌*◌, ◌/◌, ◌%◌, ◌≤◌, ◌<◌, min}
use native.Mathlib.Decide.{dec_le}
use native.Mathlib.Nat.{le_refl, le_of_lt, lt_of_not-le, zero-add}
use native.Mathlib.Numerals.{add-one}
use native.Mathlib.Omega.{arith}
use borrow.Author.Tests.{le-leb, lt-leb}
use lib.ListN.{length, get_or, set, take, drop, length-append, length-take, take-append-drop, drop_of_length-le}
use lib.Seq.{sets, sets-eq, set_out, length-sets, take-suc, take-length, take_all}
use Rattle.decimal.specs.Decimal.{digit, digits}
use Rattle.decimal.proofs.Decimal.{digits_one, digits_more}
use Rattle.std.specs.Prelude.{Option, Some, None}
use Rattle.text.specs.Put.{last_place, laid, Lays, put, Puts}
use Rattle.text.specs.Claims.{LaidInTurn, LaidWhole}

-- ---- a run of stores, and then another
sets_append : (l : List ℕ) (i : ℕ) (s t : List ℕ) → sets l i (s ++ t) ≡ sets (sets l i s) (i + length s) t
sets_append l i [] t = ap (λ k. sets l k t) (omega arith)
sets_append l i (a ∷ s) t = sets_append (set l i a) (suc i) s t ∙ ap (λ k. sets (sets (set l i a) (suc i) s) k t) (omega arith)

-- past the end nothing is stored
sets_past : (l : List ℕ) (i : ℕ) (s : List ℕ) → length l ≤ i → sets l i s ≡ l
sets_past l i [] h = refl
sets_past l i (a ∷ s) h = ap (λ m. sets m (suc i) s) (set_out l i a h) ∙ sets_past l (suc i) s (omega arith)

-- ---- to lay a text is to store its bytes one after the other
-- past the end
laid_past : (l : List ℕ) (i : ℕ) (s : List ℕ) → length l ≤ i → laid l i s ≡ l
unfolding laid
laid_past l i s h =
    let z : length l - i ≡ 0 = omega arith in
    rw (z, take_all i l h, drop_of_length-le l {i = i + length s} (omega arith)) (append-nil (l ++ []) ∙ append-nil l)

-- where all of it has room
put_is : (l : List ℕ) (i : ℕ) (s : List ℕ) → i + length s ≤ length l → (put l i s).1 ≡ take i l ++ s ++ drop (i + length s) l
put_is l i s h = rw (le-leb (i + length s) (length l) h) refl

pub laid_whole : LaidWhole
unfolding laid
laid_whole l i s h = rw (take_all (length l - i) s (omega arith), le-leb (i + length s) (length l) h) refl

-- where some of it has
laid_some : (l : List ℕ) (i : ℕ) (s : List ℕ) → i ≤ length l → length l < i + length s → sets l i s ≡ laid l i s
unfolding laid
laid_some l i s h g =
    let r = length l - i in
    let n : length (take r s) ≡ r = length-take r s ∙ omega arith in
    let z : drop (i + length (take r s)) l ≡ drop (i + length s) l = drop_of_length-le l {i = i + length (take r s)} (omega arith) ∙ sym (drop_of_length-le l {i = i + length s} (omega arith)) in
    ap (sets l i) (sym (take-append-drop r s))
    ∙ sets_append l i (take r s) (drop r s)
    ∙ sets_past (sets l i (take r s)) (i + length (take r s)) (drop r s) (omega (arith, length-sets l i (take r s)))
    ∙ sets-eq (take r s) l i (omega arith)
    ∙ ap (λ d. take i l ++ take r s ++ d) z

pub laid_sets : (l : List ℕ) (i : ℕ) (s : List ℕ) → sets l i s ≡ laid l i s
laid_sets l i s =
    elim (dec_le (length l) i) [
      | yes h ↦ sets_past l i s h ∙ sym (laid_past l i s h)
      | no h ↦
          elim (dec_le (i + length s) (length l)) [
            | yes g ↦ sets-eq s l i g ∙ sym (put_is l i s g) ∙ sym (laid_whole l i s g)
            | no g ↦ laid_some l i s (le_of_lt (lt_of_not-le h)) (lt_of_not-le g)
          ]
    ]

pub length_laid : (l : List ℕ) (i : ℕ) (s : List ℕ) → length (laid l i s) ≡ length l
length_laid l i s = ap length (sym (laid_sets l i s)) ∙ length-sets l i s

-- ---- one text, and then another
-- the buffer keeps its length
pub same : {i j : ℕ} {a b s : List ℕ} → Lays a i s j b → length b ≡ length a
same {i} {j} {a} {b} {s} p = ap length p.bytes ∙ length_laid a i s

-- the same text under another name
pub is : {i j : ℕ} {a b s t : List ℕ} → s ≡ t → Lays a i s j b → Lays a i t j b
is {i} {j} {a} {b} e p = rw (← e) p

pub laid_in_turn : LaidInTurn
laid_in_turn l i s t h =
    let j = min (i + length s) last_place in
    sym (laid_sets (laid l i s) j t)
    ∙ ap (λ m. sets m j t) (sym (laid_sets l i s))
    ∙ elim (dec_le (i + length s) last_place) [
      | yes q ↦ ap (λ k. sets (sets l i s) k t) (omega arith)
      | no q ↦ let g = lt_of_not-le q in
          sets_past (sets l i s) j t (omega (arith, length-sets l i s)) ∙ sym (sets_past (sets l i s) (i + length s) t (omega (arith, length-sets l i s)))
    ]
    ∙ sym (sets_append l i s t)
    ∙ laid_sets l i (s ++ t)

-- texts in turn, in any buffer that can be counted: a text and then others, or the last
abbrev pub InTurn : List ℕ → ℕ → List ℕ → ℕ → List ℕ → Type 0
InTurn a i s j b = length a ≤ last_place → Lays a i s j b

module _ {i j k : ℕ} {a b c s t : List ℕ} where
  pub then : Lays a i s j b → InTurn b j t k c → InTurn a i (s ++ t) k c
  then p f h =
      let q = f (omega (arith, same p)) in
      record {
        place = omega (arith, p.place, q.place, length-append s t);
        bytes =
            q.bytes ∙ ap (λ l. laid l j t) p.bytes ∙ ap (λ k. laid (laid a i s) k t) p.place ∙ laid_in_turn a i s t h;
      }

pub last : {i j : ℕ} {a b s : List ℕ} → Lays a i s j b → InTurn a i s j b
last p h = p

-- ---- a text, byte by byte
-- one byte
pub one : {a b : List ℕ} {i j x : ℕ} → j ≡ min (i + 1) last_place → b ≡ set a i x → Lays a i (x ∷ []) j b
one {a} {b} {i} {j} {x} p e = record { place = p; bytes = e ∙ laid_sets a i (x ∷ []) }

-- nothing is laid yet
pub none : (a : List ℕ) (i : ℕ) → i ≤ last_place → Lays a i [] i a
none a i h = record { place = omega arith; bytes = laid_sets a i [] }

-- one byte more of a text
pub more : {a b c : List ℕ} {i j n : ℕ} (t : List ℕ) (k : ℕ) → k < length t → length a ≤ last_place
    → Lays a i (take k t) j b → Lays b j (get_or t k 0 ∷ []) n c → Lays a i (take (k + 1) t) n c
more t k h g p q = is (sym (ap (λ m. take m t) (add-one k) ∙ take-suc t k 0 h)) (then p (last q) g)

-- all bytes of a text
pub whole : {a b : List ℕ} {i j k : ℕ} (t : List ℕ) → k ≡ length t → Lays a i (take k t) j b → Lays a i t j b
whole t e p = is (ap (λ m. take m t) e ∙ take-length t) p

-- ---- a number: its one digit, or the digits of its tenth and then its last one
pub number_one : {a b : List ℕ} {i j : ℕ} (x : ℕ) → x < 10 → Lays a i (digit x ∷ []) j b → Lays a i (digits x) j b
number_one x h p = is (sym (digits_one x h)) p

pub number_more : {a b c : List ℕ} {i j k : ℕ} (x : ℕ) → 10 ≤ x → length a ≤ last_place
    → Lays a i (digits (x / 10)) j b → Lays b j (digit (x % 10) ∷ []) k c → Lays a i (digits x) k c
number_more x h g p q = is (sym (digits_more x h)) (then p (last q) g)

-- ---- a text that is measured past the end of the buffer, and then put or not
full : (e : List ℕ) (i : ℕ) (t : List ℕ) → length e < i + length t → Puts e i t None e
full e i t h = let f = lt-leb (i + length t) (length e) h in (rw f refl, rw f refl)

-- it was measured past the end: a buffer is so short that a text that cannot be counted from there on cannot fit
module _ {e b t : List ℕ} {j : ℕ} (i : ℕ) (short : 2 * length e < last_place) (p : Lays e (length e) t j b) where
  kept : b ≡ e
  kept = p.bytes ∙ laid_past e (length e) t (le_refl _)

  -- it does not fit
  pub put_full : length e < i + (j - length e) → Puts e i t None b
  put_full h =
      let f = full e i t (omega (arith, p.place)) in
      (f.0, kept ∙ f.1)

  -- it fits
  pub put_at : {k : ℕ} {d : List ℕ} → i + (j - length e) ≤ length e → Lays b i t k d → Puts e i t (Some k) d
  put_at {k} h q =
      let g : i + length t ≤ length e = omega (arith, p.place) in
      let f = le-leb (i + length t) (length e) g in
      let m : k ≡ i + length t = omega (arith, q.place) in
      (rw f (ap Some m), q.bytes ∙ ap (λ l. laid l i t) kept ∙ laid_whole e i t g)

-- the same text under another name, put
pub put_as : (buffer : List ℕ) (i : ℕ) {s t after : List ℕ} {r : Option ℕ} → s ≡ t → Puts buffer i s r after → Puts buffer i t r after
put_as buffer i e p = (p.0 ∙ ap (λ t. (put buffer i t).0) e, p.1 ∙ ap (λ t. (put buffer i t).1) e)

-- ---- a text at the start of a buffer: there is room for it, or not
pub all_put : (text buffer : List ℕ) → length text ≤ length buffer → put buffer 0 text ≡ (Some (length text), text ++ drop (length text) buffer)
all_put text buffer h = rw (le-leb (0 + length text) (length buffer) (omega arith)) (rw (zero-add (length text)) refl)

pub none_put : (text buffer : List ℕ) → length buffer < length text → put buffer 0 text ≡ (None, buffer)
none_put text buffer h = rw (lt-leb (0 + length text) (length buffer) (omega arith)) refl
