-- The words of a file, and what is entered in the bodies of a file of each edition: word by word its words are those of the bodies, each in
-- its place, and 0 where the edition has none; in edition 3 they are the bodies. Assumes nothing.
use mathlib.Core.Path.{◌≡◌, refl, sym, ap, ap₂, ◌∙◌, subst}
use mathlib.Core.Bool.{true, false, not, ◌&&◌, and-true, true≢false}
use mathlib.Core.List.{List, [], ◌++◌, flat_map, append-nil}
use Prim.Native.Nat.{ℕ, ◌+◌, ◌-◌, ◌*◌, ◌/◌, ◌%◌, ◌≤◌, ◌<◌}
use native.Mathlib.Nat.{lt_of_not-le, add-zero}
use native.Mathlib.Decide.{dec_le, dec_lt}
use native.Mathlib.Omega.{arith}
use borrow.Author.Tests.{le-leb, lt-leb, lt-ltb, le-ltb, ltb-true, ltb-false, eq-eqb, ne_eqb}
use lib.Dec.{ltb, eqb}
use lib.ListN.{length, get_or, take, drop, length-take, length-drop, take-append-drop, get_or-append, get_or-eq_default}
use lib.Seq.{get_or-take, get_or-drop, take_all}
use Rattle.laws.specs.Lists.{rows}
use Rattle.laws.proofs.Lists.{length_rows, rows_at, rows_same}
use Rattle.plan.specs.Plan.{blank}
use Rattle.carried.specs.declared.Edition.{Edition, TheVariants.One, TheVariants.Two, TheVariants.Three}
use Rattle.carried.specs.Layout as layout
use Rattle.carried.specs.Carried.{Entered, plain_timing, plainly, entered_timing_in, stream_in, entered_in, timing_in, plan_in, timing_words, stream_words, entered_words}
use Rattle.carried.proofs.Editions.{before_P, past_P}
use Rattle.carried.proofs.Plans.{length_words as length_entered, stream_word, gap_word, words_back, tail_back}
use Rattle.file.specs.File.{contents, file_words, record_in, entered_in_bodies}

-- ---- the words of a file
pub length_words : (v : Entered) → length (file_words v) ≡ layout.contents_length + layout.gap_at (length v.streams) (length v.gaps)
unfolding file_words
length_words v = omega (arith, length_entered v)

-- of the plan that is meant by words that may have more after it: its timing has words of its own, and the others stand as they are
pub words_meant : (n m : ℕ) (ws : List ℕ) → layout.gap_at n m ≤ length ws
    → file_words (plainly (plan_in n m ws)) ≡ contents Three n m ++ (timing_words (plain_timing (timing_in ws)) ++ take (layout.stream_length * n + m) (drop layout.timing_length ws))
unfolding file_words entered_in
words_meant n m ws h =
    ap₂ (λ a b. contents Three a b ++ entered_words (plainly (plan_in n m ws))) (length_rows n _) (length_rows m _)
    ∙ ap (λ l. contents Three n m ++ (timing_words (plain_timing (timing_in ws)) ++ l)) (tail_back ws n m h)

-- ---- in edition 3 what is entered in the bodies is what is entered in their words
timing_taken : (ws : List ℕ) → entered_timing_in (take layout.timing_length ws) ≡ entered_timing_in ws
timing_taken ws =
    let t : (k : ℕ) → k < layout.timing_length → get_or (take layout.timing_length ws) k 0 ≡ get_or ws k 0 = λ k h. get_or-take layout.timing_length ws k 0 h in
    rw (t 0 (omega arith), t 1 (omega arith), t 2 (omega arith), t 3 (omega arith), t 4 (omega arith), t 5 (omega arith), t 6 (omega arith), t 7 (omega arith), t 8 (omega arith), t 9 (omega arith)) refl

stream_taken : (ws : List ℕ) (k : ℕ) → stream_in (take layout.stream_length (drop k ws)) 0 ≡ stream_in ws k
stream_taken ws k =
    let t : (j : ℕ) → j < layout.stream_length → get_or (take layout.stream_length (drop k ws)) j 0 ≡ get_or ws (k + j) 0 =
    λ j h. get_or-take layout.stream_length (drop k ws) j 0 h ∙ get_or-drop k ws j 0 in
    rw (t 0 (omega arith), t 1 (omega arith), t 2 (omega arith), t 3 (omega arith), t 4 (omega arith), t 5 (omega arith), t 6 (omega arith), add-zero k) refl

pub as_carried : (n m : ℕ) (bodies : List ℕ) → entered_in_bodies Three n m bodies ≡ entered_in n m bodies
unfolding entered_in_bodies entered_in
as_carried n m bodies =
    let streams : rows n (record_in Three bodies) ≡ rows n (λ r. stream_in bodies (layout.stream_at r)) =
    rows_same n _ _ (λ r h. stream_taken bodies (layout.stream_at r)) in
    rw (timing_taken bodies, streams) refl

pub length_at : (edition : Edition) (n m : ℕ) (bodies : List ℕ)
    → (length (entered_in_bodies edition n m bodies).streams ≡ n) × (length (entered_in_bodies edition n m bodies).gaps ≡ m)
unfolding entered_in_bodies
length_at edition n m bodies = (length_rows n _, length_rows m _)

-- so its words are the bodies
pub bodies_back : (n m : ℕ) (bodies : List ℕ) → length bodies ≡ layout.gap_at n m → entered_words (entered_in_bodies Three n m bodies) ≡ bodies
bodies_back n m bodies e =
    ap entered_words (as_carried n m bodies) ∙ words_back n m bodies (omega arith) ∙ take_all (layout.gap_at n m) bodies (omega arith)

-- .. and its file's words those of the file
pub words_of_plan : (ws : List ℕ) (n m : ℕ) → length ws ≡ layout.contents_length + layout.gap_at n m → take layout.contents_length ws ≡ contents Three n m
    → file_words (entered_in_bodies Three n m (drop layout.contents_length ws)) ≡ ws
unfolding file_words
words_of_plan ws n m long e =
    let bodies = drop layout.contents_length ws in
    let (n-is, m-is) = length_at Three n m bodies in
    let k : length bodies ≡ layout.gap_at n m = length-drop layout.contents_length ws ∙ omega arith in
    ap₂ (λ a b. contents Three a b ++ entered_words (entered_in_bodies Three n m bodies)) n-is m-is
    ∙ ap₂ ◌++◌ (sym e) (bodies_back n m bodies k)
    ∙ take-append-drop layout.contents_length ws

-- ---- the words of what is entered in the bodies, one by one
module _ (edition : Edition) (n m : ℕ) (bodies : List ℕ) where
  abbrev v : Entered
  v = entered_in_bodies edition n m bodies

  abbrev pub value_at : ℕ → ℕ
  value_at k = get_or (entered_words v) k 0

  in_timing : (k : ℕ) → k < layout.timing_length → value_at k ≡ get_or (take (layout.timing_body edition) bodies) k 0
  unfolding entered_in_bodies rows
  in_timing k h =
      let ws = take (layout.timing_body edition) bodies in
      get_or-append (timing_words (entered_timing_in ws)) (flat_map stream_words v.streams ++ v.gaps) 0 k h ∙ rows_at layout.timing_length (λ j. get_or ws j 0) 0 k h

  in_record : (r j : ℕ) → r < n → j < layout.stream_length
      → value_at (layout.stream_at r + j) ≡ get_or (take (layout.stream_body edition) (drop (layout.record_at edition r) bodies)) j 0
  unfolding entered_in_bodies rows
  in_record r j h g =
      let ws = take (layout.stream_body edition) (drop (layout.record_at edition r) bodies) in
      ap (λ l. get_or l (layout.stream_at r + j) 0) (sym (append-nil (entered_words v)))
      ∙ stream_word v [] r j (omega (arith, length_at edition n m bodies)) g
      ∙ ap (λ s. get_or (stream_words s) j 0) (rows_at n (record_in edition bodies) blank r h)
      ∙ rows_at layout.stream_length (λ j. get_or ws j 0) 0 j g

  in_gaps : (i : ℕ) → i < m → value_at (layout.gap_at n i) ≡ get_or bodies (layout.record_at edition n + i) 0
  unfolding entered_in_bodies
  in_gaps i h =
      let (n-is, m-is) = length_at edition n m bodies in
      ap (λ l. get_or l (layout.gap_at n i) 0) (sym (append-nil (entered_words v)))
      ∙ ap (λ k. get_or (entered_words v ++ []) (layout.gap_at k i) 0) (sym n-is)
      ∙ gap_word v [] i (omega arith)
      ∙ rows_at m (λ k. get_or bodies (layout.record_at edition n + k) 0) 0 i h

-- a word past the end of those that were taken is 0
taken_past : (n k : ℕ) (ws : List ℕ) → n ≤ k → get_or (take n ws) k 0 ≡ 0
taken_past n k ws h = get_or-eq_default (take n ws) 0 (omega (arith, length-take n ws))

-- ---- which words an edition has, and where they stand
-- none of the timing's and of the gaps' is K, and of a record's the last one
module _ (n : ℕ) where
  timing_is : (k : ℕ) → k < layout.timing_length → layout.is_acknowledgement n k ≡ false
  timing_is k h = simp (lt-leb layout.timing_length k h)

  record_is : (r j : ℕ) → r < n → j < layout.stream_length → layout.is_acknowledgement n (layout.stream_at r + j) ≡ eqb j 6
  record_is r j h g =
      let k = layout.stream_at r + j in
      let row : (k - layout.timing_length) / layout.stream_length ≡ r = omega arith in
      let word : (k - layout.timing_length) % layout.stream_length ≡ j = omega arith in
      simp (le-leb layout.timing_length k (omega arith), row, word, lt-ltb r n h)

  gap_is : (i : ℕ) → layout.is_acknowledgement n (layout.gap_at n i) ≡ false
  gap_is i =
      let q : n ≤ (layout.gap_at n i - layout.timing_length) / layout.stream_length = omega arith in
      simp (le-leb layout.timing_length (layout.gap_at n i) (omega arith), le-ltb _ n q)

-- all but the last
not_last : (k last : ℕ) → k ≤ last → not (eqb k last) ≡ ltb k last
not_last k last h =
    elim (dec_le last k) [
      | yes g ↦ ap not (eq-eqb k last (omega arith)) ∙ sym (le-ltb k last g)
      | no g ↦ ap not (ne_eqb k last (λ e. omega (arith, lt_of_not-le g))) ∙ sym (lt-ltb k last (lt_of_not-le g))
    ]

module _ (n k : ℕ) where
  -- beside P
  no_P : (k ≡ layout.slot_at → ⊥) → layout.has_word One n k ≡ layout.has_word Two n k
  no_P h = ap (λ b. not b && not (layout.is_acknowledgement n k)) (ne_eqb k layout.slot_at h)

-- a word of the timing is there if its body is so long, one of a stream if its record is, and every gap
has_timing : (edition : Edition) (n k : ℕ) → k < layout.timing_length → layout.has_word edition n k ≡ ltb k (layout.timing_body edition)
has_timing One n k h =
    ap (λ b. not (eqb k layout.slot_at) && not b) (timing_is n k h) ∙ and-true _ ∙ not_last k layout.slot_at (omega arith)
has_timing Two n k h = ap not (timing_is n k h) ∙ sym (lt-ltb k layout.timing_length h)
has_timing Three n k h = sym (lt-ltb k layout.timing_length h)

has_record : (edition : Edition) (n r j : ℕ) → r < n → j < layout.stream_length → layout.has_word edition n (layout.stream_at r + j) ≡ ltb j (layout.stream_body edition)
has_record One n r j h g = no_P n (layout.stream_at r + j) (λ e. omega arith) ∙ ap not (record_is n r j h g) ∙ not_last j 6 (omega arith)
has_record Two n r j h g = ap not (record_is n r j h g) ∙ not_last j 6 (omega arith)
has_record Three n r j h g = sym (lt-ltb j layout.stream_length g)

has_gap : (edition : Edition) (n i : ℕ) → layout.has_word edition n (layout.gap_at n i) ≡ true
has_gap One n i = no_P n (layout.gap_at n i) (λ e. omega arith) ∙ ap not (gap_is n i)
has_gap Two n i = ap not (gap_is n i)
has_gap Three n i = refl

-- .. and stands as far on in the bodies
at_timing : (edition : Edition) (n k : ℕ) → k < layout.timing_length → layout.in_bodies edition n k ≡ k
at_timing One n k h = before_P n k h
at_timing Two n k h = omega arith
at_timing Three n k h = refl

at_record : (edition : Edition) (n r j : ℕ) → r < n → j < layout.stream_length → layout.in_bodies edition n (layout.stream_at r + j) ≡ layout.record_at edition r + j
at_record One n r j h g = past_P n (layout.stream_at r + j) (omega arith) ∙ omega arith
at_record Two n r j h g = omega arith
at_record Three n r j h g = refl

at_gap : (edition : Edition) (n i : ℕ) → layout.in_bodies edition n (layout.gap_at n i) ≡ layout.record_at edition n + i
at_gap One n i = past_P n (layout.gap_at n i) (omega arith) ∙ omega arith
at_gap Two n i = omega arith
at_gap Three n i = refl

-- ---- so each word that is entered is the bodies' in its place, or 0
data Stands (n m : ℕ) : ℕ → Type 0 where
  of_timing_lem : (k : ℕ) → k < layout.timing_length → Stands n m k
  of_record : (r j : ℕ) → r < n → j < layout.stream_length → Stands n m (layout.stream_at r + j)
  of_gaps : (i : ℕ) → i < m → Stands n m (layout.gap_at n i)

stands : (n m k : ℕ) → k < layout.gap_at n m → Stands n m k
stands n m k h =
    elim (dec_lt k layout.timing_length) [
      | yes a ↦ of_timing_lem k a
      | no a ↦
          elim (dec_lt k (layout.stream_at n)) [
            | yes b ↦
                let r : ℕ = (k - layout.timing_length) / layout.stream_length in
                let j : ℕ = (k - layout.timing_length) % layout.stream_length in
                let e : layout.stream_at r + j ≡ k = omega arith in
                subst (Stands n m) e (of_record r j (omega arith) (omega arith))
            | no b ↦
                let e : layout.gap_at n (k - layout.stream_at n) ≡ k = omega arith in
                subst (Stands n m) e (of_gaps (k - layout.stream_at n) (omega arith))
          ]
    ]

module _ (edition : Edition) (n m : ℕ) (bodies : List ℕ) where
  value_there : {k : ℕ} → Stands n m k → layout.has_word edition n k ≡ true → value_at edition n m bodies k ≡ get_or bodies (layout.in_bodies edition n k) 0
  value_there (of_timing_lem k h) e =
      in_timing edition n m bodies k h
      ∙ get_or-take (layout.timing_body edition) bodies k 0 (ltb-true _ _ (sym (has_timing edition n k h) ∙ e))
      ∙ ap (λ x. get_or bodies x 0) (sym (at_timing edition n k h))
  value_there (of_record r j h g) e =
      in_record edition n m bodies r j h g
      ∙ get_or-take (layout.stream_body edition) (drop (layout.record_at edition r) bodies) j 0 (ltb-true _ _ (sym (has_record edition n r j h g) ∙ e))
      ∙ get_or-drop (layout.record_at edition r) bodies j 0
      ∙ ap (λ x. get_or bodies x 0) (sym (at_record edition n r j h g))
  value_there (of_gaps i h) e = in_gaps edition n m bodies i h ∙ ap (λ x. get_or bodies x 0) (sym (at_gap edition n i))

  value_not : {k : ℕ} → Stands n m k → layout.has_word edition n k ≡ false → value_at edition n m bodies k ≡ 0
  value_not (of_timing_lem k h) e =
      in_timing edition n m bodies k h ∙ taken_past (layout.timing_body edition) k bodies (ltb-false _ _ (sym (has_timing edition n k h) ∙ e))
  value_not (of_record r j h g) e =
      in_record edition n m bodies r j h g ∙ taken_past (layout.stream_body edition) j _ (ltb-false _ _ (sym (has_record edition n r j h g) ∙ e))
  value_not (of_gaps i h) e = absurd (true≢false (sym (has_gap edition n i) ∙ e))

  pub word_there : (k : ℕ) → k < layout.gap_at n m → layout.has_word edition n k ≡ true → value_at edition n m bodies k ≡ get_or bodies (layout.in_bodies edition n k) 0
  word_there k h = value_there (stands n m k h)

  pub word_not : (k : ℕ) → k < layout.gap_at n m → layout.has_word edition n k ≡ false → value_at edition n m bodies k ≡ 0
  word_not k h = value_not (stands n m k h)
