-- Rows of words are laid one after the other, and read back from what was laid. Assumes nothing.
use mathlib.Core.Path.{◌≡◌, refl, sym, ap, ◌∙◌}
use mathlib.Core.Bool.{true}
use mathlib.Core.List.{List, [], ◌∷◌, ◌++◌, map, append_assoc, append-nil, flat_map, map-id}
use Prim.Native.Nat.{ℕ, zero, suc, ◌+◌, ◌-◌, ◌*◌, ◌/◌, ◌≤◌, ◌<◌}
use native.Mathlib.Nat.{add-zero, le-div_iff_mul-le, mul_comm, mul-zero, mul-suc, suc-mul, mul-le-mul_left}
use native.Mathlib.Numerals.{add-one}
use native.Mathlib.Omega.{arith}
use borrow.Author.Tests.{lt-ltb, ltb-true}
use lib.ListN.{length, take, drop, get_or, set, length-append, length-drop, length-map, get_or-append, get_or-map}
use Rattle.std.specs.Simd.{first_chunks}
use Rattle.std.proofs.lemmas.List.{get_or-take}
use lib.Seq.{get_or-drop, paste, paste-suc, take_at, take_all, drop-append-add, drop-drop, length-take-le, get_or-append-add}
use Rattle.laws.specs.Lists.{rows}
use Rattle.laws.proofs.Lists.{rows_more, rows_same, rows_take, length_rows}
use Rattle.laws.proofs.Pieces.{flat_append, length_flat, in_piece}
use Rattle.bound.specs.declared.Searched.{Searched}
use Rattle.bound.specs.declared.Wait.{Wait}
use Rattle.bound.specs.declared.Verdict.{Verdict, TheVariants.Met, TheVariants.Missed, TheVariants.None}
use Rattle.bound.specs.Bound.{verdict_number}
use Rattle.row_words.specs.RowWords.{row_words, words_per_row, wait_words, words_per_wait, has_row, with_row, verdict_at, bound_at, instance_at, evaluations_at}
use Rattle.row_words.specs.RowWords.{verdict_of_number, answer_at, wait_at, ReadBack, WaitReadBack, RowsReadBack, WaitsReadBack}

-- ---- what the stores leave, after k words and after all
pub put_more : (ws own : List ℕ) (at k i : ℕ) {now : List ℕ} → i ≡ at + k → at + length own ≤ length ws → k < length own
    → now ≡ paste ws at own k → set now i (get_or own k 0) ≡ paste ws at own (k + 1)
put_more ws own at k i e room h is = rw (is, e, add-one k) (paste-suc ws at own k 0 (omega arith) h)

pub put_is : (w k : ℕ) (ws own : List ℕ) → k < length ws / w → length own ≡ w → paste ws (w * k) own w ≡ with_row w ws k own
unfolding with_row
put_is w k ws own h e = rw (lt-ltb _ _ h, take_all w own (omega arith)) refl

-- ---- what is found: rows are cut off from the front on
length_chunks : (w n : ℕ) (ws : List ℕ) → length (first_chunks w n ws) ≡ n
length_chunks w zero ws = refl
length_chunks w (suc n) ws = omega (arith, length_chunks w n (drop w ws))

chunk_at : (w n k : ℕ) (ws : List ℕ) → k < n → get_or (first_chunks w n ws) k [] ≡ take w (drop (w * k) ws)
chunk_at w zero k ws h = absurd (omega arith)
chunk_at w (suc n) zero ws h = rw (mul-zero w) refl
chunk_at w (suc n) (suc k) ws h =
    let e : w + w * k ≡ w * suc k = omega (arith, mul-suc w k) in
    chunk_at w n k (drop w ws) (omega arith) ∙ ap (take w) (drop-drop (w * k) w ws ∙ ap (λ i. drop i ws) e)

-- row k, and each word of it
module _ (w k : ℕ) (ws : List ℕ) {rows : List (List ℕ)} (cut : rows ≡ first_chunks w (length ws / w) ws) where
  pub row_there : k < length rows → k < length ws / w
  row_there h = omega (arith, h, ap length cut, length_chunks w (length ws / w) ws)

  pub row_word : {row : List ℕ} → k < length rows → row ≡ get_or rows k [] → (j : ℕ) → j < w → get_or row j 0 ≡ get_or ws (w * k + j) 0
  row_word h e j i =
      ap (λ l. get_or l j 0) (e ∙ ap (λ l. get_or l k []) cut ∙ chunk_at w (length ws / w) k ws (row_there h))
      ∙ get_or-take w (drop (w * k) ws) j 0 i
      ∙ get_or-drop (w * k) ws j 0

-- ---- rows of w words each
fits_row : (w : ℕ) → 1 ≤ w → (k : ℕ) (ws : List ℕ) → w * k + w ≤ length ws → k < length ws / w
fits_row w some k ws h = (le-div_iff_mul-le some).1 (omega (arith, suc-mul k w, mul_comm w k))

pub has_row_lem : (w : ℕ) → 1 ≤ w → (k : ℕ) (ws : List ℕ) → k < length ws / w → w * k + w ≤ length ws
has_row_lem w some k ws h = omega (arith, (le-div_iff_mul-le some).0 h, suc-mul k w, mul_comm w k)

module _ {A : Type 0} (w : ℕ) (row : A → List ℕ) (some : 1 ≤ w) (each : (a : A) → length (row a) ≡ w) where
  -- one row more, after those before it
  pub put_next : (f : ℕ → A) (k : ℕ) (ws now : List ℕ) → w * k + w ≤ length ws
      → now ≡ flat_map row (rows k f) ++ drop (w * k) ws → with_row w now k (row (f k)) ≡ flat_map row (rows (k + 1) f) ++ drop (w * (k + 1)) ws
  unfolding with_row flat_map
  put_next f k ws now h e =
      let front = flat_map row (rows k f) in
      let l : length front ≡ w * k = length_flat w row each (rows k f) ∙ ap (λ j. w * j) (length_rows k f) in
      let n : w * k + w ≡ w * (k + 1) = sym (ap (λ j. w * j) (add-one k) ∙ mul-suc w k) in
      let size : length now ≡ w * k + (length ws - w * k) = ap length e ∙ length-append front (drop (w * k) ws) ∙ omega (arith, l, length-drop (w * k) ws) in
      let r = fits_row w some k now (omega arith) in
      let d : drop (w * k + w) (front ++ drop (w * k) ws) ≡ drop (w * (k + 1)) ws =
      ap (λ j. drop (j + w) (front ++ drop (w * k) ws)) (sym l)
      ∙ drop-append-add front (drop (w * k) ws) w
      ∙ drop-drop w (w * k) ws
      ∙ ap (λ j. drop j ws) n in
      rw (lt-ltb _ _ r, e, take_at front _ (w * k) l, d, rows_more f k, flat_append row (rows k f) (f k ∷ []), append-nil (row (f k))) refl

-- ---- and read back

-- the words of row k, of w each, are these
pub record Says (w : ℕ) (ws : List ℕ) (k : ℕ) (row : List ℕ) : Type 0 where
  pub there : k < length ws / w
  pub word : (j : ℕ) → j < w → get_or ws (w * k + j) 0 ≡ get_or row j 0

-- those of a row that was put, ..
put_says : (w : ℕ) (ws : List ℕ) (k : ℕ) (row : List ℕ) → 1 ≤ w → length row ≡ w → has_row w ws k ≡ true → Says w (with_row w ws k row) k row
unfolding with_row
put_says w ws k row some e h =
    let fits = has_row_lem w some k ws (ltb-true k (length ws / w) h) in
    let front : length (take (w * k) ws) ≡ w * k = length-take-le (w * k) ws (omega arith) in
    let rest = drop (w * k + w) ws in
    rw (h, append_assoc)
    (record {
      there = fits_row w some k (take (w * k) ws ++ (row ++ rest)) (omega (arith, length-append (take (w * k) ws) (row ++ rest), length-append row rest));
      word = λ j i.
          ap (λ z. get_or (take (w * k) ws ++ (row ++ rest)) (z + j) 0) (sym front)
          ∙ get_or-append-add (take (w * k) ws) (row ++ rest) j 0
          ∙ get_or-append row rest 0 j (omega arith);
    })

-- .. and those of a list's rows
pub rows_say : {A : Type 0} (w : ℕ) (row : A → List ℕ) → 1 ≤ w → ((a : A) → length (row a) ≡ w)
    → (l : List A) (after : List ℕ) (d : A) (k : ℕ) → k < length l → Says w (flat_map row l ++ after) k (row (get_or l k d))
rows_say w row some each l after d k h =
    let size = length_flat w row each l in
    let fits : w * k + w ≤ w * length l = omega (arith, mul-suc w k, mul-le-mul_left {m = suc k} {n = length l} w h) in
    record {
      there = fits_row w some k (flat_map row l ++ after) (omega (arith, size, length-append (flat_map row l) after));
      word = λ j i.
          get_or-append (flat_map row l) after 0 (w * k + j) (omega (arith, size)) ∙ in_piece w row each l k j d 0 h i;
    }

-- ---- an answer's words
-- the words of row k are an answer's, with the number of its evaluations
pub record RowSays (ws : List ℕ) (k : ℕ) (s : Searched) : Type 0 where
  pub there : k < length ws / words_per_row
  pub verdict : verdict_at ws k ≡ verdict_number s.answer.verdict
  pub bound : bound_at ws k ≡ s.answer.bound
  pub instance : instance_at ws k ≡ s.answer.instance
  pub evaluations : evaluations_at ws k ≡ s.evaluations

says_answer : {ws : List ℕ} {k : ℕ} {s : Searched} → Says words_per_row ws k (row_words s) → RowSays ws k s
says_answer {ws} {k} h =
    record {
      there = h.there;
      verdict = ap (λ j. get_or ws j 0) (sym (add-zero (words_per_row * k))) ∙ h.word 0 (omega arith);
      bound = h.word 1 (omega arith);
      instance = h.word 2 (omega arith);
      evaluations = h.word 3 (omega arith);
    }

pub row_says : (l : List Searched) (after : List ℕ) (d : Searched) (k : ℕ) → k < length l → RowSays (flat_map row_words l ++ after) k (get_or l k d)
row_says l after d k h = says_answer (rows_say words_per_row row_words (omega arith) (λ s. refl) l after d k h)

verdict_back : (v : Verdict) → verdict_of_number (verdict_number v) ≡ v
verdict_back Met = refl
verdict_back Missed = refl
verdict_back None = refl

answer_back : {ws : List ℕ} {k : ℕ} {s : Searched} → RowSays ws k s → answer_at ws k ≡ s.answer
unfolding answer_at
answer_back {s = s} h = rw (lt-ltb _ _ h.there, h.verdict, h.bound, h.instance, verdict_back s.answer.verdict) refl

pub read_back : ReadBack
read_back ws k s h =
    let r : RowSays (with_row words_per_row ws k (row_words s)) k s = says_answer (put_says words_per_row ws k (row_words s) (omega arith) refl h) in
    (answer_back r, r.evaluations)

-- ---- the words of a wait
wait_back : {ws : List ℕ} {k : ℕ} {w : Wait} → Says words_per_wait ws k (wait_words w) → wait_at ws k ≡ w
unfolding wait_at
wait_back {ws} {k} h =
    rw (lt-ltb _ _ h.there, ap (λ j. get_or ws j 0) (sym (add-zero (words_per_wait * k))) ∙ h.word 0 (omega arith), h.word 1 (omega arith)) refl

pub wait_read_back : WaitReadBack
wait_read_back ws k w h = wait_back (put_says words_per_wait ws k (wait_words w) (omega arith) refl h)

-- ---- all rows
-- what is read of each row is read of all
all_back : {A C : Type 0} (g : A → C) (l : List A) (d : A) (read : ℕ → C) → ((k : ℕ) → k < length l → read k ≡ g (get_or l k d)) → rows (length l) read ≡ map g l
all_back g l d read e =
    rows_same (length l) read (λ k. get_or (map g l) k (g d)) (λ k h. e k h ∙ sym (get_or-map g l k d))
    ∙ rows_take (map g l) (g d) (length l) (omega (arith, length-map l g))
    ∙ take_all (length l) (map g l) (omega (arith, length-map l g))

pub rows_read_back : RowsReadBack
rows_read_back l after =
    let d : Searched = record { answer = record { verdict = None; bound = 0; instance = 0 }; evaluations = 0; x = 0 } in (
      all_back (λ s. s.answer) l d _ (λ k h. answer_back (row_says l after d k h)),
      all_back (λ s. s.evaluations) l d _ (λ k h. (row_says l after d k h).evaluations),
    )

pub waits_read_back : WaitsReadBack
waits_read_back l after =
    let d : Wait = record { evaluations = 0; limit = 0 } in
    all_back (λ w. w) l d _ (λ k h. wait_back (rows_say words_per_wait wait_words (omega arith) (λ w. refl) l after d k h)) ∙ map-id l
