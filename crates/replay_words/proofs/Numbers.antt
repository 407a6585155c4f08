-- The words of a text, one after the other, and the number that each is. Assumes nothing.
use mathlib.Core.Path.{◌≡◌, refl, sym, ap, ◌∙◌}
use mathlib.Core.Bool.{Bool, true, false, not, cond, ◌&&◌, true≢false}
use mathlib.Core.List.{List, [], ◌∷◌, ◌++◌, map, map-append, append_assoc, append-nil}
use Prim.Native.Nat.{ℕ, zero, suc, ◌+◌, ◌-◌, ◌*◌, ◌≤◌, ◌<◌, min}
use native.Mathlib.Numerals.{add-one, one-add}
use native.Mathlib.Omega.{arith}
use borrow.Author.Tests.{lt-leb, le-leb, eq-eqb, ne_eqb}
use lib.Dec.{eqb}
use lib.ListN.{length, get_or, set, take, drop, replicate, take-append-drop, length-append, length-take, length-drop, length-map}
use lib.Seq.{take-suc, take-length, take_all, take-append-le, set_at, set_out, append_snoc}
use native.Mathlib.Nat.{add-zero, lt_of_not-le}
use native.Mathlib.Decide.{dec_le}
use Rattle.std.proofs.lemmas.List.{nil_from_length, get_or-drop}
use Rattle.std.proofs.lemmas.List.Sums.{prefix_len_stops}
use Rattle.std.specs.Prelude.{Some, None, Ok, Err}
use Rattle.std.specs.List.{prefix_len}
use Rattle.names.specs.Limits.{ticks}
use Rattle.decimal.specs.Decimal.{digit, value_from, value_of}
use Rattle.decimal.proofs.Decimal.{value_snoc}
use Rattle.names.specs.declared.Priority.{Priority}
use Rattle.names.specs.Limits.{contenders}
use Rattle.laws.specs.Lists.{placed}
use Rattle.tournament_state.specs.Refusals.{none}
use Rattle.replay_screen.specs.Shown.{shown_of}
use Rattle.replay_words.specs.declared.Entered.{Entered}
use Rattle.replay_words.specs.declared.Words.{Words}
use Rattle.replay_words.specs.Handwritten.{separates, ended, words_after, text_words, is_digit, all_digits, is_number, number_of, wrong_from, places_of, usage, wrong_line, replay_of}
use Rattle.replay_words.specs.private.Reading.{number_in, words_left, with_number, entered_of, read_of}

-- ---- the words of a text
-- what parts words at the start is in none
pub past_parting : (text : List ℕ) → text_words text ≡ text_words (drop (prefix_len separates text) text)
unfolding words_after
past_parting [] = refl
past_parting (b ∷ text) = by_test (separates b) refl (past_parting text)
  where
    by_test : (p : Bool) → separates b ≡ p → text_words text ≡ text_words (drop (prefix_len separates text) text)
        → text_words (b ∷ text) ≡ text_words (drop (cond p (1 + prefix_len separates text) 0) (b ∷ text))
    by_test true e h = rw (e, one-add) h
    by_test false e h = refl

-- a word goes on to the byte that parts it
goes_on : (front text : List ℕ) → let n = prefix_len (λ b. not (separates b)) text in words_after front text ≡ ended (front ++ take n text) ++ text_words (drop n text)
unfolding words_after
goes_on front [] = rw (append-nil front) (sym (append-nil (ended front)))
goes_on front (b ∷ text) = by_test (separates b) refl (goes_on (front ++ (b ∷ [])) text)
  where
    by_test : (p : Bool) → separates b ≡ p
        → (let n = prefix_len (λ c. not (separates c)) text in words_after (front ++ (b ∷ [])) text ≡ ended (front ++ (b ∷ []) ++ take n text) ++ text_words (drop n text))
        → let n = cond (not p) (1 + prefix_len (λ c. not (separates c)) text) 0 in
        words_after front (b ∷ text) ≡ ended (front ++ take n (b ∷ text)) ++ text_words (drop n (b ∷ text))
    by_test true e h = rw (e, append-nil) refl
    by_test false e h = rw (e, one-add) (h ∙ ap (λ w. ended w ++ text_words (drop (prefix_len (λ c. not (separates c)) text) text)) (append_assoc front (b ∷ []) _))

-- the first word, where a word begins
pub first_word : (text : List ℕ) → 1 ≤ length text → separates (get_or text 0 0) ≡ false
    → let n = prefix_len (λ b. not (separates b)) text in text_words text ≡ take n text ∷ text_words (drop n text)
unfolding words_after
first_word [] h e = absurd (omega arith)
first_word (b ∷ text) h e = rw (e, one-add) (goes_on (b ∷ []) text)

-- a text from its first word on
module _ (text : List ℕ) (n : ℕ) (p : n ≡ prefix_len separates text) where
  abbrev after : List ℕ
  after = take (length text - n) (drop n text)

  all_after : after ≡ drop n text
  all_after = take_all (length text - n) (drop n text) (omega (arith, length-drop n text))

  words_after_lem : text_words text ≡ text_words after
  words_after_lem = past_parting text ∙ ap (λ k. text_words (drop k text)) (sym p) ∙ ap text_words (sym all_after)

  pub no_word : length after ≡ 0 → text_words text ≡ []
  unfolding words_after
  no_word h = words_after_lem ∙ ap text_words (nil_from_length after h)

  pub next_word : (m : ℕ) → (length after ≡ 0 → ⊥) → m ≡ prefix_len (λ b. not (separates b)) after → text_words text ≡ take m after ∷ text_words (drop m after)
  next_word m h e =
      let few : n < length text = omega (arith, ap length all_after, length-drop n text) in
      let first : separates (get_or after 0 0) ≡ false =
      ap (λ l. separates (get_or l 0 0)) all_after ∙ ap separates (get_or-drop n text 0 0) ∙ ap (λ k. separates (get_or text k 0)) (add-zero n ∙ p) ∙ prefix_len_stops separates text 0 (omega arith) in
      words_after_lem ∙ rw e (first_word after (omega arith) first)

-- ---- no text has more words than bytes
few_ended : (word : List ℕ) → length (ended word) ≤ min 1 (length word)
few_ended [] = omega arith
few_ended (b ∷ word) = omega arith

few_after : (word text : List ℕ) → length (words_after word text) ≤ length word + length text
unfolding words_after
few_after word [] = omega (arith, few_ended word)
few_after word (b ∷ text) = by_test (separates b) (few_after [] text) (few_after (word ++ (b ∷ [])) text)
  where
    by_test : (p : Bool) → length (words_after [] text) ≤ 0 + length text → length (words_after (word ++ (b ∷ [])) text) ≤ length (word ++ (b ∷ [])) + length text
        → length (cond p (ended word ++ words_after [] text) (words_after (word ++ (b ∷ [])) text)) ≤ length word + suc (length text)
    by_test true h g = omega (arith, length-append (ended word) (words_after [] text), few_ended word)
    by_test false h g = omega (arith, length-append word (b ∷ []))

pub few_words : (text : List ℕ) → length (text_words text) ≤ length text
few_words text = omega (arith, few_after [] text)

-- ---- the number that a word is
digits_snoc : (word : List ℕ) (b : ℕ) → all_digits (word ++ (b ∷ [])) ≡ all_digits word && is_digit b
unfolding all_digits
digits_snoc [] b = by_test (is_digit b)
  where
    by_test : (d : Bool) → d && true ≡ d
    by_test true = refl
    by_test false = refl
digits_snoc (c ∷ word) b = by_test (is_digit c) (digits_snoc word b)
  where
    by_test : (d : Bool) → all_digits (word ++ (b ∷ [])) ≡ all_digits word && is_digit b → d && all_digits (word ++ (b ∷ [])) ≡ d && all_digits word && is_digit b
    by_test true e = e
    by_test false e = refl

value_append : (n : ℕ) (word bs : List ℕ) → value_from n (word ++ bs) ≡ value_from (value_from n word) bs
unfolding value_from
value_append n [] bs = refl
value_append n (b ∷ word) bs = value_append (n * 10 + (b - digit 0)) word bs

value_grows : (n : ℕ) (bs : List ℕ) → n ≤ value_from n bs
unfolding value_from
value_grows n [] = omega arith
value_grows n (b ∷ bs) = omega (arith, value_grows (n * 10 + (b - digit 0)) bs)

neither : (a : Bool) → a && false ≡ false
neither true = refl
neither false = refl

pub no_digits : (all_digits [] ≡ true) × (0 ≡ value_of [])
unfolding all_digits value_from
no_digits = (refl, refl)

module _ (word : List ℕ) where
  -- one byte more
  module _ (i : ℕ) (h : i < length word) where
    taken : take (i + 1) word ≡ take i word ++ (get_or word i 0 ∷ [])
    taken = rw add-one (take-suc word i 0 h)

    pub digit_more : all_digits (take i word) ≡ true → is_digit (get_or word i 0) ≡ true → all_digits (take (i + 1) word) ≡ true
    digit_more a d = ap all_digits taken ∙ digits_snoc (take i word) (get_or word i 0) ∙ rw (a, d) refl

    pub value_more : value_of (take (i + 1) word) ≡ value_of (take i word) * 10 + (get_or word i 0 - digit 0)
    value_more = ap value_of taken ∙ value_snoc 0 (take i word) (get_or word i 0)

  -- a byte that is no digit
  pub no_digit : (i : ℕ) → i < length word → is_digit (get_or word i 0) ≡ false → None ≡ number_in word
  unfolding number_in is_number all_digits
  no_digit i h e = rw (go word i h e) refl
    where
      go : (w : List ℕ) (i : ℕ) → i < length w → is_digit (get_or w i 0) ≡ false → all_digits w ≡ false
      go [] i h e = absurd (omega arith)
      go (b ∷ w) zero h e = rw e refl
      go (b ∷ w) (suc i) h e = rw (go w i (omega arith) e) (neither (is_digit b))

  -- the first bytes are more than there may be
  pub too_large : (i : ℕ) → ticks < value_of (take i word) → None ≡ number_in word
  unfolding number_in is_number
  too_large i h =
      let all : value_of word ≡ value_from (value_of (take i word)) (drop i word) = ap value_of (sym (take-append-drop i word)) ∙ value_append 0 (take i word) (drop i word) in
      rw (lt-leb (value_of word) ticks (omega (arith, value_grows (value_of (take i word)) (drop i word))), neither) refl

  pub is_all : (i value : ℕ) → i ≡ length word → all_digits (take i word) ≡ true → value ≡ value_of (take i word) → value ≤ ticks → Some value ≡ number_in word
  unfolding number_in is_number
  is_all i value e a v h =
      let t : take i word ≡ word = ap (λ k. take k word) e ∙ take-length word in
      let d : all_digits word ≡ true = ap all_digits (sym t) ∙ a in
      let w : value ≡ value_of word = v ∙ ap value_of t in
      rw (d, ← w, le-leb value ticks h) refl

not_number : (word : List ℕ) → number_in word ≡ None → is_number word ≡ false
unfolding number_in
not_number word e = by_test (is_number word) e
  where
    by_test : (b : Bool) → cond b (Some (value_of word)) None ≡ None → b ≡ false
    by_test true h = cc
    by_test false h = refl

a_number : (word : List ℕ) (n : ℕ) → number_in word ≡ Some n → (is_number word ≡ true) × (n ≡ number_of word)
unfolding number_in number_of
a_number word n e = by_test (is_number word) e
  where
    by_test : (b : Bool) → cond b (Some (value_of word)) None ≡ Some n → (b ≡ true) × (n ≡ cond b (value_of word) 0)
    by_test true h = (refl, cc)
    by_test false h = cc

-- ---- one word more
wrong_more : (k : ℕ) (words : List (List ℕ)) (word : List ℕ) → wrong_from k words ≡ 0 → 1 ≤ k
    → wrong_from k (words ++ (word ∷ [])) ≡ cond (is_number word) 0 (k + length words)
unfolding wrong_from
wrong_more k [] word e h = ap (λ n. cond (is_number word) 0 n) (sym (add-zero k))
wrong_more k (w ∷ words) word e h = by_test (is_number w) e (λ z. wrong_more (suc k) words word z (omega arith))
  where
    by_test : (a : Bool) → cond a (wrong_from (suc k) words) k ≡ 0
        → (wrong_from (suc k) words ≡ 0 → wrong_from (suc k) (words ++ (word ∷ [])) ≡ cond (is_number word) 0 (suc k + length words))
        → cond a (wrong_from (suc k) (words ++ (word ∷ []))) k ≡ cond (is_number word) 0 (k + suc (length words))
    by_test true z f = let q : suc k + length words ≡ k + suc (length words) = omega arith in f z ∙ ap (λ n. cond (is_number word) 0 n) q
    by_test false z f = absurd (omega arith)

-- words that follow are not the first wrong ones
wrong_kept : (k : ℕ) (words more : List (List ℕ)) → 1 ≤ k → (wrong_from k words ≡ 0 → ⊥) → wrong_from k (words ++ more) ≡ wrong_from k words
unfolding wrong_from
wrong_kept k [] more h e = absurd (e refl)
wrong_kept k (w ∷ words) more h e = by_test (is_number w) e (λ z. wrong_kept (suc k) words more (omega arith) z)
  where
    by_test : (a : Bool) → (cond a (wrong_from (suc k) words) k ≡ 0 → ⊥) → ((wrong_from (suc k) words ≡ 0 → ⊥) → wrong_from (suc k) (words ++ more) ≡ wrong_from (suc k) words)
        → cond a (wrong_from (suc k) (words ++ more)) k ≡ cond a (wrong_from (suc k) words) k
    by_test true z f = f z
    by_test false z f = refl

-- one more in a number of places
placed_snoc : {A : Type 0} (n : ℕ) (d : A) (l : List A) (a : A) → set (placed n d l) (length l) a ≡ placed n d (l ++ (a ∷ []))
unfolding placed
placed_snoc n d l a =
    elim (dec_le n (length l)) [
      | yes h ↦
          let z : n - length l ≡ 0 = omega arith in
          let y : n - length (l ++ (a ∷ [])) ≡ 0 = omega (arith, length-append l (a ∷ [])) in
          rw (z, y, append-nil (take n l), append-nil (take n (l ++ (a ∷ []))), take-append-le n l (a ∷ []) h) (set_out (take n l) (length l) a (omega (arith, length-take n l)))
      | no h ↦
          let g : length l < n = lt_of_not-le h in
          let z : n - length l ≡ suc (n - length (l ++ (a ∷ []))) = omega (arith, length-append l (a ∷ [])) in
          rw (z, take_all n l (omega arith), take_all n (l ++ (a ∷ [])) (omega (arith, length-append l (a ∷ []))))
          (set_at l d (replicate (n - length (l ++ (a ∷ []))) d) a (length l) refl ∙ sym (append_snoc l a (replicate (n - length (l ++ (a ∷ []))) d)))
    ]

abbrev pub as_priority : List ℕ → Priority
as_priority word = record { 0 = number_of word }

places_one : (words : List (List ℕ)) (word : List ℕ) → cond (eqb (length words) 0) (places_of words) (set (places_of words) (length words - 1) (as_priority word)) ≡ places_of (words ++ (word ∷ []))
unfolding places_of
places_one [] word = refl
places_one (w ∷ words) word =
    let q : suc (length words) - 1 ≡ length (map as_priority words) = omega (arith, length-map words as_priority) in
    rw (ne_eqb (suc (length words)) 0 (λ z. omega arith), q, map-append as_priority words (word ∷ [])) (placed_snoc contenders none (map as_priority words) (as_priority word))

bits_one : (words : List (List ℕ)) (word : List ℕ) → cond (eqb (length words) 0) (number_of word) (number_of (get_or words 0 [])) ≡ number_of (get_or (words ++ (word ∷ [])) 0 [])
bits_one [] word = refl
bits_one (w ∷ words) word = rw (ne_eqb (suc (length words)) 0 (λ z. omega arith)) refl

entered_one : (words : List (List ℕ)) (word : List ℕ) → with_number (entered_of words) (number_of word) ≡ entered_of (words ++ (word ∷ []))
unfolding with_number entered_of
entered_one words word =
    let n : length words + 1 ≡ length (words ++ (word ∷ [])) = omega (arith, length-append words (word ∷ [])) in
    rw (n, bits_one words word, places_one words word) refl

-- ---- the words of a text as numbers
-- some words are read, all of them numbers, and these are left
pub record ReadTo (text : List ℕ) (left : Words) (entered : Entered) : Type 0 where
  pub words : List (List ℕ)
  pub all : text_words text ≡ words ++ words_left left
  pub right : wrong_from 1 words ≡ 0
  pub state : entered ≡ entered_of words

none_entered : record { words = 0; bits = 0; priorities = replicate contenders none } ≡ entered_of []
unfolding entered_of places_of placed number_of is_number all_digits value_from
none_entered = refl

pub read_none : (text : List ℕ) (left : Words) → left.0.now ≡ text → ReadTo text left (record { words = 0; bits = 0; priorities = replicate contenders none })
unfolding wrong_from
read_none text left l = record { words = []; all = ap text_words (sym l); right = refl; state = none_entered }

module _ {text : List ℕ} {left : Words} {entered : Entered} (t : ReadTo text left entered) where
  pub counted : entered.words ≡ length t.words
  unfolding entered_of
  counted = ap (λ (e : Entered). e.words) t.state

  -- all words are read
  pub read_all : words_left left ≡ [] → Ok entered ≡ read_of (text_words text)
  unfolding read_of
  read_all h =
      let e : text_words text ≡ t.words = t.all ∙ ap (λ l. t.words ++ l) h ∙ append-nil t.words in
      rw (e, t.right) (ap Ok t.state)

  -- one word more
  module _ (word : List ℕ) (on : Words) (h : words_left left ≡ word ∷ words_left on) where
    goes : text_words text ≡ t.words ++ (word ∷ []) ++ words_left on
    goes = t.all ∙ ap (λ l. t.words ++ l) h ∙ sym (append_assoc t.words (word ∷ []) (words_left on))

    -- it can be counted
    pub few : entered.words + 1 ≤ length text
    few = omega (arith, counted, few_words text, ap length goes, length-append (t.words ++ (word ∷ [])) (words_left on), length-append t.words (word ∷ []))

    pub wrong_word : number_in word ≡ None → Err (entered.words + 1) ≡ read_of (text_words text)
    unfolding read_of
    wrong_word e =
        let more : wrong_from 1 (t.words ++ (word ∷ [])) ≡ 1 + length t.words = wrong_more 1 t.words word t.right (omega arith) ∙ ap (λ b. cond b 0 (1 + length t.words)) (not_number word e) in
        let kept = wrong_kept 1 (t.words ++ (word ∷ [])) (words_left on) (omega arith) (λ z. omega (arith, more)) in
        let all : wrong_from 1 (text_words text) ≡ entered.words + 1 = ap (wrong_from 1) goes ∙ kept ∙ more ∙ omega (arith, counted) in
        rw (all, ne_eqb (entered.words + 1) 0 (λ z. omega arith)) refl

    pub read_more : (n : ℕ) {more : Entered} → number_in word ≡ Some n → more ≡ with_number entered n → ReadTo text on more
    read_more n e s =
        let (is, v) = a_number word n e in
        record {
          words = t.words ++ (word ∷ []);
          all = goes;
          right = wrong_more 1 t.words word t.right (omega arith) ∙ ap (λ b. cond b 0 (1 + length t.words)) is;
          state = s ∙ ap (λ e. with_number e n) t.state ∙ ap (with_number (entered_of t.words)) v ∙ entered_one t.words word;
        }

-- ---- what is shown of them
right_read : (words : List (List ℕ)) (e : Entered) → Ok e ≡ read_of words → (eqb (wrong_from 1 words) 0 ≡ true) × (e ≡ entered_of words)
unfolding read_of
right_read words e q = by_test (eqb (wrong_from 1 words) 0) q
  where
    by_test : (b : Bool) → Ok e ≡ cond b (Ok (entered_of words)) (Err (wrong_from 1 words)) → (b ≡ true) × (e ≡ entered_of words)
    by_test true h = (refl, cc)
    by_test false h = cc

wrong_read : (words : List (List ℕ)) (place : ℕ) → Err place ≡ read_of words → (eqb (wrong_from 1 words) 0 ≡ false) × (place ≡ wrong_from 1 words)
unfolding read_of
wrong_read words place q = by_test (eqb (wrong_from 1 words) 0) q
  where
    by_test : (b : Bool) → Err place ≡ cond b (Ok (entered_of words)) (Err (wrong_from 1 words)) → (b ≡ false) × (place ≡ wrong_from 1 words)
    by_test true h = cc
    by_test false h = (refl, cc)

module _ (words : List (List ℕ)) (e : Entered) (q : Ok e ≡ read_of words) where
  all_of : e.words ≡ length words
  unfolding entered_of
  all_of = ap (λ (e : Entered). e.words) (right_read words e q).1

  pub shown_none : e.words ≡ 0 → usage ≡ replay_of words
  unfolding replay_of
  shown_none h = rw (eq-eqb (length words) 0 (sym all_of ∙ h)) refl

  pub shown_right : (e.words ≡ 0 → ⊥) → shown_of e.bits (e.words - 1) e.priorities ≡ replay_of words
  unfolding replay_of entered_of
  shown_right h =
      let (w, is) = right_read words e q in
      rw (ne_eqb (length words) 0 (λ z. h (all_of ∙ z)), w) (ap (λ (e : Entered). shown_of e.bits (e.words - 1) e.priorities) is)

pub shown_wrong : (words : List (List ℕ)) (place : ℕ) → Err place ≡ read_of words → wrong_line place ≡ replay_of words
unfolding replay_of wrong_from
shown_wrong [] place q = let (w, is) = wrong_read [] place q in absurd (true≢false w)
shown_wrong (x ∷ words) place q =
    let (w, is) = wrong_read (x ∷ words) place q in
    rw (ne_eqb (suc (length words)) 0 (λ z. omega arith), w) (ap wrong_line is)
