-- Words and bytes are each other's inverse: lengths; the word at an index; words laid onto a list; words to bytes and back; bytes to
-- words and back; words that are written one after the other. Assumes nothing.
use mathlib.Core.Path.{◌≡◌, refl, sym, ap, ◌∙◌}
use mathlib.Core.List.{List, [], ◌∷◌, ◌++◌, append_assoc}
use Prim.Native.Nat.{ℕ, zero, suc, ◌+◌, ◌-◌, ◌*◌, ◌/◌, ◌%◌, ◌^◌, min, ◌≤◌, ◌<◌}
use native.Mathlib.Nat.{lt_of_not-le}
use native.Mathlib.Decide.{dec_le}
use native.Mathlib.Numerals.{add-one}
use native.Mathlib.Omega.{arith}
use borrow.Author.Tests.{le-leb, lt-leb}
use lib.ListN.{length, get_or, set, take, drop, replicate, length-append, length-drop, length-replicate, drop_of_length-le, get_or-eq_default, take-append-drop}
use lib.Seq.{length-take-le, take_all, take-suc, take_at, drop-cons, append_snoc, set_at, drop-append-add, drop-drop, sets-eq}
use Rattle.std.specs.Int.{w32, from_le_bytes}
use Rattle.std.proofs.lemmas.Nat.{from_le_bytes-to_le_bytes_4, le_bytes_4}
use Rattle.std.specs.Simd.{first_chunks}
use Rattle.laws.specs.Lists.{placed}
use Rattle.laws.proofs.Placed.{drop_replicate}
use Rattle.words.specs.Words.{joined_of, words_of, laid_onto, bytes_of, with_words, put_words, Below}

-- ---- lengths
pub length_words : (bytes : List ℕ) → length (words_of bytes) ≡ length bytes / 4
unfolding words_of
length_words (a ∷ b ∷ c ∷ d ∷ bytes) = omega (arith, length_words bytes)
length_words (a ∷ b ∷ c ∷ []) = refl
length_words (a ∷ b ∷ []) = refl
length_words (a ∷ []) = refl
length_words [] = refl

pub length_bytes : (words : List ℕ) → length (bytes_of words) ≡ 4 * length words
unfolding bytes_of
length_bytes [] = refl
length_bytes (w ∷ words) = omega (arith, length_bytes words)

-- ---- the word at an index: of the bytes 4k to 4k + 3, which are the k-th four, as std cuts them
pub four_at : (bytes : List ℕ) (n k : ℕ) (none : List ℕ) → k < n → 4 * n ≤ length bytes
    → from_le_bytes w32 (get_or (first_chunks 4 n bytes) k none) ≡ get_or (words_of bytes) k 0
unfolding words_of
four_at bytes zero k none h l = absurd (omega arith)
four_at (a ∷ b ∷ c ∷ d ∷ bytes) (suc n) zero none h l = refl
four_at (a ∷ b ∷ c ∷ d ∷ bytes) (suc n) (suc k) none h l = four_at bytes n k none (omega arith) (omega arith)
four_at (a ∷ b ∷ c ∷ []) (suc n) k none h l = absurd (omega arith)
four_at (a ∷ b ∷ []) (suc n) k none h l = absurd (omega arith)
four_at (a ∷ []) (suc n) k none h l = absurd (omega arith)
four_at [] (suc n) k none h l = absurd (omega arith)

pub word_is : (bytes : List ℕ) (k : ℕ) → 4 * k + 4 ≤ length bytes
    → get_or (words_of bytes) k 0 ≡ joined_of (get_or bytes (4 * k) 0) (get_or bytes (4 * k + 1) 0) (get_or bytes (4 * k + 2) 0) (get_or bytes (4 * k + 3) 0)
unfolding words_of
word_is (a ∷ b ∷ c ∷ d ∷ bytes) zero h = refl
word_is (a ∷ b ∷ c ∷ d ∷ bytes) (suc k) h =
    let on : (j : ℕ) → 4 * suc k + j ≡ suc (suc (suc (suc (4 * k + j)))) = λ j. omega arith in
    let on-0 : 4 * suc k ≡ suc (suc (suc (suc (4 * k)))) = omega arith in
    rw (on 1, on 2, on 3, on-0) (word_is bytes k (omega arith))
word_is (a ∷ b ∷ c ∷ []) k h = absurd (omega arith)
word_is (a ∷ b ∷ []) k h = absurd (omega arith)
word_is (a ∷ []) k h = absurd (omega arith)
word_is [] k h = absurd (omega arith)

pub word_past : (bytes : List ℕ) (k : ℕ) → length bytes / 4 ≤ k → get_or (words_of bytes) k 0 ≡ 0
word_past bytes k h = get_or-eq_default (words_of bytes) 0 (omega (arith, length_words bytes))

-- ---- words laid onto a list
module _ (ws out : List ℕ) where
  -- a loop that lays them, one word a turn
  pub laid_next : (i : ℕ) {o : List ℕ} {w : ℕ} → i < length ws → i < length out → o ≡ take i ws ++ drop i out → w ≡ get_or ws i 0
      → set o i w ≡ take (i + 1) ws ++ drop (i + 1) out
  laid_next i h k e d =
      let at = set_at (take i ws) (get_or out i 0) (drop (suc i) out) (get_or ws i 0) i (length-take-le i ws (omega arith)) in
      rw (e, d, add-one i, take-suc ws i 0 h, drop-cons out i 0 k) (at ∙ sym (append_snoc (take i ws) (get_or ws i 0) (drop (suc i) out)))

  -- .. until there are no more, or no more room
  pub laid_all : (i : ℕ) → i ≡ min (length ws) (length out) → take i ws ++ drop i out ≡ laid_onto ws out
  unfolding laid_onto
  laid_all i e =
      elim (dec_le (length ws) (length out)) [
        | yes h ↦
            let d : i ≡ length ws = omega arith in
            rw (d, take_all (length ws) ws (omega arith), take_all (length out) ws h) refl
        | no h ↦
            let g = lt_of_not-le h in
            let d : i ≡ length out = omega arith in
            rw (d, drop_of_length-le out {i = length out} (omega arith), drop_of_length-le out {i = length ws} (omega arith)) refl
      ]

-- laid onto zeros, they are in places
pub laid_on_zeros : (ws : List ℕ) (c : ℕ) → laid_onto ws (replicate c 0) ≡ placed c 0 ws
unfolding laid_onto placed
laid_on_zeros ws c = rw (length-replicate, drop_replicate {A = ℕ} (length ws) c 0) refl

four_more : (k : ℕ) → 4 * suc k ≡ suc (suc (suc (suc (4 * k))))
four_more k = omega arith

-- the words without the first k
pub drop_words : (k : ℕ) (bytes : List ℕ) → words_of (drop (4 * k) bytes) ≡ drop k (words_of bytes)
unfolding words_of
drop_words zero bytes = refl
drop_words (suc k) (a ∷ b ∷ c ∷ d ∷ bytes) = rw (four_more k) (drop_words k bytes)
drop_words (suc k) (a ∷ b ∷ c ∷ []) = rw (four_more k) refl
drop_words (suc k) (a ∷ b ∷ []) = rw (four_more k) refl
drop_words (suc k) (a ∷ []) = rw (four_more k) refl
drop_words (suc k) [] = rw (four_more k) refl

-- the first k words
pub take_words : (k : ℕ) (bytes : List ℕ) → words_of (take (4 * k) bytes) ≡ take k (words_of bytes)
unfolding words_of
take_words zero bytes = refl
take_words (suc k) (a ∷ b ∷ c ∷ d ∷ bytes) = rw (four_more k) (ap (λ ws. joined_of a b c d ∷ ws) (take_words k bytes))
take_words (suc k) (a ∷ b ∷ c ∷ []) = rw (four_more k) refl
take_words (suc k) (a ∷ b ∷ []) = rw (four_more k) refl
take_words (suc k) (a ∷ []) = rw (four_more k) refl
take_words (suc k) [] = rw (four_more k) refl

-- ---- a word to four bytes and back
four_digits : (w : ℕ) → w < 2 ^ 32 → joined_of (w % 256) (w / 256 % 256) (w / 65536 % 256) (w / 16777216 % 256) ≡ w
four_digits w h = from_le_bytes-to_le_bytes_4 w h

pub words_bytes : (words : List ℕ) → Below (2 ^ 32) words → words_of (bytes_of words) ≡ words
unfolding words_of bytes_of
words_bytes [] h = refl
words_bytes (w ∷ words) h = rw (four_digits w (h 0), words_bytes words (λ i. h (suc i))) refl

-- ---- four bytes to a word and back
four_bytes : (a b c d : ℕ) → a < 256 → b < 256 → c < 256 → d < 256 → bytes_of (joined_of a b c d ∷ []) ≡ a ∷ b ∷ c ∷ d ∷ []
unfolding bytes_of
four_bytes a b c d ha hb hc hd = le_bytes_4 (a ∷ b ∷ c ∷ d ∷ []) (joined_of a b c d) refl each refl
  where
    each : (i : ℕ) → get_or (a ∷ b ∷ c ∷ d ∷ []) i 0 < 256
    each zero = ha
    each (suc zero) = hb
    each (suc (suc zero)) = hc
    each (suc (suc (suc zero))) = hd
    each (suc (suc (suc (suc i)))) = omega arith

pub bytes_words : (n : ℕ) (bytes : List ℕ) → Below 256 bytes → length bytes ≡ 4 * n → bytes_of (words_of bytes) ≡ bytes
unfolding words_of bytes_of
bytes_words n (a ∷ b ∷ c ∷ d ∷ bytes) h e =
    let g = bytes_words (n - 1) bytes (λ i. h (suc (suc (suc (suc i))))) (omega arith) in
    ap (λ bs. bs ++ bytes_of (words_of bytes)) (four_bytes a b c d (h 0) (h 1) (h 2) (h 3)) ∙ rw g refl
bytes_words n (a ∷ b ∷ c ∷ []) h e = absurd (omega arith)
bytes_words n (a ∷ b ∷ []) h e = absurd (omega arith)
bytes_words n (a ∷ []) h e = absurd (omega arith)
bytes_words n [] h e = refl

-- ---- words written one after the other
pub bytes_append : (ws vs : List ℕ) → bytes_of (ws ++ vs) ≡ bytes_of ws ++ bytes_of vs
unfolding bytes_of
bytes_append [] vs = refl
bytes_append (w ∷ ws) vs = rw (bytes_append ws vs) refl

pub put_room : (bytes : List ℕ) (at : ℕ) (ws : List ℕ) → at + 4 * length ws ≤ length bytes → put_words bytes at ws ≡ with_words bytes at ws
unfolding put_words
put_room bytes at ws h = rw (le-leb _ _ h) refl

pub put_no_room : (bytes : List ℕ) (at : ℕ) (ws : List ℕ) → length bytes < at + 4 * length ws → put_words bytes at ws ≡ bytes
unfolding put_words
put_no_room bytes at ws h = rw (lt-leb _ _ h) refl

pub put_none : (bytes : List ℕ) (at : ℕ) → with_words bytes at [] ≡ bytes
unfolding with_words bytes_of
put_none bytes at =
    let e : at + 0 ≡ at = omega arith in
    rw e (take-append-drop at bytes)

module _ (bytes : List ℕ) (at : ℕ) (ws : List ℕ) (fits : at + 4 * length ws ≤ length bytes) where
  -- what stands before the end of what is written
  front : length (take at bytes ++ bytes_of ws) ≡ at + 4 * length ws
  front = length-append (take at bytes) (bytes_of ws) ∙ omega (arith, length-take-le at bytes (omega arith), length_bytes ws)

  pub length_put : length (with_words bytes at ws) ≡ length bytes
  unfolding with_words
  length_put =
      let n = at + 4 * length ws in
      ap length (sym (append_assoc (take at bytes) (bytes_of ws) (drop n bytes)))
      ∙ length-append (take at bytes ++ bytes_of ws) (drop n bytes)
      ∙ omega (arith, front, length-drop n bytes)

  pub put_more : (vs : List ℕ) (n : ℕ) → n ≡ at + 4 * length ws → with_words (with_words bytes at ws) n vs ≡ with_words bytes at (ws ++ vs)
  unfolding with_words
  put_more vs n e =
      let p = take at bytes ++ bytes_of ws in
      let q = drop (at + 4 * length ws) bytes in
      let k = 4 * length vs in
      let before : take n (p ++ q) ≡ p = take_at p q n (front ∙ sym e) in
      let start : n + k ≡ length p + k = omega (arith, front) in
      let end : at + 4 * length ws + k ≡ at + 4 * length (ws ++ vs) = omega (arith, length-append ws vs) in
      let after : drop (n + k) (p ++ q) ≡ drop (at + 4 * length (ws ++ vs)) bytes =
      rw start (drop-append-add p q k ∙ drop-drop k (at + 4 * length ws) bytes ∙ ap (λ i. drop i bytes) end) in
      rw (← append_assoc (take at bytes) (bytes_of ws) q, before, after, bytes_append ws vs) (simp append_assoc)

-- a loop over the words, one word a turn
pub put_next : (bytes : List ℕ) (at : ℕ) (ws : List ℕ) (i : ℕ) {o : List ℕ} → i < length ws → at + 4 * length ws ≤ length bytes
    → o ≡ with_words bytes at (take i ws) → with_words o (at + 4 * i) (get_or ws i 0 ∷ []) ≡ with_words bytes at (take (i + 1) ws)
put_next bytes at ws i h fits e =
    let k : length (take i ws) ≡ i = length-take-le i ws (omega arith) in
    rw (e, add-one i, take-suc ws i 0 h)
    (put_more bytes at (take i ws) (omega arith) (get_or ws i 0 ∷ []) (at + 4 * i) (ap (λ j. at + 4 * j) (sym k)))

-- four stores, as the code makes them
pub put_one : (bytes : List ℕ) (at w : ℕ) → at + 4 ≤ length bytes
    → set (set (set (set bytes at (w % 256)) (at + 1) (w / 256 % 256)) (at + 2) (w / 65536 % 256)) (at + 3) (w / 16777216 % 256) ≡ with_words bytes at (w ∷ [])
unfolding with_words bytes_of
put_one bytes at w h =
    let e : at + 1 ≡ suc at = omega arith in
    let f : at + 2 ≡ suc (suc at) = omega arith in
    let g : at + 3 ≡ suc (suc (suc at)) = omega arith in
    rw (e, f, g) (sets-eq (w % 256 ∷ w / 256 % 256 ∷ w / 65536 % 256 ∷ w / 16777216 % 256 ∷ []) bytes at h ∙ append_assoc (take at bytes) _ _)
