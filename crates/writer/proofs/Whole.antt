-- A file that is written in three parts is the whole file: each starts where the one before it ends; and the two parts of an outcome. Assumes
-- nothing.
use mathlib.Core.Path.{◌≡◌, refl, sym, ap, ◌∙◌}
use mathlib.Core.List.{List, ◌++◌}
use Prim.Native.Nat.{ℕ, ◌+◌, ◌*◌, ◌≤◌}
use native.Mathlib.Omega.{arith}
use lib.ListN.{length, take, drop, length-append, length-drop}
use lib.Seq.{length-take-le}
use Rattle.words.specs.Words.{bytes_of, with_words, put_words}
use Rattle.words.proofs.Laws.{put_room, put_more, length_put}
use Rattle.carried.specs.declared.Edition.TheVariants.{Three}
use Rattle.carried.specs.Layout as layout
use Rattle.carried.specs.Carried.{plain_timing, timing_in, plan_in, timing_words}
use Rattle.std.specs.Prelude.{Result}
use Rattle.names.specs.declared.Refusal.{Refusal}
use Rattle.file.specs.File.{contents, file_of}
use Rattle.file.proofs.Bodies.{words_meant}

module _ (buf ws : List ℕ) (n m : ℕ) (long : layout.gap_at n m ≤ length ws) (room : layout.size Three n m ≤ length buf) where
  abbrev head : List ℕ
  head = contents Three n m

  -- the words of the plan's timing, and those after them
  abbrev timing : List ℕ
  timing = timing_words (plain_timing (timing_in ws))

  abbrev tail : List ℕ
  tail = take (layout.stream_length * n + m) (drop layout.timing_length ws)

  tail_long : length tail ≡ layout.stream_length * n + m
  tail_long = length-take-le _ (drop layout.timing_length ws) (omega (arith, length-drop layout.timing_length ws))

  pub whole : {a b c : List ℕ} → a ≡ put_words buf 0 head → b ≡ put_words a (layout.byte_of 0) timing → c ≡ put_words b (layout.byte_of layout.timing_length) tail
      → c ≡ file_of (plan_in n m ws) ++ drop (layout.size Three n m) buf
  unfolding with_words
  whole {a} {b} {c} ea eb ec =
      let qa : a ≡ with_words buf 0 head = ea ∙ put_room buf 0 head (omega arith) in
      let a-long : length a ≡ length buf = ap length qa ∙ length_put buf 0 head (omega arith) in
      let qb : b ≡ with_words buf 0 (head ++ timing) =
      eb ∙ put_room a (layout.byte_of 0) timing (omega arith) ∙ ap (λ o. with_words o (layout.byte_of 0) timing) qa
      ∙ put_more buf 0 head (omega arith) timing (layout.byte_of 0) refl in
      let b-long : length b ≡ length buf = ap length qb ∙ length_put buf 0 (head ++ timing) (omega arith) in
      let qc : c ≡ with_words buf 0 (head ++ (timing ++ tail)) =
      ec ∙ put_room b (layout.byte_of layout.timing_length) tail (omega (arith, tail_long)) ∙ ap (λ o. with_words o (layout.byte_of layout.timing_length) tail) qb
      ∙ put_more buf 0 (head ++ timing) (omega arith) tail (layout.byte_of layout.timing_length) refl in
      let end : 0 + 4 * length (head ++ (timing ++ tail)) ≡ layout.size Three n m = omega (arith, length-append timing tail, tail_long) in
      qc
      ∙ ap (λ k. bytes_of (head ++ (timing ++ tail)) ++ drop k buf) end
      ∙ ap (λ l. bytes_of l ++ drop (layout.size Three n m) buf) (sym (words_meant n m ws long))

-- the answer, and what the lent bytes end with
pub both : {w v : Result ℕ Refusal × List ℕ} → w ≡ v → (v.0 ≡ w.0) × (v.1 ≡ w.1)
both e = (sym (ap (λ (o : Result ℕ Refusal × List ℕ). o.0) e), sym (ap (λ (o : Result ℕ Refusal × List ℕ). o.1) e))
