-- Word by word, what is carried of a file is what is entered in it, in whatever edition; in edition 3 the bodies are. Assumes nothing.
use mathlib.Core.Path.{◌≡◌, refl, sym, ap, ap₂, ◌∙◌}
use mathlib.Core.Bool.{Bool, true, false, cond}
use mathlib.Core.List.{List, [], ◌++◌}
use Prim.Native.Nat.{ℕ, ◌+◌, ◌-◌, ◌*◌, ◌≤◌, ◌<◌}
use native.Mathlib.Omega.{arith}
use lib.ListN.{length, get_or, take, drop, length-take, length-drop, drop_of_length-le}
use lib.Seq.{get_or-drop, take_all}
use Rattle.std.proofs.lemmas.List.{append-nil}
use Rattle.words.specs.Words.{words_of, laid_onto}
use Rattle.words.proofs.Laws.{length_words, drop_words}
use Rattle.carried.specs.declared.Edition.{Edition, TheVariants.Three}
use Rattle.carried.specs.Layout as layout
use Rattle.carried.specs.Carried.{entered_words}
use Rattle.carried.proofs.Plans.{length_words as length_entered}
use Rattle.file.specs.File.{entered_at}
use Rattle.file.proofs.Bodies.{length_at, word_there, word_not, bodies_back}

module _ (edition : Edition) (n m : ℕ) (bs : List ℕ) where
  pub entered_long : length (entered_words (entered_at edition n m bs)) ≡ layout.gap_at n m
  entered_long = omega (arith, length_entered (entered_at edition n m bs), length_at edition n m (drop layout.contents_length (words_of bs)))

  -- word k of the file, by its place in the bodies, or 0
  abbrev pub there : ℕ → ℕ
  there k = get_or (words_of bs) (layout.contents_length + layout.in_bodies edition n k) 0

  pub word_is : (k : ℕ) → k < layout.gap_at n m → cond (layout.has_word edition n k) (there k) 0 ≡ get_or (entered_words (entered_at edition n m bs)) k 0
  word_is k h = go (layout.has_word edition n k) refl
    where
      go : (b : Bool) → layout.has_word edition n k ≡ b → cond b (there k) 0 ≡ get_or (entered_words (entered_at edition n m bs)) k 0
      go true e =
          sym (get_or-drop layout.contents_length (words_of bs) (layout.in_bodies edition n k) 0)
          ∙ sym (word_there edition n m (drop layout.contents_length (words_of bs)) k h e)
      go false e = sym (word_not edition n m (drop layout.contents_length (words_of bs)) k h e)

pub bodies_stand : (n m : ℕ) (bs : List ℕ) → length bs ≡ layout.size Three n m
    → words_of (take (length bs - layout.word * layout.contents_length) (drop (layout.word * layout.contents_length) bs)) ≡ entered_words (entered_at Three n m bs)
bodies_stand n m bs e =
    let at = layout.word * layout.contents_length in
    let long : length (drop layout.contents_length (words_of bs)) ≡ layout.gap_at n m = omega (arith, length-drop layout.contents_length (words_of bs), length_words bs) in
    ap words_of (take_all (length bs - at) (drop at bs) (omega (arith, length-drop at bs)))
    ∙ drop_words layout.contents_length bs
    ∙ sym (bodies_back n m (drop layout.contents_length (words_of bs)) long)

-- all words of a list, and the rest as it was
pub all_laid : (vs out : List ℕ) (count k : ℕ) {front : List ℕ} → count ≡ length vs → k ≡ count → count ≤ length out
    → front ≡ take k vs ++ drop k (take count out) → front ++ drop count out ≡ laid_onto vs out
unfolding laid_onto
all_laid vs out count k e d h f =
    let none : drop k (take count out) ≡ [] = drop_of_length-le (take count out) (omega (arith, length-take count out)) in
    let all : take k vs ≡ vs = take_all k vs (omega arith) in
    ap (λ l. l ++ drop count out) (f ∙ ap₂ (λ a b. a ++ b) all none ∙ append-nil vs)
    ∙ ap₂ (λ a n. a ++ drop n out) (sym (take_all (length out) vs (omega arith))) e
