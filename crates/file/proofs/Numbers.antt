-- The documents' numbers, from the sizes in words; and where a field stands. Assumes nothing.
use mathlib.Core.Path.{◌≡◌, refl, sym, ap, ap₂, ◌∙◌}
use mathlib.Core.List.{[], ◌∷◌}
use Prim.Native.Nat.{ℕ, ◌+◌, ◌*◌, ◌<◌}
use native.Mathlib.Omega.{arith}
use lib.ListN.{get_or, drop, get_or-map}
use lib.Seq.{get_or-drop}
use Rattle.words.specs.Words.{words_of}
use Rattle.carried.specs.Layout as layout
use Rattle.fields.specs.Fields.{Field, ◌from◌to◌, fields}
use Rattle.fields.proofs.Carried.{words_are_carried, length_fields}
use Rattle.file.specs.File.{entered_at}
use Rattle.file.specs.Claims.{ContentsAre, SizesAre, PlaceIsOffset}
use Rattle.file.proofs.Bodies.{length_at, word_there, word_not}

pub contents_are : ContentsAre
contents_are n m =
    let older : 4 * (6 * n) ≡ 24 * n = omega arith in
    let streams : 4 * (7 * n) ≡ 28 * n = omega arith in
    let one : 4 * (11 + (9 + 6 * n)) ≡ 80 + 24 * n = omega arith in
    let two : 4 * (11 + (10 + 6 * n)) ≡ 84 + 24 * n = omega arith in
    let three : 4 * (11 + (10 + 7 * n)) ≡ 84 + 28 * n = omega arith in (
      ap₂ (λ a b. 1 ∷ 3 ∷ 1 ∷ 44 ∷ 36 ∷ 2 ∷ 80 ∷ a ∷ 3 ∷ b ∷ 4 * m ∷ []) older one,
      ap₂ (λ a b. 2 ∷ 3 ∷ 1 ∷ 44 ∷ 40 ∷ 2 ∷ 84 ∷ a ∷ 3 ∷ b ∷ 4 * m ∷ []) older two,
      ap₂ (λ a b. 3 ∷ 3 ∷ 1 ∷ 44 ∷ 40 ∷ 2 ∷ 84 ∷ a ∷ 3 ∷ b ∷ 4 * m ∷ []) streams three,
    )

pub sizes_are : SizesAre
sizes_are = (λ n m. (omega arith, omega arith, omega arith), refl)

pub place_is_offset : PlaceIsOffset
place_is_offset bs edition n m e i h =
    let word : Field → ℕ = λ f. f.word in
    let bodies = drop layout.contents_length (words_of bs) in
    let v = entered_at edition n m bs in
    let (n-is, m-is) = length_at edition n m bodies in
    let value = ap (λ l. get_or l i 0) (sym (words_are_carried edition v)) ∙ get_or-map word (fields edition v) i (0 from 0 to 0) in
    let among : i < layout.gap_at n m = omega (arith, length_fields edition v) in (
      refl,
      λ has. sym (get_or-drop layout.contents_length (words_of bs) (layout.in_bodies edition n i) 0) ∙ sym (word_there edition n m bodies i among has) ∙ value,
      λ not. sym value ∙ word_not edition n m bodies i among not,
    )
