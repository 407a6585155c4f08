-- The fields are the words that are carried, with limits beside them. Assumes nothing.
use mathlib.Core.Path.{◌≡◌, sym, ap, ap₂, ◌∙◌}
use mathlib.Core.List.{◌++◌, map, flat_map, map-append, map-map, map-id}
use Prim.Native.Nat.{ℕ}
use lib.ListN.{length, length-map}
use Rattle.laws.proofs.Pieces.{map_flat}
use Rattle.carried.specs.declared.Edition.{Edition}
use Rattle.carried.specs.Layout as layout
use Rattle.carried.specs.Carried.{Entered, timing_words}
use Rattle.carried.proofs.Plans.{length_words}
use Rattle.fields.specs.Fields.{Field, stream_fields, gap_field, fields, WordsAreCarried}

pub words_are_carried : WordsAreCarried
unfolding fields
words_are_carried edition v =
    let f = stream_fields v.timing.nb in
    let word : Field → ℕ = λ f. f.word in
    ap (λ r. timing_words v.timing ++ r)
    (map-append word (flat_map f v.streams) (map gap_field v.gaps)
    ∙ ap₂ ◌++◌ (map_flat word f v.streams) (map-map word gap_field v.gaps ∙ map-id v.gaps))

pub length_fields : (edition : Edition) (v : Entered) → length (fields edition v) ≡ layout.gap_at (length v.streams) (length v.gaps)
length_fields edition v =
    let word : Field → ℕ = λ f. f.word in
    sym (length-map (fields edition v) word) ∙ ap length (words_are_carried edition v) ∙ length_words v
