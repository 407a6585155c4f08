-- Words with their limits beside them, as two arrays have them.
use Rattle.std.specs.Prelude.{Bool, not, List, [], ◌∷◌, ℕ}
use Rattle.fields.specs.declared.Band.{Band}
use Rattle.fields.specs.Fields.{Field, ◌from◌to◌, inside}

unfoldable pub fields_of : List ℕ → List Band → List Field
fields_of (w ∷ words) (b ∷ bands) = w from b.0 to b.1 ∷ fields_of words bands
fields_of (w ∷ words) [] = []
fields_of [] bands = []

abbrev pub out_of_band : ℕ × Band → Bool
out_of_band (w, b) = not (inside (w from b.0 to b.1))
