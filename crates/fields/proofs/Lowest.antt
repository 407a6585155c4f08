-- Laws of the lowest field outside its limits: what a test tells of one field; one field more; fields after fields; words with their
-- limits beside them. Assumes nothing.
use mathlib.Core.Path.{◌≡◌, refl, sym, ap, ◌∙◌}
use mathlib.Core.Bool.{Bool, true, false, ◌&&◌}
use mathlib.Core.List.{List, [], ◌∷◌, ◌++◌, map, flat_map}
use Prim.Native.Nat.{ℕ, zero, suc, ◌+◌, ◌*◌, ◌≤◌, ◌<◌}
use native.Mathlib.Nat.{add-zero}
use native.Mathlib.Numerals.{add-one}
use native.Mathlib.Omega.{arith}
use borrow.Author.Tests.{le-leb, lt-leb}
use lib.Dec.{leb}
use lib.ListN.{length, get_or, take, drop, replicate, drop_of_length-le}
use lib.Seq.{drop-cons}
use Rattle.std.specs.Prelude.{Some, None}
use Rattle.laws.proofs.Tests.{apart}
use Rattle.plan.specs.declared.Stream.{Stream}
use Rattle.carried.specs.declared.Edition.{Edition}
use Rattle.carried.specs.Layout as layout
use Rattle.carried.specs.Carried.{Entered}
use Rattle.fields.specs.declared.Band.{Band}
use Rattle.fields.specs.Fields.{Field, ◌from◌to◌, timing_fields, stream_fields, gap_field, fields, inside, lowest}
use Rattle.fields.specs.private.Bands.{fields_of}

-- ---- one field
module _ (w a b : ℕ) where
  pub within : a ≤ w → w ≤ b → inside (w from a to b) ≡ true
  within h k = simp (le-leb a w h, le-leb w b k)

  pub too_small : w < a → inside (w from a to b) ≡ false
  too_small h = simp (lt-leb a w h)

  pub too_large : b < w → inside (w from a to b) ≡ false
  too_large h = go (leb a w) (lt-leb w b h)
    where
      go : (t : Bool) → leb w b ≡ false → (t && leb w b) ≡ false
      go true e = e
      go false e = refl

-- ---- one field more, in front
pub pass : (k : ℕ) (f : Field) (fs : List Field) → inside f ≡ true → lowest k (f ∷ fs) ≡ lowest (k + 1) fs
unfolding lowest
pass k f fs e = rw (lowest, e) refl

pub stop : (k : ℕ) (f : Field) (fs : List Field) → inside f ≡ false → lowest k (f ∷ fs) ≡ Some k
unfolding lowest
stop k f fs e = rw (lowest, e) refl

-- ---- fields after fields
step : (k : ℕ) (f : Field) (fs gs : List Field) → lowest k (f ∷ fs) ≡ None → (b : Bool) → inside f ≡ b → (lowest (k + 1) fs ≡ None → lowest (k + 1) (fs ++ gs) ≡ lowest (k + 1 + length fs) gs) → lowest k (f ∷ fs ++ gs) ≡ lowest (k + length (f ∷ fs)) gs
step k f fs gs e true d more =
    let n : k + 1 + length fs ≡ k + length (f ∷ fs) = omega arith in
    pass k f (fs ++ gs) d ∙ more (sym (pass k f fs d) ∙ e) ∙ ap (λ j. lowest j gs) n
step k f fs gs e false d more = absurd (apart (sym (stop k f fs d) ∙ e))

pub append_none : (k : ℕ) (fs gs : List Field) → lowest k fs ≡ None → lowest k (fs ++ gs) ≡ lowest (k + length fs) gs
append_none k [] gs e = ap (λ j. lowest j gs) (sym (add-zero k))
append_none k (f ∷ fs) gs e = step k f fs gs e (inside f) refl (append_none (k + 1) fs gs)

pub append_at : (k p : ℕ) (fs gs : List Field) → lowest k fs ≡ Some p → lowest k (fs ++ gs) ≡ Some p
unfolding lowest
append_at k p [] gs e = absurd (apart (sym e))
append_at k p (f ∷ fs) gs e = go (inside f) refl (append_at (k + 1) p fs gs)
  where
    go : (b : Bool) → inside f ≡ b → (lowest (k + 1) fs ≡ Some p → lowest (k + 1) (fs ++ gs) ≡ Some p) → lowest k (f ∷ fs ++ gs) ≡ Some p
    go true d more = pass k f (fs ++ gs) d ∙ more (sym (pass k f fs d) ∙ e)
    go false d more = stop k f (fs ++ gs) d ∙ sym (stop k f fs d) ∙ e

-- ---- a loop over streams
module _ (nb : ℕ) (streams : List Stream) (r : ℕ) (d : Stream) (h : r < length streams)
    (so_far : lowest (layout.stream_at 0) (flat_map (stream_fields nb) streams) ≡ lowest (layout.stream_at r) (flat_map (stream_fields nb) (drop r streams))) where
  next_stream : flat_map (stream_fields nb) (drop r streams) ≡ stream_fields nb (get_or streams r d) ++ flat_map (stream_fields nb) (drop (r + 1) streams)
  unfolding flat_map
  next_stream = rw (add-one r, drop-cons streams r d h) refl

  pub stream_here : (p : ℕ) → lowest (layout.stream_at r) (stream_fields nb (get_or streams r d)) ≡ Some p → lowest (layout.stream_at 0) (flat_map (stream_fields nb) streams) ≡ Some p
  stream_here p e = so_far ∙ ap (lowest (layout.stream_at r)) next_stream ∙ append_at (layout.stream_at r) p (stream_fields nb (get_or streams r d)) _ e

  pub stream_not_here : lowest (layout.stream_at r) (stream_fields nb (get_or streams r d)) ≡ None
      → lowest (layout.stream_at 0) (flat_map (stream_fields nb) streams) ≡ lowest (layout.stream_at (r + 1)) (flat_map (stream_fields nb) (drop (r + 1) streams))
  stream_not_here e =
      let n : layout.stream_at r + layout.stream_length ≡ layout.stream_at (r + 1) = omega arith in
      so_far ∙ ap (lowest (layout.stream_at r)) next_stream ∙ append_none (layout.stream_at r) (stream_fields nb (get_or streams r d)) _ e ∙ ap (λ j. lowest j (flat_map (stream_fields nb) (drop (r + 1) streams))) n

pub streams_done : (nb : ℕ) (streams : List Stream) (k r : ℕ) → length streams ≤ r → lowest k (flat_map (stream_fields nb) (drop r streams)) ≡ None
unfolding flat_map lowest
streams_done nb streams k r h = rw (drop_of_length-le streams h) refl

-- ---- all that is entered: the timing, then the streams, then the gaps
pub length_streams : (nb : ℕ) (streams : List Stream) → length (flat_map (stream_fields nb) streams) ≡ layout.stream_length * length streams
unfolding flat_map
length_streams nb [] = refl
length_streams nb (s ∷ streams) = omega (arith, length_streams nb streams)

module _ (edition : Edition) (v : Entered) where
  pub timing_here : (k : ℕ) → lowest 0 (timing_fields edition v.timing) ≡ Some k → lowest 0 (fields edition v) ≡ Some k
  unfolding fields
  timing_here k e = append_at 0 k (timing_fields edition v.timing) _ e

  module _ (e : lowest 0 (timing_fields edition v.timing) ≡ None) where
    pub streams_here : (k : ℕ) → lowest (layout.stream_at 0) (flat_map (stream_fields v.timing.nb) v.streams) ≡ Some k → lowest 0 (fields edition v) ≡ Some k
    unfolding fields
    streams_here k d =
        append_none 0 (timing_fields edition v.timing) _ e ∙ append_at (layout.stream_at 0) k (flat_map (stream_fields v.timing.nb) v.streams) _ d

    pub gaps_left : lowest (layout.stream_at 0) (flat_map (stream_fields v.timing.nb) v.streams) ≡ None
        → lowest 0 (fields edition v) ≡ lowest (layout.stream_at (length v.streams)) (map gap_field v.gaps)
    unfolding fields
    gaps_left d =
        append_none 0 (timing_fields edition v.timing) _ e
        ∙ append_none (layout.stream_at 0) (flat_map (stream_fields v.timing.nb) v.streams) _ d
        ∙ ap (λ n. lowest (layout.stream_at 0 + n) (map gap_field v.gaps)) (length_streams v.timing.nb v.streams)

-- ---- words that all have one pair of limits
pub alike : (band : Band) (n m : ℕ) (words : List ℕ) → m ≤ n → fields_of (take m words) (take m (replicate n band)) ≡ map (λ w. w from band.0 to band.1) (take m words)
unfolding fields_of
alike band n zero words h = refl
alike band n (suc m) [] h = refl
alike band zero (suc m) (w ∷ words) h = absurd (omega arith)
alike band (suc n) (suc m) (w ∷ words) h = ap (λ fs. w from band.0 to band.1 ∷ fs) (alike band n m words (omega arith))
