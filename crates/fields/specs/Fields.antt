-- The fields of what is entered in the order in which they are carried, each with its limits, and the lowest that is outside.
use Rattle.std.specs.Prelude.{◌≡◌, Bool, true, false, ◌&&◌, ◌↔◌, ℕ, ◌+◌, ◌-◌, ◌^◌, ◌≤◌, ◌<◌, leb, length, get_or}
use mathlib.Core.List.{List, [], ◌∷◌, ◌++◌, map, flat_map}
use Rattle.names.specs.Limits.{constant, payload, acknowledgement, bits, slot, ticks}
use Rattle.std.specs.Prelude.{Option, Some, None}
use Rattle.plan.specs.declared.Stream.{Stream}
use Rattle.plan.specs.Plan.{blank, TimingWithin, StreamWithin, GapWithin}
use Rattle.carried.specs.declared.Edition.{Edition, TheVariants.One, TheVariants.Two, TheVariants.Three}
use Rattle.carried.specs.declared.EnteredTiming.{EnteredTiming}
use Rattle.carried.specs.Carried.{Entered, with_ETG, entered_words}

-- a word that is entered, and the least and the most that it may be
pub record Field : Type 0 where
  pub word : ℕ
  pub least : ℕ
  pub most : ℕ

infix 68 ◌from◌to◌
abbrev pub ◌from◌to◌ : ℕ → ℕ → ℕ → Field
w from a to b = record { word = w; least = a; most = b }

-- P is 0 in edition 1, which has no word for it, 1 to 5,000,000 in edition 2, and 0 to 5,000,000 in edition 3
abbrev pub slot_least : Edition → ℕ
slot_least One = 0
slot_least Two = 1
slot_least Three = 0

abbrev pub slot_most : Edition → ℕ
slot_most One = 0
slot_most Two = slot
slot_most Three = slot

-- Timing, ten words: F, E, TFCS, SWX, H, G, ETG, LAG, each 0 to 65,535; then NB, 1 to 32; then P
abbrev pub timing_fields : Edition → EnteredTiming → List Field
timing_fields edition t =
    t.f from 0 to constant
    ∷ t.e from 0 to constant
    ∷ t.tfcs from 0 to constant
    ∷ t.swx from 0 to constant
    ∷ t.h from 0 to constant
    ∷ t.g from 0 to constant
    ∷ t.etg from 0 to constant
    ∷ t.lag from 0 to constant
    ∷ t.nb from 1 to bits
    ∷ t.p from slot_least edition to slot_most edition
    ∷ []

-- Stream, seven words: label (any word), priority (0 to 2^NB - 1), T (1 to 4,294,967,295), J (0 to that), C (1 to 65,535),
-- D (1 to 4,294,967,295), K (0 to 65,535; it is carried as 0 where an edition has no word for it)
abbrev pub stream_fields : ℕ → Stream → List Field
stream_fields nb s =
    s.label.0 from 0 to ticks
    ∷ s.priority.0 from 0 to (2 ^ nb - 1)
    ∷ s.period from 1 to ticks
    ∷ s.jitter from 0 to ticks
    ∷ s.payload from 1 to payload
    ∷ s.deadline from 1 to ticks
    ∷ s.acknowledgement from 0 to acknowledgement
    ∷ []

-- Noise, one word: gap N, 1 to 4,294,967,295
abbrev pub gap_field : ℕ → Field
gap_field n = n from 1 to ticks

-- the timing, the streams, the gaps, of what is entered in a file of an edition
unfoldable pub fields : Edition → Entered → List Field
fields edition v =
    timing_fields edition v.timing ++ (flat_map (stream_fields v.timing.nb) v.streams ++ map gap_field v.gaps)

abbrev pub inside : Field → Bool
inside f = leb f.least f.word && leb f.word f.most

-- the lowest field outside its limits, where the first of the fields is counted as k. Where it stands in a file is not said here
unfoldable pub lowest : ℕ → List Field → Option ℕ
lowest k [] = None
lowest k (f ∷ fs) = elim (inside f) [ true ↦ lowest (k + 1) fs | false ↦ Some k ]

-- ---- What is proved of the lowest field outside its limits; the proofs are in proofs/Inside.antt and proofs/Limits.antt.

abbrev pub field_at : List Field → ℕ → Field
field_at fs i = get_or fs i (0 from 0 to 0)

-- p is a field outside its limits, the first counted as k, and every field before it is inside
pub record LowestOutside (k : ℕ) (fs : List Field) (p : ℕ) : Type 0 where
  pub i : ℕ
  pub among : i < length fs
  pub counted : p ≡ k + i
  pub outside : inside (field_at fs i) ≡ false
  pub before : (j : ℕ) → j < i → inside (field_at fs j) ≡ true

abbrev pub LowestExactly : Type 0
LowestExactly = (k : ℕ) (fs : List Field) (p : ℕ) → (lowest k fs ≡ Some p) ↔ LowestOutside k fs p

-- nothing exactly if every field is inside
abbrev pub AllInside : List Field → Type 0
AllInside fs = (i : ℕ) → i < length fs → inside (field_at fs i) ≡ true

abbrev pub NothingIfInside : Type 0
NothingIfInside = (k : ℕ) (fs : List Field) → (lowest k fs ≡ None) ↔ AllInside fs

-- a field is inside exactly if its word is no less than the least and no more than the most
abbrev pub InsideIfWithin : Type 0
InsideIfWithin = (f : Field) → (inside f ≡ true) ↔ ((f.least ≤ f.word) × (f.word ≤ f.most))

-- P is within the limits of its edition
abbrev pub SlotWithin : Edition → ℕ → Type 0
SlotWithin edition P = (slot_least edition ≤ P) × (P ≤ slot_most edition)

-- all fields are inside exactly if the timing without LAG, LAG by itself, the streams and the gaps are within the limits, each label is a
-- word, and P is within the limits of the edition
pub record FieldsWithin (edition : Edition) (v : Entered) : Type 0 where
  pub slot : SlotWithin edition v.timing.p
  pub timing : TimingWithin (with_ETG v.timing.etg v.timing)
  pub lag : v.timing.lag ≤ constant
  pub stream : (k : ℕ) → k < length v.streams → StreamWithin v.timing.nb (get_or v.streams k blank)
  pub label : (k : ℕ) → k < length v.streams → (get_or v.streams k blank).label.0 ≤ ticks
  pub gap : (k : ℕ) → k < length v.gaps → GapWithin (get_or v.gaps k 0)

abbrev pub InsideIfFieldsWithin : Type 0
InsideIfFieldsWithin = (edition : Edition) (v : Entered) → AllInside (fields edition v) ↔ FieldsWithin edition v

-- the words of the fields are the words that are carried, in their order
abbrev pub WordsAreCarried : Type 0
WordsAreCarried = (edition : Edition) (v : Entered) → map (λ f. f.word) (fields edition v) ≡ entered_words v
