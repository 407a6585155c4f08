-- What is proved of laying a text, in proofs/Laying.antt, of labels, in proofs/Labels.antt, and of the sizes of the listing and of
-- a refusal's line, in proofs/Size.antt.
use Rattle.std.specs.Prelude.{◌≡◌, List, ◌++◌, map, ℕ, ◌+◌, ◌*◌, ◌^◌, ◌≤◌, ◌<◌, min, length, get_or}
use Rattle.names.specs.Limits.{streams, ticks}
use Rattle.names.specs.declared.Label.{Label}
use Rattle.names.specs.declared.Refusal.{Refusal}
use Rattle.bound.specs.declared.Answer.{Answer}
use Rattle.plan.specs.declared.Stream.{Stream}
use Rattle.plan.specs.Plan.{Plan, at}
use Rattle.std.specs.Prelude.{Some}
use Rattle.text.specs.Listing.{label_text, header, listing_of, refused_of}
use Rattle.text.specs.Put.{last_place, laid, put}

-- to lay a text and then another is to lay them as one text, in any buffer whose places can be counted, ..
abbrev pub LaidInTurn : Type 0
LaidInTurn =
    (buffer : List ℕ) (at : ℕ) (s t : List ℕ) → length buffer ≤ last_place
    → laid (laid buffer at s) (min (at + length s) last_place) t ≡ laid buffer at (s ++ t)

-- .. and a text that fits is laid whole, as it would be put
abbrev pub LaidWhole : Type 0
LaidWhole = (buffer : List ℕ) (at : ℕ) (text : List ℕ) → at + length text ≤ length buffer → laid buffer at text ≡ (put buffer at text).1

-- no two labels have one text: 10.10 is not printed as 10.1 is
abbrev pub LabelsApart : Type 0
LabelsApart = (a b : Label) → label_text a ≡ label_text b → a ≡ b

-- what is printed of a stream is a word of 32 bits
pub record Printed (s : Stream) : Type 0 where
  pub label : s.label.0 ≤ ticks
  pub priority : s.priority.0 ≤ ticks
  pub deadline : s.deadline ≤ ticks

-- a plan of at most 256 streams with such words, and answers whose bounds and instances have at most w digits
pub record Listed (w : ℕ) (p : Plan) (answers : List Answer) : Type 0 where
  pub count : length p.streams ≤ streams
  pub stream : (k : ℕ) → k < length p.streams → Printed (at p k)
  pub bound : (k : ℕ) → k < length answers → get_or (map (λ a. a.bound) answers) k 0 < 10 ^ w
  pub instance : (k : ℕ) → k < length answers → get_or (map (λ a. a.instance) answers) k 0 < 10 ^ w

-- what a row has at most beside its bound and its instance: 11 bytes of its label, 10 of its priority, 10 of its deadline, 6 of its
-- verdict, 5 spaces and the newline
abbrev pub beside : ℕ
beside = 11 + 10 + 10 + 6 + 5 + 1

-- the header, and 256 rows whose bounds and instances have at most w digits
abbrev pub most : ℕ → ℕ
most w = length header + streams * (beside + 2 * w)

-- no listing has more; bounds up to 8,589,934,590, and instances below 4,294,967,295, have 10 digits at most
abbrev pub LargestListing : Type 0
LargestListing = (w : ℕ) (p : Plan) (answers : List Answer) → 1 ≤ w → Listed w p answers → length (listing_of p answers) ≤ most w

-- a buffer that holds bounds and instances of 20 digits is never too small: no 64-bit word has more
abbrev pub NeverFull : Type 0
NeverFull =
    (p : Plan) (answers : List Answer) (buffer : List ℕ) → Listed 20 p answers → most 20 ≤ length buffer
    → (put buffer 0 (listing_of p answers)).0 ≡ Some (length (listing_of p answers))

-- the line of a refusal, whose number has 32 bits and whose place has 64, has 43 bytes at most
abbrev pub LargestRefusal : Type 0
LargestRefusal = (r : Refusal) → r.number ≤ ticks → r.place < 2 ^ 64 → length (refused_of r) ≤ 43
