-- What is proved of the plan file: one plan, one file of edition 3 with no LAG (proofs/RoundTrip.antt), when its contents alone refuse it
-- (proofs/Exactly.antt), and the documents' numbers (proofs/Numbers.antt).
use Rattle.std.specs.Prelude.{◌≡◌, true, false, List, [], ◌∷◌, ◌++◌, ◌↔◌, ℕ, ◌+◌, ◌*◌, ◌^◌, ◌≤◌, ◌<◌, length, get_or, take, drop}
use Rattle.names.specs.Limits.{streams, sources}
use Rattle.names.specs.declared.Refusal.{Refusal}
use Rattle.words.specs.Words.{words_of, Below}
use Rattle.plan.specs.declared.Sheet.{Sheet}
use Rattle.plan.specs.Plan.{plan_of}
use Rattle.carried.specs.declared.Edition.{Edition, TheVariants.One, TheVariants.Two, TheVariants.Three}
use Rattle.carried.specs.Layout as layout
use Rattle.carried.specs.Carried.{Entered, meant, sheet_of}
use Rattle.fields.specs.Fields.{fields, field_at}
use Rattle.std.specs.Prelude.{Ok, Err}
use Rattle.judge.specs.Table.{judge}
use Rattle.checks.specs.Checks.{lines}
use Rattle.file.specs.File.{contents, file_words, entered_file, file_of, edition_in, lag_in, entered_at, counts_of, read_as, read_of}
use Rattle.file.specs.File.{read_said, read_sheet, counts_said, write_with, write_of}

-- the file of any values, of at most 256 streams and 8 gaps, whose words fit 32 bits, is answered as the values are, with the same place
abbrev pub ReadsAsItsValues : Type 0
ReadsAsItsValues =
    (v : Entered) → length v.streams ≤ streams → length v.gaps ≤ sources → Below (2 ^ 32) (file_words v)
    → read_of (entered_file v) ≡ read_as (judge (lines Three (length v.streams) (length v.gaps) v)) (meant v)

-- reading what was written gives the same plan, for every sheet that is not refused
abbrev pub ReadsWhatWasWritten : Type 0
ReadsWhatWasWritten =
    (s : Sheet) (buf : List ℕ) (n : ℕ) → (write_of s buf).0 ≡ Ok n
    → read_of (take n (write_of s buf).1) ≡ Ok (sheet_of (plan_of s))

-- the file of the plan that was read
abbrev pub file_read : List ℕ → List ℕ
file_read bs = file_of (plan_of (read_sheet (read_of bs)))

-- writing what was read gives that file, for every file that is not refused, ..
abbrev pub WritesWhatWasRead : Type 0
WritesWhatWasRead =
    (bs buf : List ℕ) → read_said (read_of bs) ≡ Ok tt → length (file_read bs) ≤ length buf
    → write_of (read_sheet (read_of bs)) buf ≡ (Ok (length (file_read bs)), file_read bs ++ drop (length (file_read bs)) buf)

-- .. which has edition 3, a LAG of 0 and the same meaning: what is read of it is what was read, ..
abbrev pub MeansTheSame : Type 0
MeansTheSame =
    (bs : List ℕ) → read_said (read_of bs) ≡ Ok tt
    → (edition_in (words_of (file_read bs)) ≡ Three) × (lag_in (words_of (file_read bs)) ≡ 0) × (read_of (file_read bs) ≡ read_of bs)

-- .. and is the same byte for byte, if the file that was read has edition 3 and a LAG of 0
abbrev pub SameBytes : Type 0
SameBytes =
    (bs : List ℕ) → Below 256 bs → read_said (read_of bs) ≡ Ok tt → edition_in (words_of bs) ≡ Three → lag_in (words_of bs) ≡ 0 → file_read bs ≡ bs

-- counts out of range are refused 2 at 0, whatever else is wrong, and the lent bytes are as they were
abbrev pub WrongCounts : Type 0
WrongCounts =
    (edition : Edition) (n m : ℕ) (v : Entered) (buf : List ℕ)
    → let refused_2 = write_with edition n m v buf ≡ (Err (record { number = 2; place = 0 }), buf) in
    (n < 1 → refused_2) × (layout.most_streams edition < n → refused_2) × (sources < m → refused_2)

-- the contents are refused exactly where the file is refused 1 or 2, and then as the file is
abbrev pub ContentsRefused : Type 0
ContentsRefused =
    (bs : List ℕ) (r : Refusal) → (counts_of bs ≡ Err r) ↔ ((read_said (read_of bs) ≡ Err r) × (r.number ≤ 2))

-- what was read is the one sheet of its plan
abbrev pub ReadsOneSheet : Type 0
ReadsOneSheet = (bs : List ℕ) → read_said (read_of bs) ≡ Ok tt → read_sheet (read_of bs) ≡ sheet_of (plan_of (read_sheet (read_of bs)))

-- the contents are the words of the documents, ..
abbrev pub ContentsAre : Type 0
ContentsAre =
    (n m : ℕ) → (contents One n m ≡ 1 ∷ 3 ∷ 1 ∷ 44 ∷ 36 ∷ 2 ∷ 80 ∷ 24 * n ∷ 3 ∷ (80 + 24 * n) ∷ 4 * m ∷ [])
    × (contents Two n m ≡ 2 ∷ 3 ∷ 1 ∷ 44 ∷ 40 ∷ 2 ∷ 84 ∷ 24 * n ∷ 3 ∷ (84 + 24 * n) ∷ 4 * m ∷ [])
    × (contents Three n m ≡ 3 ∷ 3 ∷ 1 ∷ 44 ∷ 40 ∷ 2 ∷ 84 ∷ 28 * n ∷ 3 ∷ (84 + 28 * n) ∷ 4 * m ∷ [])

-- .. a file has as many bytes as they say, the largest 7,284, ..
abbrev pub SizesAre : Type 0
SizesAre =
    ((n m : ℕ) → (layout.size One n m ≡ 80 + 24 * n + 4 * m) × (layout.size Two n m ≡ 84 + 24 * n + 4 * m)
    × (layout.size Three n m ≡ 84 + 28 * n + 4 * m))
    × (layout.largest_file ≡ 7284)

-- .. and field i of a file whose contents are right stands where refusal 3 says: word k of the bodies, at byte 4 × (11 + k), is word 11 + k
-- of the file. A field that its edition has no word for is 0
abbrev pub PlaceIsOffset : Type 0
PlaceIsOffset =
    (bs : List ℕ) (edition : Edition) (n m : ℕ) → counts_of bs ≡ counts_said edition n m
    → (i : ℕ) → i < length (fields edition (entered_at edition n m bs))
    → let k = layout.in_bodies edition n i in
    let value = (field_at (fields edition (entered_at edition n m bs)) i).word in
    (layout.byte_of k ≡ 4 * (11 + k))
    × (layout.has_word edition n i ≡ true → get_or (words_of bs) (layout.contents_length + k) 0 ≡ value)
    × (layout.has_word edition n i ≡ false → value ≡ 0)
