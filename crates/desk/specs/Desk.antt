-- What is shown of a plan file: its listing, how long the searches of its streams may take, whether it is fine, or the file again; of a
-- refused file always the one line of its refusal.
use Rattle.std.specs.Prelude.{◌≡◌, List, ℕ, ◌^◌, ◌≤◌, ◌<◌, length}
use Rattle.names.specs.declared.Refusal.{Refusal}
use Rattle.names.specs.Limits.{ticks}
use Rattle.words.specs.Words.{words_of, Below}
use Rattle.std.specs.Prelude.{Some, Ok, Err}
use Rattle.judge.specs.Table.{Checked}
use Rattle.plan.specs.Plan.{Plan, plan_of, at}
use Rattle.plan.specs.Rules.{answers}
use Rattle.plan.specs.Evaluations.{row_wait, waits}
use Rattle.carried.specs.declared.Edition.TheVariants.{Three}
use Rattle.carried.specs.Layout as layout
use Rattle.file.specs.File.{file_of, edition_in, lag_in, read_of, read_said, read_sheet}
use Rattle.ascii.specs.Ascii.{ascii}
use Rattle.text.specs.Listing.{listing_of, refused_of}
use Rattle.text.specs.Claims.{most}
use Rattle.text.specs.Put.{put}
use Rattle.wait_lines.specs.Lines.{lines_of}

-- the listing of a plan with its rows' answers
abbrev pub shown_as : Checked → Plan → List ℕ
shown_as (Ok _) p = listing_of p (answers p)
shown_as (Err r) p = refused_of r

-- how many evaluations the search for each stream's L takes, and how many at most
abbrev pub waits_as : Checked → Plan → List ℕ
waits_as (Ok _) p = lines_of p (waits p)
waits_as (Err r) p = refused_of r

-- that it is fine
abbrev pub refusal_as : Checked → List ℕ
refusal_as (Ok _) = ascii "fine\n"
refusal_as (Err r) = refused_of r

-- the plan's file
abbrev pub file_as : Checked → Plan → List ℕ
file_as (Ok _) p = file_of p
file_as (Err r) p = refused_of r

-- of a file's bytes
unfoldable pub shown : List ℕ → List ℕ
shown bs = shown_as (read_said (read_of bs)) (plan_of (read_sheet (read_of bs)))

unfoldable pub shown_waits : List ℕ → List ℕ
shown_waits bs = waits_as (read_said (read_of bs)) (plan_of (read_sheet (read_of bs)))

unfoldable pub shown_refusal : List ℕ → List ℕ
shown_refusal bs = refusal_as (read_said (read_of bs))

unfoldable pub shown_file : List ℕ → List ℕ
shown_file bs = file_as (read_said (read_of bs)) (plan_of (read_sheet (read_of bs)))

-- ---- What is proved of what is shown; the proofs are in proofs/Fits.antt, proofs/Waits.antt and proofs/Again.antt.

-- every file that is not refused is shown in full where the largest listing has room, since no bound and no instance has more than 10
-- digits
abbrev pub ListingFits : Type 0
ListingFits =
    (bs buffer : List ℕ) → read_said (read_of bs) ≡ Ok tt → most 10 ≤ length buffer
    → (put buffer 0 (shown bs)).0 ≡ Some (length (shown bs))

-- .. and so are the waits, none of whose numbers has more either, ..
abbrev pub WaitsFit : Type 0
WaitsFit =
    (bs buffer : List ℕ) → read_said (read_of bs) ≡ Ok tt → most 10 ≤ length buffer
    → (put buffer 0 (shown_waits bs)).0 ≡ Some (length (shown_waits bs))

-- .. and no number of evaluations is above the limit that is shown beside it
abbrev pub WaitsWithin : Type 0
WaitsWithin =
    (bs : List ℕ) → read_said (read_of bs) ≡ Ok tt
    → let p = plan_of (read_sheet (read_of bs)) in (k : ℕ) → k < length p.streams → (row_wait p (at p k)).evaluations ≤ (row_wait p (at p k)).limit

-- a file of edition 3 with a LAG of 0 that is not refused is shown again byte for byte, ..
abbrev pub SameFile : Type 0
SameFile =
    (bs : List ℕ) → Below 256 bs → read_said (read_of bs) ≡ Ok tt → edition_in (words_of bs) ≡ Three → lag_in (words_of bs) ≡ 0 → shown_file bs ≡ bs

-- .. and one of any edition, with a LAG or with none, as a file of edition 3 with a LAG of 0 of which the same is read, ..
abbrev pub SameMeaning : Type 0
SameMeaning =
    (bs : List ℕ) → read_said (read_of bs) ≡ Ok tt
    → (edition_in (words_of (shown_file bs)) ≡ Three) × (lag_in (words_of (shown_file bs)) ≡ 0) × (read_of (shown_file bs) ≡ read_of bs)

-- .. in full where the largest file has room, ..
abbrev pub FileFits : Type 0
FileFits =
    (bs buffer : List ℕ) → read_said (read_of bs) ≡ Ok tt → layout.largest_file ≤ length buffer
    → (put buffer 0 (shown_file bs)).0 ≡ Some (length (shown_file bs))

-- .. and the line that is shown of a refused one is no plan file: it is too short for one
abbrev pub LineIsNoPlan : Type 0
LineIsNoPlan =
    (r : Refusal) → r.number ≤ ticks → r.place < 2 ^ 64 → read_said (read_of (refused_of r)) ≡ Err (record { number = 1; place = 0 })
