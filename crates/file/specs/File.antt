-- Document 01, "The plan file", with editions 2 and 3 of document 02, requests 01 and 05, and without LAG in a plan (request 06); and the
-- refusals of a file and of writing one.
use Rattle.std.specs.Prelude.{Bool, true, false, cond, ◌&&◌, List, [], ◌∷◌, ◌++◌, ℕ, ◌+◌, ◌*◌, ◌/◌, leb, eqb, length, get_or, take, drop}
use Rattle.laws.specs.Lists.{rows}
use Rattle.words.specs.Words.{words_of, laid_onto, bytes_of}
use Rattle.std.specs.Prelude.{Result, Ok, Err}
use Rattle.judge.specs.Table.{Checked}
use Rattle.names.specs.declared.Refusal.{Refusal}
use Rattle.judge.specs.Table.{Line, judge, unless}
use Rattle.plan.specs.declared.Stream.{Stream}
use Rattle.plan.specs.declared.Sheet.{Sheet}
use Rattle.plan.specs.Plan.{Plan, plan_of}
use Rattle.carried.specs.declared.Counts.{Counts}
use Rattle.carried.specs.declared.Edition.{Edition, TheVariants.One, TheVariants.Two, TheVariants.Three}
use Rattle.carried.specs.Layout as layout
use Rattle.carried.specs.Carried.{Entered, meant, plainly, entered_timing_in, stream_in, entered_words, sheet_of, no_sheet}
use Rattle.checks.specs.Checks.{range_lines, value_lines, lines}

-- ---- a plan's file, and what is entered in one

-- the contents: the edition, 3 entries, and of each its kind, start and length: (1, 44, 36), (2, 80, 24n), (3, 80 + 24n, 4m), in
-- edition 2 (1, 44, 40), (2, 84, 24n), (3, 84 + 24n, 4m), and in edition 3 (1, 44, 40), (2, 84, 28n), (3, 84 + 28n, 4m)
abbrev pub contents : Edition → ℕ → ℕ → List ℕ
contents edition n m =
    layout.edition_number edition ∷ 3
    ∷ 1 ∷ layout.byte_of 0 ∷ layout.word * layout.timing_body edition
    ∷ 2 ∷ layout.byte_of (layout.timing_body edition) ∷ layout.word * (layout.stream_body edition * n)
    ∷ 3 ∷ layout.byte_of (layout.record_at edition n) ∷ layout.word * m
    ∷ []

-- what is entered has a file of edition 3: then come its words, with nothing after or between, ..
unfoldable pub file_words : Entered → List ℕ
file_words v = contents Three (length v.streams) (length v.gaps) ++ entered_words v

abbrev pub entered_file : Entered → List ℕ
entered_file v = bytes_of (file_words v)

-- .. and a plan's one file has a LAG of 0
abbrev pub file_of : Plan → List ℕ
file_of p = entered_file (plainly p)

-- ---- what a file's words say

-- the edition; a first word that is not 1, 2 or 3 is refused with the contents
abbrev pub edition_in : List ℕ → Edition
edition_in ws = cond (eqb (get_or ws 0 0) 3) Three (cond (eqb (get_or ws 0 0) 2) Two One)

-- n and m, from the lengths of the second and the third entry
abbrev pub count_in : Edition → List ℕ → ℕ
count_in edition ws = get_or ws 7 0 / (layout.word * layout.stream_body edition)

abbrev pub sources_in : List ℕ → ℕ
sources_in ws = get_or ws 10 0 / layout.word

-- LAG, which stands in the same place in every edition
abbrev pub lag_in : List ℕ → ℕ
lag_in ws = get_or ws (layout.contents_length + layout.lag_at) 0

-- the stream of row r in the bodies; K is 0 where its record has no seventh word
abbrev pub record_in : Edition → List ℕ → ℕ → Stream
record_in edition bodies r = stream_in (take (layout.stream_body edition) (drop (layout.record_at edition r) bodies)) 0

-- what is entered in the bodies of n streams and m gaps; P is 0 where the timing has no tenth word
unfoldable pub entered_in_bodies : Edition → ℕ → ℕ → List ℕ → Entered
entered_in_bodies edition n m bodies =
    record {
      timing = entered_timing_in (take (layout.timing_body edition) bodies);
      streams = rows n (record_in edition bodies);
      gaps = rows m (λ k. get_or bodies (layout.record_at edition n + k) 0);
    }

-- what is entered in the bytes of a file, and the plan that is meant
abbrev pub entered_at : Edition → ℕ → ℕ → List ℕ → Entered
entered_at edition n m bs = entered_in_bodies edition n m (drop layout.contents_length (words_of bs))

abbrev pub plan_at : Edition → ℕ → ℕ → List ℕ → Plan
plan_at edition n m bs = meant (entered_at edition n m bs)

-- ---- reading

-- two lists of words are the same
unfoldable pub same : List ℕ → List ℕ → Bool
same [] [] = true
same [] (y ∷ ys) = false
same (x ∷ xs) [] = false
same (x ∷ xs) (y ∷ ys) = eqb x y && same xs ys

-- 1: the file is shorter than 44 bytes or longer than 7,284
abbrev pub size_right : List ℕ → Bool
size_right bs = leb (layout.byte_of 0) (length bs) && leb (length bs) layout.largest_file

-- 2: any contents word differs from the rule, or the last body doesn't end at the file's end
abbrev pub contents_right : Edition → ℕ → ℕ → List ℕ → Bool
contents_right edition n m bs =
    same (take layout.contents_length (words_of bs)) (contents edition n m) && eqb (length bs) (layout.size edition n m)

-- the lines of the contents, before any value is read; also 2: n or m is outside its range
abbrev pub contents_lines : Edition → ℕ → ℕ → List ℕ → List Line
contents_lines edition n m bs =
    record { number = 1; place = unless (size_right bs) }
    ∷ record { number = 2; place = unless (contents_right edition n m bs) }
    ∷ range_lines edition n m

-- an edition and the counts of n streams and m gaps
abbrev pub counts_said : Edition → ℕ → ℕ → Result Counts Refusal
counts_said edition n m = Ok (record { edition = edition; n = n; m = m })

-- an answer with the edition and the counts that it is about
abbrev pub counts_as : Checked → Edition → ℕ → ℕ → Result Counts Refusal
counts_as (Ok _) edition n m = counts_said edition n m
counts_as (Err r) edition n m = Err r

-- what the contents of any bytes at all say: the edition, and n and m are what they count
unfoldable pub counts_of : List ℕ → Result Counts Refusal
counts_of bs =
    let edition = edition_in (words_of bs) in
    let n = count_in edition (words_of bs) in
    let m = sources_in (words_of bs) in
    counts_as (judge (contents_lines edition n m bs)) edition n m

-- what is carried of a file: the words that are entered in it, as they stand, at the front of those that are lent, or these as they were
abbrev pub carried_as : Result Counts Refusal → List ℕ → List ℕ → List ℕ
carried_as (Ok c) bs ws = laid_onto (entered_words (entered_at c.edition c.n c.m bs)) ws
carried_as (Err r) bs ws = ws

abbrev pub carried_of : List ℕ → List ℕ → List ℕ
carried_of bs ws = carried_as (counts_of bs) bs ws

-- the lines of a file: those of its contents, then those of what is entered in its bodies
abbrev pub lines_in : Edition → ℕ → ℕ → List ℕ → List Line
lines_in edition n m bs = contents_lines edition n m bs ++ value_lines edition (entered_at edition n m bs)

-- a plan's sheet, or why there is none
abbrev pub ReadPlan : Type 0
ReadPlan = Result Sheet Refusal

-- an answer with the plan that it is about
abbrev pub read_as : Checked → Plan → ReadPlan
read_as (Ok _) p = Ok (sheet_of p)
read_as (Err r) p = Err r

-- what reading gives for any bytes at all
unfoldable pub read_of : List ℕ → ReadPlan
read_of bs =
    let edition = edition_in (words_of bs) in
    let n = count_in edition (words_of bs) in
    let m = sources_in (words_of bs) in
    read_as (judge (lines_in edition n m bs)) (plan_at edition n m bs)

-- of what was read: that it is fine or its refusal, and the sheet; a refused file has none, for which one stands on which all is zero
abbrev pub read_said : ReadPlan → Checked
read_said (Ok s) = Ok tt
read_said (Err r) = Err r

abbrev pub read_sheet : ReadPlan → Sheet
read_sheet (Ok s) = s
read_sheet (Err r) = no_sheet

-- ---- writing

-- the lines of writing what is entered in a file of an edition, as a plan of n streams and m gaps: those of its values, and 6: the lent
-- buffer is too small for its plan's file
abbrev pub lines_out : Edition → ℕ → ℕ → Entered → List ℕ → List Line
lines_out edition n m v buf =
    lines edition n m v ++ (record { number = 6; place = unless (leb (layout.size Three n m) (length buf)) } ∷ [])

-- the answer, and the lent bytes after it: the plan's file at the start and the rest as it was, or all as it was
abbrev pub write_as : Checked → ℕ → ℕ → Plan → List ℕ → Result ℕ Refusal × List ℕ
write_as (Ok _) n m p buf = (Ok (layout.size Three n m), file_of p ++ drop (layout.size Three n m) buf)
write_as (Err r) n m p buf = (Err r, buf)

-- what writing gives for any edition, any two counts, whatever is entered and any buffer, ..
unfoldable pub write_with : Edition → ℕ → ℕ → Entered → List ℕ → Result ℕ Refusal × List ℕ
write_with edition n m v buf = write_as (judge (lines_out edition n m v buf)) n m (meant v) buf

-- .. and for any sheet: its counts and its plan, with the places of edition 3
unfoldable pub write_of : Sheet → List ℕ → Result ℕ Refusal × List ℕ
write_of s buf = write_with Three s.count s.sources (plainly (plan_of s)) buf
