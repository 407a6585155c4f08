-- One plan, one file: bytes and words are each other's inverse, words and plans are too, and what is within the limits fits its words.
-- Assumes nothing.
use Rattle.file.specs.File.{ReadPlan}
use Rattle.std.specs.Prelude.{Result}
use Rattle.names.specs.declared.Refusal.{Refusal}
use Rattle.file.specs.File.{read_sheet}
use mathlib.Core.Path.{◌≡◌, refl, sym, ap, ap₂, ◌∙◌}
use mathlib.Core.List.{List, ◌++◌, flat_map}
use Prim.Native.Nat.{ℕ, ◌+◌, ◌*◌, ◌^◌, ◌≤◌, ◌<◌}
use native.Mathlib.Nat.{lt_of_not-le, lt_of_le_of_lt, lt_of_lt_of_le}
use native.Mathlib.Decide.{dec_le}
use native.Mathlib.Omega.{arith}
use borrow.Author.Tests.{le-leb, eq-eqb}
use lib.Dec.{T, ltb, ltb→lt, lit<}
use lib.Pow.{pow_mono}
use lib.ListN.{length, get_or, take, drop, get_or-eq_default}
use lib.Seq.{get_or-take, get_or-drop, take_at}
use Rattle.names.specs.Limits.{streams, sources}
use Rattle.words.specs.Words.{words_of, bytes_of, Below}
use Rattle.words.proofs.Laws as W
use Rattle.plan.specs.Plan.{Plan, plan_of, blank}
use Rattle.carried.specs.declared.Edition.TheVariants.{Three}
use Rattle.carried.specs.Layout as layout
use Rattle.carried.specs.Carried.{Entered, meant, plain_timing, plainly, timing_words, stream_words, entered_words, values_of, sheet_of}
use Rattle.carried.proofs.Plans.{meant_plainly, plainly_meant, one_sheet, entered_back}
use Rattle.fields.proofs.All.{none, next, All, shown, all_both, flat_all}
use Rattle.std.specs.Prelude.{Result, Ok, Err}
use Rattle.judge.specs.Table.{Checked}
use Rattle.names.specs.declared.Refusal.{Refusal}
use Rattle.judge.specs.Table.{judge}
use Rattle.checks.specs.Checks.{lines, checked_of, Right}
use Rattle.judge.proofs.Table.{fine_parts}
use Rattle.checks.proofs.Fine.{meant_is_right, right_is_fine, fine_is_right, fine_when_meant, own_counts}
use Rattle.file.specs.File.{contents, file_words, entered_file, file_of, edition_in, count_in, sources_in, lag_in, entered_in_bodies, entered_at, plan_at, read_as, read_of, lines_out, write_as, write_with, write_of}
use Rattle.file.specs.Claims.{ReadsAsItsValues, ReadsWhatWasWritten, file_read, WritesWhatWasRead, MeansTheSame, SameBytes, ReadsOneSheet}
use Rattle.file.proofs.Same.{same_refl}
use Rattle.file.proofs.Reading.{read_values, ReadFine, fine_read, checked_sheet}
use Rattle.file.proofs.Writing.{write_fine}
use Rattle.file.proofs.Bodies.{length_words, as_carried, words_of_plan}

-- ---- the words of a plan within the limits fit 32 bits
abbrev Fits : ℕ → Type 0
Fits x = x < 2 ^ 32

fit : {x b : ℕ} → x ≤ b → T (ltb b (2 ^ 32)) → Fits x
fit {x} {b} h t = lt_of_le_of_lt h (ltb→lt b (2 ^ 32) t)

contents_fit : (n m : ℕ) → n ≤ streams → m ≤ sources → All Fits 0 (contents Three n m)
contents_fit n m a b =
    let x : Fits (layout.word * (layout.stream_length * n)) = omega arith in
    let y : Fits (layout.byte_of (layout.stream_at n)) = omega arith in
    let z : Fits (layout.word * m) = omega arith in
    shown Fits 0
    (next (lit< tt) (next (lit< tt) (next (lit< tt) (next (lit< tt) (next (lit< tt) (next (lit< tt) (next (lit< tt) (next x (next (lit< tt) (next y (next z none)))))))))))

module _ (p : Plan) (w : Right (length p.streams) (length p.gaps) p) where
  timing_fit : All Fits 0 (timing_words (plain_timing p.timing))
  timing_fit =
      let t = w.within.timing in
      shown Fits 0
      (next (fit t.f tt) (next (fit t.e tt) (next (fit t.tfcs tt) (next (fit t.swx tt) (next (fit t.h tt)
      (next (fit t.g tt) (next (fit t.etg tt) (next (lit< tt) (next (fit t.nb tt) (next (fit t.p tt) none))))))))))

  stream_fit : (k : ℕ) → k < length p.streams → All Fits 0 (stream_words (get_or p.streams k blank))
  stream_fit k h =
      let s = w.within.stream k h in
      let priority : Fits (get_or p.streams k blank).priority.0 = lt_of_lt_of_le s.priority (pow_mono w.within.timing.nb) in
      shown Fits 0
      (next (fit (w.label k h) tt) (next priority (next (fit s.period tt)
      (next (fit s.jitter tt) (next (fit s.payload tt) (next (fit s.deadline tt) (next (fit s.acknowledgement tt) none)))))))

  words_fit : Below (2 ^ 32) (file_words (plainly p))
  unfolding file_words
  words_fit i = go (dec_le (length (file_words (plainly p))) i)
    where
      all : All Fits 0 (file_words (plainly p))
      all =
          (all_both Fits 0 (contents Three (length p.streams) (length p.gaps)) (values_of p) (contents_fit (length p.streams) (length p.gaps) w.within.count w.within.sources)
          (all_both Fits 0 (timing_words (plain_timing p.timing)) (flat_map stream_words p.streams ++ p.gaps) timing_fit
          (all_both Fits 0 (flat_map stream_words p.streams) p.gaps (flat_all Fits 0 blank stream_words p.streams stream_fit)
          (λ k h. fit (w.within.gap k h).gap tt))))

      go : Dec (length (file_words (plainly p)) ≤ i) → get_or (file_words (plainly p)) i 0 < 2 ^ 32
      go (yes h) = rw (get_or-eq_default (file_words (plainly p)) 0 h) (omega arith)
      go (no h) = all i (lt_of_not-le h)

-- ---- from what is entered to its file and back
length_entered : (v : Entered) → length (entered_file v) ≡ layout.size Three (length v.streams) (length v.gaps)
length_entered v = W.length_bytes (file_words v) ∙ ap (λ k. layout.word * k) (length_words v)

pub length_file : (p : Plan) → length (file_of p) ≡ layout.size Three (length p.streams) (length p.gaps)
length_file p = length_entered (plainly p)

-- what the words of its file say
words_say : (v : Entered) → Below (2 ^ 32) (file_words v) → words_of (entered_file v) ≡ contents Three (length v.streams) (length v.gaps) ++ entered_words v
unfolding file_words
words_say v fits = W.words_bytes (file_words v) fits

-- the file of whatever is entered of few enough streams and gaps, in words that fit, is read as these values say, the refused ones too
pub reads_as_its_values : ReadsAsItsValues
reads_as_its_values v few quiet fits =
    let n = length v.streams in
    let m = length v.gaps in
    let ws = words_say v fits in
    let long : length (entered_file v) ≡ layout.size Three n m = length_entered v in
    let n-is : count_in Three (contents Three n m ++ entered_words v) ≡ n = omega arith in
    let m-is : sources_in (contents Three n m ++ entered_words v) ≡ m = omega arith in
    let head : take layout.contents_length (words_of (entered_file v)) ≡ contents Three n m = ap (take layout.contents_length) ws in
    let back : entered_at Three n m (entered_file v) ≡ v =
    ap (λ l. entered_in_bodies Three n m (drop layout.contents_length l)) ws ∙ as_carried n m (entered_words v) ∙ entered_back v in
    read_values (entered_file v) Three n m (ap edition_in ws) (ap (count_in Three) ws ∙ n-is) (ap sources_in ws ∙ m-is)
    (simp (le-leb (layout.byte_of 0) (length (entered_file v)) (omega arith), le-leb (length (entered_file v)) layout.largest_file (omega arith)))
    (rw head (rw (same_refl (contents Three n m)) (eq-eqb _ _ long)))
    ∙ ap (λ q. read_as (judge (lines Three n m q)) (meant q)) back

pub read_file : (p : Plan) → Right (length p.streams) (length p.gaps) p → read_of (file_of p) ≡ Ok (sheet_of p)
read_file p w =
    reads_as_its_values (plainly p) w.within.count w.within.sources (words_fit p w)
    ∙ ap₂ read_as (right_is_fine (length p.streams) (length p.gaps) p w) (meant_plainly p)

same_count : (a b : ℕ) → ◌≡◌ {A = Result ℕ Refusal} (Ok a) (Ok b) → a ≡ b
same_count a b e = cc

pub reads_what_was_written : ReadsWhatWasWritten
unfolding write_of write_with
reads_what_was_written s buf n e = go (judge (lines_out Three s.count s.sources (plainly (plan_of s)) buf)) refl e
  where
    -- what is written is the plan itself
    q : Plan
    q = meant (plainly (plan_of s))

    go : (c : Checked) → judge (lines_out Three s.count s.sources (plainly (plan_of s)) buf) ≡ c → (write_as c s.count s.sources q buf).0 ≡ Ok n
        → read_of (take n (write_as c s.count s.sources q buf).1) ≡ Ok (sheet_of (plan_of s))
    go (Ok _) j e =
        let p = plan_of s in
        let r = fine_is_right s.count s.sources p (fine_parts (lines Three s.count s.sources (plainly p)) _ j).0 in
        let long : length (file_of p) ≡ n = length_file p ∙ ap₂ (layout.size Three) r.count r.sources ∙ same_count _ n e in
        ap (λ x. read_of (take n (file_of x ++ drop (layout.size Three s.count s.sources) buf))) (meant_plainly p)
        ∙ ap read_of (take_at (file_of p) _ n long)
        ∙ read_file p (own_counts s.count s.sources p r)
    go (Err r) j e = absurd (let z : ◌≡◌ {A = ℕ} 0 1 = cc in omega arith)

-- ---- from a file to its plan and back
-- the plan of a file that is not refused
abbrev pub plan_read : (bs : List ℕ) → ReadFine bs → Plan
plan_read bs f = plan_at f.edition f.n f.m bs

pub right_read : (bs : List ℕ) (f : ReadFine bs) → Right f.n f.m (plan_read bs f)
right_read bs f = meant_is_right f.edition f.n f.m (entered_at f.edition f.n f.m bs) f.values

pub own_sheet : (bs : List ℕ) (f : ReadFine bs) → plan_of (sheet_of (plan_read bs f)) ≡ plan_read bs f
own_sheet bs f = let r = right_read bs f in one_sheet (plan_read bs f) r.within.count r.within.sources

pub reads_one_sheet : ReadsOneSheet
reads_one_sheet bs e =
    let f = fine_read bs e in
    let q : read_sheet (read_of bs) ≡ sheet_of (plan_read bs f) = ap read_sheet f.read in
    q ∙ ap sheet_of (sym (own_sheet bs f)) ∙ ap (λ s. sheet_of (plan_of s)) (sym q)

-- its file is that of the plan that was read
pub file_is : (bs : List ℕ) (f : ReadFine bs) → file_read bs ≡ file_of (plan_read bs f)
file_is bs f = ap (λ (r : ReadPlan). file_of (plan_of (read_sheet r))) f.read ∙ ap file_of (own_sheet bs f)

-- the answer to the sheet of what was read
pub sheet_fine : (bs : List ℕ) (f : ReadFine bs) → checked_of (sheet_of (plan_read bs f)) ≡ Ok tt
sheet_fine bs f =
    let r = right_read bs f in
    checked_sheet f.n f.m (plan_read bs f) r.count r.sources (omega (arith, r.count, r.within.count)) (omega (arith, r.sources, r.within.sources))
    ∙ fine_when_meant f.edition f.n f.m (entered_at f.edition f.n f.m bs) f.values

pub writes_what_was_read : WritesWhatWasRead
unfolding write_of checked_of
writes_what_was_read bs buf e h =
    let f = fine_read bs e in
    let p = plan_read bs f in
    let q = plan_of (sheet_of p) in
    let n = length p.streams in
    let m = length p.gaps in
    let long : layout.size Three n m ≡ length (file_read bs) = sym (ap length (file_is bs f) ∙ length_file p) in
    ap (λ (r : ReadPlan). write_of (read_sheet r) buf) f.read
    ∙ write_fine Three n m (plainly q) buf (sheet_fine bs f) (omega arith)
    ∙ ap₂ (λ k (bytes : List ℕ). (Ok k, bytes ++ drop k buf)) long (ap file_of (meant_plainly q ∙ own_sheet bs f) ∙ sym (file_is bs f))

pub means_the_same : MeansTheSame
means_the_same bs e =
    let f = fine_read bs e in
    let p = plan_read bs f in
    let w = own_counts f.n f.m p (right_read bs f) in (
      ap (λ l. edition_in (words_of l)) (file_is bs f) ∙ ap edition_in (words_say (plainly p) (words_fit p w)),
      ap (λ l. lag_in (words_of l)) (file_is bs f) ∙ ap lag_in (words_say (plainly p) (words_fit p w)),
      ap read_of (file_is bs f) ∙ read_file p w ∙ sym f.read,
    )

-- the LAG that is entered in a file is the one that stands in it
lag_at_lem : (bs : List ℕ) (n m : ℕ) → (entered_at Three n m bs).timing.lag ≡ lag_in (words_of bs)
unfolding entered_in_bodies
lag_at_lem bs n m =
    get_or-take layout.timing_length (drop layout.contents_length (words_of bs)) layout.lag_at 0 (omega arith)
    ∙ get_or-drop layout.contents_length (words_of bs) layout.lag_at 0

pub same_bytes : SameBytes
same_bytes bs small e is no_lag =
    let f = fine_read bs e in
    let three : f.edition ≡ Three = f.said ∙ is in
    let size : length bs ≡ layout.size Three f.n f.m = f.size ∙ ap (λ x. layout.size x f.n f.m) three in
    let head : take layout.contents_length (words_of bs) ≡ contents Three f.n f.m = f.contents ∙ ap (λ x. contents x f.n f.m) three in
    let k = layout.contents_length + layout.gap_at f.n f.m in
    file_is bs f
    ∙ ap (λ x. file_of (plan_at x f.n f.m bs)) three
    ∙ ap entered_file (plainly_meant (entered_at Three f.n f.m bs) (lag_at_lem bs f.n f.m ∙ no_lag))
    ∙ ap bytes_of (words_of_plan (words_of bs) f.n f.m (W.length_words bs ∙ omega (arith, size)) head)
    ∙ W.bytes_words k bs small (omega (arith, size))
