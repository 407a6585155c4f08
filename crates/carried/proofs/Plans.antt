-- What is entered, and its words: what is entered in its words is it, whatever stands after them; the words of what is entered in some words
-- are those words; what is meant by it; a plan's one sheet; and words that are laid one after the other. Assumes nothing.
use mathlib.Core.Path.{◌≡◌, refl, sym, ap, ap₂, ◌∙◌}
use mathlib.Core.List.{List, [], ◌∷◌, ◌++◌, flat_map, append-nil}
use Prim.Native.Nat.{ℕ, zero, suc, ◌+◌, ◌-◌, ◌*◌, ◌≤◌, ◌<◌, min}
use native.Mathlib.Nat.{le_refl, add-zero, add_assoc}
use native.Mathlib.Numerals.{add-one}
use native.Mathlib.Omega.{arith}
use lib.ListN.{length, get_or, take, drop, replicate, length-append, get_or-append, get_or-replicate}
use lib.Seq.{get_or-drop, get_or-append-add, length-take-le, take_at, take-add, take-suc, take-length, drop-drop, drop-append-add, paste}
use Rattle.names.specs.Limits.{streams, sources, ticks}
use Rattle.laws.specs.Lists.{rows}
use Rattle.laws.proofs.Lists.{rows_same, rows_take}
use Rattle.laws.proofs.Pieces.{rows_part, flat_append, length_flat, in_piece}
use Rattle.laws.proofs.Placed.{placed_front, placed_short, placed_reads, drop_replicate}
use Rattle.plan.specs.declared.Stream.{Stream}
use Rattle.plan.specs.Plan.{blank, TimingWithin}
use Rattle.carried.specs.declared.EnteredTiming.{EnteredTiming}
use Rattle.carried.specs.Layout as layout
use Rattle.carried.specs.Carried.{Entered, meant, held, held_timing, meant_timing, entered_timing_in, stream_in, entered_in, timing_words, stream_words, entered_words, in_places, sheet_of, no_sheet}
use Rattle.carried.specs.Carried.{EnteredInWords, WordsBack, MeantPlainly, PlainlyMeant, OneSheet}

seven : (s : Stream) → length (stream_words s) ≡ layout.stream_length
seven s = refl

-- the words after those of the timing
abbrev tail : Entered → List ℕ
tail v = flat_map stream_words v.streams ++ v.gaps

pub length_words : (v : Entered) → length (entered_words v) ≡ layout.gap_at (length v.streams) (length v.gaps)
length_words v =
    omega (arith, length-append (flat_map stream_words v.streams) v.gaps, length_flat layout.stream_length stream_words seven v.streams)

-- ---- from what is entered to its words and back
module _ (v : Entered) (after : List ℕ) where
  abbrev among : List ℕ
  among = entered_words v ++ after

  past_timing : (i : ℕ) → get_or among (layout.timing_length + i) 0 ≡ get_or (tail v ++ after) i 0
  past_timing i = sym (get_or-drop layout.timing_length among i 0)

  pub stream_word : (r j : ℕ) → r < length v.streams → j < layout.stream_length → get_or among (layout.stream_at r + j) 0 ≡ get_or (stream_words (get_or v.streams r blank)) j 0
  stream_word r j h k =
      let flat = flat_map stream_words v.streams in
      let i : layout.stream_length * r + j < length flat = omega (arith, length_flat layout.stream_length stream_words seven v.streams) in
      ap (λ n. get_or among n 0) (add_assoc layout.timing_length (layout.stream_length * r) j)
      ∙ past_timing (layout.stream_length * r + j)
      ∙ get_or-append (tail v) after 0 (layout.stream_length * r + j) (omega (arith, length-append flat v.gaps))
      ∙ get_or-append flat v.gaps 0 (layout.stream_length * r + j) i
      ∙ in_piece layout.stream_length stream_words seven v.streams r j blank 0 h k

  pub gap_word : (k : ℕ) → k < length v.gaps → get_or among (layout.gap_at (length v.streams) k) 0 ≡ get_or v.gaps k 0
  gap_word k h =
      let flat = flat_map stream_words v.streams in
      let n : layout.stream_length * length v.streams + k ≡ length flat + k = omega (arith, length_flat layout.stream_length stream_words seven v.streams) in
      ap (λ n. get_or among n 0) (add_assoc layout.timing_length (layout.stream_length * length v.streams) k)
      ∙ past_timing (layout.stream_length * length v.streams + k)
      ∙ ap (λ i. get_or (tail v ++ after) i 0) n
      ∙ get_or-append (tail v) after 0 (length flat + k) (omega (arith, length-append flat v.gaps))
      ∙ get_or-append-add flat v.gaps k 0

  stream_is : (r : ℕ) → r < length v.streams → stream_in among (layout.stream_at r) ≡ get_or v.streams r blank
  stream_is r h =
      let first : get_or among (layout.stream_at r) 0 ≡ get_or (stream_words (get_or v.streams r blank)) 0 0 =
      ap (λ n. get_or among n 0) (sym (add-zero (layout.stream_at r))) ∙ stream_word r 0 h (omega arith) in
      rw (first, stream_word r 1 h (omega arith), stream_word r 2 h (omega arith), stream_word r 3 h (omega arith), stream_word r 4 h (omega arith), stream_word r 5 h (omega arith), stream_word r 6 h (omega arith)) refl

pub entered_in_words_lem : EnteredInWords
unfolding entered_in
entered_in_words_lem v after =
    let ws = entered_words v ++ after in
    let streams : rows (length v.streams) (λ r. stream_in ws (layout.stream_at r)) ≡ v.streams =
    rows_same (length v.streams) _ _ (stream_is v after) ∙ rows_take v.streams blank (length v.streams) (le_refl _) ∙ take-length v.streams in
    let gaps : rows (length v.gaps) (λ k. get_or ws (layout.gap_at (length v.streams) k) 0) ≡ v.gaps =
    rows_same (length v.gaps) _ _ (gap_word v after) ∙ rows_take v.gaps 0 (length v.gaps) (le_refl _) ∙ take-length v.gaps in
    rw (streams, gaps) refl

-- .. and with nothing after them
pub entered_back : (v : Entered) → entered_in (length v.streams) (length v.gaps) (entered_words v) ≡ v
entered_back v = ap (entered_in _ _) (sym (append-nil (entered_words v))) ∙ entered_in_words_lem v []

-- ---- from words to what is entered in them and back
module _ (ws : List ℕ) where
  pub timing_back : layout.timing_length ≤ length ws → timing_words (entered_timing_in ws) ≡ take layout.timing_length ws
  unfolding rows
  timing_back h = rows_part 0 layout.timing_length ws 0 h

  -- seven words from word k on
  pub seven_back : (k : ℕ) → k + layout.stream_length ≤ length ws → stream_words (stream_in ws k) ≡ take layout.stream_length (drop k ws)
  unfolding rows
  seven_back k h = rw (add-zero k) at (rows_part k layout.stream_length ws 0 h)

  streams_back : (j : ℕ) → layout.stream_at j ≤ length ws → flat_map stream_words (rows j (λ r. stream_in ws (layout.stream_at r))) ≡ take (layout.stream_length * j) (drop layout.timing_length ws)
  unfolding rows flat_map
  streams_back zero h = refl
  streams_back (suc j) h =
      let part = drop layout.timing_length ws in
      let last : drop (layout.stream_at j) ws ≡ drop (layout.stream_length * j) part = sym (drop-drop (layout.stream_length * j) layout.timing_length ws) in
      let n : layout.stream_length * suc j ≡ layout.stream_length * j + layout.stream_length = omega arith in
      flat_append stream_words (rows j (λ r. stream_in ws (layout.stream_at r))) (stream_in ws (layout.stream_at j) ∷ [])
      ∙ ap₂ ◌++◌ (streams_back j (omega arith)) (append-nil (stream_words (stream_in ws (layout.stream_at j))) ∙ seven_back (layout.stream_at j) (omega arith) ∙ ap (take layout.stream_length) last)
      ∙ rw n (sym (take-add (layout.stream_length * j) layout.stream_length part))

  pub gaps_back : (n m : ℕ) → layout.gap_at n m ≤ length ws → rows m (λ k. get_or ws (layout.gap_at n k) 0) ≡ take m (drop (layout.stream_at n) ws)
  gaps_back n m long = rows_part (layout.stream_at n) m ws 0 long

  -- all words after the timing's
  pub tail_back : (n m : ℕ) → layout.gap_at n m ≤ length ws
      → flat_map stream_words (rows n (λ r. stream_in ws (layout.stream_at r))) ++ rows m (λ k. get_or ws (layout.gap_at n k) 0)
      ≡ take (layout.stream_length * n + m) (drop layout.timing_length ws)
  tail_back n m long =
      let t = layout.timing_length in
      let s = layout.stream_length * n in
      ap₂ ◌++◌ (streams_back n (omega arith)) (gaps_back n m long ∙ ap (take m) (sym (drop-drop s t ws))) ∙ sym (take-add s m (drop t ws))

pub words_back : WordsBack
unfolding entered_in
words_back n m ws long =
    let t = layout.timing_length in
    let s = layout.stream_length * n in
    let k : t + (s + m) ≡ layout.gap_at n m = omega arith in
    ap₂ ◌++◌ (timing_back ws (omega arith)) (tail_back ws n m long) ∙ sym (take-add t (s + m) ws) ∙ ap (λ j. take j ws) k

-- ---- what is entered is what is read from its words
pub entered_reads : (n m : ℕ) (vs ws : List ℕ) → ((k : ℕ) → k < layout.gap_at n m → get_or vs k 0 ≡ get_or ws k 0) → entered_in n m vs ≡ entered_in n m ws
unfolding entered_in
entered_reads n m vs ws e =
    let t : (k : ℕ) → k < layout.timing_length → get_or vs k 0 ≡ get_or ws k 0 = λ k h. e k (omega arith) in
    let stream : (r : ℕ) → r < n → stream_in vs (layout.stream_at r) ≡ stream_in ws (layout.stream_at r) =
    (λ r h.
    let s : (j : ℕ) → j < layout.stream_length → get_or vs (layout.stream_at r + j) 0 ≡ get_or ws (layout.stream_at r + j) 0 = λ j g. e (layout.stream_at r + j) (omega arith) in
    rw (e (layout.stream_at r) (omega arith), s 1 (omega arith), s 2 (omega arith), s 3 (omega arith), s 4 (omega arith), s 5 (omega arith), s 6 (omega arith)) refl) in
    let gaps : rows m (λ k. get_or vs (layout.gap_at n k) 0) ≡ rows m (λ k. get_or ws (layout.gap_at n k) 0) = rows_same m _ _ (λ k h. e (layout.gap_at n k) (omega arith)) in
    rw (t 0 (omega arith), t 1 (omega arith), t 2 (omega arith), t 3 (omega arith), t 4 (omega arith), t 5 (omega arith), t 6 (omega arith), t 7 (omega arith), t 8 (omega arith), t 9 (omega arith), rows_same n _ _ stream, gaps) refl

-- in places, where they have room, words hold what they held
pub entered_in_places : (n m : ℕ) (ws : List ℕ) → n ≤ streams → m ≤ sources → entered_in n m (in_places ws) ≡ entered_in n m ws
entered_in_places n m ws few quiet = entered_reads n m (in_places ws) ws (λ k h. placed_reads layout.largest 0 ws k (omega arith))

-- so the words of what is entered hold it in places, too
pub own_places : (v : Entered) → length v.streams ≤ streams → length v.gaps ≤ sources
    → entered_in (length v.streams) (length v.gaps) (in_places (entered_words v)) ≡ v
own_places v few quiet = entered_in_places _ _ (entered_words v) few quiet ∙ entered_back v

pub timing_in_places : (ws : List ℕ) → entered_timing_in (in_places ws) ≡ entered_timing_in ws
unfolding entered_in
timing_in_places ws = ap (λ (v : Entered). v.timing) (entered_in_places 0 0 ws (omega arith) (omega arith))

-- ---- what is meant
pub meant_plainly : MeantPlainly
meant_plainly p = rw (add-zero p.timing.etg) refl

pub plainly_meant : PlainlyMeant
plainly_meant v e =
    let sum : v.timing.etg + v.timing.lag ≡ v.timing.etg = omega arith in
    rw (sum, e) refl

-- a word holds a constant within its limits, so what is held is what is meant
pub timing_held : (t : EnteredTiming) → TimingWithin (meant_timing t) → held_timing t ≡ meant_timing t
timing_held t w = let e : min (t.etg + t.lag) ticks ≡ t.etg + t.lag = omega (arith, w.etg) in rw e refl

pub plan_held : (v : Entered) → TimingWithin (meant_timing v.timing) → held v ≡ meant v
plan_held v w = ap (λ t. record { timing = t; streams = v.streams; gaps = v.gaps }) (timing_held v.timing w)

-- ---- a plan's one sheet
pub one_sheet : OneSheet
one_sheet p few quiet = rw (placed_front streams blank p.streams few, placed_front sources 0 p.gaps quiet) refl

pub no_sheet_lem : {ws : List ℕ} → ws ≡ replicate layout.largest 0 → sheet_of (held (entered_in 0 0 ws)) ≡ no_sheet
unfolding entered_in
no_sheet_lem {ws} e =
    ap (λ v. sheet_of (held v)) (entered_reads 0 0 ws [] (λ k h. ap (λ l. get_or l k 0) e ∙ get_or-replicate layout.largest k 0 0 (omega arith)))

-- ---- words that are laid one after the other, over places that hold 0
abbrev pub padded : List ℕ → List ℕ
padded ws = ws ++ replicate (layout.largest - length ws) 0

pub lay_next : (ws vs : List ℕ) (k : ℕ) {o : List ℕ} → length ws ≡ k → o ≡ padded ws → paste o k vs (length vs) ≡ padded (ws ++ vs)
lay_next ws vs k e d =
    let z : List ℕ = replicate (layout.largest - length ws) 0 in
    let n : layout.largest - length ws - length vs ≡ layout.largest - length (ws ++ vs) = omega (arith, length-append ws vs) in
    let after : drop (k + length vs) (ws ++ z) ≡ replicate (layout.largest - length (ws ++ vs)) 0 =
    rw (← e) (drop-append-add ws z (length vs)) ∙ drop_replicate (length vs) (layout.largest - length ws) 0 ∙ ap (λ c. replicate c 0) n in
    rw (d, take_at ws z k e, take-length vs, after) refl

pub lay_timing : (t : EnteredTiming) {ws o : List ℕ} → o ≡ replicate layout.largest 0 → ws ≡ timing_words t → paste o 0 ws (length ws) ≡ padded (timing_words t)
lay_timing t e d = rw d (lay_next [] (timing_words t) 0 refl e)

-- the words of the first r streams are laid, and those of stream r are laid after them
module _ (t : EnteredTiming) (streams : List Stream) (r : ℕ) where
  abbrev pub first_laid : List ℕ
  first_laid = timing_words t ++ flat_map stream_words (take r streams)

  first_long : r ≤ length streams → length first_laid ≡ layout.stream_at r
  first_long h = omega (arith, length_flat layout.stream_length stream_words seven (take r streams), length-take-le r streams h)

  pub lay_stream : {ws o : List ℕ} → r < length streams → o ≡ padded first_laid → ws ≡ stream_words (get_or streams r blank)
      → paste o (layout.stream_at r) ws (length ws) ≡ padded (timing_words t ++ flat_map stream_words (take (r + 1) streams))
  unfolding flat_map
  lay_stream {ws} h e d =
      let last = stream_words (get_or streams r blank) in
      let all : flat_map stream_words (take (r + 1) streams) ≡ flat_map stream_words (take r streams) ++ last =
      rw (add-one r, take-suc streams r blank h) (flat_append stream_words (take r streams) (get_or streams r blank ∷ []) ∙ ap (λ x. flat_map stream_words (take r streams) ++ x) (append-nil last)) in
      rw (d, all) (lay_next first_laid last (layout.stream_at r) (first_long (omega arith)) e)

-- .. and the gaps after the last of them
pub lay_gaps : (v : Entered) (streams : List Stream) (n : ℕ) {ws o : List ℕ} → n ≤ length streams → take n streams ≡ v.streams → ws ≡ v.gaps
    → length (entered_words v) ≤ layout.largest → o ≡ padded (first_laid v.timing streams n) → paste o (layout.stream_at n) ws (length ws) ≡ in_places (entered_words v)
lay_gaps v places n {ws} {o} h d g few e =
    let laid : paste o (layout.stream_at n) ws (length ws) ≡ padded (first_laid v.timing places n ++ v.gaps) =
    rw g (lay_next (first_laid v.timing places n) v.gaps (layout.stream_at n) (first_long v.timing places n h) e) in
    laid
    ∙ ap (λ s. padded (timing_words v.timing ++ (flat_map stream_words s ++ v.gaps))) d
    ∙ sym (placed_short layout.largest 0 (entered_words v) few)
