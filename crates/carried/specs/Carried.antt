-- What is entered, in a file or by a caller, and the plan that is meant by it; both as the words that are carried, lent with their counts
-- beside them; and a plan's one sheet.
use Rattle.std.specs.Prelude.{◌≡◌, ℕ, ◌+◌, min, ◌≤◌, length, get_or, take, drop}
use mathlib.Core.List.{List, [], ◌∷◌, ◌++◌, flat_map}
use Rattle.names.specs.Limits.{streams, sources, ticks}
use Rattle.laws.specs.Lists.{rows, placed}
use Rattle.plan.specs.declared.Timing.{Timing}
use Rattle.plan.specs.declared.Stream.{Stream}
use Rattle.plan.specs.declared.Sheet.{Sheet}
use Rattle.plan.specs.Plan.{Plan, blank, plan_of}
use Rattle.carried.specs.declared.EnteredTiming.{EnteredTiming}
use Rattle.carried.specs.Layout as layout

-- ---- what is entered: the values of a plan, with a LAG beside ETG

pub record Entered : Type 0 where
  pub timing : EnteredTiming
  pub streams : List Stream
  pub gaps : List ℕ

-- the timing of a plan has no LAG, but some ETG in place of both
abbrev pub with_ETG : ℕ → EnteredTiming → Timing
with_ETG etg t =
    record { f = t.f; e = t.e; tfcs = t.tfcs; swx = t.swx; h = t.h; g = t.g; etg = etg; nb = t.nb; p = t.p }

-- reading adds LAG to ETG: this is the plan that is meant, ..
abbrev pub meant_timing : EnteredTiming → Timing
meant_timing t = with_ETG (t.etg + t.lag) t

abbrev pub meant : Entered → Plan
meant v = record { timing = meant_timing v.timing; streams = v.streams; gaps = v.gaps }

-- .. this is it as words hold it, none of which is above 4,294,967,295: the sum, or as much as that, ..
abbrev pub held_timing : EnteredTiming → Timing
held_timing t = with_ETG (min (t.etg + t.lag) ticks) t

abbrev pub held : Entered → Plan
held v = record { timing = held_timing v.timing; streams = v.streams; gaps = v.gaps }

-- .. and a plan is entered with a LAG of 0
abbrev pub plain_timing : Timing → EnteredTiming
plain_timing t =
    record {
      f = t.f;
      e = t.e;
      tfcs = t.tfcs;
      swx = t.swx;
      h = t.h;
      g = t.g;
      etg = t.etg;
      lag = 0;
      nb = t.nb;
      p = t.p;
    }

abbrev pub plainly : Plan → Entered
plainly p = record { timing = plain_timing p.timing; streams = p.streams; gaps = p.gaps }

-- ---- from words to what is entered; a word past the end is 0

-- F, E, TFCS, SWX, H, G, ETG, LAG, NB, P
abbrev pub entered_timing_in : List ℕ → EnteredTiming
entered_timing_in ws =
    record {
      f = get_or ws 0 0;
      e = get_or ws 1 0;
      tfcs = get_or ws 2 0;
      swx = get_or ws 3 0;
      h = get_or ws 4 0;
      g = get_or ws 5 0;
      etg = get_or ws layout.etg_at 0;
      lag = get_or ws layout.lag_at 0;
      nb = get_or ws 8 0;
      p = get_or ws layout.slot_at 0;
    }

-- label, priority, T, J, C, D, K from word k on
abbrev pub stream_in : List ℕ → ℕ → Stream
stream_in ws k =
    record {
      label = record { 0 = get_or ws k 0 };
      priority = record { 0 = get_or ws (k + 1) 0 };
      period = get_or ws (k + 2) 0;
      jitter = get_or ws (k + 3) 0;
      payload = get_or ws (k + 4) 0;
      deadline = get_or ws (k + 5) 0;
      acknowledgement = get_or ws (k + 6) 0;
    }

-- the records of n streams, as they stand, seven words each
abbrev pub records_in : ℕ → List ℕ → List (List ℕ)
records_in n ws = rows n (λ r. take layout.stream_length (drop (layout.stream_at r) ws))

-- n streams, and m gaps after them
abbrev pub streams_in : ℕ → List ℕ → List Stream
streams_in n ws = rows n (λ r. stream_in ws (layout.stream_at r))

abbrev pub gaps_in : ℕ → ℕ → List ℕ → List ℕ
gaps_in n m ws = rows m (λ k. get_or ws (layout.gap_at n k) 0)

-- what is entered of n streams and m gaps, ..
unfoldable pub entered_in : ℕ → ℕ → List ℕ → Entered
entered_in n m ws = record { timing = entered_timing_in ws; streams = streams_in n ws; gaps = gaps_in n m ws }

-- .. and the plan that is meant
abbrev pub timing_in : List ℕ → Timing
timing_in ws = meant_timing (entered_timing_in ws)

abbrev pub plan_in : ℕ → ℕ → List ℕ → Plan
plan_in n m ws = meant (entered_in n m ws)

-- ---- from what is entered, or from a plan, to its words

abbrev pub timing_words : EnteredTiming → List ℕ
timing_words t = t.f ∷ t.e ∷ t.tfcs ∷ t.swx ∷ t.h ∷ t.g ∷ t.etg ∷ t.lag ∷ t.nb ∷ t.p ∷ []

abbrev pub stream_words : Stream → List ℕ
stream_words s = s.label.0 ∷ s.priority.0 ∷ s.period ∷ s.jitter ∷ s.payload ∷ s.deadline ∷ s.acknowledgement ∷ []

abbrev pub entered_words : Entered → List ℕ
entered_words v = timing_words v.timing ++ (flat_map stream_words v.streams ++ v.gaps)

abbrev pub values_of : Plan → List ℕ
values_of p = entered_words (plainly p)

-- in as many places as the largest plan has words, 0 in the unused ones
abbrev pub in_places : List ℕ → List ℕ
in_places ws = placed layout.largest 0 ws

-- ---- a plan's one sheet: what stands in an unused place is zero

abbrev pub sheet_of : Plan → Sheet
sheet_of p =
    record {
      timing = p.timing;
      streams = placed streams blank p.streams;
      count = length p.streams;
      gaps = placed sources 0 p.gaps;
      sources = length p.gaps;
    }

-- the sheet on which all is zero
abbrev pub no_sheet : Sheet
no_sheet = sheet_of (plan_in 0 0 [])

-- ---- What is proved of a plan's words and its sheet, in proofs/Plans.antt.

-- the words of what is entered hold it, whatever stands after them, ..
abbrev pub EnteredInWords : Type 0
EnteredInWords =
    (v : Entered) (after : List ℕ) → entered_in (length v.streams) (length v.gaps) (entered_words v ++ after) ≡ v

-- .. and the words of what is entered in some words are these words
abbrev pub WordsBack : Type 0
WordsBack = (n m : ℕ) (ws : List ℕ) → layout.gap_at n m ≤ length ws → entered_words (entered_in n m ws) ≡ take (layout.gap_at n m) ws

-- what is meant by a plan that is entered is that plan, ..
abbrev pub MeantPlainly : Type 0
MeantPlainly = (p : Plan) → meant (plainly p) ≡ p

-- .. and what was entered with a LAG of 0 is its plan, entered
abbrev pub PlainlyMeant : Type 0
PlainlyMeant = (v : Entered) → v.timing.lag ≡ 0 → plainly (meant v) ≡ v

-- the plan on a plan's sheet is that plan, if it is no larger than a sheet
abbrev pub OneSheet : Type 0
OneSheet = (p : Plan) → length p.streams ≤ streams → length p.gaps ≤ sources → plan_of (sheet_of p) ≡ p
