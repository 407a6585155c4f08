-- What is entered in a lent list of streams, its timing and its noise gaps, and what the screen answers of it.
use Rattle.std.specs.Prelude.{◌≡◌, List, ℕ, ◌^◌, ◌≤◌, ◌<◌, length}
use Rattle.names.specs.Limits.{streams, sources}
use Rattle.words.specs.Words.{Below}
use Rattle.std.specs.Prelude.{Err}
use Rattle.judge.specs.Table.{Checked}
use Rattle.plan.specs.declared.Stream.{Stream}
use Rattle.carried.specs.declared.Edition.TheVariants.{Three}
use Rattle.carried.specs.declared.EnteredTiming.{EnteredTiming}
use Rattle.carried.specs.Carried.{Entered}
use Rattle.file.specs.File.{file_words, entered_file}
use Rattle.answers.specs.Answers.{Answers}
use Rattle.answers.specs.Answers.{answer_with}
use Rattle.answer_files.specs.AnswerFiles.{answer_file_of}

-- what is lent
abbrev pub entered_for : List Stream → EnteredTiming → List ℕ → Entered
entered_for xs t gaps = record { timing = t; streams = xs; gaps = gaps }

-- its answer, with the places of edition 3, and the lent words after it: the lists' own lengths are the counts, however long they are
unfoldable pub screen_of : List Stream → EnteredTiming → List ℕ → List ℕ → Checked × List ℕ
screen_of xs t gaps out = answer_with Answers Three (length xs) (length gaps) (entered_for xs t gaps) out

-- so what the screen answers, and what the lent words end with
abbrev pub Screens : List Stream → EnteredTiming → List ℕ → List ℕ → Checked → List ℕ → Type 0
Screens xs t gaps out answer left = let o = screen_of xs t gaps out in (answer ≡ o.0) × (left ≡ o.1)

-- ---- What is proved of a lent list; the proofs are in proofs/Same.antt and proofs/Counts.antt.

-- what is lent is answered as its file is, with a LAG as with none: the same answers, or the same refusal at the same place
abbrev pub SameAsFile : Type 0
SameAsFile =
    (v : Entered) → length v.streams ≤ streams → length v.gaps ≤ sources → Below (2 ^ 32) (file_words v)
    → (out : List ℕ) → screen_of v.streams v.timing v.gaps out ≡ answer_file_of (entered_file v) out

-- an empty or over-long list is refused 2 at 0, whatever else is wrong, and the lent words are as they were
abbrev pub WrongLists : Type 0
WrongLists =
    (xs : List Stream) (t : EnteredTiming) (gaps out : List ℕ)
    → let refused_2 = screen_of xs t gaps out ≡ (Err (record { number = 2; place = 0 }), out) in
    (length xs < 1 → refused_2) × (streams < length xs → refused_2) × (sources < length gaps → refused_2)
