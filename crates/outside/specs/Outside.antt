-- What is handed to a caller in another language: numbers, with 0 for "not refused" and document 01's numbers else.
use Rattle.std.specs.Prelude.{◌≡◌, cond, List, ◌∷◌, ◌↔◌, ℕ, ◌+◌, ◌≤◌, ◌<◌, leb, ltb, eqb, length, get_or}
use Rattle.names.specs.declared.Refusal.{Refusal}
use Rattle.std.specs.Prelude.{Result, Ok, Err}
use Rattle.judge.specs.Table.{Checked}
use Rattle.judge.specs.Table.{Line, judge, unless}
use Rattle.plan.specs.declared.Timing.{Timing}
use Rattle.plan.specs.declared.Stream.{Stream}
use Rattle.carried.specs.declared.Edition.TheVariants.{Three}
use Rattle.carried.specs.Layout as layout
use Rattle.carried.specs.Carried.{plain_timing, entered_timing_in, entered_in, timing_words}
use Rattle.compare.specs.Changes.{constants_of, many_constants, constant, place_of}
use Rattle.compare.specs.declared.Reason.{Reason}
use Rattle.compare.specs.declared.Reason.TheVariants.{MasterNode, GreaterConstant, NewLabel, ShorterPeriod, LongerJitter}
use Rattle.compare.specs.declared.Reason.TheVariants.{LongerPayload, ShorterDeadline, LongerAcknowledgement, LessUrgent, MoreNoise}
use Rattle.compare.specs.declared.Compared.{Compared}
use Rattle.compare.specs.declared.Compared.TheVariants.{FirstRefused, SecondRefused, Lighter, RunAgain}
use Rattle.file.specs.File.{write_with}
use Rattle.tournament_state.specs.declared.Phase.{Phase, TheVariants.AtBit, TheVariants.Finished, TheVariants.NoWinner}
use Rattle.tournament_state.specs.Refusals.{state_lines}
use Rattle.tournament_state.specs.declared.Tournament.{Tournament}
use Rattle.tournament.specs.Rule.{begun_of, next}
use Rattle.tournament.specs.Answers.{outcome, left, checked as checked_of, nobody, start_of, step_of}
use Rattle.screen.specs.Screen.{screen_of}
use Rattle.states.specs.States.{priorities_from, phase_from, state_from, marks_into, marked_out}
use Rattle.outside.specs.declared.Said.{Said}
use Rattle.outside.specs.declared.Stepped.{Stepped}
use Rattle.outside.specs.declared.Weighed.{Weighed}

-- a refusal, by its number and its place
abbrev pub refused : Refusal → Said
refused r = record { refusal = r.number; value = r.place }

-- what was asked for
abbrev pub done : ℕ → Said
done v = record { refusal = 0; value = v }

abbrev pub checked : Checked → Said
checked (Ok _) = done 0
checked (Err r) = refused r

-- how many bytes were written
abbrev pub written : Result ℕ Refusal → Said
written (Ok n) = done n
written (Err r) = refused r

-- the bit
abbrev pub parting : Result ℕ Refusal → Said
parting = written

-- the file of the plan that is meant by lent values, which have the places of edition 3, and what the lent bytes end with
abbrev pub write_from : ℕ → ℕ → List ℕ → List ℕ → Result ℕ Refusal × List ℕ
write_from n m values out = write_with Three n m (entered_in n m values) out

-- what is said of lent streams, with the timing that is entered in the first ten words and these noise gaps, and what the lent words end with
abbrev pub Screened : List Stream → List ℕ → List ℕ → List ℕ → Said → List ℕ → Type 0
Screened xs ws gaps out said left = let o = screen_of xs (entered_timing_in ws) gaps out in (said ≡ checked o.0) × (left ≡ o.1)

-- a plan's constant by its place in the file, from 0: NB comes after LAG, which a plan has not, and P is the last
abbrev pub constant_at : ℕ → ℕ
constant_at k = cond (ltb k layout.lag_at) k (cond (eqb k layout.lag_at) (layout.lag_at + 1) layout.slot_at)

-- run again: the conditions of the lighter plan, each with its number and with what breaks it, the constant by its place in the file, the
-- label, or the gap. 1 to 8 are numbered in the order in which they are looked at; 9, which came later, is looked at before them, and 10 after 6
abbrev pub broken : ℕ → ℕ → Weighed
broken condition value = record { answer = 3; number = condition; value = value }

abbrev pub again : Reason → Weighed
again MasterNode = broken 9 0
again (GreaterConstant c) = broken 1 (constant_at (place_of c))
again (NewLabel l) = broken 2 l.0
again (ShorterPeriod l) = broken 3 l.0
again (LongerJitter l) = broken 4 l.0
again (LongerPayload l) = broken 5 l.0
again (ShorterDeadline l) = broken 6 l.0
again (LongerAcknowledgement l) = broken 10 l.0
again (LessUrgent l) = broken 7 l.0
again (MoreNoise x) = broken 8 x

-- 0 lighter, 1 the first plan is refused, 2 the second is, 3 run again
abbrev pub weighed : Compared → Weighed
weighed Lighter = record { answer = 0; number = 0; value = 0 }
weighed (FirstRefused r) = record { answer = 1; number = r.number; value = r.place }
weighed (SecondRefused r) = record { answer = 2; number = r.number; value = r.place }
weighed (RunAgain r) = again r

-- the phase, 0 at a bit, 1 finished, 2 no winner, ..
abbrev pub phase_number : Phase → ℕ
phase_number (AtBit k) = 0
phase_number (Finished row) = 1
phase_number NoWinner = 2

-- .. and what goes with it: the bit's number, the winner's row, or 0
abbrev pub phase_at : Phase → ℕ
phase_at (AtBit k) = k
phase_at (Finished row) = row.0
phase_at NoWinner = 0

-- a start or a step: the refusal, and the phase of the state that is handed back
abbrev pub stepped : Checked → Phase → Stepped
stepped (Ok _) phase = record { refusal = 0; place = 0; phase = phase_number phase; at = phase_at phase }
stepped (Err r) phase = record { refusal = r.number; place = r.place; phase = phase_number phase; at = phase_at phase }

abbrev pub stepped_by : Result Tournament Refusal → Tournament → Stepped
stepped_by answer before = stepped (checked_of answer) (left answer before).phase

-- a tournament that is lent, each priority a contender's: 6 if there are fewer marks than contenders, before 7, 8 and 9
abbrev pub lent_lines : ℕ → List ℕ → List ℕ → Phase → List Line
lent_lines NB ps bs phase =
    record { number = 6; place = unless (leb (length ps) (length bs)) } ∷ state_lines NB (length ps) (priorities_from ps) phase

-- a start on lent priorities
unfoldable pub start_from : ℕ → List ℕ → List ℕ → Result Tournament Refusal
start_from NB ps bs = outcome (judge (lent_lines NB ps bs (AtBit 1))) (begun_of NB (length ps) (priorities_from ps))

-- a step of the state that is lent
unfoldable pub step_from : ℕ → ℕ → ℕ → List ℕ → List ℕ → Result Tournament Refusal
step_from NB phase at ps bs = outcome (judge (lent_lines NB ps bs (phase_from phase at))) (next (state_from NB phase at ps bs))

-- what comes back of a start, whose caller has no state before it, ..
abbrev pub started : ℕ → List ℕ → List ℕ → Stepped
started NB ps bs = stepped_by (start_from NB ps bs) nobody

-- .. and of a step
abbrev pub gone_on : ℕ → ℕ → ℕ → List ℕ → List ℕ → Stepped
gone_on NB phase at ps bs = stepped_by (step_from NB phase at ps bs) (state_from NB phase at ps bs)

-- the lent bytes after a start: 1 for each contender and 0 for each unused place, and as they were if it is refused, ..
abbrev pub start_bytes : Result Tournament Refusal → List ℕ → List ℕ
start_bytes (Ok t) found = marks_into t.marks found
start_bytes (Err r) found = found

-- .. and after a step: 0 for each contender that it marks out, and every other byte as found
abbrev pub step_bytes : Result Tournament Refusal → List ℕ → List ℕ
step_bytes (Ok t) found = marked_out t.count t.marks found
step_bytes (Err r) found = found

-- so what the lent bytes end with, of what is lent
abbrev pub start_marks : ℕ → List ℕ → List ℕ → List ℕ
start_marks NB ps bs = start_bytes (start_from NB ps bs) bs

abbrev pub step_marks : ℕ → ℕ → ℕ → List ℕ → List ℕ → List ℕ
step_marks NB phase at ps bs = step_bytes (step_from NB phase at ps bs) bs

-- ---- What a caller that compares two plans can count on, beside the definitions. Proved in proofs/Constants.antt.

-- a constant of a plan stands in the plan's file under its number
abbrev pub ConstantInFile : Type 0
ConstantInFile =
    (t : Timing) (k : ℕ) → k < many_constants → get_or (timing_words (plain_timing t)) (constant_at k) 0 ≡ get_or (constants_of t) k 0

-- .. and one that is greater is reported by that number
abbrev pub ReportedInFile : Type 0
ReportedInFile =
    (t : Timing) (k : ℕ) → k < many_constants → let told = again (GreaterConstant (constant k)) in
    (told ≡ broken 1 (constant_at k)) × (get_or (timing_words (plain_timing t)) told.value 0 ≡ get_or (constants_of t) k 0)

-- ---- What a caller that lends a tournament can count on, beside the definitions. Proved in proofs/Fewer.antt and proofs/Marks.antt.

-- 6 is given exactly when fewer marks than priorities are lent, by a start ..
abbrev pub StartSix : Type 0
StartSix = (NB : ℕ) (ps bs : List ℕ) → (start_from NB ps bs ≡ Err (record { number = 6; place = 0 })) ↔ (length bs < length ps)

-- .. and by a step
abbrev pub StepSix : Type 0
StepSix =
    (NB phase at : ℕ) (ps bs : List ℕ)
    → (step_from NB phase at ps bs ≡ Err (record { number = 6; place = 0 })) ↔ (length bs < length ps)

-- where enough are, a start is the tournament's own, ..
abbrev pub StartEnough : Type 0
StartEnough = (NB : ℕ) (ps bs : List ℕ) → length ps ≤ length bs → start_from NB ps bs ≡ start_of NB (length ps) (priorities_from ps)

-- .. and so is a step
abbrev pub StepEnough : Type 0
StepEnough = (NB phase at : ℕ) (ps bs : List ℕ) → length ps ≤ length bs → step_from NB phase at ps bs ≡ step_of (state_from NB phase at ps bs)

-- a step touches no byte after the contenders', ..
abbrev pub UnusedKept : Type 0
UnusedKept = (NB phase at : ℕ) (ps bs : List ℕ) (i : ℕ) → length ps ≤ i → get_or (step_marks NB phase at ps bs) i 0 ≡ get_or bs i 0

-- .. and none at all of a finished state, which has a phase from 1 on
abbrev pub FinishedKept : Type 0
FinishedKept = (NB phase at : ℕ) (ps bs : List ℕ) → 1 ≤ phase → step_marks NB phase at ps bs ≡ bs
