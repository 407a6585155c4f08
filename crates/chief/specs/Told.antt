-- The one line that the rig chief is told of two plan files, byte by byte.
use Rattle.std.specs.Prelude.{◌≡◌, List, ◌++◌, ◌↔◌, ℕ, ◌^◌, ◌≤◌, ◌<◌, length}
use Rattle.names.specs.Limits.{ticks}
use Rattle.std.specs.Prelude.{Ok}
use Rattle.promise.specs.Lighter.{Lighter}
use Rattle.compare.specs.declared.Constant.{Constant, TheVariants.F, TheVariants.E, TheVariants.Tfcs, TheVariants.Swx, TheVariants.H}
use Rattle.compare.specs.declared.Constant.TheVariants.{G, Etg, Nb, P}
use Rattle.compare.specs.declared.Reason.{Reason}
use Rattle.compare.specs.declared.Reason.TheVariants.{MasterNode, GreaterConstant, NewLabel, ShorterPeriod, LongerJitter}
use Rattle.compare.specs.declared.Reason.TheVariants.{LongerPayload, ShorterDeadline, LongerAcknowledgement, LessUrgent, MoreNoise}
use Rattle.compare.specs.declared.Compared.{Compared}
use Rattle.compare.specs.declared.Compared.TheVariants.{FirstRefused, SecondRefused, Lighter as Compared-as-Lighter, RunAgain}
use Rattle.file.specs.File.{read_of, read_said}
use Rattle.compare_files.specs.Files.{compared_files, plan_from}
use Rattle.decimal.specs.Decimal.{digits}
use Rattle.ascii.specs.Ascii.{ascii}
use Rattle.text.specs.Listing.{label_text, refused_of}

-- the name of a timing constant
abbrev pub constant_name : Constant → List ℕ
constant_name F = ascii "F"
constant_name E = ascii "E"
constant_name Tfcs = ascii "TFCS"
constant_name Swx = ascii "SWX"
constant_name H = ascii "H"
constant_name G = ascii "G"
constant_name Etg = ascii "ETG"
constant_name Nb = ascii "NB"
constant_name P = ascii "P"

-- a timing constant is greater
unfoldable pub greater_text : Constant → List ℕ
greater_text k = constant_name k ++ ascii " is greater"

-- a source has come nearer, or one has come on
unfoldable pub noise_text : ℕ → List ℕ
noise_text gap = ascii "more noise sources with a gap of " ++ (digits gap ++ ascii " or less")

-- why a plan is to be run again
abbrev pub reason_text : Reason → List ℕ
reason_text MasterNode = ascii "one plan has a master node and the other has none"
reason_text (GreaterConstant k) = greater_text k
reason_text (NewLabel l) = label_text l ++ ascii " is not in the first plan"
reason_text (ShorterPeriod l) = label_text l ++ ascii " has a shorter period"
reason_text (LongerJitter l) = label_text l ++ ascii " has a longer jitter"
reason_text (LongerPayload l) = label_text l ++ ascii " has a longer payload"
reason_text (ShorterDeadline l) = label_text l ++ ascii " has a shorter deadline"
reason_text (LongerAcknowledgement l) = label_text l ++ ascii " has a longer acknowledgement"
reason_text (LessUrgent l) = label_text l ++ ascii " comes after a stream that it came before"
reason_text (MoreNoise gap) = noise_text gap

unfoldable pub again_line : Reason → List ℕ
again_line why = ascii "run again: " ++ (reason_text why ++ ascii "\n")

-- the line of each answer; that of a refusal ends as `refused 4 at 1` does
abbrev pub told_as : Compared → List ℕ
told_as (FirstRefused r) = ascii "first " ++ refused_of r
told_as (SecondRefused r) = ascii "second " ++ refused_of r
told_as Compared-as-Lighter = ascii "lighter\n"
told_as (RunAgain why) = again_line why

-- of two files
unfoldable pub told_of : List ℕ → List ℕ → List ℕ
told_of old new = told_as (compared_files old new)

-- ---- What is proved of what the chief is told; the proofs are in proofs/Lines.antt.

-- the chief is told `lighter` exactly if neither file is refused and the plan in the second is lighter: no other line reads so
abbrev pub ToldLighter : Type 0
ToldLighter =
    (old new : List ℕ) → (told_of old new ≡ ascii "lighter\n")
    ↔ ((read_said (read_of old) ≡ Ok tt) × (read_said (read_of new) ≡ Ok tt) × Lighter (plan_from old) (plan_from new))

-- the label or the gap that a reason names
abbrev pub named : Reason → ℕ
named MasterNode = 0
named (GreaterConstant k) = 0
named (NewLabel l) = l.0
named (ShorterPeriod l) = l.0
named (LongerJitter l) = l.0
named (LongerPayload l) = l.0
named (ShorterDeadline l) = l.0
named (LongerAcknowledgement l) = l.0
named (LessUrgent l) = l.0
named (MoreNoise gap) = gap

-- labels, gaps and a refusal's number have 32 bits, and its place has 64
abbrev pub Worded : Compared → Type 0
Worded (FirstRefused r) = (r.number ≤ ticks) × (r.place < 2 ^ 64)
Worded (SecondRefused r) = (r.number ≤ ticks) × (r.place < 2 ^ 64)
Worded Compared-as-Lighter = Unit
Worded (RunAgain why) = named why ≤ ticks

-- then no line has more than 64 bytes
abbrev pub LargestLine : Type 0
LargestLine = (c : Compared) → Worded c → length (told_as c) ≤ 64
