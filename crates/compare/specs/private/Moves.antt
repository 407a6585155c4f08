-- The rules of Changes.antt over what is lent: a plan's streams, its noise gaps, and columns, which have one number a stream.
use Rattle.std.specs.Prelude.{Bool, not, ◌&&◌, ◌==◌, List, map, ℕ, leb, ltb, length, get_or, find, Option, Some, None, Result, Err}
use Rattle.names.specs.Limits.{streams}
use Rattle.laws.specs.Lists.{placed}
use Rattle.laws.specs.Rows.{some}
use Rattle.plan.specs.declared.Stream.{Stream}
use Rattle.plan.specs.Plan.{blank}
use Rattle.compare.specs.declared.Reason.{Reason}
use Rattle.compare.specs.declared.Reason.TheVariants.{NewLabel, LessUrgent, MoreNoise}
use Rattle.compare.specs.Changes.{must, ◌or◌, first_change, eased, at_most}

-- a stream's label and its priority, as numbers
abbrev pub label_of : Stream → ℕ
label_of s = s.label.0

abbrev pub priority_of : Stream → ℕ
priority_of s = s.priority.0

-- a column in the places of an array; those after it are 0
abbrev pub column_placed : (Stream → ℕ) → List Stream → List ℕ
column_placed f ss = placed streams 0 (map f ss)

-- the stream of a list that is under the label of another
abbrev pub under : List Stream → Stream → Option Stream
under old s = find (λ held. held.label.0 == s.label.0) old

-- a stream beside the one that it stands in
abbrev pub beside : Stream → Option Stream → Result (Unit {0}) Reason
beside s (Some held) = eased held s
beside s None = Err (NewLabel s.label)

-- the number of the priority that it had; what did not stand anywhere had 0, which is harmless, since it is reported before the order is
-- looked at
abbrev pub had : Option Stream → ℕ
had (Some held) = held.priority.0
had None = 0

abbrev pub number_then : List Stream → Stream → ℕ
number_then old s = had (under old s)

abbrev pub of_row : List Stream → List Stream → ℕ → Result (Unit {0}) Reason
of_row old new k = let s = get_or new k blank in beside s (under old s)

-- row j is more urgent than row k and, by the numbers that both had, was not
abbrev pub overtakes_by : List ℕ → List ℕ → ℕ → ℕ → Bool
overtakes_by was is k j = ltb (get_or is j 0) (get_or is k 0) && leb (get_or was k 0) (get_or was j 0)

-- some row does so to row k
abbrev pub overtaken_by : List ℕ → List ℕ → ℕ → Bool
overtaken_by was is k = some (overtakes_by was is k) (length is)

abbrev pub urgency_by : List Stream → List ℕ → List ℕ → ℕ → Result (Unit {0}) Reason
urgency_by new was is k = must (not (overtaken_by was is k)) (LessUrgent (get_or new k blank).label)

-- the first row that is overtaken
abbrev pub order_by : List Stream → List ℕ → List ℕ → Result (Unit {0}) Reason
order_by new was is = first_change (urgency_by new was is) (length new)

-- the first change of a stream, or the first row that is overtaken
abbrev pub streams_by : List Stream → List Stream → Result (Unit {0}) Reason
streams_by old new = first_change (of_row old new) (length new) or order_by new (map (number_then old) new) (map priority_of new)

-- the first gap that wants more partners than there are
abbrev pub gap_by : List ℕ → List ℕ → ℕ → Result (Unit {0}) Reason
gap_by old new k = let x = get_or new k 0 in must (leb (at_most x new) (at_most x old)) (MoreNoise x)

abbrev pub noise_by : List ℕ → List ℕ → Result (Unit {0}) Reason
noise_by old new = first_change (gap_by old new) (length new)
