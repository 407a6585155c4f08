-- The rule between the gate and the desk as a test of two plans, `old` and `new`: the first condition of the lighter plan that does
-- not hold. The conditions are looked at in this order: the master node, the constants, the streams, their order of priority, the noise
-- gaps, and each of these in the second plan's file order. What a plan that passes is, is said in the crate promise, specs/Lighter.antt.
use Rattle.std.specs.Prelude.{Bool, not, cond, ◌&&◌, List, [], ◌∷◌, ℕ, zero, suc, leb, ltb, eqb, length, get_or}
use Rattle.std.specs.Bool.{beq}
use Rattle.names.specs.declared.Label.{Label}
use Rattle.names.specs.declared.Refusal.{Refusal}
use Rattle.std.specs.Prelude.{Option, Some, None, Result, Ok, Err}
use Rattle.judge.specs.Table.{Checked}
use Rattle.laws.specs.Lists.{those}
use Rattle.laws.specs.Search.{first}
use Rattle.laws.specs.Rows.{some}
use Rattle.plan.specs.declared.Timing.{Timing}
use Rattle.plan.specs.declared.Stream.{Stream}
use Rattle.plan.specs.declared.Sheet.{Sheet}
use Rattle.plan.specs.Plan.{Plan, at, plan_of}
use Rattle.plan.specs.Rules.{has_master}
use Rattle.checks.specs.Checks.{checked_of}
use Rattle.compare.specs.declared.Constant.{Constant}
use Rattle.compare.specs.declared.Constant.TheVariants.{F, E, Tfcs, Swx, H, G, Etg, Nb, P}
use Rattle.compare.specs.declared.Reason.{Reason}
use Rattle.compare.specs.declared.Reason.TheVariants.{MasterNode, GreaterConstant, NewLabel, ShorterPeriod, LongerJitter}
use Rattle.compare.specs.declared.Reason.TheVariants.{LongerPayload, ShorterDeadline, LongerAcknowledgement, LessUrgent, MoreNoise}
use Rattle.compare.specs.declared.Compared.{Compared}
use Rattle.compare.specs.declared.Compared.TheVariants.{FirstRefused, SecondRefused, Lighter, RunAgain}

-- a reason, where what must hold does not
abbrev pub must : Bool → Reason → Result (Unit {0}) Reason
must t r = cond t (Ok tt) (Err r)

-- a change, or the next one where there is none
infixr 30 ◌or◌
abbrev pub ◌or◌ : Result (Unit {0}) Reason → Result (Unit {0}) Reason → Result (Unit {0}) Reason
Err r or b = Err r
(Ok _) or b = b

-- the first change of f 0, f 1, .., f (n - 1)
unfoldable pub first_change : (ℕ → Result (Unit {0}) Reason) → ℕ → Result (Unit {0}) Reason
first_change f zero = Ok tt
first_change f (suc n) = first_change f n or f n

-- ---- the master node: both plans have one, or neither has

abbrev pub of_kit : Timing → Timing → Result (Unit {0}) Reason
of_kit old new = must (beq (has_master old) (has_master new)) MasterNode

-- ---- the constants, counted from 0: each is held to its own

abbrev pub constants_of : Timing → List ℕ
constants_of t = t.f ∷ t.e ∷ t.tfcs ∷ t.swx ∷ t.h ∷ t.g ∷ t.etg ∷ t.nb ∷ t.p ∷ []

-- how many there are
abbrev pub many_constants : ℕ
many_constants = 9

-- the one in a place, and the place of one
abbrev pub constant : ℕ → Constant
constant k = get_or (F ∷ E ∷ Tfcs ∷ Swx ∷ H ∷ G ∷ Etg ∷ Nb ∷ P ∷ []) k P

abbrev pub place_of : Constant → ℕ
place_of F = 0
place_of E = 1
place_of Tfcs = 2
place_of Swx = 3
place_of H = 4
place_of G = 5
place_of Etg = 6
place_of Nb = 7
place_of P = 8

abbrev pub grown : List ℕ → List ℕ → ℕ → Result (Unit {0}) Reason
grown was is k = must (leb (get_or is k 0) (get_or was k 0)) (GreaterConstant (constant k))

abbrev pub of_constants : Timing → Timing → Result (Unit {0}) Reason
of_constants old new = first_change (grown (constants_of old) (constants_of new)) many_constants

-- ---- the streams

-- the row of a plan that is under a label
unfoldable pub row_of : Plan → Label → Option ℕ
row_of p l = first (λ r. eqb (at p r).label.0 l.0) 0 (length p.streams)

-- a stream of the second plan beside the one that it stands in
unfoldable pub eased : Stream → Stream → Result (Unit {0}) Reason
eased old new =
    must (leb old.period new.period) (ShorterPeriod new.label)
    or must (leb new.jitter old.jitter) (LongerJitter new.label)
    or must (leb new.payload old.payload) (LongerPayload new.label)
    or must (leb old.deadline new.deadline) (ShorterDeadline new.label)
    or must (leb new.acknowledgement old.acknowledgement) (LongerAcknowledgement new.label)

-- a stream of the second plan
abbrev pub in_row : Plan → Stream → Option ℕ → Result (Unit {0}) Reason
in_row old s (Some r) = eased (at old r) s
in_row old s None = Err (NewLabel s.label)

abbrev pub of_stream : Plan → Stream → Result (Unit {0}) Reason
of_stream old s = in_row old s (row_of old s.label)

-- ---- their order of priority

-- the priority number that a label has in a plan; 0 where it does not stand is harmless, since a new label is reported before the order
-- is looked at
abbrev pub number_in : Plan → Option ℕ → ℕ
number_in p (Some r) = (at p r).priority.0
number_in p None = 0

abbrev pub number_under : Plan → Label → ℕ
number_under p l = number_in p (row_of p l)

-- row j of the second plan is more urgent than row k, and in the first it was not
abbrev pub overtakes : Plan → Plan → ℕ → ℕ → Bool
overtakes old new k j =
    ltb (at new j).priority.0 (at new k).priority.0 && leb (number_under old (at new k).label) (number_under old (at new j).label)

abbrev pub urgency : Plan → Plan → ℕ → Result (Unit {0}) Reason
urgency old new k = must (not (some (overtakes old new k) (length new.streams))) (LessUrgent (at new k).label)

-- ---- the noise gaps

-- how many of the gaps are at most x
abbrev pub at_most : ℕ → List ℕ → ℕ
at_most x gaps = length (those (λ n. leb n x) gaps)

-- the gaps that are no longer than gap x of the second plan need as many partners, and none of theirs is longer than x
abbrev pub of_gap : Plan → Plan → ℕ → Result (Unit {0}) Reason
of_gap old new x = must (leb (at_most x new.gaps) (at_most x old.gaps)) (MoreNoise x)

-- ---- all of them

abbrev pub of_streams : Plan → Plan → Result (Unit {0}) Reason
of_streams old new = first_change (λ k. of_stream old (at new k)) (length new.streams)

abbrev pub of_order : Plan → Plan → Result (Unit {0}) Reason
of_order old new = first_change (urgency old new) (length new.streams)

abbrev pub of_noise : Plan → Plan → Result (Unit {0}) Reason
of_noise old new = first_change (λ k. of_gap old new (get_or new.gaps k 0)) (length new.gaps)

unfoldable pub changes : Plan → Plan → Result (Unit {0}) Reason
changes old new =
    of_kit old.timing new.timing
    or of_constants old.timing new.timing
    or of_streams old new
    or of_order old new
    or of_noise old new

-- ---- the answer to two plans: which is refused, or that the second is lighter, or why it is to be run again

-- the first plan is looked at first
abbrev pub compared_as : Checked → Checked → Result (Unit {0}) Reason → Compared
compared_as (Err r) second c = FirstRefused r
compared_as (Ok _) (Err r) c = SecondRefused r
compared_as (Ok _) (Ok _) (Ok _) = Lighter
compared_as (Ok _) (Ok _) (Err r) = RunAgain r

-- the same of two plans, or their refusals
abbrev pub compared_with : Result Sheet Refusal → Result Sheet Refusal → Compared
compared_with (Err r) second = FirstRefused r
compared_with (Ok old) (Err r) = SecondRefused r
compared_with (Ok old) (Ok new) = compared_as (Ok tt) (Ok tt) (changes (plan_of old) (plan_of new))

unfoldable pub compared_of : Sheet → Sheet → Compared
compared_of old new = compared_as (checked_of old) (checked_of new) (changes (plan_of old) (plan_of new))
