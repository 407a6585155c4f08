-- None of the 18 conditions of the lighter plan is idle: a table with two plans for each, `old` and `new`, that break this condition alone,
-- and a stream loses its promise. Proved in proofs/Needed.antt. That the conditions are the rule is proved in proofs/Rule.antt.
use Rattle.std.specs.Prelude.{◌≡◌, Bool, true, false, not, ◌↔◌, List, [], ◌∷◌, ℕ, ◌<◌, leb, length, get_or}
use Rattle.std.specs.Bool.{beq}
use Rattle.std.specs.Prelude.{Option, Some, None, Ok}
use Rattle.laws.specs.Lists.{every}
use Rattle.laws.specs.Rows.{some}
use Rattle.plan.specs.declared.Stream.{Stream}
use Rattle.plan.specs.Plan.{Plan, at}
use Rattle.plan.specs.Rules.{has_master}
use Rattle.carried.specs.declared.EnteredTiming.{EnteredTiming}
use Rattle.carried.specs.Carried.{meant}
use Rattle.promise.specs.Lighter.{Namesakes, Lighter, NotRefused, Kept}
use Rattle.compare.specs.Changes.{row_of, overtakes, at_most, changes}
use Rattle.figures.specs.Plans.{timed, constants, pulsing, acknowledged, stream, enter, base}

-- ---- the conditions

-- every stream of the second plan, beside the row of its label in the first, passes a test
abbrev pub each_beside : (Stream → Option ℕ → Bool) → Plan → Plan → Bool
each_beside t old new = every (length new.streams) (λ k. t (at new k) (row_of old (at new k).label))

-- the label stands in the first plan
abbrev pub stands : Stream → Option ℕ → Bool
stands s (Some r) = true
stands s None = false

-- if it does, the stream under it there, a, and this one, b, pass a test
abbrev pub holds : (Stream → Stream → Bool) → Plan → Stream → Option ℕ → Bool
holds t old s (Some r) = t (at old r) s
holds t old s None = true

unfoldable pub conditions : Plan → Plan → List Bool
conditions old new =
    -- 0: both have a master node, or neither has
    beq (has_master old.timing) (has_master new.timing)
    -- 1 to 9: no constant is greater
    ∷ leb new.timing.f old.timing.f
    ∷ leb new.timing.e old.timing.e
    ∷ leb new.timing.tfcs old.timing.tfcs
    ∷ leb new.timing.swx old.timing.swx
    ∷ leb new.timing.h old.timing.h
    ∷ leb new.timing.g old.timing.g
    ∷ leb new.timing.etg old.timing.etg
    ∷ leb new.timing.nb old.timing.nb
    ∷ leb new.timing.p old.timing.p
    -- 10: each label stands in the first plan
    ∷ each_beside stands old new
    -- 11 to 15, where it does: the period is no shorter, jitter and payload no longer, the deadline no shorter, the acknowledgement no longer
    ∷ each_beside (holds (λ a b. leb a.period b.period) old) old new
    ∷ each_beside (holds (λ a b. leb b.jitter a.jitter) old) old new
    ∷ each_beside (holds (λ a b. leb b.payload a.payload) old) old new
    ∷ each_beside (holds (λ a b. leb a.deadline b.deadline) old) old new
    ∷ each_beside (holds (λ a b. leb b.acknowledgement a.acknowledgement) old) old new
    -- 16: no row overtakes another
    ∷ every (length new.streams) (λ k. not (some (overtakes old new k) (length new.streams)))
    -- 17: each noise source has its own partner
    ∷ every (length new.gaps) (λ k. leb (at_most (get_or new.gaps k 0) new.gaps) (at_most (get_or new.gaps k 0) old.gaps))
    ∷ []

-- how many there are
abbrev pub how_many : ℕ
how_many = 18

-- ---- the pairs

pub record Pair : Type 0 where
  pub old : Plan
  pub new : Plan

infix 20 ◌becomes◌
abbrev ◌becomes◌ : Plan → Plan → Pair
old becomes new = record { old = old; new = new }

-- the plan that is meant by what is entered
abbrev plan : EnteredTiming → List Stream → List ℕ → Plan
plan t ss ns = meant (enter t ss ns)

-- one stream, 10.1: under the base constants its bound is C'' = 25, its deadline
abbrev one_under : EnteredTiming → Plan
one_under t = plan t (stream 10 1 1 100 0 5 25 ∷ []) []

-- the same for slots, where its C'' is 18: its deadline is 35
abbrev in_slots : EnteredTiming → Plan
in_slots t = plan t (stream 10 1 1 1000 0 5 35 ∷ []) []

-- two streams under the base constants, 10.1 with T, J and D as given: with T 100 and J 0 the bound of 10.1 is 16 + 25 = 41, and that of
-- 10.10 is 25 + 25 = 50, its deadline
abbrev two : ℕ → ℕ → ℕ → Plan
two t j d = plan base (stream 10 1 1 t j 5 d ∷ stream 10 10 2 200 0 5 50 ∷ []) []

-- pair i breaks condition i alone
abbrev pub all_pairs : List Pair
all_pairs =
    -- the master node goes, with F at 100: in slots of 18 ticks the bound of 10.1 is B + C'' = 17 + 18 = 35, its deadline, and without them
    -- it is V + C' = 104 + 17 = 121
    (in_slots (timed 18 100 1 1 2 1 1 2 1 4) becomes in_slots (timed 0 100 1 1 2 1 1 2 1 4))
    -- F grows from 4 to 5: V grows from 8 to 9, and the bound of 10.1 from 25 to 26, past its deadline of 25
    ∷ (one_under base becomes one_under (constants 5 1 1 2 1 1 2 1 4))
    -- E grows from 1 to 2: the same
    ∷ (one_under base becomes one_under (constants 4 2 1 2 1 1 2 1 4))
    -- TFCS grows from 1 to 3, past SWX, which is 2: the same
    ∷ (one_under base becomes one_under (constants 4 1 3 2 1 1 2 1 4))
    -- SWX grows from 2 to 3: the same
    ∷ (one_under base becomes one_under (constants 4 1 1 3 1 1 2 1 4))
    -- H grows from 1 to 2: V grows from 8 to 9, U from 12 to 16, and the bound of 10.1 from 25 to 30
    ∷ (one_under base becomes one_under (constants 4 1 1 2 2 1 2 1 4))
    -- G grows from 1 to 2: U grows from 12 to 17, and the bound of 10.1 from 25 to 30
    ∷ (one_under base becomes one_under (constants 4 1 1 2 1 2 2 1 4))
    -- ETG grows from 2 to 3: U grows from 12 to 13, and the bound of 10.1 from 25 to 26
    ∷ (one_under base becomes one_under (constants 4 1 1 2 1 1 3 1 4))
    -- NB grows from 4 to 5: U grows from 12 to 14, and the bound of 10.1 from 25 to 27
    ∷ (one_under base becomes one_under (constants 4 1 1 2 1 1 2 1 5))
    -- P grows from 18 to 19: B grows from 17 to 18, and the bound of 10.1 from 35 to 36, past its deadline of 35
    ∷ (in_slots (pulsing 18) becomes in_slots (pulsing 19))
    -- the label 10.10 is new, and more urgent: the bound of 10.1 grows from 25 to 50, past its deadline of 25
    ∷ (plan base (stream 10 1 2 100 0 5 25 ∷ []) [] becomes plan base (stream 10 10 1 100 0 5 60 ∷ stream 10 1 2 100 0 5 25 ∷ []) [])
    -- T of 10.1 falls from 100 to 30: 10.10 waits for two of its messages, and the bound of 10.10 grows from 50 to 75, past its deadline
    ∷ (two 100 0 41 becomes two 30 0 41)
    -- J of 10.1 grows from 0 to 90: the same
    ∷ (two 100 0 200 becomes two 100 90 200)
    -- C of 10.1 grows from 5 to 6: its bound grows from 25 to 26, past its deadline of 25
    ∷ (one_under base becomes plan base (stream 10 1 1 100 0 6 25 ∷ []) [])
    -- D of 10.1 falls from 25 to 24: its bound is still 25
    ∷ (one_under base becomes plan base (stream 10 1 1 100 0 5 24 ∷ []) [])
    -- K of 10.1 grows from 0 to 1: its bound grows from 25 to 26, past its deadline of 25
    ∷ (one_under base becomes plan base (acknowledged 1 10 1 1 100 0 5 25 ∷ []) [])
    -- 10.1 and 10.10 swap their priorities: the bound of 10.1 grows from 41 to 50, past its deadline of 41
    ∷ (two 100 0 41 becomes plan base (stream 10 1 2 100 0 5 41 ∷ stream 10 10 1 200 0 5 50 ∷ []) [])
    -- a second noise source would have to share the partner of the first: the bound of 10.1 grows from 50 to 75, past its deadline of 50
    ∷ (plan base (stream 10 1 1 100 0 5 50 ∷ []) (1000 ∷ []) becomes plan base (stream 10 1 1 100 0 5 50 ∷ []) (1000 ∷ 1000 ∷ []))
    ∷ []

abbrev pub pair : ℕ → Pair
pair i = get_or all_pairs i (one_under base becomes one_under base)

-- ---- the claims

-- the 18 conditions are the rule: all hold exactly if the test of two plans finds no change
abbrev pub AllHoldExactly : Type 0
AllHoldExactly = (old new : Plan) → ((j : ℕ) → j < how_many → get_or (conditions old new) j false ≡ true) ↔ (changes old new ≡ Ok tt)

-- condition i does not hold, and all others do
pub record Broken (i : ℕ) (old new : Plan) : Type 0 where
  pub fails : get_or (conditions old new) i true ≡ false
  pub others : (j : ℕ) → j < how_many → (j ≡ i → ⊥) → get_or (conditions old new) j false ≡ true

-- a stream of the second plan does not keep what its namesake in the first had
pub record Lost (old new : Plan) : Type 0 where
  pub k : ℕ
  pub among : k < length new.streams
  pub r : ℕ
  pub among_old : r < length old.streams
  pub label : Namesakes (at new k) (at old r)
  pub lost : Kept old new k r → ⊥

abbrev pub EachNeeded : Type 0
EachNeeded =
    (i : ℕ) → i < how_many
    → NotRefused (pair i).old × NotRefused (pair i).new × Broken i (pair i).old (pair i).new × Lost (pair i).old (pair i).new

-- And they can all hold with something eased in each: constants smaller, T and D longer, J, C and K shorter, a stream fewer, rows in
-- another order, other priority numbers in the same order, gaps longer, fewer and in another order. ETG rises from 1 to 2, and LAG falls by
-- more, from 4 to 1. The bound of 10.1 falls from 234 to 95, and that of 11.2 from 291 to 104.
abbrev pub easier : Pair
easier =
    plan (constants 5 2 2 3 2 2 1 4 5)
    (acknowledged 4 10 1 7 400 5 6 240 ∷ stream 10 10 13 600 10 7 300 ∷ acknowledged 2 11 2 20 800 5 3 400 ∷ [])
    (500 ∷ 900 ∷ 500 ∷ [])
    becomes plan base (acknowledged 1 11 2 5 900 0 2 450 ∷ acknowledged 2 10 1 2 500 0 5 250 ∷ []) (950 ∷ 600 ∷ [])

abbrev pub NotEmpty : Type 0
NotEmpty = NotRefused easier.old × NotRefused easier.new × Lighter easier.old easier.new
