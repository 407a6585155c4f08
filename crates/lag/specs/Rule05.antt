-- The rule of request 05, as it stood, on what is entered: LAG is in U. Its letters are those of the crate plan, specs/Rules.antt, each with
-- 05 after it, and in the same order. At the end, the table of refusals that had no 11; its lines of 2, 3, 4 and 5 are today's.
use Rattle.std.specs.Prelude.{Bool, ◌&&◌, List, [], ◌∷◌, ◌++◌, map, ℕ, ◌+◌, ◌-◌, ◌*◌, max, leb, ltb, length, get_or}
use Rattle.laws.specs.Lists.{largest_of, those}
use Rattle.laws.specs.Search.{first}
use Rattle.bound.specs.Terms.{Share, Terms}
use Rattle.bound.specs.Bound.{answer}
use Rattle.bound.specs.declared.Answer.{Answer}
use Rattle.judge.specs.Table.{Line, unless}
use Rattle.plan.specs.declared.Stream.{Stream}
use Rattle.plan.specs.Plan.{blank}
use Rattle.plan.specs.Rules.{self_or_slotted}
use Rattle.carried.specs.declared.Edition.{Edition}
use Rattle.carried.specs.declared.EnteredTiming.{EnteredTiming}
use Rattle.carried.specs.Carried.{Entered}
use Rattle.checks.specs.Checks.{counted, field_lines, row_lines}

-- V = F + E + max(TFCS, SWX) + H
abbrev pub V₀₅ : EnteredTiming → ℕ
V₀₅ t = t.f + t.e + max t.tfcs t.swx + t.h

-- U = G + (H + G) × NB + ETG + LAG
abbrev pub U₀₅ : EnteredTiming → ℕ
U₀₅ t = t.g + (t.h + t.g) * t.nb + t.etg + t.lag

-- C' = C + K + U
abbrev pub C'₀₅ : EnteredTiming → Stream → ℕ
C'₀₅ t j = j.payload + j.acknowledgement + U₀₅ t

-- C'' = V + C', and in a slot C' + H
abbrev pub lead₀₅ : EnteredTiming → ℕ
lead₀₅ t = self_or_slotted t.p (V₀₅ t) t.h

abbrev pub C''₀₅ : EnteredTiming → Stream → ℕ
C''₀₅ t j = lead₀₅ t + C'₀₅ t j

-- what a message of j takes of the channel: C'', and in slots P
abbrev pub airtime₀₅ : EnteredTiming → Stream → ℕ
airtime₀₅ t j = self_or_slotted t.p (C''₀₅ t j) t.p

-- how long after a cycle's start a release still joins it: V, and in slots 0
abbrev pub late₀₅ : EnteredTiming → ℕ
late₀₅ t = self_or_slotted t.p (V₀₅ t) 0

-- hp(i) are the streams more urgent than i, and lp(i) the less urgent
abbrev pub hp₀₅ : Entered → Stream → List Stream
hp₀₅ v i = those (λ j. ltb j.priority.0 i.priority.0) v.streams

abbrev pub lp₀₅ : Entered → Stream → List Stream
lp₀₅ v i = those (λ j. ltb i.priority.0 j.priority.0) v.streams

-- B of i is the largest C' - 1 over lp(i), or 0 if there are none; and in slots P - 1
abbrev pub B₀₅ : Entered → Stream → ℕ
B₀₅ v i = self_or_slotted v.timing.p (largest_of (λ j. C'₀₅ v.timing j - 1) (lp₀₅ v i)) (v.timing.p - 1)

-- what one hit costs in E: the largest C'' among i and hp(i), and in slots P
abbrev pub hit₀₅ : Entered → Stream → ℕ
hit₀₅ v i = self_or_slotted v.timing.p (largest_of (C''₀₅ v.timing) (i ∷ hp₀₅ v i)) v.timing.p

-- what a stream takes of the channel, its T and its J
abbrev pub share₀₅ : EnteredTiming → Stream → Share
share₀₅ t j = record { C'' = airtime₀₅ t j; T = j.period; J = j.jitter }

-- the terms of i
abbrev pub terms₀₅ : Entered → Stream → Terms
terms₀₅ v i =
    record {
      B = B₀₅ v i;
      own = share₀₅ v.timing i;
      urgent = map (share₀₅ v.timing) (hp₀₅ v i);
      gaps = v.gaps;
      hit = hit₀₅ v i;
      late = late₀₅ v.timing;
      last = C''₀₅ v.timing i;
    }

-- the answers of all streams in file order
abbrev pub answers₀₅ : Entered → List Answer
answers₀₅ v = map (λ i. answer (terms₀₅ v i) i.deadline) v.streams

-- ---- the refusals: 2, then 3, then 4 and 5, then 10

abbrev pub exceeds_slot₀₅ : EnteredTiming → Stream → Bool
exceeds_slot₀₅ t j = leb 1 t.p && ltb t.p (C''₀₅ t j)

abbrev pub slot_lines₀₅ : EnteredTiming → List Stream → List Line
slot_lines₀₅ t ss = record { number = 10; place = first (λ k. exceeds_slot₀₅ t (get_or ss k blank)) 0 (length ss) } ∷ []

abbrev pub lines₀₅ : Edition → ℕ → ℕ → Entered → List Line
lines₀₅ edition n m v =
    record { number = 2; place = unless (counted edition n m v) }
    ∷ field_lines edition v ++ row_lines v.streams ++ slot_lines₀₅ v.timing v.streams
