-- Document 01, "The rules of the bound", from V to B, with what a master node changes (document 02, request 01), with acknowledgements
-- (request 05) and without LAG (request 06), and the terms that the rest of the rules takes of a plan p for its stream i. The rules from E
-- on are in the crate bound, specs/Bound.antt.
use Rattle.std.specs.Prelude.{Bool, cond, ◌&&◌, List, ◌∷◌, map, ℕ, ◌+◌, ◌-◌, ◌*◌, max, ◌≤◌, leb, ltb, eqb}
use Rattle.laws.specs.Lists.{largest_of, those}
use Rattle.bound.specs.Terms.{Share, Terms}
use Rattle.bound.specs.Bound.{answer}
use Rattle.bound.specs.declared.Answer.{Answer}
use Rattle.plan.specs.declared.Timing.{Timing}
use Rattle.plan.specs.declared.Stream.{Stream}
use Rattle.plan.specs.Plan.{Plan}

-- the first where a kit has no master node (P = 0), the second where it has one and each message takes a slot of P ticks
unfoldable pub self_or_slotted : ℕ → ℕ → ℕ → ℕ
self_or_slotted P self slotted = cond (eqb P 0) self slotted

-- V = F + E + max(TFCS, SWX) + H
abbrev pub «V» : Timing → ℕ
«V» t = t.f + t.e + max t.tfcs t.swx + t.h

-- U = G + (H + G) × NB + ETG
abbrev pub U : Timing → ℕ
U t = t.g + (t.h + t.g) * t.nb + t.etg

-- C' = C + K + U
abbrev pub C' : Timing → Stream → ℕ
C' t j = j.payload + j.acknowledgement + U t

-- C'' = V + C', and in a slot C' + H
abbrev pub lead : Timing → ℕ
lead t = self_or_slotted t.p («V» t) t.h

abbrev pub C'' : Timing → Stream → ℕ
C'' t j = lead t + C' t j

-- what a message of j takes of the channel, wherever L and w count one: C'', and in slots P
abbrev pub airtime : Timing → Stream → ℕ
airtime t j = self_or_slotted t.p (C'' t j) t.p

-- how long after a cycle's start a release still joins it: V, and in slots 0
abbrev pub late : Timing → ℕ
late t = self_or_slotted t.p («V» t) 0

-- hp(i) are the streams more urgent than i: a smaller priority number is the more urgent one
abbrev pub hp : Plan → Stream → List Stream
hp p i = those (λ j. ltb j.priority.0 i.priority.0) p.streams

-- lp(i) are the less urgent
abbrev pub lp : Plan → Stream → List Stream
lp p i = those (λ j. ltb i.priority.0 j.priority.0) p.streams

-- B of i is the largest C' - 1 over lp(i), or 0 if there are none; and in slots P - 1, whoever is less urgent
unfoldable pub B : Plan → Stream → ℕ
B p i = self_or_slotted p.timing.p (largest_of (λ j. C' p.timing j - 1) (lp p i)) (p.timing.p - 1)

-- what one hit costs in E: the largest C'' among i and hp(i), and in slots P
unfoldable pub hit : Plan → Stream → ℕ
hit p i = self_or_slotted p.timing.p (largest_of (C'' p.timing) (i ∷ hp p i)) p.timing.p

-- what a stream takes of the channel, its T and its J
abbrev pub share : Timing → Stream → Share
share t j = record { C'' = airtime t j; T = j.period; J = j.jitter }

-- the terms of i: B, i, hp(i), the gaps, the cost of a hit, V or 0, and C'' of i at the end, in slots too
unfoldable pub terms : Plan → Stream → Terms
terms p i =
    record {
      B = B p i;
      own = share p.timing i;
      urgent = map (share p.timing) (hp p i);
      gaps = p.gaps;
      hit = hit p i;
      late = late p.timing;
      last = C'' p.timing i;
    }

-- the answer of the stream i of a plan, and of all its streams in file order
abbrev pub row_answer : Plan → Stream → Answer
row_answer p i = answer (terms p i) i.deadline

abbrev pub answers : Plan → List Answer
answers p = map (row_answer p) p.streams

-- a kit has a master node exactly if P is at least 1
abbrev pub has_master : Timing → Bool
has_master t = leb 1 t.p

-- in slots C'' is at most P, or the stream is refused: this is the test, ..
abbrev pub exceeds_slot : Timing → Stream → Bool
exceeds_slot t j = has_master t && ltb t.p (C'' t j)

-- .. and this is what a stream that is not refused has
abbrev pub FitsSlot : Timing → Stream → Type 0
FitsSlot t j = 1 ≤ t.p → C'' t j ≤ t.p
