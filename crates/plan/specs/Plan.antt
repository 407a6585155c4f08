-- A plan as document 01 speaks of it: timing, streams and noise gaps, with no unused places.
use Rattle.std.specs.Prelude.{List, ℕ, ◌^◌, ◌≤◌, ◌<◌, length, take, get_or}
use Rattle.names.specs.Limits.{streams, sources, constant, payload, acknowledgement, bits, slot, ticks}
use Rattle.plan.specs.declared.Timing.{Timing}
use Rattle.plan.specs.declared.Stream.{Stream}
use Rattle.plan.specs.declared.Sheet.{Sheet}

pub record Plan : Type 0 where
  pub timing : Timing
  pub streams : List Stream
  pub gaps : List ℕ

-- the plan on a sheet: its first streams and gaps, as many as it counts
abbrev pub plan_of : Sheet → Plan
plan_of s = record { timing = s.timing; streams = take s.count s.streams; gaps = take s.sources s.gaps }

-- what stands in an unused place
abbrev pub blank : Stream
blank =
    record {
      label = record { 0 = 0 };
      priority = record { 0 = 0 };
      period = 0;
      jitter = 0;
      payload = 0;
      deadline = 0;
      acknowledgement = 0;
    }

-- the stream in row k
abbrev pub at : Plan → ℕ → Stream
at p k = get_or p.streams k blank

-- F to ETG are 0 to 65,535, NB is 1 to 32, and P is 0 for no master node, else 1 to 5,000,000
pub record TimingWithin (t : Timing) : Type 0 where
  pub f : t.f ≤ constant
  pub e : t.e ≤ constant
  pub tfcs : t.tfcs ≤ constant
  pub swx : t.swx ≤ constant
  pub h : t.h ≤ constant
  pub g : t.g ≤ constant
  pub etg : t.etg ≤ constant
  pub some_bit : 1 ≤ t.nb
  pub nb : t.nb ≤ bits
  pub p : t.p ≤ slot

-- the priority is 0 to 2^NB - 1, T and D are 1 to 4,294,967,295, J is 0 to that, C is 1 to 65,535, K is 0 to that; every word is a label
pub record StreamWithin (nb : ℕ) (s : Stream) : Type 0 where
  pub priority : s.priority.0 < 2 ^ nb
  pub some_period : 1 ≤ s.period
  pub period : s.period ≤ ticks
  pub jitter : s.jitter ≤ ticks
  pub some_payload : 1 ≤ s.payload
  pub payload : s.payload ≤ payload
  pub some_deadline : 1 ≤ s.deadline
  pub deadline : s.deadline ≤ ticks
  pub acknowledgement : s.acknowledgement ≤ acknowledgement

-- a gap is 1 to 4,294,967,295
pub record GapWithin (n : ℕ) : Type 0 where
  pub some_gap : 1 ≤ n
  pub gap : n ≤ ticks

-- a plan within the limits: n is 1 to 256, m is 0 to 8, and so is each field
pub record Within (p : Plan) : Type 0 where
  pub some_stream : 1 ≤ length p.streams
  pub count : length p.streams ≤ streams
  pub sources : length p.gaps ≤ sources
  pub timing : TimingWithin p.timing
  pub stream : (k : ℕ) → k < length p.streams → StreamWithin p.timing.nb (at p k)
  pub gap : (k : ℕ) → k < length p.gaps → GapWithin (get_or p.gaps k 0)
