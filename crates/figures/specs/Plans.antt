-- Document 01, "Plans to run": the base constants and P1 to P12 as they are entered, with a LAG, of which document 02 has P3 to P5 reworked,
-- and for what it gives no plan two in slots, one with two instances that are equally late, one with acknowledgements, some with a greater
-- LAG and two whose chains are long. What the documents leave open is chosen here, and the comment says so.
use mathlib.Core.List.{List, [], ◌∷◌, ◌++◌, flat_map}
use Rattle.std.specs.Prelude.{ℕ, ◌+◌, ◌-◌, ◌*◌, length, take, replicate}
use Rattle.names.specs.declared.Priority.{Priority}
use Rattle.names.specs.Limits.{contenders}
use Rattle.plan.specs.declared.Stream.{Stream}
use Rattle.words.specs.Words.{bytes_of}
use Rattle.carried.specs.declared.Edition.TheVariants.{One}
use Rattle.carried.specs.declared.EnteredTiming.{EnteredTiming}
use Rattle.carried.specs.Layout as layout
use Rattle.carried.specs.Carried.{Entered, timing_words, stream_words}
use Rattle.file.specs.File.{contents, entered_file}
use Rattle.text.specs.Listing.{group}
use Rattle.tournament_state.specs.Refusals.{priority, none}

-- P, F, E, TFCS, SWX, H, G, ETG, LAG, NB
abbrev pub timed : ℕ → ℕ → ℕ → ℕ → ℕ → ℕ → ℕ → ℕ → ℕ → ℕ → EnteredTiming
timed P f e tfcs swx h g etg lag nb =
    record { f = f; e = e; tfcs = tfcs; swx = swx; h = h; g = g; etg = etg; lag = lag; nb = nb; p = P }

-- the same without a master node
abbrev pub constants : ℕ → ℕ → ℕ → ℕ → ℕ → ℕ → ℕ → ℕ → ℕ → EnteredTiming
constants = timed 0

-- K, and a stream with the label g.n and its priority, T, J, C and D
abbrev pub acknowledged : ℕ → ℕ → ℕ → ℕ → ℕ → ℕ → ℕ → ℕ → Stream
acknowledged k g n p t j c d =
    record {
      label = record { 0 = g * group + n };
      priority = record { 0 = p };
      period = t;
      jitter = j;
      payload = c;
      deadline = d;
      acknowledgement = k;
    }

-- the same without an acknowledgement
abbrev pub stream : ℕ → ℕ → ℕ → ℕ → ℕ → ℕ → ℕ → Stream
stream = acknowledged 0

abbrev pub enter : EnteredTiming → List Stream → List ℕ → Entered
enter t ss ns = record { timing = t; streams = ss; gaps = ns }

-- the base constants: F 4, E 1, TFCS 1, SWX 2, H 1, G 1, ETG 2, LAG 1, NB 4
abbrev pub base : EnteredTiming
base = constants 4 1 1 2 1 1 2 1 4

-- the same with a master node that pulses every P ticks
abbrev pub pulsing : ℕ → EnteredTiming
pulsing P = timed P 4 1 1 2 1 1 2 1 4

-- the file that document 01 has of a plan without a master node and acknowledgements, which is of edition 1
abbrev pub older_file : Entered → List ℕ
older_file v =
    bytes_of
    (contents One (length v.streams) (length v.gaps)
    ++ (take (layout.timing_body One) (timing_words v.timing)
    ++ (flat_map (λ s. take (layout.stream_body One) (stream_words s)) v.streams ++ v.gaps)))

-- P1: labels 10.1, 10.10, 11.2; priorities 1, 2, 3; T 100, 150, 400; J 0, 10, 0; C 5, 7, 2; D 60, 120, 200
abbrev pub P1 : Entered
P1 = enter base (stream 10 1 1 100 0 5 60 ∷ stream 10 10 2 150 10 7 120 ∷ stream 11 2 3 400 0 2 200 ∷ []) []

-- P2: P1 with one source, N = 1,000
abbrev pub P2 : Entered
P2 = enter base P1.streams (1000 ∷ [])

-- P3 to P6: one stream, C 5, with T and J; its label 10.1, priority 1 and deadline 1,000 are chosen
abbrev pub alone : ℕ → ℕ → Entered
alone t j = enter base (stream 10 1 1 t j 5 1000 ∷ []) []

-- P3: T 25, J 0. Its T is its C'', and so is P5's; document 01, where C'' was 23, had T 23 in both
abbrev pub P3 : Entered
P3 = alone 25 0

-- P4: T 24, a tick less
abbrev pub P4 : Entered
P4 = alone 24 0

-- P5: T 25, J 25
abbrev pub P5 : Entered
P5 = alone 25 25

-- P6: T 30, J 30
abbrev pub P6 : Entered
P6 = alone 30 30

-- three streams, F to LAG all 0, C 10, J 0, with T of each; NB 4, the labels 10.1, 10.2, 10.3, the priorities 1, 2, 3 and the deadlines
-- of 1,000 are chosen
abbrev pub tens : ℕ → ℕ → ℕ → Entered
tens a b c =
    enter (constants 0 0 0 0 0 0 0 0 4) (stream 10 1 1 a 0 10 1000 ∷ stream 10 2 2 b 0 10 1000 ∷ stream 10 3 3 c 0 10 1000 ∷ []) []

-- P7: T 25, 35, 35
abbrev pub P7 : Entered
P7 = tens 25 35 35

-- P8: P1 with both first priorities 1
abbrev pub P8 : Entered
P8 = enter base (stream 10 1 1 100 0 5 60 ∷ stream 10 10 1 150 10 7 120 ∷ stream 11 2 3 400 0 2 200 ∷ []) []

-- P9: and labels equal too
abbrev pub P9 : Entered
P9 = enter base (stream 10 1 1 100 0 5 60 ∷ stream 10 1 1 150 10 7 120 ∷ stream 11 2 3 400 0 2 200 ∷ []) []

-- P10: 43 bytes; the first of P1's file are chosen
abbrev pub P10 : List ℕ
P10 = take 43 (entered_file P1)

-- P11: P1 with C of row 0 at 0
abbrev pub P11 : Entered
P11 = enter base (stream 10 1 1 100 0 0 60 ∷ stream 10 10 2 150 10 7 120 ∷ stream 11 2 3 400 0 2 200 ∷ []) []

-- P12: contenders 5, 3, 6 in 4 bits, in the first of the 128 places that a start is lent; the others are 0
abbrev pub P12 : List Priority
P12 = (priority 5 ∷ priority 3 ∷ priority 6 ∷ []) ++ replicate (contenders - 3) none

-- in slots: P1 with a master node that pulses every 30 ticks, and every 19, where 10.10 does not fit
abbrev pub slots : ℕ → Entered
slots P = enter (pulsing P) P1.streams []

-- P1 with acknowledgements: K 3, 2, 0
abbrev pub waits : Entered
waits =
    enter base (acknowledged 3 10 1 1 100 0 5 60 ∷ acknowledged 2 10 10 2 150 10 7 120 ∷ acknowledged 0 11 2 3 400 0 2 200 ∷ []) []

-- T 25, 30, 40: the second and the third message of 10.3 are equally late
abbrev pub equally_late : Entered
equally_late = tens 25 30 40

-- P1 with an ETG and a LAG
abbrev pub lagging : ℕ → ℕ → Entered
lagging etg lag = enter (constants 4 1 1 2 1 1 etg lag 4) P1.streams []

-- P5 as document 01 had it, where C'' was 23: it is again with a C of 3
abbrev pub P5Before : Entered
P5Before = enter base (stream 10 1 1 23 23 3 1000 ∷ []) []

-- P3 with a less urgent stream beside it, 10.2, which blocks it for 16 ticks
abbrev pub blocked : Entered
blocked = enter base (stream 10 1 1 25 0 5 1000 ∷ stream 10 2 2 1000 0 5 1000 ∷ []) []
