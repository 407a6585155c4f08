-- Document 02, request 08: how many evaluations the searches of "Plans to run" take, and how many they take at most. The claim is that every
-- line holds, proved in proofs/Evaluations.antt: of short chains by computing them, of long ones by their closed form.
use Rattle.std.specs.Prelude.{◌≡◌, ℕ}
use Rattle.plan.specs.Plan.{at}
use Rattle.plan.specs.Evaluations.{row_wait}
use Rattle.carried.specs.Carried.{Entered, meant}
use Rattle.figures.specs.Plans.{P1, P2, P3, P5, P6, P7, slots, P5Before, blocked}

-- row k of a plan takes so many evaluations, and so many at most
abbrev pub Takes : Entered → ℕ → ℕ → ℕ → Type 0
Takes v k number limit = row_wait (meant v) (at (meant v) k) ≡ record { evaluations = number; limit = limit }

abbrev pub Evaluations : Type 0
Evaluations =
    -- P1: 10.1 goes from 1 to 43 and stays there, 10.10 to 65, 11.2 to 74
    Takes P1 0 2 2
    × Takes P1 1 2 3
    × Takes P1 2 2 4
    -- P2: with noise 11.2 goes by 101 to 126
    × Takes P2 0 2 3
    × Takes P2 1 2 4
    × Takes P2 2 3 6
    -- P3: 25, and 25 again: as many as there can be
    × Takes P3 0 2 2
    -- P6: 50, 75, 100, 125, 150, and 150 again
    × Takes P6 0 6 7
    -- P7: 19; 29, 39, 49; 30, 40, 60, 70
    × Takes P7 0 2 2
    × Takes P7 1 4 5
    × Takes P7 2 5 8
    -- in slots of 30 ticks: 59; 89; 119, 149, 179
    × Takes (slots 30) 0 2 2
    × Takes (slots 30) 1 2 3
    × Takes (slots 30) 2 4 6
    -- P5: 50, 75, 100 and so on beyond the last tick, and the same with 23 for 25
    × Takes P5 0 171798691 171798692
    × Takes P5Before 0 186737708 186737709
    -- P3 blocked by another stream: 41, 66, 91 and so on, none, and as many as there can be
    × Takes blocked 0 171798692 171798692
