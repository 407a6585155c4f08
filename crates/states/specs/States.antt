-- What a caller in another language lends, as a tournament's state, and its marks back as bytes.
use Rattle.std.specs.Prelude.{Bool, false, ◌&&◌, not, cond, List, ◌++◌, map, ℕ, zero, suc, min, eqb, ltb, length, get_or, take, drop}
use Rattle.names.specs.declared.Priority.{Priority}
use Rattle.names.specs.Limits.{contenders}
use Rattle.laws.specs.Lists.{rows, placed}
use Rattle.tournament_state.specs.declared.Phase.{Phase, TheVariants.AtBit, TheVariants.Finished, TheVariants.NoWinner}
use Rattle.tournament_state.specs.declared.Tournament.{Tournament}
use Rattle.tournament_state.specs.Refusals.{priority, none}

-- in 128 places, with 0 in those that are not lent
abbrev pub priorities_from : List ℕ → List Priority
priorities_from ps = placed contenders none (map priority ps)

-- in if the byte is not 0
abbrev pub mark : ℕ → Bool
mark b = not (eqb b 0)

-- .. and out in those that are not lent
abbrev pub marks_from : List ℕ → List Bool
marks_from bs = placed contenders false (map mark bs)

-- 0 is at a bit, 1 is finished with a winner's row, and all else has no winner
abbrev pub phase_from : ℕ → ℕ → Phase
phase_from zero at = AtBit at
phase_from (suc zero) at = Finished (record { 0 = at })
phase_from (suc (suc k)) at = NoWinner

-- each lent priority is a contender's; a state that is wrong is refused later
unfoldable pub state_from : ℕ → ℕ → ℕ → List ℕ → List ℕ → Tournament
state_from NB phase at ps bs =
    record { bits = NB; count = length ps; priorities = priorities_from ps; marks = marks_from bs; phase = phase_from phase at }

-- a mark as a byte
abbrev pub byte : Bool → ℕ
byte b = cond b 1 0

-- the lent bytes after a start: as many marks as there are lent bytes; the bytes after the 128th are as found
unfoldable pub marks_into : List Bool → List ℕ → List ℕ
marks_into marks out = map byte (take (length out) marks) ++ drop contenders out

-- row i was in, by its lent byte, and is now out
abbrev pub goes_out : List Bool → List ℕ → ℕ → Bool
goes_out marks found i = mark (get_or found i 0) && not (get_or marks i false)

-- the lent bytes after a step: 0 for each contender that goes out, and every other byte as found
unfoldable pub marked_out : ℕ → List Bool → List ℕ → List ℕ
marked_out n marks found = rows (length found) (λ i. cond (ltb i (min n contenders) && goes_out marks found i) 0 (get_or found i 0))
