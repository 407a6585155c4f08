-- What the private functions ask of their callers.
use Rattle.std.specs.Prelude.{ℕ, ◌≤◌}
use Rattle.names.specs.Limits.{contenders, bits}
use Rattle.tournament_state.specs.declared.Tournament.{Tournament}
use Rattle.tournament_state.specs.Refusals.{PhaseWithin}

-- the bits and the contenders are within their limits, and k is one of the bits
pub record AtABit (t : Tournament) (k : ℕ) : Type 0 where
  pub few : t.count ≤ contenders
  pub narrow : t.bits ≤ bits
  pub from : 1 ≤ k
  pub to : k ≤ t.bits

-- and so is the state's bit, where it is at one
pub record Ready (t : Tournament) : Type 0 where
  pub few : t.count ≤ contenders
  pub narrow : t.bits ≤ bits
  pub within : PhaseWithin t.bits t.count t.phase
