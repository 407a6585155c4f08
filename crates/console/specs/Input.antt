-- What was read into a buffer.
use Rattle.std.specs.Prelude.{◌≡◌, List, ℕ, ◌≤◌, length, take, Result, Ok, Err}

-- how many bytes it is
abbrev pub bytes_in : {E : Type 0} → Result ℕ E → ℕ
bytes_in (Ok n) = n
bytes_in (Err _) = 0

-- they are no more than the buffer has, and so its first part of that length has as many
abbrev pub InBuffer : {E : Type 0} → Result ℕ E → List ℕ → Type 0
InBuffer r buf = (bytes_in r ≤ length buf) × (bytes_in r ≡ length (take (bytes_in r) buf))
