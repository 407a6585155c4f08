-- The bytes so far are digits, and their value is that of the number so far.
use mathlib.Core.Path.{◌≡◌}
use mathlib.Core.Bool.{true}
use Prim.Native.Nat.{◌≤◌}
use Rattle.names.specs.Limits.{ticks}
use lib.ListN.{take}
use Rattle.decimal.specs.Decimal.{value_of}
use Rattle.replay_words.specs.Handwritten.{all_digits}
use Rattle.replay_words.proofs.number.Given as goal

abbrev pub invariant-loop-byte : goal.invariant-loop-byte
invariant-loop-byte l = (all_digits (take l.byte-index l.word) ≡ true) × (l.value ≡ value_of (take l.byte-index l.word)) × (l.value ≤ ticks)
