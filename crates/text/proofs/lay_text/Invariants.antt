-- Each turn lays one byte.
use lib.ListN.{take}
use Rattle.text.specs.Put.{Lays}
use Rattle.text.proofs.lay_text.Given as goal

abbrev pub invariant-loop-byte : goal.invariant-loop-byte
invariant-loop-byte l = Lays l.initial.out l.at (take l.byte-index l.text) l.next l.out
