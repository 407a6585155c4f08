-- Each turn lays one stream's line.
use lib.ListN.{take}
use Rattle.text.specs.Listing.{lines_from}
use Rattle.text.specs.Put.{Lays}
use Rattle.text.proofs.lay_lines.Given as goal

abbrev pub invariant-loop-k : goal.invariant-loop-k
invariant-loop-k g l = Lays l.initial.out l.initial.next (lines_from (g.T.Told.line l.told) 0 (take l.k l.streams)) l.next l.out
