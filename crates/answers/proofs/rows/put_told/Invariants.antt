-- Each turn lays what is told of one row after the words of the rows before.
use mathlib.Core.Path.{◌≡◌}
use mathlib.Core.List.{◌++◌, flat_map}
use Prim.Native.Nat.{◌*◌}
use lib.ListN.{length, drop}
use Rattle.laws.specs.Lists.{rows}
use Rattle.answers.specs.Answers.{per_row, words_of}
use Rattle.answers.specs.private.Gather.{row_stream}
use Rattle.answers.specs.private.FinePlan.{plan_held, AllInOrder}
use Rattle.answers.proofs.rows.put_told.Given as goal

abbrev pub invariant-loop-k : goal.invariant-loop-k
invariant-loop-k g l =
    (l.out ≡ flat_map (words_of g.T.Tell.told (plan_held l.fine)) (rows l.k (row_stream l.fine.words.now)) ++ drop (per_row g.T.Tell.told * l.k) l.initial.out) × (length l.out ≡ length l.initial.out)
    × AllInOrder l.fine l.costs l.periods l.jitters × (length l.costs ≡ length l.initial.costs)
