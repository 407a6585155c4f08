-- The loop leaves at the first marked contender with a 0, so no row behind it is one. Assumes nothing.
use Rattle.laws.proofs.Rows.{NoneBelow}
use Rattle.tournament.specs.Rule.{in_with_zero}
use Rattle.tournament.proofs.heard.Given as goal

abbrev pub invariant-loop-i : goal.invariant-loop-i
invariant-loop-i l = NoneBelow (in_with_zero l.t l.k) l.i
