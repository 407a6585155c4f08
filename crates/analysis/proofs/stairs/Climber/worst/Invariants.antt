-- Before the turn of q, `wait` is that of the instance before it, the edges have come there, and `best` is the largest term so far with the first instance that has it. The next search starts
-- C'' further on, since the next wait is no lower. The first term is above zero, so the largest is, and the cast back keeps it.
use Prim.Native.Nat.{◌-◌}
use Rattle.analysis.specs.private.Fitting.{terms_in, stairs_in}
use Rattle.analysis.proofs.Waits.{WaitsTo}
use Rattle.analysis.proofs.stairs.Climber.worst.Given as goal

abbrev pub invariant-loop-q : goal.invariant-loop-q
invariant-loop-q g l =
    let t = l.fitting.terms in
    WaitsTo (terms_in l.fitting) l.l t.costs.now t.periods.now l.self (stairs_in l.fitting) (l.q - 1) l.base l.wait l.best
