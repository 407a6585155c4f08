-- The law of the leading zeros, in 32 bits. Assumes nothing.
use mathlib.Core.Path.{◌≡◌, sym}
use Prim.Native.Nat.{◌+◌, ◌-◌, ◌≤◌}
use Rattle.tournament.specs.Answers.{equal_at_top, parting_bit}
use Rattle.tournament.proofs.Parts.{parting_by_leading_zeros}
use Rattle.tournament.proofs.first_difference.Goals as goal
use Rattle.tournament.proofs.first_difference.Goals.{Start}

law : (c : Start)
    → let a = c.args in
    let equal = equal_at_top 32 a.a a.b in
    (32 - a.bits ≤ equal) × (parting_bit a.bits a.a a.b ≡ equal - (32 - a.bits) + 1)
law c = let p = c.requires in parting_by_leading_zeros 32 _ _ _ p.to p.first_fits p.second_fits p.differ

pub returns : goal.returns
returns c = sym (law (goal.at.returns c).Start).1

pub overflow_sub-result-2 : goal.overflow_sub-result-2
overflow_sub-result-2 c = (law (goal.at.overflow_sub-result-2 c).Start).0
