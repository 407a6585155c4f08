-- The functions that print return nothing and lend nothing to be changed, so any two outcomes are equal. What `read`, `read_list` and `arg` give is the system's to say.
-- Assumes nothing.
use mathlib.Core.Path.{◌≡◌, refl, sym, ◌∙◌}
use borrow.Fn.Kinds.{Dens, res_t, ended_of}
use contract.Lifetimes.{Lfts}
use denote.RattleType.{RattleType}
use denote.Param.Laws.{Laws}
use mir.Syntax.{Dict}
use Rattle.std.specs.declared.io.Print as print-bound
use denote.Triple.Clauses.{Lasts, at_exit}
use Rattle.laws.specs.Determined.{OneOutcome}
use Rattle.console.proofs.print.Kinds as print-kinds
use Rattle.console.proofs.print.Reads as print
use Rattle.console.proofs.print_first.Kinds as print-first-kinds
use Rattle.console.proofs.print_first.Reads as print-first
use Rattle.console.proofs.print_number.Kinds as print-number-kinds
use Rattle.console.proofs.print_number.Reads as print-number
use Rattle.console.proofs.print_refusal.Kinds as print-refusal-kinds
use Rattle.console.proofs.print_refusal.Reads as print-refusal
use Rattle.console.proofs.print_unreadable.Kinds as print-unreadable-kinds
use Rattle.console.proofs.print_unreadable.Reads as print-unreadable
use Rattle.console.proofs.print_wrong_line.Kinds as print-wrong-line-kinds
use Rattle.console.proofs.print_wrong_line.Reads as print-wrong-line
use Rattle.console.proofs.first.Kinds as first-kinds
use Rattle.console.proofs.first.Reads as first

-- `first` hands back a part of what it was lent: its bytes are determined, and where they stand in memory is not said
pub first_one : (κs : Lfts 1) (a : Dens κs first-kinds.ps) (x y : (res_t first-kinds.r κs).Denot) (ws us : Lasts (ended_of 1 first-kinds.ps first-kinds.r) κs a)
    → first.Post κs a x (at_exit (ended_of 1 first-kinds.ps first-kinds.r) κs a ws) → first.Post κs a y (at_exit (ended_of 1 first-kinds.ps first-kinds.r) κs a us) → x.now ≡ y.now
first_one κs a x y ws us p q = p ∙ sym q

pub print_one : (T : RattleType) (laws : Laws T) (g : print-bound.Ghosts T.Denot) (d : Dict)
    → OneOutcome 3 (print-kinds.ps T laws) (print-kinds.r T laws) (print.Post T laws g d)
print_one T laws g d κs a x y ws us p q = (refl, refl)

pub print_first_one : (T : RattleType) (laws : Laws T) (g : print-bound.Ghosts T.Denot) (d : Dict)
    → OneOutcome 3 (print-first-kinds.ps T laws) (print-first-kinds.r T laws) (print-first.Post T laws g d)
print_first_one T laws g d κs a x y ws us p q = (refl, refl)

pub print_number_one : (T : RattleType) (laws : Laws T) (g : print-bound.Ghosts T.Denot) (d : Dict)
    → OneOutcome 2 (print-number-kinds.ps T laws) (print-number-kinds.r T laws) (print-number.Post T laws g d)
print_number_one T laws g d κs a x y ws us p q = (refl, refl)

pub print_refusal_one : (T : RattleType) (laws : Laws T) (g : print-bound.Ghosts T.Denot) (d : Dict)
    → OneOutcome 2 (print-refusal-kinds.ps T laws) (print-refusal-kinds.r T laws) (print-refusal.Post T laws g d)
print_refusal_one T laws g d κs a x y ws us p q = (refl, refl)

pub print_unreadable_one : (T : RattleType) (laws : Laws T) (g : print-bound.Ghosts T.Denot) (d : Dict)
    → OneOutcome 4 (print-unreadable-kinds.ps T laws) (print-unreadable-kinds.r T laws) (print-unreadable.Post T laws g d)
print_unreadable_one T laws g d κs a x y ws us p q = (refl, refl)

pub print_wrong_line_one : (T : RattleType) (laws : Laws T) (g : print-bound.Ghosts T.Denot) (d : Dict)
    → OneOutcome 3 (print-wrong-line-kinds.ps T laws) (print-wrong-line-kinds.r T laws) (print-wrong-line.Post T laws g d)
print_wrong_line_one T laws g d κs a x y ws us p q = (refl, refl)
