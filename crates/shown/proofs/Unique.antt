-- The functions return nothing and lend nothing to be changed, so any two outcomes are equal. Assumes nothing.
use mathlib.Core.Path.{refl}
use denote.RattleType.{RattleType}
use denote.Param.Laws.{Laws}
use mir.Syntax.{Dict}
use Rattle.std.specs.declared.io.Print as print-bound
use Rattle.laws.specs.Determined.{OneOutcome}
use Rattle.shown.proofs.number.Kinds as number-kinds
use Rattle.shown.proofs.number.Reads as number
use Rattle.shown.proofs.bytes.Kinds as bytes-kinds
use Rattle.shown.proofs.bytes.Reads as bytes
use Rattle.shown.proofs.words.Kinds as words-kinds
use Rattle.shown.proofs.words.Reads as words
use Rattle.shown.proofs.answer.Kinds as answer-kinds
use Rattle.shown.proofs.answer.Reads as answer

pub number_one : (T : RattleType) (laws : Laws T) (g : print-bound.Ghosts T.Denot) (d : Dict)
    → OneOutcome 2 (number-kinds.ps T laws) (number-kinds.r T laws) (number.Post T laws g d)
number_one T laws g d κs a x y ws us p q = (refl, refl)

pub bytes_one : (T : RattleType) (laws : Laws T) (g : print-bound.Ghosts T.Denot) (d : Dict)
    → OneOutcome 3 (bytes-kinds.ps T laws) (bytes-kinds.r T laws) (bytes.Post T laws g d)
bytes_one T laws g d κs a x y ws us p q = (refl, refl)

pub words_one : (T : RattleType) (laws : Laws T) (g : print-bound.Ghosts T.Denot) (d : Dict)
    → OneOutcome 3 (words-kinds.ps T laws) (words-kinds.r T laws) (words.Post T laws g d)
words_one T laws g d κs a x y ws us p q = (refl, refl)

pub answer_one : (T : RattleType) (laws : Laws T) (g : print-bound.Ghosts T.Denot) (d : Dict)
    → OneOutcome 2 (answer-kinds.ps T laws) (answer-kinds.r T laws) (answer.Post T laws g d)
answer_one T laws g d κs a x y ws us p q = (refl, refl)
