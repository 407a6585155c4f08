-- The function returns nothing and lends nothing to be changed, so any two outcomes are equal. Assumes nothing.
use mathlib.Core.Path.{refl}
use denote.RattleType.{RattleType}
use denote.Param.Laws.{Laws}
use mir.Syntax.{Dict}
use Rattle.std.specs.declared.io.Print as print-bound
use Rattle.std.specs.declared.io.traits.Read as read-bound
use Rattle.laws.specs.Determined.{OneOutcome}
use Rattle.showing.specs.declared.Show as show-bound
use Rattle.showing.proofs.show_input.Kinds as show-input-kinds
use Rattle.showing.proofs.show_input.Reads as show-input

pub show_input_one : (S T R : RattleType) (sl : Laws S) (tl : Laws T) (rl : Laws R) (s : show-bound.Ghosts S.Denot) (a : Dict) (t : print-bound.Ghosts T.Denot) (d : Dict)
    (r : read-bound.Ghosts R.Denot) (e k : Dict) → OneOutcome 5 (show-input-kinds.ps S T R sl tl rl) (show-input-kinds.r S T R sl tl rl) (show-input.Post S T R sl tl rl s a t d r e k)
show_input_one S T R sl tl rl s a t d r e k κs args x y ws us p q = (refl, refl)
