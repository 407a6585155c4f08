-- What it is for a contract to determine its function's outcome: of one call, any two results that it allows are equal, and so is all
-- that it lets lent memory end with.
use Rattle.std.specs.Prelude.{◌≡◌, List, ℕ}
use borrow.Fn.Kinds.{ParamKind, ResultKind, Out, Dens, res_t, ended_of}
use contract.Lifetimes.{Lfts}
use denote.Triple.Clauses.{Lasts, at_exit}

-- `Post` is the function's `ensures`. `Lasts` has the last value of each `&mut` parameter, and () for every other
abbrev pub OneOutcome : (n : ℕ) (ps : List (ParamKind n)) (r : ResultKind n) → Out n ps r → Type 0
OneOutcome n ps r Post =
    (κs : Lfts n) (a : Dens κs ps) (x y : (res_t r κs).Denot) (ws us : Lasts (ended_of n ps r) κs a)
    → Post κs a x (at_exit (ended_of n ps r) κs a ws) → Post κs a y (at_exit (ended_of n ps r) κs a us) → (x ≡ y) × (ws ≡ us)
