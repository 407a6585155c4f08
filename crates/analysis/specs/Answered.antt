-- What is answered of a row's terms.
use Rattle.std.specs.Prelude.{cond, ℕ, Option, Some, None}
use Rattle.bound.specs.declared.Searched.{Searched}
use Rattle.bound.specs.Evaluations.{searched}
use Rattle.terms.specs.Gathered.{Lent, terms_of, fits}

-- the answer of the row's terms for the deadline D and what its search took, where they are within the limits
abbrev pub answered : Lent → ℕ → Option Searched
answered t D = cond (fits t) (Some (searched (terms_of t) D)) None
