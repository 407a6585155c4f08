-- The test of the limits is the definition's; within them, with no stair, the terms are those of a row alone on the channel.
use mathlib.Core.Path.{◌≡◌, sym, ap, ◌∙◌}
use mathlib.Core.Bool.{true}
use native.Mathlib.Omega.{arith}
use Rattle.std.specs.Prelude.{Some}
use Rattle.bound.specs.Evaluations.{searched}
use Rattle.terms.specs.Gathered.{lent_terms, fits}
use Rattle.terms.proofs.Fit.{fit_known}
use Rattle.analysis.proofs.Waits.{alone_terms_lem}
use Rattle.analysis.proofs.answer.Goals as goal
use Rattle.analysis.proofs.answer.Goals.{Else-not-terms_fit}

-- what is lent fits
known : (c : Else-not-terms_fit) → fits (lent_terms c.args.terms) ≡ true
known c = sym c.terms_fit.ensures ∙ c.if-not-terms_fit.false

pub invariant_of-fitting : goal.invariant_of-fitting
invariant_of-fitting c = record { fit = fit_known _ (known (goal.at.invariant_of-fitting c).Else-not-terms_fit) }

pub returns-then-stairs-eq0 : goal.returns-then-stairs-eq0
returns-then-stairs-eq0 c =
    let a = c.args in
    let none = sym c.stairs.ensures ∙ c.if-stairs-eq0.true in
    let alone = alone_terms_lem (lent_terms a.terms) (omega (arith, none)) (omega (arith, none)) in
    simp (known (goal.at.returns-then-stairs-eq0 c).Else-not-terms_fit) (ap Some (c.answer_alone.ensures ∙ ap (λ r. searched r a.deadline) (sym alone)))
