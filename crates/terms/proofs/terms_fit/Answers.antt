-- The tests stand in the order of the definition; a row that passes says how much must be lent, and so how long the lists are.
use mathlib.Core.Path.{sym, ap₂, ◌∙◌}
use mathlib.Core.Bool.{◌&&◌}
use Rattle.terms.specs.Gathered.{fits}
use Rattle.terms.proofs.Fit.{row_known}
use Rattle.terms.proofs.terms_fit.Goals as goal

pub returns-then-not-row_fits : goal.returns-then-not-row_fits
unfolding fits
returns-then-not-row_fits c = simp (sym c.row_fits.ensures ∙ c.if-not-row_fits.true)

pub long_enough-requires : goal.long_enough-requires
long_enough-requires c = row_known _ (sym c.row_fits.ensures ∙ c.if-not-row_fits.false)

-- the row passes ..
pub returns-then-not-long_enough : goal.returns-then-not-long_enough
unfolding fits
returns-then-not-long_enough c = simp (sym c.row_fits.ensures ∙ c.if-not-row_fits.false, sym c.long_enough.ensures ∙ c.if-not-long_enough.true)

-- .. and what is lent is long enough
pub returns : goal.returns
unfolding fits
returns c =
    simp (sym c.row_fits.ensures ∙ c.if-not-row_fits.false, sym c.long_enough.ensures ∙ c.if-not-long_enough.false)
    (ap₂ ◌&&◌ c.shares_fit.ensures c.sources_fit.ensures)
