-- The tests are the definition's, in its order.
use Rattle.terms.specs.Gathered.{row_fits}
use Rattle.terms.proofs.row_fits.Goals as goal

pub returns : goal.returns
unfolding row_fits
returns c = rw c.share_fits.ensures
