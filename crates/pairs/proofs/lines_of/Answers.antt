-- The count goes to the text's length. Assumes nothing.
use lib.ListN.{length}
use Rattle.pairs.proofs.Listed.{no_more_than}
use Rattle.pairs.proofs.lines_of.Goals as goal

pub returns-clause-no_more_than_bytes : goal.returns-clause-no_more_than_bytes
returns-clause-no_more_than_bytes c = no_more_than (length c.args.text.now) c.args.text.now 0
