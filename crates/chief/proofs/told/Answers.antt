-- What is said is what the files' answer is.
use mathlib.Core.Path.{ap}
use Rattle.text.proofs.Laying.{put_as}
use Rattle.chief.specs.Told.{told_as, told_of}
use Rattle.chief.proofs.told.Goals as goal

pub returns : goal.returns
unfolding told_of
returns c = put_as c.args.out.now 0 (ap told_as c.lighter_files.ensures.is) c.put.ensures
