use Rattle.std.proofs.Common.{refl, arith}
use Rattle.compare.specs.private.Moves.{label_of}
use Rattle.compare.proofs.Lists.{column_more, column_all}
use Rattle.compare.proofs.labels_of.Goals as goal

pub loop-k-init : goal.loop-k-init
loop-k-init c = refl

pub loop-k-preserved : goal.loop-k-preserved
loop-k-preserved c = column_more label_of c.args.streams.now c.loop-k.k (omega arith) c.requires c.loop-k.invariant refl

pub returns : goal.returns
returns c = column_all label_of c.args.streams.now c.loop-k.k (omega arith) c.requires c.loop-k.invariant
