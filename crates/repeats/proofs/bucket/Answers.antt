-- What has only bits of the last bucket's number is no greater. Assumes nothing.
use mathlib.Core.Path.{refl}
use Rattle.repeats.specs.private.Buckets.{bucket_of}
use Rattle.repeats.proofs.bucket.Goals as goal

pub returns-clause-value : goal.returns-clause-value
unfolding bucket_of
returns-clause-value c = refl
