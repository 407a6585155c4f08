-- The words before k agree, so all do exactly if those from k on do. Assumes nothing.
use Rattle.std.proofs.Common.{◌≡◌, take, drop}
use Rattle.carried.specs.Layout as layout
use Rattle.words.specs.Words.{words_of}
use Rattle.file.specs.File.{same}
use Rattle.reader.proofs.contents_in.Given as goal

abbrev pub invariant-loop-k : goal.invariant-loop-k
invariant-loop-k l = same (take layout.contents_length (words_of l.bytes)) l.right ≡ same (drop l.k (take layout.contents_length (words_of l.bytes))) (drop l.k l.right)
