-- After k turns the first k words are laid, and the rest is as it was. Assumes nothing.
use Rattle.std.proofs.Common.{◌≡◌, ◌++◌, take, drop, length}
use Rattle.carried.specs.Layout as layout
use Rattle.carried.specs.Carried.{entered_words}
use Rattle.file.specs.File.{entered_at}
use Rattle.reader.proofs.lay_older.Given as goal

abbrev pub invariant-loop-k : goal.invariant-loop-k
invariant-loop-k l =
    record {
      count : l.count ≡ layout.gap_at l.counts.n l.counts.m;
      length : length l.word-items ≡ l.count;
      laid : l.word-items ≡ take l.k (entered_words (entered_at l.counts.edition l.counts.n l.counts.m l.bytes)) ++ drop l.k (take l.count l.fn.words);
    }
