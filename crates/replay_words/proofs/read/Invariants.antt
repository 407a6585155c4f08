-- The words so far are numbers, and are entered; the text goes on with the others.
use Rattle.replay_words.proofs.Numbers.{ReadTo}
use Rattle.replay_words.proofs.read.Given as goal

abbrev pub invariant-loop-word : goal.invariant-loop-word
invariant-loop-word l = ReadTo l.fn.text l.word-iterator l.entered
