-- Each turn is one tournament nearer the end: a text with a word has a first tournament with some bytes. Assumes nothing.
use lib.ListN.{length}
use Rattle.replay.proofs.show_all.Given as goal

abbrev pub decreases-loop-rest : goal.decreases-loop-rest
decreases-loop-rest g l = length l.rest
