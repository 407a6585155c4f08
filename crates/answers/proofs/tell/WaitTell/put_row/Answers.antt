-- The smallest cost is some.
use Rattle.answers.proofs.tell.WaitTell.put_row.Goals as goal

pub wait_of-requires-clause-le_c : goal.wait_of-requires-clause-le_c
wait_of-requires-clause-le_c c = c.requires.by_index _ c.cheapest-c.ensures
