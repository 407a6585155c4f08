-- The rooms are large enough.
use Rattle.answers.proofs.Gather.{places_are}
use Rattle.answers.proofs.rows.put_in_rooms.Goals as goal

pub put_sorted-requires-clause-seats : goal.put_sorted-requires-clause-seats
put_sorted-requires-clause-seats g c = places_are c.args.fine.words.now _ _ _ c.put_priorities.ensures c.put_places.ensures
