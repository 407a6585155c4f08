-- The first number is the bit count, each other one has its place.
use mathlib.Core.Path.{refl}
use borrow.Author.Tests.{eq-eqb, ne_eqb}
use Rattle.replay_words.specs.private.Reading.{with_number}
use Rattle.replay_words.proofs.with_number.Goals as goal

pub returns-then-entered-eq0 : goal.returns-then-entered-eq0
unfolding with_number
returns-then-entered-eq0 c = rw (eq-eqb c.args.entered.words 0 c.if-entered-eq0.true) refl

pub returns : goal.returns
unfolding with_number
returns c = rw (ne_eqb c.args.entered.words 0 c.if-entered-eq0.false, c.places_with.ensures) refl
