-- The text goes on at its first word, which goes on to the byte that parts it.
use mathlib.Core.Path.{◌≡◌, sym, ap, ◌∙◌}
use mathlib.Core.List.{◌∷◌}
use native.Mathlib.Omega.{arith}
use borrow.Author.Tests.{eqb-true, eqb-false}
use lib.ListN.{length}
use Rattle.replay_words.specs.private.Reading.{words_left}
use Rattle.replay_words.proofs.Numbers.{no_word, next_word}
use Rattle.replay_words.proofs.WordsIterator.next.Goals as goal
use Rattle.replay_words.proofs.WordsIterator.next.Goals.{After-split_at}

pub returns-then-is_empty-clause-steps : goal.returns-then-is_empty-clause-steps
returns-then-is_empty-clause-steps c =
    let none = no_word c.args.self.now.0.now _ c.parting.ensures.value (eqb-true _ 0 (sym c.is_empty.ensures ∙ c.if-is_empty.true)) in
    (none, none)

first : (c : After-split_at) → words_left c.args.self.now ≡ c.split_at.result.0.now ∷ words_left (record { 0 = c.split_at.result.1 })
first c =
    rw (c.split_at.ensures.front, c.split_at.ensures.back)
    (next_word c.args.self.now.0.now _ c.parting.ensures.value _ (eqb-false _ 0 (sym c.is_empty.ensures ∙ c.if-is_empty.false)) c.in_word.ensures.value)

pub returns-clause-steps : goal.returns-clause-steps
returns-clause-steps c = first (goal.at.returns-clause-steps c).After-split_at

pub returns-clause-goes : goal.returns-clause-goes
returns-clause-goes c =
    let e = ap length (first (goal.at.returns-clause-goes c).After-split_at) in
    record { on = λ h. (tt, tt, omega (arith, e)); keeps = tt; rests = λ h. tt }
