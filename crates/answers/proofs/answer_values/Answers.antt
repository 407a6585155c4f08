-- The sheet's words are answered as its values are.
use mathlib.Core.Path.{ap, ◌∙◌}
use Rattle.carried.specs.declared.Edition.TheVariants.{Three}
use Rattle.carried.specs.Carried.{entered_in}
use Rattle.answers.specs.Answers.{answer_with, answer_of}
use Rattle.answers.proofs.Outcome.{same_answer}
use Rattle.answers.proofs.answer_values.Goals as goal

pub returns-clause-value : goal.returns-clause-value
unfolding answer_of
returns-clause-value g c =
    let s = c.args.s in
    let out = c.args.out.now in
    let e = ap (λ ws. answer_with g.T.Tell.told Three s.count s.sources (entered_in s.count s.sources ws) out) c.words_of.ensures
    ∙ same_answer g.T.Tell.told s (_, c.well_formed.0.1.1) out in
    c.answer_words.ensures.value ∙ ap (λ o. o.0) e

pub returns-clause-out_after : goal.returns-clause-out_after
unfolding answer_of
returns-clause-out_after g c =
    let s = c.args.s in
    let out = c.args.out.now in
    let e = ap (λ ws. answer_with g.T.Tell.told Three s.count s.sources (entered_in s.count s.sources ws) out) c.words_of.ensures
    ∙ same_answer g.T.Tell.told s (_, c.well_formed.0.1.1) out in
    c.answer_words.ensures.out_after ∙ ap (λ o. o.1) e
