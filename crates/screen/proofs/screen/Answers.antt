-- What is taken of the lists is what they come to, and its answers are the screen's. Assumes nothing.
use mathlib.Core.Path.{ap, ◌∙◌}
use mathlib.Core.List.{◌++◌}
use lib.ListN.{length, take, drop}
use Rattle.names.specs.Limits.{streams, sources}
use Rattle.plan.specs.Plan.{blank}
use Rattle.screen.proofs.Counts.{over_blank, taken_is}
use Rattle.screen.proofs.screen.Goals as goal

pub returns : goal.returns
returns c =
    let a = c.args in
    let e =
    taken_is a.streams.now a.timing a.gaps.now a.out.now c.over-rows.result c.over-copies.result
    (c.over-rows.ensures ∙ ap (λ l. take streams a.streams.now ++ drop (length a.streams.now) l) c.no_streams.ensures ∙ over_blank streams blank a.streams.now) (c.over-copies.ensures ∙ over_blank sources 0 a.gaps.now) c.words_entered-words.ensures in
    (c.answer_words.ensures.value ∙ ap (λ o. o.0) e, c.answer_words.ensures.out_after ∙ ap (λ o. o.1) e)
