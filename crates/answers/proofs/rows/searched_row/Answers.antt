-- The row's own terms, with its hits before the streams in order, are the rules', and so is the answer to them.
use mathlib.Core.Path.{ap, ◌∙◌}
use Rattle.bound.specs.Evaluations.{searched}
use Rattle.terms.specs.Gathered.{lent}
use Rattle.answers.specs.private.Gather.{RowTerms}
use Rattle.answers.specs.private.FinePlan.{AllInOrder}
use Rattle.answers.proofs.Gather.{still_ordered}
use Rattle.answers.proofs.Terms.{row_terms}
use Rattle.answers.proofs.rows.searched_row.Goals as goal
use Rattle.answers.proofs.rows.searched_row.Goals.{After-put_hits}

-- the streams are still in order once the hits stand before them, and so the terms are the row's
still : (c : After-put_hits)
    → let s = c.args in
    AllInOrder s.fine c.put_hits.new.costs s.periods.now s.jitters.now
still c = let o = c.requires.in_order in record { cost = still_ordered c.put_hits.ensures o.cost; period = o.period; jitter = o.jitter }

terms : (c : After-put_hits)
    → let s = c.args in
    RowTerms s.fine.words.now s.fine.n s.fine.m s.row.0 (lent c.gathered-g.result c.put_hits.new.costs s.periods.now s.jitters.now)
terms c =
    let s = c.args in
    let p = c.requires in
    row_terms s.fine.words.now s.fine.n s.fine.m s.fine.over s.fine.within s.fine.overhead s.row.0 p.row_lt_n c.gathered-g.result _ _ _ _ c.gathered-g.ensures (still c)
    c.put_hits.ensures p.gaps_before

pub row_answer-requires : goal.row_answer-requires
row_answer-requires c = (terms (goal.at.row_answer-requires c).After-put_hits).fits

pub returns-clause-value : goal.returns-clause-value
returns-clause-value c =
    let h = (goal.at.returns-clause-value c).After-put_hits in
    c.row_answer.ensures ∙ (terms h).same _ ∙ ap (searched _) c.word_of-deadline.ensures.value

pub returns-clause-in_order_2 : goal.returns-clause-in_order_2
returns-clause-in_order_2 c = still (goal.at.returns-clause-in_order_2 c).After-put_hits
