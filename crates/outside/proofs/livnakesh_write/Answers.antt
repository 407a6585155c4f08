-- The lent words are carried, and so the plan that they mean is written. Assumes nothing.
use mathlib.Core.Path.{◌≡◌, ap, ◌∙◌}
use Rattle.carried.specs.declared.Edition.TheVariants.{Three}
use Rattle.carried.specs.Carried.{entered_in}
use Rattle.file.specs.File.{write_with}
use Rattle.file.proofs.Writing.{values_written}
use Rattle.outside.specs.Outside.{written, write_from}
use borrow.Author.Rules.{rules}
use Rattle.outside.proofs.livnakesh_write.Goals as goal
use Rattle.outside.proofs.livnakesh_write.Goals.{After-write_words}

-- what was written is what is meant by the lent words
wrote : (c : After-write_words) → let a = c.args in
    let o = write_from a.n a.m a.values.now a.out.now in (c.write_words.result ≡ o.0) × (c.write_words.new.buf ≡ o.1)
wrote c =
    let a = c.args in
    let e =
    ap (λ ws. write_with Three a.n a.m (entered_in a.n a.m ws) a.out.now) c.words_from-placed.ensures
    ∙ values_written Three a.n a.m a.values.now a.out.now in
    (c.write_words.ensures.value ∙ ap (λ p. p.0) e, c.write_words.ensures.buf_after ∙ ap (λ p. p.1) e)

pub returns-clause-value : goal.returns-clause-value
returns-clause-value c =
    let same : c.map.result ≡ c.write_words.result = search rules in
    c.from.ensures ∙ ap written (same ∙ (wrote (goal.at.returns-clause-value c).After-write_words).0)

pub returns-clause-out_after : goal.returns-clause-out_after
returns-clause-out_after c = (wrote (goal.at.returns-clause-out_after c).After-write_words).1
