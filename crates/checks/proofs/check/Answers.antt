-- A sheet is answered as its words are. Assumes nothing.
use mathlib.Core.Path.{ap, ◌∙◌}
use Rattle.carried.specs.declared.Edition.TheVariants.{Three}
use Rattle.carried.specs.Carried.{entered_in}
use Rattle.judge.specs.Table.{judge}
use Rattle.checks.specs.Checks.{lines}
use Rattle.checks.proofs.Words.{same_check}
use Rattle.checks.proofs.check.Goals as goal

pub returns : goal.returns
returns c =
    let s = c.args.sheet in
    c.check_words.ensures
    ∙ ap (λ ws. judge (lines Three s.count s.sources (entered_in s.count s.sources ws))) c.words_of.ensures
    ∙ same_check s (_, c.well_formed.0.1.1)
