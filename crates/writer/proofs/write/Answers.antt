-- A sheet is written as its words are. Assumes nothing.
use mathlib.Core.Path.{sym, ap, ◌∙◌}
use Rattle.carried.specs.declared.Edition.TheVariants.{Three}
use Rattle.carried.specs.Carried.{entered_in}
use Rattle.file.specs.File.{write_with}
use Rattle.file.proofs.Writing.{same_writing}
use Rattle.writer.proofs.Whole.{both}
use Rattle.writer.proofs.write.Goals as goal

pub returns-clause-value : goal.returns-clause-value
returns-clause-value c =
    let s = c.args.sheet in
    let buf = c.args.buf.now in
    let (p, q) =
    both (sym (ap (λ ws. write_with Three s.count s.sources (entered_in s.count s.sources ws) buf) c.words_of-words.ensures ∙ same_writing s (_, c.well_formed.0.1.1) buf)) in
    c.write_words.ensures.value ∙ p

pub returns-clause-buf_after : goal.returns-clause-buf_after
returns-clause-buf_after c =
    let s = c.args.sheet in
    let buf = c.args.buf.now in
    let (p, q) =
    both (sym (ap (λ ws. write_with Three s.count s.sources (entered_in s.count s.sources ws) buf) c.words_of-words.ensures ∙ same_writing s (_, c.well_formed.0.1.1) buf)) in
    c.write_words.ensures.buf_after ∙ q
