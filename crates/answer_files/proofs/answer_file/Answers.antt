-- A file whose contents are refused is refused, and else its words are answered.
use mathlib.Core.Path.{sym, ap, ◌∙◌}
use Rattle.answer_files.proofs.Files.{file_refused, file_is}
use Rattle.std.proofs.lemmas.Result.{err_from_is_err_and}
use Rattle.answer_files.proofs.answer_file.Goals as goal

pub returns-in_err-counts-clause-value : goal.returns-in_err-counts-clause-value
returns-in_err-counts-clause-value c =
    let a = c.args in
    let p = err_from_is_err_and c.from_residual.result c.from_residual.ensures.1 in
    rw (p.1, p.2) (sym (ap (λ o. o.0) (file_refused a.bytes.now a.out.now _ (sym c.carry.ensures.value ∙ c.in_err-counts.was))))

pub returns-in_err-counts-clause-out_after : goal.returns-in_err-counts-clause-out_after
returns-in_err-counts-clause-out_after c =
    let a = c.args in
    sym (ap (λ o. o.1) (file_refused a.bytes.now a.out.now _ (sym c.carry.ensures.value ∙ c.in_err-counts.was)))

pub returns-clause-value : goal.returns-clause-value
returns-clause-value c =
    let a = c.args in
    let e = file_is a.bytes.now a.out.now _ _ _ (sym c.carry.ensures.value ∙ c.in_ok-counts.was) c.carry.ensures.words_after in
    c.answer_words.ensures.value ∙ sym (ap (λ o. o.0) e)

pub returns-clause-out_after : goal.returns-clause-out_after
returns-clause-out_after c =
    let a = c.args in
    let e = file_is a.bytes.now a.out.now _ _ _ (sym c.carry.ensures.value ∙ c.in_ok-counts.was) c.carry.ensures.words_after in
    c.answer_words.ensures.out_after ∙ sym (ap (λ o. o.1) e)
