use mathlib.Core.Path.{sym, ◌∙◌}
use native.Mathlib.Omega.{arith}
use Rattle.fields.proofs.Bands.{found, not_found}
use Rattle.fields.proofs.words_outside.Goals as goal

pub returns-in_err-i : goal.returns-in_err-i
returns-in_err-i c =
    let a = c.args in
    c.from_residual.ensures ∙ sym (not_found a.k a.words.now a.bands.now (sym c.in_err-i.ensures))

pub overflow_add-result : goal.overflow_add-result
overflow_add-result c =
    let a = c.args in
    omega (arith, (found a.k a.words.now a.bands.now (sym c.in_ok-i.ensures)).1)

pub returns : goal.returns
returns c =
    let a = c.args in
    sym (found a.k a.words.now a.bands.now (sym c.in_ok-i.ensures)).0
