-- What is yielded is the line at the place, and where that is none there is none left. Assumes nothing.
use Rattle.std.proofs.Common.{rules, ◌≡◌, sym, ap, ◌∙◌}
use mathlib.Core.List.{◌∷◌}
use Rattle.std.specs.Prelude.{Some}
use Rattle.pairs.specs.Pairs.{Over, line_of}
use Rattle.pairs.specs.Lines.{lines_from}
use Rattle.pairs.proofs.Listed.{no_more, one_more, fewer}
use Rattle.pairs.proofs.LinesIterator.next.Goals as goal

pub returns-in_err-line-clause-steps : goal.returns-in_err-line-clause-steps
returns-in_err-line-clause-steps c =
    let s = c.args.self.now in
    let e : line_of s.text.now s.at ≡ Over = sym c.line_at.ensures ∙ c.in_err-line.was in
    let n = no_more s.text.now s.at e in
    rw c.from_residual.ensures (n, n)

pub returns-clause-steps : goal.returns-clause-steps
returns-clause-steps c =
    let s = c.args.self.now in
    let line = c.in_ok-line.line in
    let e : line_of s.text.now s.at ≡ Some line = sym c.line_at.ensures ∙ c.in_ok-line.was in
    one_more s.text.now s.at line e ∙ ap (λ x. x ∷ lines_from s.text.now line.next) (sym c.names_at.ensures)

pub returns-clause-goes : goal.returns-clause-goes
returns-clause-goes c =
    let s = c.args.self.now in
    let line = c.in_ok-line.line in
    let e : line_of s.text.now s.at ≡ Some line = sym c.line_at.ensures ∙ c.in_ok-line.was in
    let f = fewer s.text.now s.at line e in
    search (rules, f)
