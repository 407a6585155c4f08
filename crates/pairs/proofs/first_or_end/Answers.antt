-- The first such byte stands where the text up to it ends. Assumes nothing.
use Rattle.std.proofs.Common.{◌≡◌, ap, ◌∙◌, arith}
use lib.ListN.{length}
use Rattle.std.specs.Option.{unwrap_or}
use Rattle.pairs.specs.Pairs.{before}
use Rattle.pairs.proofs.Laws.{before_end, before_short}
use Rattle.pairs.proofs.first_or_end.Goals as goal

pub returns-clause-value : goal.returns-clause-value
returns-clause-value c =
    let a = c.args in
    c.unwrap_or.ensures ∙ ap (λ r. unwrap_or r (length a.text.now)) c.first_of.ensures ∙ before_end a.byte a.text.now

pub returns-clause-upper_bound : goal.returns-clause-upper_bound
returns-clause-upper_bound c =
    let a = c.args in
    let e : c.unwrap_or.result ≡ length (before a.byte a.text.now) = c.unwrap_or.ensures ∙ ap (λ r. unwrap_or r (length a.text.now)) c.first_of.ensures ∙ before_end a.byte a.text.now in
    omega (arith, e, before_short a.byte a.text.now)
