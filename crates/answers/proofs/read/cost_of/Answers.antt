-- The branch is the definition's test, by P.
use native.Mathlib.Omega.{arith}
use mathlib.Core.Path.{◌∙◌}
use Rattle.answers.proofs.Gather.{either_is}
use Rattle.answers.proofs.read.cost_of.Goals as goal

pub returns-then-fine-eq0 : goal.returns-then-fine-eq0
returns-then-fine-eq0 c = either_is _ (λ z. c.whole_of.ensures) (λ h. absurd (omega (arith, h, c.if-fine-eq0.true, c.args.fine.overhead.slot_is)))

pub returns : goal.returns
returns c = let p = c.args.fine.overhead in either_is _ (λ z. absurd (c.if-fine-eq0.false (p.slot_is ∙ z))) (λ h. p.slot_is)
