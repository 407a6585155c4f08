-- In slots it is a tick less than a slot; else a tick less than the C' behind, if there is any.
use native.Mathlib.Omega.{arith}
use mathlib.Core.Path.{refl}
use Rattle.answers.proofs.Gather.{either_is}
use Rattle.answers.proofs.own.blocking.Goals as goal

pub returns-then-over-ne0 : goal.returns-then-over-ne0
returns-then-over-ne0 c = either_is _ (λ z. absurd (c.if-over-ne0.true z)) (λ h. refl)

pub returns-then-behind-over : goal.returns-then-behind-over
returns-then-behind-over c = either_is _ (λ z. omega (arith, c.if-behind-over.true)) (λ h. absurd (omega (arith, h, c.if-over-ne0.false)))

pub returns : goal.returns
returns c = either_is _ (λ z. omega arith) (λ h. absurd (omega (arith, h, c.if-over-ne0.false)))
