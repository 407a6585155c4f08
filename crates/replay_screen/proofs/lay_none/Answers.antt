-- Nothing, or the one text. Assumes nothing.
use mathlib.Core.Path.{sym, ap}
use mathlib.Core.Bool.{cond}
use mathlib.Core.List.{[]}
use native.Mathlib.Omega.{arith}
use Rattle.text.proofs.Laying.{is, none}
use Rattle.ascii.specs.Ascii.{ascii}
use Rattle.replay_screen.proofs.lay_none.Goals as goal

pub returns-then-some : goal.returns-then-some
returns-then-some c = is (ap (λ b. cond b [] (ascii " none")) (sym c.if-some.true)) (none _ _ (omega arith))
