-- Each contract determines its outcome: it equates the result with one value. Assumes nothing.
use mathlib.Core.Path.{refl, sym, ◌∙◌}
use Rattle.laws.specs.Determined.{OneOutcome}
use Rattle.tournament.proofs.start.Kinds as start-kinds
use Rattle.tournament.proofs.start.Reads as start
use Rattle.tournament.proofs.step.Kinds as step-kinds
use Rattle.tournament.proofs.step.Reads as step
use Rattle.tournament.proofs.run.Kinds as run-kinds
use Rattle.tournament.proofs.run.Reads as run
use Rattle.tournament.proofs.listen.Kinds as listen-kinds
use Rattle.tournament.proofs.listen.Reads as listen
use Rattle.tournament.proofs.parting_bit.Kinds as parting-bit-kinds
use Rattle.tournament.proofs.parting_bit.Reads as parting-bit

pub start_one : OneOutcome 0 start-kinds.ps start-kinds.r start.Post
start_one κs a x y ws us p q = (p ∙ sym q, refl)

pub step_one : OneOutcome 0 step-kinds.ps step-kinds.r step.Post
step_one κs a x y ws us p q = (p ∙ sym q, refl)

pub run_one : OneOutcome 0 run-kinds.ps run-kinds.r run.Post
run_one κs a x y ws us p q = (p ∙ sym q, refl)

pub listen_one : OneOutcome 0 listen-kinds.ps listen-kinds.r listen.Post
listen_one κs a x y ws us p q = (p ∙ sym q, refl)

pub parting_bit_one : OneOutcome 0 parting-bit-kinds.ps parting-bit-kinds.r parting-bit.Post
parting_bit_one κs a x y ws us p q = (p ∙ sym q, refl)
