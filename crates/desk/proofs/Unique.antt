-- Each public contract determines its outcome, lent memory included. Assumes nothing.
use mathlib.Core.Path.{refl, ◌∙◌, sym, ap}
use mathlib.Core.List.{List}
use Prim.Native.Nat.{ℕ}
use Rattle.laws.specs.Determined.{OneOutcome}
use Rattle.desk.proofs.file_buffer.Kinds as file-buffer-kinds
use Rattle.desk.proofs.file_buffer.Reads as file-buffer
use Rattle.desk.proofs.listing_buffer.Kinds as listing-buffer-kinds
use Rattle.desk.proofs.listing_buffer.Reads as listing-buffer
use Rattle.desk.proofs.show.Kinds as show-kinds
use Rattle.desk.proofs.show.Reads as show
use Rattle.desk.proofs.show_waits.Kinds as waits-kinds
use Rattle.desk.proofs.show_waits.Reads as waits
use Rattle.desk.proofs.show_refusal.Kinds as refusal-kinds
use Rattle.desk.proofs.show_refusal.Reads as refusal
use Rattle.desk.proofs.show_file.Kinds as file-kinds
use Rattle.desk.proofs.show_file.Reads as file

pub file_buffer_one : OneOutcome 0 file-buffer-kinds.ps file-buffer-kinds.r file-buffer.Post
file_buffer_one κs a x y ws us p q = (p.0 ∙ sym q.0, refl)

pub listing_buffer_one : OneOutcome 0 listing-buffer-kinds.ps listing-buffer-kinds.r listing-buffer.Post
listing_buffer_one κs a x y ws us p q = (p.0 ∙ sym q.0, refl)

pub show_one : OneOutcome 2 show-kinds.ps show-kinds.r show.Post
show_one κs a x y ws us p q = (p.0 ∙ sym q.0, ap (λ (l : List ℕ). (tt, (l, tt))) (p.1 ∙ sym q.1))

pub show_waits_one : OneOutcome 2 waits-kinds.ps waits-kinds.r waits.Post
show_waits_one κs a x y ws us p q = (p.0 ∙ sym q.0, ap (λ (l : List ℕ). (tt, (l, tt))) (p.1 ∙ sym q.1))

pub show_refusal_one : OneOutcome 2 refusal-kinds.ps refusal-kinds.r refusal.Post
show_refusal_one κs a x y ws us p q = (p.0 ∙ sym q.0, ap (λ (l : List ℕ). (tt, (l, tt))) (p.1 ∙ sym q.1))

pub show_file_one : OneOutcome 2 file-kinds.ps file-kinds.r file.Post
show_file_one κs a x y ws us p q = (p.0 ∙ sym q.0, ap (λ (l : List ℕ). (tt, (l, tt))) (p.1 ∙ sym q.1))
