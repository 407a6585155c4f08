-- The public contracts determine their outcomes, lent memory included.
use mathlib.Core.Path.{◌∙◌, sym, ap}
use mathlib.Core.List.{List}
use Prim.Native.Nat.{ℕ}
use denote.RattleType.{RattleType}
use denote.Param.Laws.{Laws}
use mir.Syntax.{Dict}
use Rattle.text.specs.declared.Told as told
use Rattle.text.specs.declared.Laid as laid
use Rattle.laws.specs.Determined.{OneOutcome}
use Rattle.text.proofs.lay_text.Kinds as lay-text-kinds
use Rattle.text.proofs.lay_text.Reads as lay-text
use Rattle.text.proofs.lay_number.Kinds as lay-number-kinds
use Rattle.text.proofs.lay_number.Reads as lay-number
use Rattle.text.proofs.lay_label.Kinds as lay-label-kinds
use Rattle.text.proofs.lay_label.Reads as lay-label
use Rattle.text.proofs.lay_refusal.Kinds as lay-refusal-kinds
use Rattle.text.proofs.lay_refusal.Reads as lay-refusal
use Rattle.text.proofs.lay_lines.Kinds as lay-lines-kinds
use Rattle.text.proofs.lay_lines.Reads as lay-lines
use Rattle.text.proofs.put.Kinds as put-kinds
use Rattle.text.proofs.put.Reads as put
use Rattle.text.proofs.listing.Kinds as listing-kinds
use Rattle.text.proofs.listing.Reads as listing
use Rattle.text.proofs.refused.Kinds as refused-kinds
use Rattle.text.proofs.refused.Reads as refused

pub lay_text_one : OneOutcome 2 lay-text-kinds.ps lay-text-kinds.r lay-text.Post
lay_text_one κs a x y ws us p q = (p.place ∙ sym q.place, ap (λ (l : List ℕ). (l, (tt, (tt, tt)))) (p.bytes ∙ sym q.bytes))

pub lay_number_one : OneOutcome 1 lay-number-kinds.ps lay-number-kinds.r lay-number.Post
lay_number_one κs a x y ws us p q = (p.place ∙ sym q.place, ap (λ (l : List ℕ). (l, (tt, (tt, tt)))) (p.bytes ∙ sym q.bytes))

pub lay_label_one : OneOutcome 1 lay-label-kinds.ps lay-label-kinds.r lay-label.Post
lay_label_one κs a x y ws us p q = (p.place ∙ sym q.place, ap (λ (l : List ℕ). (l, (tt, (tt, tt)))) (p.bytes ∙ sym q.bytes))

pub lay_refusal_one : OneOutcome 1 lay-refusal-kinds.ps lay-refusal-kinds.r lay-refusal.Post
lay_refusal_one κs a x y ws us p q = (p.place ∙ sym q.place, ap (λ (l : List ℕ). (l, (tt, (tt, tt)))) (p.bytes ∙ sym q.bytes))

-- whatever is told of each stream ..
pub lay_lines_one : (T : RattleType) (L : Laws T) (line : told.Ghosts T.Denot) (d : Dict) → OneOutcome 4 (lay-lines-kinds.ps T L) (lay-lines-kinds.r T L) (lay-lines.Post T L line d)
lay_lines_one T L line d κs a x y ws us p q = (p.place ∙ sym q.place, ap (λ (l : List ℕ). (l, (tt, (tt, (tt, tt))))) (p.bytes ∙ sym q.bytes))

-- .. and whatever is put
pub put_one : (T : RattleType) (L : Laws T) (bytes : laid.Ghosts T.Denot) (d : Dict) → OneOutcome 3 (put-kinds.ps T L) (put-kinds.r T L) (put.Post T L bytes d)
put_one T L bytes d κs a x y ws us p q = (p.0 ∙ sym q.0, ap (λ (l : List ℕ). (l, (tt, tt))) (p.1 ∙ sym q.1))

pub listing_one : OneOutcome 2 listing-kinds.ps listing-kinds.r listing.Post
listing_one κs a x y ws us p q = (p.0 ∙ sym q.0, ap (λ (l : List ℕ). (tt, (tt, (l, tt)))) (p.1 ∙ sym q.1))

pub refused_one : OneOutcome 1 refused-kinds.ps refused-kinds.r refused.Post
refused_one κs a x y ws us p q = (p.0 ∙ sym q.0, ap (λ (l : List ℕ). (tt, (l, tt))) (p.1 ∙ sym q.1))
