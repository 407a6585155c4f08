-- The contracts determine the outcomes: each equates the result with one value. Assumes nothing.
use mathlib.Core.Path.{◌≡◌, refl, sym, ap, ◌∙◌}
use Prim.Native.Nat.{ℕ}
use native.Mathlib.Omega.{arith}
use borrow.Fn.Kinds.{Dens, res_t, ended_of}
use contract.Lifetimes.{Lfts}
use denote.Triple.Clauses.{Lasts, at_exit}
use mathlib.Core.List.{List}
use Rattle.std.specs.Prelude.{Option, Some, None}
use Rattle.std.specs.Option.{option_map}
use Rattle.std.specs.Borrow.{Bor}
use Rattle.std.specs.Iterator.{YieldsFirstBy}
use Rattle.pairs.specs.declared.Lines.{Lines}
use Rattle.pairs.specs.Lines.{both_now, lines_left}
use Rattle.laws.specs.Determined.{OneOutcome}
use Rattle.pairs.proofs.line_at.Kinds as line-at-kinds
use Rattle.pairs.proofs.line_at.Reads as line_at
use Rattle.pairs.proofs.lines_of.Kinds as lines-of-kinds
use Rattle.pairs.proofs.lines_of.Reads as lines_of
use Rattle.pairs.proofs.name_in.Kinds as name-in-kinds
use Rattle.pairs.proofs.name_in.Reads as name_in
use Rattle.pairs.proofs.next_line.Kinds as next-line-kinds
use Rattle.pairs.proofs.next_line.Reads as next_line

pub line_at_one : OneOutcome 1 line-at-kinds.ps line-at-kinds.r line_at.Post
line_at_one κs a x y ws us p q = (p ∙ sym q, refl)

-- `name_in` hands back a part of what it was lent: its bytes are determined, and where they stand in memory is not said
pub name_in_one : (κs : Lfts 1) (a : Dens κs name-in-kinds.ps) (x y : (res_t name-in-kinds.r κs).Denot) (ws us : Lasts (ended_of 1 name-in-kinds.ps name-in-kinds.r) κs a)
    → name_in.Post κs a x (at_exit (ended_of 1 name-in-kinds.ps name-in-kinds.r) κs a ws) → name_in.Post κs a y (at_exit (ended_of 1 name-in-kinds.ps name-in-kinds.r) κs a us) → x.now ≡ y.now
name_in_one κs a x y ws us p q = p ∙ sym q

pub next_line_one : OneOutcome 1 next-line-kinds.ps next-line-kinds.r next_line.Post
next_line_one κs a x y ws us p q = (p ∙ sym q, refl)

-- `lines_of` keeps a reference to what it was lent: which lines it has is determined
pub lines_of_one : (κs : Lfts 1) (a : Dens κs lines-of-kinds.ps) (x y : (res_t lines-of-kinds.r κs).Denot) (ws us : Lasts (ended_of 1 lines-of-kinds.ps lines-of-kinds.r) κs a)
    → lines_of.Post κs a x (at_exit (ended_of 1 lines-of-kinds.ps lines-of-kinds.r) κs a ws) → lines_of.Post κs a y (at_exit (ended_of 1 lines-of-kinds.ps lines-of-kinds.r) κs a us)
    → lines_left x ≡ lines_left y
lines_of_one κs a x y ws us p q = p.0 ∙ sym q.0

-- .. and so is which one comes next, and which are left then
pub next_one : (s t u : Lines) (x y : Option (Option (Bor (List ℕ) × Bor (List ℕ)))) → YieldsFirstBy both_now lines_left s x t → YieldsFirstBy both_now lines_left s y u
    → (option_map both_now x ≡ option_map both_now y) × (lines_left t ≡ lines_left u)
next_one s t u None None p q = (refl, p.1 ∙ sym q.1)
next_one s t u None (Some y) p q = absurd (let z : ◌≡◌ {A = ℕ} 0 1 = let d = sym p.0 ∙ q in cc in omega arith)
next_one s t u (Some x) None p q = absurd (let z : ◌≡◌ {A = ℕ} 0 1 = let d = sym q.0 ∙ p in cc in omega arith)
next_one s t u (Some x) (Some y) p q =
    let d = sym p ∙ q in
    let first : both_now x ≡ both_now y = cc in
    (ap Some first, cc)
