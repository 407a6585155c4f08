-- The contents' lines are 1 and 2, and those of the values are 3 or more, none of them 6. Assumes nothing.
use Rattle.file.specs.File.{read_said, counts_said}
use mathlib.Core.Path.{◌≡◌, refl, sym, ap, ◌∙◌, subst}
use mathlib.Core.List.{List}
use Prim.Native.Nat.{ℕ, zero, suc, ◌≤◌, ◌<◌}
use native.Mathlib.Omega.{arith}
use lib.ListN.{length}
use Rattle.names.specs.declared.Refusal.{Refusal}
use Rattle.words.specs.Words.{words_of}
use Rattle.plan.specs.Plan.{Plan}
use Rattle.carried.specs.declared.Edition.{Edition}
use Rattle.carried.specs.Carried.{Entered}
use Rattle.std.specs.Prelude.{Ok, Err}
use Rattle.judge.specs.Table.{Checked}
use Rattle.judge.specs.Table.{Line, judge, line_at}
use Rattle.checks.specs.Checks.{value_lines}
use Rattle.judge.proofs.Table.{fine_then, refused_by_the_first}
use Rattle.file.specs.File.{edition_in, count_in, sources_in, entered_at, plan_at, contents_lines, lines_in, counts_of, read_as, read_of}
use Rattle.carried.specs.declared.Counts.{Counts}
use Rattle.std.specs.Prelude.{Result}
use Rattle.file.specs.Claims.{ContentsRefused}
use Rattle.file.proofs.Reading.{as_refused, counts_refused, first_fine}

-- the answer to a reading is that to its lines
answer_refused : (c : Checked) (p : Plan) (r : Refusal) → read_said (read_as c p) ≡ Err r → c ≡ Err r
answer_refused (Ok _) p r e = e
answer_refused (Err q) p r e = e

-- a refusal has the number of one of its lines
number_of : (P : ℕ → Type 0) (ls : List Line) (r : Refusal) → ((i : ℕ) → i < length ls → P (line_at ls i).number) → judge ls ≡ Err r → P r.number
number_of P ls r h e = let g = (refused_by_the_first ls r).0 e in subst P g.number (h g.i g.among)

first_number : (edition : Edition) (n m : ℕ) (bs : List ℕ) (i : ℕ) → i < 3 → (line_at (contents_lines edition n m bs) i).number ≤ 2
first_number edition n m bs zero h = omega arith
first_number edition n m bs (suc zero) h = omega arith
first_number edition n m bs (suc (suc zero)) h = omega arith
first_number edition n m bs (suc (suc (suc i))) h = absurd (omega arith)

-- no line of the values has a number below 3, nor is one a 6, which is for lent memory
value_number : (edition : Edition) (v : Entered) (i : ℕ) → i < 5 → (3 ≤ (line_at (value_lines edition v) i).number) × ((line_at (value_lines edition v) i).number ≡ 6 → ⊥)
value_number edition v zero h = (omega arith, λ e. omega arith)
value_number edition v (suc zero) h = (omega arith, λ e. omega arith)
value_number edition v (suc (suc zero)) h = (omega arith, λ e. omega arith)
value_number edition v (suc (suc (suc zero))) h = (omega arith, λ e. omega arith)
value_number edition v (suc (suc (suc (suc zero)))) h = (omega arith, λ e. omega arith)
value_number edition v (suc (suc (suc (suc (suc i))))) h = absurd (omega arith)

module _ (bs : List ℕ) (r : Refusal) where
  small : counts_of bs ≡ Err r → r.number ≤ 2
  unfolding counts_of
  small e =
      let x = edition_in (words_of bs) in
      let n = count_in x (words_of bs) in
      let m = sources_in (words_of bs) in
      number_of (λ k. k ≤ 2) (contents_lines x n m bs) r (first_number x n m bs) (as_refused x n m (judge (contents_lines x n m bs)) r e)

  by_values : (x : Edition) (n m : ℕ) → counts_of bs ≡ counts_said x n m → read_said (read_of bs) ≡ Err r → (3 ≤ r.number) × (r.number ≡ 6 → ⊥)
  unfolding read_of
  by_values x n m e d =
      let (x-is, n-is, m-is, fine) = first_fine bs x n m e in
      let v = entered_at x n m bs in
      let p = plan_at x n m bs in
      let j : judge (lines_in x n m bs) ≡ Err r = answer_refused (judge (lines_in x n m bs)) p r (rw (x-is, n-is, m-is) at d) in
      number_of (λ k. (3 ≤ k) × (k ≡ 6 → ⊥)) (value_lines x v) r (value_number x v) (sym (fine_then (contents_lines x n m bs) (value_lines x v) fine) ∙ j)

  only : (c : Result Counts Refusal) → counts_of bs ≡ c → (read_said (read_of bs) ≡ Err r) × (r.number ≤ 2) → counts_of bs ≡ Err r
  only (Ok k) e (d, h) = absurd (omega (arith, (by_values k.edition k.n k.m e d).0))
  only (Err q) e (d, h) =
      let same : ◌≡◌ {A = Checked} (Err q) (Err r) = sym (ap read_said (counts_refused bs q e)) ∙ d in
      let s : q ≡ r = cc in
      e ∙ ap Err s

  -- reading never says 6
  never_six : (c : Result Counts Refusal) → counts_of bs ≡ c → read_said (read_of bs) ≡ Err r → r.number ≡ 6 → ⊥
  never_six (Ok k) e d six = (by_values k.edition k.n k.m e d).1 six
  never_six (Err q) e d six =
      let same : ◌≡◌ {A = Checked} (Err q) (Err r) = sym (ap read_said (counts_refused bs q e)) ∙ d in
      let s : q ≡ r = cc in
      omega (arith, small (e ∙ ap Err s))

pub refused_number : (bs : List ℕ) (r : Refusal) → read_said (read_of bs) ≡ Err r → r.number ≡ 6 → ⊥
refused_number bs r d = never_six bs r (counts_of bs) refl d

pub contents_refused : ContentsRefused
contents_refused bs r = (λ e. (ap read_said (counts_refused bs r e), small bs r e), only bs r (counts_of bs) refl)
