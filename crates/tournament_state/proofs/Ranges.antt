-- What a refusal of a state can be: its number is 7, 8 or 9, and its place is 0 or a row. Assumes nothing.
use mathlib.Core.Path.{◌≡◌, refl, sym}
use mathlib.Core.Bool.{Bool, true, false}
use mathlib.Core.List.{List, [], ◌∷◌}
use Prim.Native.Nat.{ℕ, zero, suc, ◌≤◌, ◌<◌}
use native.Mathlib.Omega.{arith}
use lib.ListN.{length, take, length-take, length-map}
use Rattle.names.specs.declared.Priority.{Priority}
use Rattle.names.specs.declared.Refusal.{Refusal}
use Rattle.names.specs.Limits.{contenders, bits}
use Rattle.std.specs.Prelude.{Option, Some, None, Err}
use Rattle.laws.proofs.Tests.{apart}
use Rattle.names.specs.declared.Row.{Row}
use Rattle.judge.specs.Table.{Line, unless, row_in, line_at}
use Rattle.tournament_state.specs.declared.Phase.{Phase}
use Rattle.tournament_state.specs.Refusals.{number, one_to, phase_inside, lowest_repeat, state_lines, verdict_of}
use Rattle.tournament_state.proofs.Meaning.{state_refused, place_of_eight, place_of_nine}

-- every line of a table is so
abbrev Each : (Line → Type 0) → List Line → Type 0
Each P [] = Unit {0}
Each P (l ∷ ls) = P l × Each P ls

each_at : (P : Line → Type 0) (ls : List Line) → Each P ls → (i : ℕ) → i < length ls → P (line_at ls i)
each_at P [] e i h = absurd (omega arith)
each_at P (l ∷ ls) e zero h = e.0
each_at P (l ∷ ls) e (suc i) h = each_at P ls e.1 i (omega arith)

at_zero : (most : ℕ) (t : Bool) (p : ℕ) → unless t ≡ Some p → p ≤ most
at_zero most true p e = absurd (apart (sym e))
at_zero most false p e = let z : 0 ≡ p = cc in omega arith

-- a place that is a row is one of the rows
at_row : (n : ℕ) (f : Option Row) → ((row : Row) → f ≡ Some row → row.0 < n) → (p : ℕ) → row_in f ≡ Some p → p ≤ n
at_row n (Some row) among p e = let z : row.0 ≡ p = cc in omega (arith, among row refl)
at_row n None among p e = absurd (apart (sym e))

module _ (NB n : ℕ) (places : List Priority) (phase : Phase) (r : Refusal) where
  pub refusal_range : verdict_of NB n places phase ≡ Err r → (7 ≤ r.number) × (r.number ≤ 9) × (r.place ≤ length places)
  refusal_range e =
      let g = (state_refused NB n places phase r).0 e in
      let (above, below, place) = each_at small (state_lines NB n places phase) each g.i g.among in
      (omega (arith, g.number), omega (arith, g.number), place r.place g.place)
    where
      small : Line → Type 0
      small l = (7 ≤ l.number) × (l.number ≤ 9) × ((p : ℕ) → l.place ≡ Some p → p ≤ length places)

      repeat : (row : Row) → lowest_repeat (take n places) ≡ Some row → row.0 < length (take n places)
      repeat row q = omega (arith, ((place_of_nine (take n places) row).0 q).0.among, length-map (take n places) number)

      each : Each small (state_lines NB n places phase)
      each = (
        (omega arith, omega arith, at_zero (length places) (one_to contenders n)),
        (
          (omega arith, omega arith, at_zero (length places) (one_to bits NB)),
          (
            (omega arith, omega arith, λ p e. omega (arith, at_row (length (take n places)) _ (λ row q. ((place_of_eight NB (take n places) row).0 q).0) p e, length-take n places)),
            (
              (omega arith, omega arith, at_zero (length places) (phase_inside NB n phase)),
              ((omega arith, omega arith, λ p e. omega (arith, at_row (length (take n places)) _ repeat p e, length-take n places)), tt),
            ),
          ),
        ),
      )
