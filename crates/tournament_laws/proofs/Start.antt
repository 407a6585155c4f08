-- A start, row by row, and what no number of steps changes. Assumes nothing.
use mathlib.Core.Path.{◌≡◌, refl, ap, ◌∙◌}
use mathlib.Core.Bool.{true, false}
use mathlib.Core.List.{List}
use Prim.Native.Nat.{ℕ, zero, suc, ◌+◌, ◌-◌, ◌≤◌, ◌<◌}
use native.Mathlib.Omega.{arith}
use lib.ListN.{length, get_or, take, replicate, length-append, length-take, length-replicate, get_or-replicate, get_or-append}
use lib.Seq.{get_or-take}
use Rattle.names.specs.declared.Priority.{Priority}
use Rattle.names.specs.Limits.{contenders}
use Rattle.tournament_state.specs.declared.Phase.{Phase, TheVariants.AtBit, TheVariants.Finished, TheVariants.NoWinner}
use Rattle.tournament_state.specs.declared.Tournament.{Tournament}
use Rattle.tournament_state.specs.Refusals.{none}
use Rattle.tournament.specs.Rule.{begun_of, is_in, next_at, next, steps}
use Rattle.tournament_laws.specs.Facts.{after, BitAfterBit, UnusedAtStart}
use Rattle.tournament_laws.proofs.Places.{past, one_value}
use Rattle.tournament_laws.proofs.Steps.{mark_unused, next_bit}

module _ (NB n : ℕ) (places : List Priority) where
  pub start_priority : (i : ℕ) → n ≤ length places → i < n → get_or (begun_of NB n places).priorities i none ≡ get_or places i none
  unfolding begun_of
  start_priority i l h =
      get_or-append (take n places) (replicate (contenders - n) none) none i (omega (arith, length-take n places)) ∙ get_or-take n places i none h

  pub start_long : n ≤ contenders → n ≤ length places → length (begun_of NB n places).priorities ≡ contenders
  unfolding begun_of
  start_long f l =
      omega (arith, length-append (take n places) (replicate (contenders - n) none), length-take n places, length-replicate (contenders - n) none)

  pub start_in : (i : ℕ) → i < n → is_in (begun_of NB n places) i ≡ true
  unfolding begun_of
  start_in i h =
      get_or-append (replicate n true) (replicate (contenders - n) false) false i (omega (arith, length-replicate n true)) ∙ get_or-replicate n i true false h

  start_unused : (i : ℕ) → n ≤ i → get_or (begun_of NB n places).priorities i none ≡ none
  unfolding begun_of
  start_unused i h =
      past (take n places) (replicate (contenders - n) none) none (length (take n places)) i refl (omega (arith, length-take n places))
      ∙ one_value (contenders - n) (i - length (take n places)) none

  start_out : (i : ℕ) → n ≤ i → is_in (begun_of NB n places) i ≡ false
  unfolding begun_of
  start_out i h =
      past (replicate n true) (replicate (contenders - n) false) false n i (length-replicate n true) h ∙ one_value (contenders - n) (i - n) false

-- ---- what a step keeps
pub record StepKeeps (t s : Tournament) : Type 0 where
  pub bits : s.bits ≡ t.bits
  pub count : s.count ≡ t.count
  pub priorities : s.priorities ≡ t.priorities
  pub unused : (i : ℕ) → t.count ≤ i → is_in s i ≡ is_in t i

pub kept_next : (t : Tournament) → StepKeeps t (next t)
unfolding next_at
kept_next t = by_phase t.phase
  where
    by_phase : (p : Phase) → StepKeeps t (next_at t p)
    by_phase (AtBit k) = record { bits = refl; count = refl; priorities = refl; unused = λ i h. mark_unused t k i h }
    by_phase (Finished row) = record { bits = refl; count = refl; priorities = refl; unused = λ i h. refl }
    by_phase NoWinner = record { bits = refl; count = refl; priorities = refl; unused = λ i h. refl }

pub kept : (t : Tournament) (k : ℕ) → StepKeeps t (steps k t)
unfolding steps
kept t zero = record { bits = refl; count = refl; priorities = refl; unused = λ i h. refl }
kept t (suc k) =
    let a = kept t k in
    let b = kept_next (steps k t) in
    record {
      bits = b.bits ∙ a.bits;
      count = b.count ∙ a.count;
      priorities = b.priorities ∙ a.priorities;
      unused = λ i h. b.unused i (omega (arith, a.count)) ∙ a.unused i h;
    }

-- a start's own numbers
pub start_bits : (NB n : ℕ) (places : List Priority) → (begun_of NB n places).bits ≡ NB
unfolding begun_of
start_bits NB n places = refl

pub start_count : (NB n : ℕ) (places : List Priority) → (begun_of NB n places).count ≡ n
unfolding begun_of
start_count NB n places = refl

pub start_phase : (NB n : ℕ) (places : List Priority) → (begun_of NB n places).phase ≡ AtBit 1
unfolding begun_of
start_phase NB n places = refl

pub unused_at_start : UnusedAtStart
unused_at_start NB n places k i h =
    let t = begun_of NB n places in
    let s = kept t k in (
      ap (λ l. get_or l i none) s.priorities ∙ start_unused NB n places i h,
      s.unused i (rw (start_count NB n places) h) ∙ start_out NB n places i h,
    )

pub bit_after_bit : BitAfterBit
unfolding steps begun_of
bit_after_bit NB n places zero h = refl
bit_after_bit NB n places (suc k) h =
    let t = after NB n places k in
    let e = bit_after_bit NB n places k (omega arith) in
    let b : t.bits ≡ NB = (kept (begun_of NB n places) k).bits ∙ start_bits NB n places in
    let q : suc k + 1 ≡ k + 1 + 1 = omega arith in
    rw q (next_bit t (k + 1) e (omega arith))
