-- The table is judged part by part; counts in range are no more than a plan may have. Assumes nothing.
use mathlib.Core.Path.{◌≡◌, sym, ap, ap₂, ◌∙◌}
use mathlib.Core.List.{List, []}
use Prim.Native.Nat.{ℕ, min, ◌≤◌}
use native.Mathlib.Omega.{arith}
use Rattle.names.specs.Limits.{streams, sources}
use Rattle.names.specs.declared.Refusal.{Refusal}
use Rattle.std.specs.Prelude.{Ok, Err}
use Rattle.judge.specs.Table.{Checked}
use Rattle.judge.specs.Table.{judge, ◌then◌}
use Rattle.judge.proofs.Table.{not_given}
use Rattle.plan.specs.Plan.{TimingWithin}
use Rattle.carried.specs.declared.Edition.{Edition}
use Rattle.carried.specs.Carried.{entered_timing_in, timing_in, streams_in, entered_in}
use Rattle.fields.specs.Fields.{fields}
use Rattle.fields.proofs.Inside.{nothing_if_inside}
use Rattle.fields.proofs.Limits.{inside_if_fields_within}
use Rattle.checks.specs.Checks.{range_lines, field_lines, lag_lines, row_lines, slot_lines, lines}
use Rattle.checks.proofs.Counts.{fine_range, carried_in_parts}
use Rattle.checks.proofs.Fine.{byte_not, lag_fine, another_etg}
use Rattle.checks.proofs.check_words.Goals as goal
use Rattle.std.proofs.lemmas.Result.{err_from_is_err_and}

-- the parts of the table of what is asked about, once those before are known to be fine
module _ (edition : Edition) (n m : ℕ) (ws : List ℕ) where
  abbrev all : Checked
  all = judge (lines edition n m (entered_in n m ws))

  abbrev fields_of : ℕ → ℕ → Checked
  fields_of i j = judge (field_lines edition (entered_in i j ws))

  abbrev lag_of : Checked
  lag_of = judge (lag_lines (entered_timing_in ws))

  abbrev rows_of : ℕ → Checked
  rows_of k = judge (row_lines (streams_in k ws))

  abbrev slots_of : ℕ → Checked
  slots_of k = judge (slot_lines (timing_in ws) (streams_in k ws))

  -- the table of what is asked about, part by part
  parts : all ≡ judge (range_lines edition n m) then fields_of n m then lag_of then rows_of n then slots_of n
  unfolding entered_in
  parts = carried_in_parts edition n m ws

  counts_refused : (r : Refusal) → judge (range_lines edition n m) ≡ Err r → all ≡ Err r
  counts_refused r e = parts ∙ ap (λ c. c then fields_of n m then lag_of then rows_of n then slots_of n) e

  module _ (fine : judge (range_lines edition n m) ≡ Ok tt) where
    -- the plan is no larger than it may be
    few : n ≤ streams
    few = (fine_range edition n m fine).1

    least : (min n streams ≡ n) × (min m sources ≡ m)
    least = (omega (arith, few), omega (arith, (fine_range edition n m fine).2))

    after_fields : (c : Checked) → fields_of (min n streams) (min m sources) ≡ c → all ≡ c then lag_of then rows_of n then slots_of n
    after_fields c e =
        parts
        ∙ ap (λ c. c then fields_of n m then lag_of then rows_of n then slots_of n) fine
        ∙ ap (λ c. c then lag_of then rows_of n then slots_of n) (ap₂ fields_of (sym least.0) (sym least.1) ∙ e)

    module _ (inside : fields_of (min n streams) (min m sources) ≡ Ok tt) where
      after_lag : (c : Checked) → lag_of ≡ c → all ≡ c then rows_of n then slots_of n
      after_lag c e = after_fields (Ok tt) inside ∙ ap (λ c. c then rows_of n then slots_of n) e

      module _ (folds : lag_of ≡ Ok tt) where
        after_rows : (c : Checked) → rows_of (min n streams) ≡ c → all ≡ c then slots_of n
        after_rows c e = after_lag (Ok tt) folds ∙ ap (λ c. c then slots_of n) (ap rows_of (sym least.0) ∙ e)

        -- the timing that is meant is within the limits
        timing : TimingWithin (timing_in ws)
        unfolding entered_in
        timing =
            let v = entered_in (min n streams) (min m sources) ws in
            let w = (inside_if_fields_within edition v).0 ((nothing_if_inside 0 (fields edition v)).0 (byte_not edition _ _ (not_given _ _ inside).0)) in
            another_etg (entered_timing_in ws) w.timing (lag_fine (entered_timing_in ws) [] folds)

pub returns-in_err-check_counts : goal.returns-in_err-check_counts
returns-in_err-check_counts c =
    let a = c.args in
    let p = err_from_is_err_and c.from_residual.result c.from_residual.ensures.1 in
    rw (p.1, p.2) (sym (counts_refused a.counts.edition a.counts.n a.counts.m a.words.now _ (sym c.check_counts.ensures ∙ c.in_err-check_counts.was)))

pub returns-in_err-check_fields : goal.returns-in_err-check_fields
returns-in_err-check_fields c =
    let a = c.args in
    let p = err_from_is_err_and c.from_residual-in_err-check_fields.result c.from_residual-in_err-check_fields.ensures.1 in
    rw (p.1, p.2) (sym (after_fields a.counts.edition a.counts.n a.counts.m a.words.now (sym c.check_counts.ensures ∙ c.in_ok-check_counts.was) (Err _) (sym c.check_fields.ensures ∙ c.in_err-check_fields.was)))

pub returns-in_err-check_lag : goal.returns-in_err-check_lag
returns-in_err-check_lag c =
    let a = c.args in
    let p = err_from_is_err_and c.from_residual-in_err-check_lag.result c.from_residual-in_err-check_lag.ensures.1 in
    rw (p.1, p.2) (sym (after_lag a.counts.edition a.counts.n a.counts.m a.words.now (sym c.check_counts.ensures ∙ c.in_ok-check_counts.was) (sym c.check_fields.ensures ∙ c.in_ok-check_fields.was) (Err _) (sym c.check_lag.ensures ∙ c.in_err-check_lag.was)))

pub returns-in_err-check_rows : goal.returns-in_err-check_rows
returns-in_err-check_rows c =
    let a = c.args in
    let p = err_from_is_err_and c.from_residual-in_err-check_rows.result c.from_residual-in_err-check_rows.ensures.1 in
    rw (p.1, p.2) (sym (after_rows a.counts.edition a.counts.n a.counts.m a.words.now (sym c.check_counts.ensures ∙ c.in_ok-check_counts.was) (sym c.check_fields.ensures ∙ c.in_ok-check_fields.was) (sym c.check_lag.ensures ∙ c.in_ok-check_lag.was) (Err _) (sym c.check_rows.ensures ∙ c.in_err-check_rows.was)))

pub returns : goal.returns
returns c =
    let a = c.args in
    c.check_slots.ensures ∙ sym (after_rows a.counts.edition a.counts.n a.counts.m a.words.now (sym c.check_counts.ensures ∙ c.in_ok-check_counts.was) (sym c.check_fields.ensures ∙ c.in_ok-check_fields.was) (sym c.check_lag.ensures ∙ c.in_ok-check_lag.was) (Ok tt) (sym c.check_rows.ensures ∙ c.in_ok-check_rows.was))

pub check_slots-requires-clause-timing_within : goal.check_slots-requires-clause-timing_within
check_slots-requires-clause-timing_within c = let a = c.args in timing a.counts.edition a.counts.n a.counts.m a.words.now (sym c.check_counts.ensures ∙ c.in_ok-check_counts.was) (sym c.check_fields.ensures ∙ c.in_ok-check_fields.was) (sym c.check_lag.ensures ∙ c.in_ok-check_lag.was)

pub check_slots-requires-clause-n_le_streams : goal.check_slots-requires-clause-n_le_streams
check_slots-requires-clause-n_le_streams c = let a = c.args in few a.counts.edition a.counts.n a.counts.m a.words.now (sym c.check_counts.ensures ∙ c.in_ok-check_counts.was)
