-- Each return is an answer of the definition: a line of the values, 6, or the file; and nothing is put before the last of them. Assumes nothing.
use mathlib.Core.Path.{◌≡◌, sym, ap, ◌∙◌}
use mathlib.Core.List.{List}
use Prim.Native.Nat.{ℕ, ◌≤◌}
use native.Mathlib.Omega.{arith}
use Rattle.names.specs.Limits as limit
use Rattle.carried.specs.declared.Edition.{Edition}
use Rattle.plan.specs.Plan.{TimingWithin}
use Rattle.carried.specs.Carried.{Entered, meant_timing, entered_timing_in, entered_in}
use Rattle.carried.proofs.Plans.{timing_held}
use Rattle.std.specs.Prelude.{Ok}
use Rattle.std.proofs.lemmas.Result.{err_from_is_err_and}
use Rattle.judge.specs.Table.{judge}
use Rattle.checks.specs.Checks.{lines}
use Rattle.checks.proofs.Fine.{meant_is_right}
use Rattle.file.proofs.Writing.{write_refused, write_no_room, write_fine}
use Rattle.writer.proofs.Whole.{both}
use Rattle.writer.proofs.write_words.Goals as goal
use Rattle.writer.proofs.write_words.Goals.{In_ok-check_words}

-- what is asked about
abbrev asked : ℕ → ℕ → List ℕ → Entered
asked n m words = entered_in n m words

fine : (c : In_ok-check_words) → judge (lines c.args.counts.edition c.args.counts.n c.args.counts.m (asked c.args.counts.n c.args.counts.m c.args.words.now)) ≡ Ok tt
fine c = sym c.check_words.ensures ∙ c.in_ok-check_words.was

-- n is at most 256 and m at most 8, and the timing is within the limits
few : (x : Edition) (n m : ℕ) (v : Entered) → judge (lines x n m v) ≡ Ok tt → (n ≤ limit.streams) × (m ≤ limit.sources) × TimingWithin (meant_timing v.timing)
few x n m v e =
    let r = meant_is_right x n m v e in
    (omega (arith, r.count, r.within.count), omega (arith, r.sources, r.within.sources), r.within.timing)

few_here : (c : In_ok-check_words) → (c.args.counts.n ≤ limit.streams) × (c.args.counts.m ≤ limit.sources) × TimingWithin (meant_timing (asked c.args.counts.n c.args.counts.m c.args.words.now).timing)
few_here c = few c.args.counts.edition c.args.counts.n c.args.counts.m (asked c.args.counts.n c.args.counts.m c.args.words.now) (fine c)

pub returns-in_err-check_words-clause-value : goal.returns-in_err-check_words-clause-value
returns-in_err-check_words-clause-value c =
    let k = c.args.counts in
    let p = err_from_is_err_and c.from_residual.result c.from_residual.ensures.1 in
    rw (p.1, p.2) (both (write_refused k.edition k.n k.m (asked k.n k.m c.args.words.now) c.args.buf.now _ (sym c.check_words.ensures ∙ c.in_err-check_words.was))).0

pub returns-in_err-check_words-clause-buf_after : goal.returns-in_err-check_words-clause-buf_after
returns-in_err-check_words-clause-buf_after c =
    let k = c.args.counts in
    (both (write_refused k.edition k.n k.m (asked k.n k.m c.args.words.now) c.args.buf.now _ (sym c.check_words.ensures ∙ c.in_err-check_words.was))).1

pub overflow_cast-counts : goal.overflow_cast-counts
overflow_cast-counts c = omega (arith, few_here (goal.at.overflow_cast-counts c).In_ok-check_words)

pub overflow_cast-counts-2 : goal.overflow_cast-counts-2
overflow_cast-counts-2 c = omega (arith, few_here (goal.at.overflow_cast-counts-2 c).In_ok-check_words)

pub returns-then-no_room-clause-value : goal.returns-then-no_room-clause-value
returns-then-no_room-clause-value c =
    let f = (goal.at.returns-then-no_room-clause-value c).In_ok-check_words in
    (both (write_no_room c.args.counts.edition c.args.counts.n c.args.counts.m (asked c.args.counts.n c.args.counts.m c.args.words.now) c.args.buf.now (fine f) (omega (arith, c.if-no_room.true, c.size-bytes.ensures)))).0

pub returns-then-no_room-clause-buf_after : goal.returns-then-no_room-clause-buf_after
returns-then-no_room-clause-buf_after c =
    let f = (goal.at.returns-then-no_room-clause-buf_after c).In_ok-check_words in
    (both (write_no_room c.args.counts.edition c.args.counts.n c.args.counts.m (asked c.args.counts.n c.args.counts.m c.args.words.now) c.args.buf.now (fine f) (omega (arith, c.if-no_room.true, c.size-bytes.ensures)))).1

pub put_file-requires-clause-timing_value : goal.put_file-requires-clause-timing_value
unfolding entered_in
put_file-requires-clause-timing_value c =
    let f = (goal.at.put_file-requires-clause-timing_value c).In_ok-check_words in
    c.timing_in.ensures ∙ timing_held (entered_timing_in c.args.words.now) (few_here f).2

pub put_file-requires-clause-n_le_streams : goal.put_file-requires-clause-n_le_streams
put_file-requires-clause-n_le_streams c = (few_here (goal.at.put_file-requires-clause-n_le_streams c).In_ok-check_words).0

pub put_file-requires-clause-m_le_sources : goal.put_file-requires-clause-m_le_sources
put_file-requires-clause-m_le_sources c = (few_here (goal.at.put_file-requires-clause-m_le_sources c).In_ok-check_words).1

pub returns-clause-value : goal.returns-clause-value
returns-clause-value c =
    let f = (goal.at.returns-clause-value c).In_ok-check_words in
    let (x, y) = both (write_fine c.args.counts.edition c.args.counts.n c.args.counts.m (asked c.args.counts.n c.args.counts.m c.args.words.now) c.args.buf.now (fine f) (omega (arith, c.if-no_room.false, c.size-bytes.ensures))) in
    ap Ok c.size-bytes.ensures ∙ x

pub returns-clause-buf_after : goal.returns-clause-buf_after
returns-clause-buf_after c =
    let f = (goal.at.returns-clause-buf_after c).In_ok-check_words in
    let (x, y) = both (write_fine c.args.counts.edition c.args.counts.n c.args.counts.m (asked c.args.counts.n c.args.counts.m c.args.words.now) c.args.buf.now (fine f) (omega (arith, c.if-no_room.false, c.size-bytes.ensures))) in
    c.put_file.ensures ∙ y
