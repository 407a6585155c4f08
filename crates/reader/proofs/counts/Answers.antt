-- Each return is a line of the contents' table, and the tests that led there say that the lines before it are not given. The ranges are
-- looked at before the other contents words, which changes nothing: both are 2 at 0. Assumes nothing.
use mathlib.Core.Path.{◌≡◌, refl, sym, ap, ap₂, ◌∙◌}
use mathlib.Core.Bool.{true, false, and-false}
use mathlib.Core.List.{List}
use Prim.Native.Nat.{ℕ, ◌*◌, ◌/◌, ◌≤◌, ◌<◌}
use native.Mathlib.Omega.{arith}
use borrow.Author.Tests.{le-leb, lt-leb, eq-eqb, ne_eqb}
use lib.ListN.{length, take}
use Rattle.names.specs.Limits.{streams, sources}
use Rattle.words.specs.Words.{words_of}
use Rattle.std.specs.Prelude.{Ok}
use Rattle.judge.specs.Table.{judge}
use Rattle.carried.specs.declared.Edition.{Edition}
use Rattle.carried.specs.Layout as layout
use Rattle.checks.specs.Checks.{range_lines}
use Rattle.checks.proofs.Counts.{fine_range}
use Rattle.file.specs.File.{edition_in, count_in, sources_in, same, contents, size_right, contents_right, counts_of}
use Rattle.file.proofs.Reading.{refused_counts, said_size, said_contents, said_ranges, said_counts}
use Rattle.reader.proofs.counts.Goals as goal
use Rattle.reader.proofs.counts.Goals.{After-word_at-2}
use Rattle.std.proofs.lemmas.Result.{err_from_is_err_and}

module _ (bs : List ℕ) where
  too_short : length bs < layout.byte_of 0 → size_right bs ≡ false
  too_short h = simp (lt-leb (layout.byte_of 0) (length bs) h)

  too_long : layout.largest_file < length bs → size_right bs ≡ false
  too_long h = simp (lt-leb (length bs) layout.largest_file h, and-false)

  right_size : layout.byte_of 0 ≤ length bs → length bs ≤ layout.largest_file → size_right bs ≡ true
  right_size h k = simp (le-leb (layout.byte_of 0) (length bs) h, le-leb (length bs) layout.largest_file k)

  module _ (x : Edition) (n m : ℕ) where
    wrong_words : same (take layout.contents_length (words_of bs)) (contents x n m) ≡ false → contents_right x n m bs ≡ false
    wrong_words e = rw e refl

    wrong_end : (length bs ≡ layout.size x n m → ⊥) → contents_right x n m bs ≡ false
    wrong_end h = simp (ne_eqb (length bs) (layout.size x n m) h, and-false)

    right_contents : same (take layout.contents_length (words_of bs)) (contents x n m) ≡ true → length bs ≡ layout.size x n m → contents_right x n m bs ≡ true
    right_contents e h = rw e (eq-eqb (length bs) (layout.size x n m) h)

-- the file's length is that of a file
one : (c : After-word_at-2) → size_right c.args.bytes.now ≡ true
one c = right_size c.args.bytes.now (omega arith) (omega (arith, c.size.ensures))

-- what the code has once the two counts are read: the bytes, the edition, n and m
abbrev bs_at : After-word_at-2 → List ℕ
bs_at w = w.args.bytes.now

abbrev x_at : After-word_at-2 → Edition
x_at w = w.edition_in-edition.result

abbrev n_at : After-word_at-2 → ℕ
n_at w = w.word_at.result / (layout.word * w.stream_body.result)

abbrev m_at : After-word_at-2 → ℕ
m_at w = w.word_at-2.result / layout.word

-- they are those that the contents state
x_is : (w : After-word_at-2) → edition_in (words_of (bs_at w)) ≡ x_at w
x_is w = sym w.edition_in-edition.ensures

n_is : (w : After-word_at-2) → count_in (x_at w) (words_of (bs_at w)) ≡ n_at w
n_is w = ap₂ (λ x s. x / (layout.word * s)) (sym w.word_at.ensures) (sym w.stream_body.ensures.value)

m_is : (w : After-word_at-2) → sources_in (words_of (bs_at w)) ≡ m_at w
m_is w = ap (λ x. x / layout.word) (sym w.word_at-2.ensures)

contents_refused : (w : After-word_at-2) → contents_right (x_at w) (n_at w) (m_at w) (bs_at w) ≡ false → counts_of (bs_at w) ≡ refused_counts 2
contents_refused w = said_contents (bs_at w) (x_at w) (n_at w) (m_at w) (x_is w) (n_is w) (m_is w) (one w)

-- n and m are in their ranges
few : (w : After-word_at-2) → judge (range_lines (x_at w) (n_at w) (m_at w)) ≡ Ok tt → (1 ≤ n_at w) × (n_at w ≤ streams) × (m_at w ≤ sources)
few w fine = fine_range (x_at w) (n_at w) (m_at w) fine

pub returns-then-length : goal.returns-then-length
returns-then-length c =
    let b = c.args.bytes.now in
    c.refused_counts.ensures ∙ sym (said_size b (too_short b c.if-length.true))

pub returns-then-size-length : goal.returns-then-size-length
returns-then-size-length c =
    let b = c.args.bytes.now in
    c.refused_counts-then-size-length.ensures ∙ sym (said_size b (too_long b (omega (arith, c.size.ensures, c.if-size-length.true))))

pub returns-in_err-check_counts : goal.returns-in_err-check_counts
returns-in_err-check_counts c =
    let w = (goal.at.returns-in_err-check_counts c).After-word_at-2 in
    let p = err_from_is_err_and c.from_residual.result c.from_residual.ensures.1 in
    rw (p.1, p.2) (sym (said_ranges (bs_at w) (x_at w) (n_at w) (m_at w) (x_is w) (n_is w) (m_is w) (one w) _ (sym c.check_counts.ensures ∙ c.in_err-check_counts.was)))

pub contents_in-requires-clause-n_le_streams : goal.contents_in-requires-clause-n_le_streams
contents_in-requires-clause-n_le_streams c = (few (goal.at.contents_in-requires-clause-n_le_streams c).After-word_at-2 (sym c.check_counts.ensures ∙ c.in_ok-check_counts.was)).1

pub contents_in-requires-clause-m_le_sources : goal.contents_in-requires-clause-m_le_sources
contents_in-requires-clause-m_le_sources c = (few (goal.at.contents_in-requires-clause-m_le_sources c).After-word_at-2 (sym c.check_counts.ensures ∙ c.in_ok-check_counts.was)).2

pub returns-then-not-contents_in : goal.returns-then-not-contents_in
returns-then-not-contents_in c =
    let w = (goal.at.returns-then-not-contents_in c).After-word_at-2 in
    c.refused_counts-then-not-contents_in.ensures
    ∙ sym (contents_refused w (wrong_words (bs_at w) (x_at w) (n_at w) (m_at w) (sym c.contents_in.ensures ∙ c.if-not-contents_in.true)))

pub overflow_cast-n-2 : goal.overflow_cast-n-2
overflow_cast-n-2 c = omega (arith, (few (goal.at.overflow_cast-n-2 c).After-word_at-2 (sym c.check_counts.ensures ∙ c.in_ok-check_counts.was)).1)

pub overflow_cast-m-2 : goal.overflow_cast-m-2
overflow_cast-m-2 c = omega (arith, (few (goal.at.overflow_cast-m-2 c).After-word_at-2 (sym c.check_counts.ensures ∙ c.in_ok-check_counts.was)).2)

pub returns-then-length-size : goal.returns-then-length-size
returns-then-length-size c =
    let w = (goal.at.returns-then-length-size c).After-word_at-2 in
    c.refused_counts-then-length-size.ensures
    ∙ sym (contents_refused w (wrong_end (bs_at w) (x_at w) (n_at w) (m_at w) (λ e. c.if-length-size.true (e ∙ sym c.size-2.ensures))))

pub returns : goal.returns
returns c =
    let w = (goal.at.returns c).After-word_at-2 in
    let right = right_contents (bs_at w) (x_at w) (n_at w) (m_at w) (sym c.contents_in.ensures ∙ c.if-not-contents_in.false) (c.if-length-size.false ∙ c.size-2.ensures) in
    sym (said_counts (bs_at w) (x_at w) (n_at w) (m_at w) (x_is w) (n_is w) (m_is w) (one w) right (sym c.check_counts.ensures ∙ c.in_ok-check_counts.was))
