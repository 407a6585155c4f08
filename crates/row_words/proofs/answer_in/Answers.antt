-- The words are all there or not; they are the row's.
use mathlib.Core.Path.{◌≡◌, refl, ap, ◌∙◌}
use mathlib.Core.List.{[]}
use Prim.Native.Nat.{◌*◌, ◌/◌, ◌≤◌}
use native.Mathlib.Nat.{add-zero}
use native.Mathlib.Omega.{arith}
use borrow.Author.Tests.{lt-ltb, le-ltb}
use lib.ListN.{length, get_or}
use Rattle.row_words.specs.RowWords.{words_per_row, answer_at}
use Rattle.row_words.proofs.RowWords.{row_there, row_word}
use Rattle.row_words.proofs.answer_in.Goals as goal

pub returns-in-Some : goal.returns-in-Some
unfolding answer_at
returns-in-Some c =
    let a = c.args in
    let ws = a.words.now in
    let k = a.row.0 in
    let cut = c.as_chunks.ensures.front in
    let found = c.in-Some.ensures.lookup.3 in
    let h = row_there words_per_row k ws cut found.0 in
    let word = row_word words_per_row k ws cut found.0 (found.1 []) in
    let first : get_or c.in-Some.own.now 0 0 ≡ get_or ws (words_per_row * k) 0 = word 0 (omega arith) ∙ ap (λ i. get_or ws i 0) (add-zero (words_per_row * k)) in
    rw (lt-ltb _ _ h, c.verdict.ensures, first, word 1 (omega arith), word 2 (omega arith)) refl

pub returns-in-None : goal.returns-in-None
unfolding answer_at
returns-in-None c =
    let h : length c.args.words.now / words_per_row ≤ c.args.row.0 = omega (arith, c.in-None.ensures.lookup.3, c.as_chunks.ensures.front_len) in
    simp (le-ltb _ _ h)
