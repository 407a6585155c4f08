-- There is room or there is not; the words that are put are the row's.
use mathlib.Core.Path.{ap, ◌∙◌}
use Prim.Native.Nat.{◌*◌}
use native.Mathlib.Omega.{arith}
use borrow.Author.Tests.{le-ltb}
use lib.Seq.{paste}
use Rattle.row_words.specs.RowWords.{with_row}
use Rattle.row_words.proofs.RowWords.{put_more, put_is, has_row_lem}
use Rattle.row_words.proofs.put.Goals as goal

pub returns-then-words-row-clause-words_after : goal.returns-then-words-row-clause-words_after
unfolding with_row
returns-then-words-row-clause-words_after g c = simp (le-ltb _ _ c.if-words-row.true)

pub loop-k-preserved : goal.loop-k-preserved
loop-k-preserved g c =
    let a = c.args in
    let room = has_row_lem g.row.W c.requires.some_words a.row.0 a.words.now c.if-words-row.false in
    put_more a.words.now a.own.now _ c.loop-k.k _ (omega arith) (omega (arith, room, c.told-own)) (omega (arith, c.told-own, c.loop-k-test.true)) c.loop-k.invariant

pub returns-clause-words_after : goal.returns-clause-words_after
returns-clause-words_after g c =
    let a = c.args in
    c.loop-k.invariant
    ∙ ap (paste a.words.now (g.row.W * a.row.0) a.own.now) (omega (arith, c.loop-k-test.false))
    ∙ put_is g.row.W a.row.0 a.words.now a.own.now c.if-words-row.false c.told-own
