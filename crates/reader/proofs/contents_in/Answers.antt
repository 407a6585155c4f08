use mathlib.Core.Path.{◌≡◌, sym, ap, ◌∙◌}
use mathlib.Core.List.{List}
use Prim.Native.Nat.{ℕ, ◌*◌, ◌≤◌}
use native.Mathlib.Omega.{arith}
use lib.ListN.{length, take}
use lib.Seq.{get_or-take, length-take-le}
use Rattle.carried.specs.Layout as layout
use Rattle.words.specs.Words.{words_of}
use Rattle.words.proofs.Laws.{length_words}
use Rattle.file.specs.File.{same}
use Rattle.file.proofs.Same.{differ, agree, compared}
use Rattle.reader.proofs.contents_in.Goals as goal

eleven : (bytes : List ℕ) → layout.word * layout.contents_length ≤ length bytes → length (take layout.contents_length (words_of bytes)) ≡ layout.contents_length
eleven bytes h = length-take-le layout.contents_length (words_of bytes) (omega (arith, length_words bytes))

pub returns-then-word_at-right : goal.returns-then-word_at-right
returns-then-word_at-right c =
    let a = c.args in
    let w = c.word_at.ensures ∙ sym (get_or-take layout.contents_length (words_of a.bytes.now) c.loop-k.k 0 (omega arith)) in
    sym (ap (same (take layout.contents_length (words_of a.bytes.now))) (sym c.contents-right.ensures)
    ∙ differ _ _ c.loop-k.k c.loop-k.invariant (omega (arith, eleven a.bytes.now (omega arith))) (omega (arith, ap length c.contents-right.ensures)) (λ e. c.if-word_at-right.true (w ∙ e)))

pub loop-k-preserved : goal.loop-k-preserved
loop-k-preserved c =
    let a = c.args in
    let w = c.word_at.ensures ∙ sym (get_or-take layout.contents_length (words_of a.bytes.now) c.loop-k.k 0 (omega arith)) in
    agree _ _ c.loop-k.k c.loop-k.invariant (omega (arith, eleven a.bytes.now (omega arith))) (omega (arith, ap length c.contents-right.ensures)) (sym w ∙ c.if-word_at-right.false)

pub returns : goal.returns
returns c =
    let a = c.args in
    sym (ap (same (take layout.contents_length (words_of a.bytes.now))) (sym c.contents-right.ensures)
    ∙ compared _ _ c.loop-k.k c.loop-k.invariant (omega (arith, eleven a.bytes.now (omega arith))) (omega (arith, ap length c.contents-right.ensures)))
