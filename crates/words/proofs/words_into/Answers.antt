-- After i turns the first i words stand at the front and the rest is as it was; there are as many turns as words that have room. Assumes nothing.
use mathlib.Core.Path.{ap, ◌∙◌}
use mathlib.Core.List.{List, []}
use Prim.Native.Nat.{ℕ, ◌/◌, ◌<◌}
use native.Mathlib.Omega.{arith}
use lib.ListN.{length, get_or}
use Rattle.std.proofs.lemmas.List.{length-take, get_or-take}
use Rattle.std.specs.Int.{w32, from_le_bytes}
use Rattle.words.specs.Words.{words_of}
use Rattle.words.proofs.Laws.{length_words, four_at, laid_next, laid_all}
use Rattle.words.proofs.words_into.Goals as goal

pub loop-i-preserved : goal.loop-i-preserved
loop-i-preserved c =
    let a = c.args in
    let i = c.loop-i.i in
    let fours = c.as_chunks.result.0.now in
    let long = length-take {A = List ℕ} c.smaller-n.result fours in
    let h : i < c.smaller-n.result = omega (arith, long) in
    let m : i < length a.bytes.now / 4 = omega (arith, c.smaller-n.ensures, c.as_chunks.ensures.front_len) in
    laid_next (words_of a.bytes.now) a.out.now i (omega (arith, length_words a.bytes.now)) (omega (arith, c.smaller-n.ensures)) c.loop-i.invariant
    (
    c.joined.ensures
    ∙ ap (from_le_bytes w32) (get_or-take c.smaller-n.result fours i [] h ∙ ap (λ xs. get_or xs i []) c.as_chunks.ensures.front)
    ∙ four_at a.bytes.now (length a.bytes.now / 4) i [] m (omega arith)
    )

pub returns : goal.returns
returns c =
    let a = c.args in
    let long = length-take {A = List ℕ} c.smaller-n.result c.as_chunks.result.0.now in
    c.loop-i.invariant
    ∙ laid_all (words_of a.bytes.now) a.out.now c.loop-i.i (omega (arith, long, c.smaller-n.ensures, c.as_chunks.ensures.front_len, length_words a.bytes.now))
