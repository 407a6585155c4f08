-- Word k is the k-th four; past the last whole word there is none, and the list says 0. Assumes nothing.
use mathlib.Core.Path.{sym, ap, ◌∙◌}
use mathlib.Core.List.{[]}
use Prim.Native.Nat.{◌/◌}
use native.Mathlib.Omega.{arith}
use lib.ListN.{length, get_or}
use Rattle.std.specs.Int.{w32, from_le_bytes}
use Rattle.words.proofs.Laws.{four_at, word_past}
use Rattle.words.proofs.word_at.Goals as goal

pub returns-in-None : goal.returns-in-None
returns-in-None c =
    let a = c.args in
    sym (word_past a.bytes.now a.k (omega (arith, c.in-None.ensures.lookup.3, c.as_chunks.ensures.front_len)))

pub returns-in-Some : goal.returns-in-Some
returns-in-Some c =
    let a = c.args in
    let found = c.in-Some.ensures.lookup.3 in
    c.joined.ensures
    ∙ ap (from_le_bytes w32) (found.1 [] ∙ ap (λ fours. get_or fours a.k []) c.as_chunks.ensures.front)
    ∙ four_at a.bytes.now (length a.bytes.now / 4) a.k [] (omega (arith, found.0, c.as_chunks.ensures.front_len)) (omega arith)
