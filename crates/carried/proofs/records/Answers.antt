-- The pieces of seven words after the timing's are the records. Assumes nothing.
use mathlib.Core.Path.{◌≡◌, ap, ◌∙◌}
use native.Mathlib.Omega.{arith}
use lib.ListN.{take, drop, length-drop}
use lib.Seq.{take_all}
use Rattle.carried.specs.Carried.{records_in}
use Rattle.carried.proofs.Pieces.{cut}
use Rattle.carried.proofs.records.Goals as goal

pub returns : goal.returns
returns c =
    let a = c.args in
    let rest : take 1800 (drop 10 a.words.now) ≡ drop 10 a.words.now = take_all 1800 (drop 10 a.words.now) (omega (arith, length-drop 10 a.words.now)) in
    ap (take c.smaller.result) c.as_chunks.ensures.front
    ∙ cut c.smaller.result a.words.now _ rest (omega (arith, c.smaller.ensures))
    ∙ ap (λ n. records_in n a.words.now) c.smaller.ensures
