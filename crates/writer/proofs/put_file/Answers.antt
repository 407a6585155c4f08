-- The timing stands after the contents, and the other words after it, so what is written is the whole file. Assumes nothing.
use mathlib.Core.Path.{◌≡◌, ap, ◌∙◌}
use Prim.Native.Nat.{◌+◌, ◌-◌, ◌*◌}
use native.Mathlib.Omega.{arith}
use lib.ListN.{take, drop}
use Rattle.words.specs.Words.{put_words}
use Rattle.carried.specs.Layout as layout
use Rattle.carried.specs.Carried.{plain_timing, timing_words}
use Rattle.writer.proofs.Whole.{whole}
use Rattle.writer.proofs.put_file.Goals as goal

pub returns : goal.returns
returns c =
    let a = c.args in
    let ws = a.words.now in
    let rest : layout.gap_at a.n a.m - layout.timing_length ≡ layout.stream_length * a.n + a.m = omega arith in
    whole a.buf.now ws a.n a.m (omega arith) (omega arith)
    (rw c.contents-head.ensures at c.put_words.ensures)
    (c.put_words-2.ensures ∙ ap (put_words c.put_words.new.buf (layout.byte_of 0)) (c.timing_words-constants.ensures ∙ ap (λ x. timing_words (plain_timing x)) c.requires.timing_value))
    (c.put_words-3.ensures ∙ ap (λ j. put_words c.put_words-2.new.buf (layout.byte_of layout.timing_length) (take j (drop layout.timing_length ws))) rest)
