-- Word by word, or as the bodies stand. Assumes nothing.
use mathlib.Core.Path.{sym, ap, ◌∙◌}
use Rattle.words.specs.Words.{laid_onto}
use Rattle.carried.specs.Layout as layout
use Rattle.carried.specs.Carried.{entered_words}
use Rattle.file.specs.File.{entered_at}
use Rattle.reader.proofs.Laid.{bodies_stand}
use Rattle.reader.proofs.lay_bodies.Goals as goal

pub returns-in-Three : goal.returns-in-Three
returns-in-Three c =
    let a = c.args in
    let n = a.counts.n in
    let m = a.counts.m in
    let bs = a.bytes.now in
    let three = c.in-Three.is in
    c.words_into.ensures
    ∙ ap (λ l. laid_onto l a.words.now)
    (bodies_stand n m bs (c.requires.bytes_len ∙ ap (λ x. layout.size x n m) three) ∙ ap (λ x. entered_words (entered_at x n m bs)) (sym three))
