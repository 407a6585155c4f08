use mathlib.Core.Path.{refl, ◌∙◌}
use Prim.Native.Nat.{◌<◌}
use native.Mathlib.Omega.{arith}
use lib.ListN.{take, length-set, length-take}
use Rattle.words.proofs.Laws.{laid_next}
use Rattle.carried.specs.Layout as layout
use Rattle.carried.specs.Carried.{entered_words}
use Rattle.file.specs.File.{entered_at}
use Rattle.reader.proofs.Laid.{entered_long, word_is, all_laid}
use Rattle.reader.proofs.lay_older.Goals as goal

pub loop-k-init : goal.loop-k-init
loop-k-init c =
    let n = layout.gap_at c.args.counts.n c.args.counts.m in
    record { count = refl; length = omega (arith, length-take n c.args.words.now, c.requires); laid = refl }

pub loop-k-preserved : goal.loop-k-preserved
loop-k-preserved c =
    let l = c.loop-k in
    let a = c.args in
    let k = a.counts in
    let vs = entered_words (entered_at k.edition k.n k.m a.bytes.now) in
    let long = entered_long k.edition k.n k.m a.bytes.now in
    let count = layout.gap_at k.n k.m in
    let here : l.k < count = omega (arith, l.invariant.length) in
    record {
      count = refl;
      length = length-set l.word-items l.k _ ∙ l.invariant.length;
      laid =
          laid_next vs (take count a.words.now) l.k (omega (arith, long)) (omega (arith, length-take count a.words.now, c.requires)) l.invariant.laid
          (c.carried_word.ensures ∙ word_is k.edition k.n k.m a.bytes.now l.k here);
    }

pub returns : goal.returns
returns c =
    let l = c.loop-k in
    let a = c.args in
    let k = a.counts in
    let vs = entered_words (entered_at k.edition k.n k.m a.bytes.now) in
    let long = entered_long k.edition k.n k.m a.bytes.now in
    all_laid vs a.words.now (layout.gap_at k.n k.m) l.k (omega (arith, long)) (omega (arith, l.invariant.length)) (omega (arith, c.requires)) l.invariant.laid
