-- After i turns the first i words are written and nothing else; words that have no room are turned away before the first store. Assumes nothing.
use mathlib.Core.Path.{sym, ap, ◌∙◌}
use native.Mathlib.Omega.{arith}
use lib.Seq.{take_all}
use Rattle.words.specs.Words.{with_words}
use Rattle.words.proofs.Laws.{put_room, put_no_room, put_none, put_next}
use Rattle.words.proofs.put_words.Goals as goal

pub returns-then-room-at : goal.returns-then-room-at
returns-then-room-at c =
    let a = c.args in
    sym (put_no_room a.buf.now a.at a.ws.now (omega arith))

pub returns-then-room-at-2 : goal.returns-then-room-at-2
returns-then-room-at-2 c =
    let a = c.args in
    sym (put_no_room a.buf.now a.at a.ws.now (omega arith))

pub loop-i-init : goal.loop-i-init
loop-i-init c = sym (put_none _ _)

pub loop-i-preserved : goal.loop-i-preserved
loop-i-preserved c =
    let a = c.args in
    let l = c.loop-i in
    c.put_word.ensures ∙ put_next a.buf.now a.at a.ws.now l.i (omega arith) (omega arith) l.invariant

pub returns : goal.returns
returns c =
    let l = c.loop-i in
    let a = c.args in
    l.invariant ∙ ap (with_words a.buf.now a.at) (take_all l.i a.ws.now (omega arith)) ∙ sym (put_room a.buf.now a.at a.ws.now (omega arith))
