use mathlib.Core.Path.{sym, ap, ◌∙◌}
use native.Mathlib.Omega.{arith}
use Rattle.replay_words.specs.declared.Words.{Words}
use Rattle.replay_words.proofs.Numbers.{read_none, read_all, few, wrong_word, read_more}
use Rattle.replay_words.proofs.read.Goals as goal

pub loop-word-init : goal.loop-word-init
loop-word-init c = read_none c.args.text.now _ (ap (λ (w : Words). w.0.now) c.into_iter-word-iterator.ensures.into_iter_gives)

pub overflow_add-result : goal.overflow_add-result
overflow_add-result c =
    let s = rw c.in-Some.is at c.next.ensures.steps in
    omega (arith, few c.loop-word.invariant _ c.next.new.self s)

pub returns-in_default : goal.returns-in_default
returns-in_default c =
    let s = rw c.in-Some.is at c.next.ensures.steps in
    wrong_word c.loop-word.invariant _ c.next.new.self s (sym c.number.ensures ∙ c.in_default.is)

pub with_number-entered-requires : goal.with_number-entered-requires
with_number-entered-requires c =
    let s = rw c.in-Some.is at c.next.ensures.steps in
    omega (arith, few c.loop-word.invariant _ c.next.new.self s)

pub loop-word-preserved : goal.loop-word-preserved
loop-word-preserved c =
    let s = rw c.in-Some.is at c.next.ensures.steps in
    read_more c.loop-word.invariant _ c.next.new.self s _ (sym c.number.ensures ∙ c.in-Some-number.is) c.with_number-entered.ensures

pub returns : goal.returns
returns c =
    let s = rw c.in-None.is at c.next.ensures.steps in
    read_all c.loop-word.invariant s.0
