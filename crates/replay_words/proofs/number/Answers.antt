use mathlib.Core.Path.{sym, ◌∙◌}
use Prim.Native.Nat.{◌+◌}
use native.Mathlib.Omega.{arith}
use Rattle.replay_words.proofs.Numbers.{no_digits, digit_more, value_more, no_digit, too_large, is_all}
use Rattle.replay_words.proofs.number.Goals as goal

pub loop-byte-init : goal.loop-byte-init
loop-byte-init c = (no_digits.0, no_digits.1, omega arith)

pub returns-then-not-is_ascii_digit : goal.returns-then-not-is_ascii_digit
returns-then-not-is_ascii_digit c =
    no_digit c.args.word.now c.loop-byte.byte-index (omega arith) (sym c.is_ascii_digit.ensures.value ∙ c.if-not-is_ascii_digit.true)

pub returns-in_err-checked_mul : goal.returns-in_err-checked_mul
returns-in_err-checked_mul c =
    let i = c.loop-byte.byte-index in
    let v = rw c.in_err-checked_mul.was at c.checked_mul.ensures in
    c.from_residual.ensures ∙ too_large c.args.word.now (i + 1) (omega (arith, v, value_more c.args.word.now i (omega arith)))

pub returns-in_err-value : goal.returns-in_err-value
returns-in_err-value c =
    let i = c.loop-byte.byte-index in
    let v = rw c.in_err-value.was at c.checked_add.ensures in
    let m = rw c.in_ok-checked_mul.was at c.checked_mul.ensures in
    c.from_residual-in_err-value.ensures ∙ too_large c.args.word.now (i + 1) (omega (arith, v, m, c.from.ensures, value_more c.args.word.now i (omega arith)))

pub loop-byte-preserved : goal.loop-byte-preserved
loop-byte-preserved c =
    let l = c.loop-byte in
    let word = c.args.word.now in
    let v = rw c.in_ok-value.was at c.checked_add.ensures in
    let m = rw c.in_ok-checked_mul.was at c.checked_mul.ensures in (
      digit_more word l.byte-index (omega arith) l.invariant.0 (sym c.is_ascii_digit.ensures.value ∙ c.if-not-is_ascii_digit.false),
      omega (arith, v, m, c.from.ensures, value_more word l.byte-index (omega arith)),
      omega (arith, v),
    )

pub returns : goal.returns
returns c =
    let l = c.loop-byte in
    is_all c.args.word.now l.byte-index l.value (omega arith) l.invariant.0 l.invariant.1 l.invariant.2
