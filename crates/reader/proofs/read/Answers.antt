-- A refusal of the contents is the file's. Else the bodies' words are laid onto zeros, so what is entered in them is what the file has, and
-- what the checks say of it is the answer; where they say that it is fine, a word holds ETG + LAG. Assumes nothing.
use mathlib.Core.Path.{◌≡◌, sym, ap, ap₂, ◌∙◌}
use mathlib.Core.List.{List}
use Prim.Native.Nat.{ℕ, min}
use native.Mathlib.Omega.{arith}
use lib.ListN.{replicate}
use Rattle.std.specs.Prelude.{Ok}
use Rattle.std.proofs.lemmas.Result.{err_from_is_err_and}
use Rattle.names.specs.Limits.{streams, sources}
use Rattle.judge.specs.Table.{Checked, judge}
use Rattle.carried.specs.declared.Counts.{Counts}
use Rattle.carried.specs.Layout as layout
use Rattle.carried.specs.Carried.{meant, held, entered_in, sheet_of}
use Rattle.carried.proofs.Plans.{plan_held}
use Rattle.checks.specs.Checks.{lines}
use Rattle.checks.proofs.Fine.{meant_is_right}
use Rattle.file.specs.File.{counts_of, carried_of, read_as, read_of}
use Rattle.file.proofs.Reading.{counts_refused, counts_right, counts_are, counts_entered}
use Rattle.reader.proofs.read.Goals as goal

-- what reading gives, by the words that are carried and what was said of them
answered : (bs ws : List ℕ) (k : Counts) (c : Checked) → counts_of bs ≡ Ok k → ws ≡ carried_of bs (replicate layout.largest 0)
    → c ≡ judge (lines k.edition k.n k.m (entered_in k.n k.m ws)) → read_of bs ≡ read_as c (meant (entered_in k.n k.m ws))
answered bs ws k c e d f =
    let same = counts_entered bs k.edition k.n k.m e d in
    counts_are bs k.edition k.n k.m e
    ∙ ap (λ v. read_as (judge (lines k.edition k.n k.m v)) (meant v)) (sym same)
    ∙ ap (λ a. read_as a (meant (entered_in k.n k.m ws))) (sym f)

pub returns-in_err-counts : goal.returns-in_err-counts
returns-in_err-counts c =
    let p = err_from_is_err_and c.from_residual.result c.from_residual.ensures.1 in
    rw (p.1, p.2) (sym (counts_refused c.args.bytes.now _ (sym c.carry.ensures.value ∙ c.in_err-counts.was)))

pub returns-in_err-check_words : goal.returns-in_err-check_words
returns-in_err-check_words c =
    let p = err_from_is_err_and c.from_residual-in_err-check_words.result c.from_residual-in_err-check_words.ensures.1 in
    let k = c.in_ok-counts.counts in
    let w = c.check_words.ensures in
    rw (p.1, p.2)
    (sym (answered c.args.bytes.now c.carry.new.words k c.check_words.result (sym c.carry.ensures.value ∙ c.in_ok-counts.was) c.carry.ensures.words_after w
    ∙ ap (λ a. read_as a (meant (entered_in k.n k.m c.carry.new.words))) c.in_err-check_words.was))

pub returns : goal.returns
returns c =
    let bs = c.args.bytes.now in
    let k = c.in_ok-counts.counts in
    let ws = c.carry.new.words in
    let said = sym c.carry.ensures.value ∙ c.in_ok-counts.was in
    let (some, few, quiet) = counts_right bs k.edition k.n k.m said in
    let n : min k.n streams ≡ k.n = omega (arith, few) in
    let m : min k.m sources ≡ k.m = omega (arith, quiet) in
    let v = entered_in k.n k.m ws in
    let right = meant_is_right k.edition k.n k.m v (sym c.check_words.ensures ∙ c.in_ok-check_words.was) in
    ap (λ s. Ok s) (c.sheet_in.ensures ∙ ap₂ (λ i j. sheet_of (held (entered_in i j ws))) n m ∙ ap sheet_of (plan_held v right.within.timing))
    ∙ sym (answered bs ws k c.check_words.result said c.carry.ensures.words_after c.check_words.ensures ∙ ap (λ a. read_as a (meant v)) c.in_ok-check_words.was)
