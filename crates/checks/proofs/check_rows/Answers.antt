-- The two columns are those of the streams in the words. Assumes nothing.
use mathlib.Core.Path.{◌≡◌, sym, ap, ◌∙◌}
use Prim.Native.Nat.{min}
use native.Mathlib.Nat.{add-zero}
use lib.ListN.{get_or}
use Rattle.names.specs.Limits.{streams}
use Rattle.laws.proofs.Lists.{rows_same, rows_map}
use Rattle.repeats.specs.Repeats.{first_repeat}
use Rattle.judge.specs.Table.{row_in}
use Rattle.judge.proofs.Table.{given, passed, nothing_given}
use Rattle.carried.specs.Layout as layout
use Rattle.carried.specs.Carried.{stream_in, streams_in}
use Rattle.checks.specs.Checks.{priorities, labels}
use Rattle.checks.proofs.check_rows.Goals as goal
use Rattle.checks.proofs.check_rows.Goals.{After-repeat_of, After-repeat_of-2, After-smaller-count}

-- how many rows there are, seen from the two looks
abbrev counted : After-repeat_of → After-smaller-count
counted c = c.before

abbrev before : After-repeat_of-2 → After-repeat_of
before c = c.before.before

priorities_are : (c : After-repeat_of)
    → let a = (counted c).args in
    first_repeat (priorities (streams_in (min a.n streams) a.words.now)) ≡ c.repeat_of.result
priorities_are c =
    let n = (counted c).smaller-count in
    let ws = (counted c).args.words.now in
    ap (λ k. first_repeat (priorities (streams_in k ws))) (sym n.ensures)
    ∙ ap first_repeat (rows_map (λ s. s.priority.0) n.result (λ j. stream_in ws (layout.stream_at j)))
    ∙ sym c.repeat_of.ensures

labels_are : (c : After-repeat_of-2)
    → let a = (counted (before c)).args in
    first_repeat (labels (streams_in (min a.n streams) a.words.now)) ≡ c.repeat_of-2.result
labels_are c =
    let n = (counted (before c)).smaller-count in
    let ws = (counted (before c)).args.words.now in
    ap (λ k. first_repeat (labels (streams_in k ws))) (sym n.ensures)
    ∙ ap first_repeat
    (rows_map (λ s. s.label.0) n.result (λ j. stream_in ws (layout.stream_at j))
    ∙ rows_same n.result _ _ (λ j h. ap (λ k. get_or ws k 0) (sym (add-zero (layout.stream_at j)))))
    ∙ sym c.repeat_of-2.ensures

pub returns-in-Some : goal.returns-in-Some
returns-in-Some c =
    let at = goal.at.returns-in-Some c in
    c.refused.ensures ∙ sym (given _ _ _ (ap row_in (priorities_are at.After-repeat_of ∙ c.in-Some.is)))

pub returns-in-Some-repeat_of : goal.returns-in-Some-repeat_of
returns-in-Some-repeat_of c =
    let at = goal.at.returns-in-Some-repeat_of c in
    c.refused-in-Some-repeat_of.ensures
    ∙ sym (passed _ _ (ap row_in (priorities_are (before at.After-repeat_of-2) ∙ c.in_default.is)) ∙ given _ _ _ (ap row_in (labels_are at.After-repeat_of-2 ∙ c.in-Some-repeat_of.is)))

pub returns : goal.returns
returns c =
    let at = goal.at.returns c in
    sym (passed _ _ (ap row_in (priorities_are (before at.After-repeat_of-2) ∙ c.in_default.is))
    ∙ passed _ _ (ap row_in (labels_are at.After-repeat_of-2 ∙ c.in_default-repeat_of.is))
    ∙ nothing_given)
