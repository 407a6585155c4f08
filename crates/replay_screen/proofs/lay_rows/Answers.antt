use mathlib.Core.Path.{◌≡◌, refl, ap, ◌∙◌}
use mathlib.Core.Bool.{false, ◌||◌, cond}
use mathlib.Core.List.{[], ◌++◌}
use native.Mathlib.Omega.{arith}
use lib.ListN.{get_or}
use Rattle.names.specs.Limits.{contenders}
use Rattle.laws.specs.Lists.{rows, those}
use Rattle.text.proofs.Laying.{is, then, last, none}
use Rattle.ascii.specs.Ascii.{ascii}
use Rattle.replay_screen.specs.Shown.{marked, spaced}
use Rattle.replay_screen.proofs.Rows.{marked_to, some?, spaced_more, some_more, all_rows}
use Rattle.replay_screen.proofs.lay_rows.Goals as goal

pub loop-i-init : goal.loop-i-init
unfolding spaced some? those rows
loop-i-init c = (none _ _ (omega arith), refl)

pub loop-i-preserved : goal.loop-i-preserved
loop-i-preserved c =
    let l = c.loop-i in
    let a = c.args in (
      is (spaced_more a.marks l.i _ refl) (then l.invariant.0 (last c.lay_row-next.ensures) (omega arith)),
      ap (λ b. b || get_or a.marks l.i false) l.invariant.1 ∙ some_more a.marks l.i _ refl,
    )

pub returns : goal.returns
unfolding marked
returns c =
    let l = c.loop-i in
    let marks = c.args.marks in
    let e : l.i ≡ contenders = omega arith in
    let f = ap (marked_to marks) e in
    is (all_rows (marked_to marks contenders))
    (is (ap (λ m. spaced m ++ cond (some? m) [] (ascii " none")) f)
    (then l.invariant.0 (last (is (ap (λ b. cond b [] (ascii " none")) l.invariant.1) c.lay_none.ensures)) (omega arith)))
