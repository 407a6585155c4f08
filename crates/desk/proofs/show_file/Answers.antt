-- What rewriting hands back is shown: the file where it was written, `Full` where it had no room, and else the refusal. Assumes nothing.
use mathlib.Core.Path.{sym, ap₂, ◌∙◌}
use Rattle.text.specs.Put.{put}
use Rattle.desk.proofs.Again.{shows}
use Rattle.desk.proofs.show_file.Goals as goal

pub returns-then-r-eq-NO_ROOM : goal.returns-then-r-eq-NO_ROOM
returns-then-r-eq-NO_ROOM c =
    let a = c.args in
    let p = (shows a.bytes.now a.out.now _ (sym c.rewrite.ensures.value ∙ c.in-Err.is)).0 c.if-r-eq-NO_ROOM.true in
    (p.0, c.rewrite.ensures.out_after ∙ p.1)

pub returns-in-Ok : goal.returns-in-Ok
returns-in-Ok c =
    let a = c.args in
    let p = shows a.bytes.now a.out.now _ (sym c.rewrite.ensures.value ∙ c.in-Ok.is) in
    (p.0, c.rewrite.ensures.out_after ∙ p.1)

pub returns-else-r-eq-NO_ROOM : goal.returns-else-r-eq-NO_ROOM
returns-else-r-eq-NO_ROOM c =
    let a = c.args in
    let (s, b) = (shows a.bytes.now a.out.now _ (sym c.rewrite.ensures.value ∙ c.in-Err.is)).1 c.if-r-eq-NO_ROOM.false in
    let d = c.rewrite.ensures.out_after ∙ b in
    (c.refused.ensures.0 ∙ ap₂ (λ l t. (put l 0 t).0) d (sym s), c.refused.ensures.1 ∙ ap₂ (λ l t. (put l 0 t).1) d (sym s))
