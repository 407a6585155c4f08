use Rattle.std.proofs.Common.{◌≡◌, ◌∙◌, refl, ap, ℕ, ◌+◌, Bool, ◌||◌, add-one}
use Rattle.laws.specs.Rows.{some}
use Rattle.laws.proofs.Rows.{flag_none}
use Rattle.compare.specs.private.Moves.{overtakes_by}
use Rattle.compare.proofs.overtaken.Goals as goal

-- one row more
some_more : (t : ℕ → Bool) (n : ℕ) → some t n || t n ≡ some t (n + 1)
unfolding some
some_more t n = rw (add-one n) refl

pub loop-j-init : goal.loop-j-init
loop-j-init c = flag_none _

pub loop-j-preserved : goal.loop-j-preserved
loop-j-preserved c =
    let a = c.args in
    let t = overtakes_by a.was.now a.is.now a.k in
    ap (λ b. b || t c.loop-j.j) c.loop-j.invariant ∙ some_more t c.loop-j.j
