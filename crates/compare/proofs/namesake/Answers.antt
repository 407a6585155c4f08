use Rattle.std.proofs.Common.{◌≡◌, ◌∙◌, refl, ap, arith, add-one, ℕ, ◌+◌, ◌<◌, Bool, false, List, length, get_or, drop, find, ◌==◌}
use Rattle.std.proofs.Math.Seq.{drop-cons}
use Rattle.std.proofs.lemmas.List.{get_or-map, length-map}
use borrow.Author.Tests.{ne_eqb}
use Rattle.plan.specs.Plan.{blank}
use Rattle.compare.specs.private.Moves.{label_of}
use Rattle.compare.proofs.namesake.Goals as goal

-- one that does not pass is left behind
find_more : {A : Type 0} (t : A → Bool) (d : A) (xs : List A) (r : ℕ) → r < length xs → t (get_or xs r d) ≡ false → find t (drop (r + 1) xs) ≡ find t (drop r xs)
find_more t d xs r h e = rw (drop-cons xs r d h, e, add-one r) refl

pub loop-r-preserved : goal.loop-r-preserved
loop-r-preserved c =
    let a = c.args in
    let r = c.loop-r.r in
    let h : r < length a.streams.now = omega (arith, ap length c.requires, length-map a.streams.now label_of) in
    let label : get_or a.labels.now r 0 ≡ (get_or a.streams.now r blank).label.0 = ap (λ l. get_or l r 0) c.requires ∙ get_or-map label_of a.streams.now r blank 0 h in
    find_more (λ s. s.label.0 == a.label.0) blank a.streams.now r h (ne_eqb _ _ (λ e. c.if-held-label.false (label ∙ e))) ∙ c.loop-r.invariant
