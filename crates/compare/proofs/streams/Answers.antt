use Rattle.std.proofs.Common.{◌≡◌, ◌∙◌, sym, ap, ap₂, arith, refl, ℕ, ◌<◌, length, List, Option, Some, None, Ok, Err, slice_index_or, take, map}
use Rattle.std.proofs.lemmas.Result.{err_from_is_err_and}
use Rattle.std.specs.Option.{ok_or}
use Rattle.std.specs.Result.{result_ok}
use Rattle.names.specs.Limits.{streams}
use Rattle.laws.proofs.Placed.{placed_to}
use Rattle.plan.specs.declared.Stream.{Stream}
use Rattle.plan.specs.Plan.{blank}
use Rattle.compare.specs.declared.Reason.{Reason}
use Rattle.compare.specs.declared.Reason.TheVariants.{NewLabel}
use Rattle.compare.specs.Changes.{first_change}
use Rattle.compare.specs.private.Moves.{label_of, priority_of, under, beside, had, number_then, of_row, order_by, streams_by}
use Rattle.compare.proofs.Lists.{column_more, column_all, column_front}
use Rattle.compare.proofs.First.{nothing_or, of_or, change_none, change_more, change_here}
use Rattle.compare.proofs.streams.Goals as goal

-- a label that stands nowhere
nowhere : (s : Stream) (held : Option Stream) (r : Reason) → ok_or held (NewLabel s.label) ≡ Err r → beside s held ≡ Err r
nowhere s (Some h) r e = absurd (let z : ◌≡◌ {A = ℕ} 0 1 = cc in omega arith)
nowhere s None r e = let d : NewLabel s.label ≡ r = cc in ap Err d

-- the first change is what is returned
refused : (old new : List Stream) (k : ℕ) (r : Reason) → k < length new → first_change (of_row old new) k ≡ Ok tt → of_row old new k ≡ Err r
    → streams_by old new ≡ Err r
refused old new k r h e d = of_or _ _ r (change_here (of_row old new) (length new) k r h e d)

pub loop-k-init : goal.loop-k-init
loop-k-init c = record { unchanged = change_none _; was = refl; is = refl }

pub namesake-requires : goal.namesake-requires
namesake-requires c =
    ap (take (length c.args.old.now)) c.labels_of-labels.ensures ∙ column_front label_of c.args.old.now c.requires.few_old

pub returns-in_err-held : goal.returns-in_err-held
returns-in_err-held c =
    let a = c.args in
    let p = err_from_is_err_and c.from_residual.result c.from_residual.ensures.1 in
    let s = slice_index_or a.new.now c.loop-k.k blank in
    rw (p.1, p.2)
    (sym (refused a.old.now a.new.now c.loop-k.k _ (omega arith) c.loop-k.invariant.unchanged
    (ap (beside s) (sym c.namesake.ensures) ∙ nowhere s c.namesake.result _ (sym c.ok_or.ensures.value ∙ c.in_err-held.was))))

pub returns-in_err-eased : goal.returns-in_err-eased
returns-in_err-eased c =
    let a = c.args in
    let p = err_from_is_err_and c.from_residual-in_err-eased.result c.from_residual-in_err-eased.ensures.1 in
    let s = slice_index_or a.new.now c.loop-k.k blank in
    rw (p.1, p.2)
    (sym (refused a.old.now a.new.now c.loop-k.k _ (omega arith) c.loop-k.invariant.unchanged
    (ap (beside s) (sym c.namesake.ensures ∙ c.ok_or.ensures.ok_part ∙ ap result_ok c.in_ok-held.was) ∙ sym c.eased.ensures ∙ c.in_err-eased.was)))

pub loop-k-preserved : goal.loop-k-preserved
loop-k-preserved c =
    let a = c.args in
    let s = slice_index_or a.new.now c.loop-k.k blank in
    let k = c.loop-k.k in
    let h : k < length a.new.now = omega arith in
    let found : under a.old.now s ≡ Some c.in_ok-held.held = sym c.namesake.ensures ∙ c.ok_or.ensures.ok_part ∙ ap result_ok c.in_ok-held.was in
    record {
      unchanged = change_more (of_row a.old.now a.new.now) k c.loop-k.invariant.unchanged (ap (beside s) found ∙ sym c.eased.ensures ∙ c.in_ok-eased.was);
      was = column_more (number_then a.old.now) a.new.now k h c.requires.few_new c.loop-k.invariant.was (ap had (sym found));
      is = column_more priority_of a.new.now k h c.requires.few_new c.loop-k.invariant.is refl;
    }

pub returns : goal.returns
returns c =
    let a = c.args in
    let l = c.loop-k in
    let e : l.k ≡ length a.new.now = omega arith in
    let front = λ (f : Stream → ℕ) (m : List ℕ) (p : m ≡ placed_to streams 0 (map f a.new.now) l.k).
    ap (take (length a.new.now)) (column_all f a.new.now l.k e c.requires.few_new p) ∙ column_front f a.new.now c.requires.few_new in
    c.order.ensures
    ∙ ap₂ (order_by a.new.now) (front (number_then a.old.now) l.was l.invariant.was) (front priority_of l.is l.invariant.is)
    ∙ sym (nothing_or _ _ (ap (first_change (of_row a.old.now a.new.now)) (sym e) ∙ l.invariant.unchanged))
