-- The plan is refused by its values, or by the memory lent for its answers, or the rows' words are laid.
use mathlib.Core.Path.{◌≡◌, sym, ap, ◌∙◌}
use native.Mathlib.Omega.{arith}
use Rattle.std.specs.Prelude.{Ok}
use Rattle.std.proofs.lemmas.Result.{err_from_is_err_and}
use Rattle.judge.specs.Table.{judge}
use Rattle.checks.specs.Checks.{lines}
use Rattle.carried.specs.Carried.{entered_in}
use Rattle.answers.specs.private.Gather.{PlacesWithin}
use Rattle.answers.proofs.Places.{fine_places}
use Rattle.answers.proofs.Outcome.{refused_is, too_few_is, words_are}
use Rattle.answers.proofs.answer_words.Goals as goal
use Rattle.answers.proofs.answer_words.Goals.{In_ok-check_words}
use Rattle.answers.proofs.answer_words.Given.{Over}

-- what the check found fine
fine : (g : Over) (c : In_ok-check_words g) → let a = c.args in judge (lines a.counts.edition a.counts.n a.counts.m (entered_in a.counts.n a.counts.m a.words.now)) ≡ Ok tt
fine g c = sym c.check_words.ensures ∙ c.in_ok-check_words.was

places : (g : Over) (c : In_ok-check_words g) → let a = c.args in PlacesWithin a.words.now a.counts.n a.counts.m
places g c = let a = c.args in fine_places a.counts.edition a.words.now a.counts.n a.counts.m (fine g c)

pub room-requires : goal.room-requires
room-requires g c = (places g c).few

pub returns-in_err-check_words-clause-value : goal.returns-in_err-check_words-clause-value
returns-in_err-check_words-clause-value g c =
    let e = refused_is _ _ _ _ _ c.args.out.now _ (sym c.check_words.ensures ∙ c.in_err-check_words.was) in
    let p = err_from_is_err_and c.from_residual.result c.from_residual.ensures.1 in
    rw (p.1, p.2) (sym (ap (λ o. o.0) e))

pub returns-in_err-check_words-clause-out_after : goal.returns-in_err-check_words-clause-out_after
returns-in_err-check_words-clause-out_after g c =
    let e = refused_is _ _ _ _ _ c.args.out.now _ (sym c.check_words.ensures ∙ c.in_err-check_words.was) in
    sym (ap (λ o. o.1) e)

pub returns-then-out-room-clause-value : goal.returns-then-out-room-clause-value
returns-then-out-room-clause-value g c =
    let at = goal.at.returns-then-out-room-clause-value g c in
    let a = c.args in
    let e = too_few_is g.T.Tell.told a.counts.edition a.counts.n a.counts.m _ a.out.now (fine g at.In_ok-check_words) (omega (arith, c.room.ensures, c.if-out-room.true)) in
    c.refused.ensures ∙ sym (ap (λ o. o.0) e)

pub returns-then-out-room-clause-out_after : goal.returns-then-out-room-clause-out_after
returns-then-out-room-clause-out_after g c =
    let at = goal.at.returns-then-out-room-clause-out_after g c in
    let a = c.args in
    let e = too_few_is g.T.Tell.told a.counts.edition a.counts.n a.counts.m _ a.out.now (fine g at.In_ok-check_words) (omega (arith, c.room.ensures, c.if-out-room.true)) in
    sym (ap (λ o. o.1) e)

pub put_rows-requires-clause-places_within : goal.put_rows-requires-clause-places_within
put_rows-requires-clause-places_within g c =
    let at = goal.at.put_rows-requires-clause-places_within g c in
    places g at.In_ok-check_words

pub returns-clause-value : goal.returns-clause-value
returns-clause-value g c =
    let at = goal.at.returns-clause-value g c in
    let a = c.args in
    let e = words_are g.T.Tell.told a.counts.edition a.counts.n a.counts.m _ a.out.now (fine g at.In_ok-check_words) (omega (arith, c.room.ensures, c.if-out-room.false)) in
    sym (ap (λ o. o.0) e)

pub returns-clause-out_after : goal.returns-clause-out_after
returns-clause-out_after g c =
    let at = goal.at.returns-clause-out_after g c in
    let a = c.args in
    let e = words_are g.T.Tell.told a.counts.edition a.counts.n a.counts.m _ a.out.now (fine g at.In_ok-check_words) (omega (arith, c.room.ensures, c.if-out-room.false)) in
    c.put_rows.ensures ∙ sym (ap (λ o. o.1) e)
