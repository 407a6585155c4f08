-- Each return is the first of the conditions that is broken, after those that hold. Assumes nothing.
use Rattle.std.proofs.Common.{◌≡◌, ◌∙◌, refl, sym, ap₂, Ok, Err}
use Rattle.std.proofs.lemmas.Result.{err_from_is_err_and}
use Rattle.plan.specs.Plan.{Plan, plan_of}
use Rattle.compare.specs.Changes.{◌or◌, of_kit, of_constants, of_streams, of_order, of_noise, changes}
use Rattle.compare.specs.private.Moves.{noise_by}
use Rattle.compare.proofs.First.{Change, nothing_or, of_or}
use Rattle.compare.proofs.Lists.{as_plans}
use Rattle.compare.proofs.changes.Goals as goal

-- the first of three
three : (a b c : Change) → (a or b) or c ≡ a or b or c
three (Err r) b c = refl
three (Ok _) b c = refl

after_constants : (old new : Plan) → of_kit old.timing new.timing ≡ Ok tt → of_constants old.timing new.timing ≡ Ok tt
    → changes old new ≡ (of_streams old new or of_order old new) or of_noise old new
unfolding changes
after_constants old new kit constants =
    nothing_or _ _ kit ∙ nothing_or _ _ constants ∙ sym (three (of_streams old new) (of_order old new) (of_noise old new))

pub returns-in_err-kit : goal.returns-in_err-kit
unfolding changes
returns-in_err-kit c =
    let p = err_from_is_err_and c.from_residual.result c.from_residual.ensures.1 in
    rw (p.1, p.2) (sym (of_or _ _ _ (sym c.kit.ensures ∙ c.in_err-kit.was)))

pub returns-in_err-constants : goal.returns-in_err-constants
unfolding changes
returns-in_err-constants c =
    let p = err_from_is_err_and c.from_residual-in_err-constants.result c.from_residual-in_err-constants.ensures.1 in
    rw (p.1, p.2) (sym (nothing_or _ _ (sym c.kit.ensures ∙ c.in_ok-kit.was) ∙ of_or _ _ _ (sym c.constants.ensures ∙ c.in_err-constants.was)))

pub returns-in_err-streams : goal.returns-in_err-streams
returns-in_err-streams c =
    let old = plan_of c.args.old in
    let new = plan_of c.args.new in
    let p = err_from_is_err_and c.from_residual-in_err-streams.result c.from_residual-in_err-streams.ensures.1 in
    rw (p.1, p.2)
    (sym (after_constants old new (sym c.kit.ensures ∙ c.in_ok-kit.was) (sym c.constants.ensures ∙ c.in_ok-constants.was)
    ∙ of_or _ _ _ (sym (as_plans old new _ _ c.streams_of.ensures.value c.streams_of-2.ensures.value) ∙ sym c.streams.ensures ∙ c.in_err-streams.was)))

pub returns : goal.returns
returns c =
    let old = plan_of c.args.old in
    let new = plan_of c.args.new in
    c.noise.ensures
    ∙ ap₂ noise_by c.gaps_of.ensures c.gaps_of-2.ensures
    ∙ sym (after_constants old new (sym c.kit.ensures ∙ c.in_ok-kit.was) (sym c.constants.ensures ∙ c.in_ok-constants.was)
    ∙ nothing_or _ _ (sym (as_plans old new _ _ c.streams_of.ensures.value c.streams_of-2.ensures.value) ∙ sym c.streams.ensures ∙ c.in_ok-streams.was))
