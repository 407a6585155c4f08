-- The chain ends where the rule says, and alone on the channel the first instance is the worst. From its term nothing is subtracted: it is not below zero,
-- and the cast back keeps it.
use mathlib.Core.Path.{◌≡◌, refl, sym, ap, ◌∙◌}
use Prim.Native.Nat.{◌+◌}
use native.Mathlib.Nat.{add-zero}
use lib.IntN.{pos, nat_abs}
use mir.Syntax.{w64}
use mir.Val.{to_z, of_z, SFits}
use mir.Facts.{to_z-of_z}
use Rattle.bound.specs.declared.Answer.{Answer}
use Rattle.bound.specs.Bound.{verdict}
use Rattle.bound.proofs.Alone.{alone_bound, alone_is_first}
use Rattle.bound.proofs.Answers.{answer-bound, searched-bound}
use Rattle.terms.specs.declared.Gathered.{Gathered}
use Rattle.terms.proofs.Fit.{fit_sound}
use Rattle.analysis.proofs.Chains.{ended_none, ended_busy}
use Rattle.analysis.proofs.alone.answer_alone.Goals as goal
use Rattle.analysis.proofs.alone.answer_alone.Goals.{After-term-first}

-- the first term, from which 0 is subtracted
module _ (c : After-term-first) where
  fits : SFits w64 c.term-first.result
  fits = record { sfits = c.term-first.type_inv }

  abbrev g : Gathered
  g = c.args.fitting.terms.row

  first : to_z w64 (of_z w64 c.term-first.result) ≡ pos (g.jitter + g.blocking + g.last)
  first = to_z-of_z fits ∙ c.term-first.ensures ∙ ap pos (add-zero (g.jitter + g.blocking + g.last))

pub returns-in-None : goal.returns-in-None
returns-in-None c = c.no_bound.ensures ∙ ended_none (fit_sound _ _ _ c.args.fitting.fit.row) c.busy_alone-ended.ensures _ c.in-None.ensures

pub returns-in-Some : goal.returns-in-Some
returns-in-Some c =
    let sound = fit_sound _ _ _ c.args.fitting.fit.row in
    let found = ended_busy sound c.busy_alone-ended.ensures _ c.in-Some.ensures in
    let D = c.args.deadline in
    let x = nat_abs (to_z w64 (of_z w64 c.term-first.result)) in
    let told : ◌≡◌ {A = Answer} c.judged-answer.result (record { verdict = verdict x D; bound = x; instance = 0 }) = c.judged-answer.ensures in
    let is = answer-bound _ D _ _ _ found (ap nat_abs (first (goal.at.returns-in-Some c).After-term-first) ∙ alone_bound _ sound _ found refl refl) (sym (alone_is_first _ sound _ found refl refl)) in
    searched-bound _ _ _ _ _ found (told ∙ is) c.busy_alone-ended.ensures.count
