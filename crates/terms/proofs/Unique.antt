-- The public contract determines its outcome.
use mathlib.Core.Path.{◌∙◌, sym, refl}
use Rattle.laws.specs.Determined.{OneOutcome}
use Rattle.terms.proofs.terms_fit.Kinds as terms-fit-kinds
use Rattle.terms.proofs.terms_fit.Reads as terms_fit

pub terms_fit_one : OneOutcome 1 terms-fit-kinds.ps terms-fit-kinds.r terms_fit.Post
terms_fit_one κs a x y ws us p q = (p ∙ sym q, refl)
