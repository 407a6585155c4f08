-- The contracts determine the outcomes: each equates the result with one value. Assumes nothing.
use mathlib.Core.Path.{refl, sym, ◌∙◌}
use Rattle.laws.specs.Determined.{OneOutcome}
use Rattle.checks.proofs.check_counts.Kinds as check-counts-kinds
use Rattle.checks.proofs.check_counts.Reads as check-counts
use Rattle.checks.proofs.check_fields.Kinds as check-fields-kinds
use Rattle.checks.proofs.check_fields.Reads as check-fields
use Rattle.checks.proofs.check_lag.Kinds as check-lag-kinds
use Rattle.checks.proofs.check_lag.Reads as check-lag
use Rattle.checks.proofs.check_rows.Kinds as check-rows-kinds
use Rattle.checks.proofs.check_rows.Reads as check-rows
use Rattle.checks.proofs.check_words.Kinds as check-words-kinds
use Rattle.checks.proofs.check_words.Reads as check-words
use Rattle.checks.proofs.check.Kinds as check-kinds
use Rattle.checks.proofs.check.Reads as check

pub check_counts_one : OneOutcome 0 check-counts-kinds.ps check-counts-kinds.r check-counts.Post
check_counts_one κs a x y ws us p q = (p ∙ sym q, refl)

pub check_fields_one : OneOutcome 1 check-fields-kinds.ps check-fields-kinds.r check-fields.Post
check_fields_one κs a x y ws us p q = (p ∙ sym q, refl)

pub check_lag_one : OneOutcome 1 check-lag-kinds.ps check-lag-kinds.r check-lag.Post
check_lag_one κs a x y ws us p q = (p ∙ sym q, refl)

pub check_rows_one : OneOutcome 1 check-rows-kinds.ps check-rows-kinds.r check-rows.Post
check_rows_one κs a x y ws us p q = (p ∙ sym q, refl)

pub check_words_one : OneOutcome 1 check-words-kinds.ps check-words-kinds.r check-words.Post
check_words_one κs a x y ws us p q = (p ∙ sym q, refl)

pub check_one : OneOutcome 0 check-kinds.ps check-kinds.r check.Post
check_one κs a x y ws us p q = (p ∙ sym q, refl)
