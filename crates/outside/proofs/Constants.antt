-- Constant by constant. Assumes nothing.
use mathlib.Core.Path.{◌≡◌, refl, ap, ◌∙◌}
use Prim.Native.Nat.{ℕ, zero, suc}
use native.Mathlib.Omega.{arith}
use lib.ListN.{get_or}
use Rattle.carried.specs.Carried.{plain_timing, timing_words}
use Rattle.compare.proofs.ConstantPlaces.{place_of_constant}
use Rattle.outside.specs.Outside.{constant_at, broken, ConstantInFile, ReportedInFile}

pub constant_in_file : ConstantInFile
constant_in_file t zero h = refl
constant_in_file t (suc zero) h = refl
constant_in_file t (suc (suc zero)) h = refl
constant_in_file t (suc (suc (suc zero))) h = refl
constant_in_file t (suc (suc (suc (suc zero)))) h = refl
constant_in_file t (suc (suc (suc (suc (suc zero))))) h = refl
constant_in_file t (suc (suc (suc (suc (suc (suc zero)))))) h = refl
constant_in_file t (suc (suc (suc (suc (suc (suc (suc zero))))))) h = refl
constant_in_file t (suc (suc (suc (suc (suc (suc (suc (suc zero)))))))) h = refl
constant_in_file t (suc (suc (suc (suc (suc (suc (suc (suc (suc k))))))))) h = absurd (omega arith)

pub reported_in_file : ReportedInFile
reported_in_file t k h =
    let place = place_of_constant k h in
    (ap (λ p. broken 1 (constant_at p)) place, ap (λ p. get_or (timing_words (plain_timing t)) (constant_at p) 0) place ∙ constant_in_file t k h)
