-- Constant by constant. Assumes nothing.
use mathlib.Core.Path.{refl}
use Prim.Native.Nat.{zero, suc}
use native.Mathlib.Omega.{arith}
use Rattle.compare.specs.Claims.{PlaceOfConstant}

pub place_of_constant : PlaceOfConstant
place_of_constant zero h = refl
place_of_constant (suc zero) h = refl
place_of_constant (suc (suc zero)) h = refl
place_of_constant (suc (suc (suc zero))) h = refl
place_of_constant (suc (suc (suc (suc zero)))) h = refl
place_of_constant (suc (suc (suc (suc (suc zero))))) h = refl
place_of_constant (suc (suc (suc (suc (suc (suc zero)))))) h = refl
place_of_constant (suc (suc (suc (suc (suc (suc (suc zero))))))) h = refl
place_of_constant (suc (suc (suc (suc (suc (suc (suc (suc zero)))))))) h = refl
place_of_constant (suc (suc (suc (suc (suc (suc (suc (suc (suc k))))))))) h = absurd (omega arith)
