-- A priority has 32 bits; and what is left above the bits is 0 exactly if the number fits. Assumes nothing.
use mathlib.Core.Path.{sym, ◌∙◌}
use Prim.Native.Nat.{◌^◌, ◌<◌}
use native.Mathlib.Nat.{lt_of_lt_of_le}
use borrow.Author.Tests.{le-leb, lt-ltb}
use lib.Pow.{pow_mono}
use Rattle.tournament_state.proofs.Tests.{above_bits}
use borrow.Author.Rules.{rules}
use Rattle.tournament_state.proofs.fits_in.Goals as goal

pub returns-then-bits-ge-BITS : goal.returns-then-bits-ge-BITS
returns-then-bits-ge-BITS c =
    let a = c.args in
    let small : a.p.0 < 2 ^ 32 = search rules in
    le-leb 32 a.bits c.if-bits-ge-BITS.true ∙ sym (lt-ltb a.p.0 (2 ^ a.bits) (lt_of_lt_of_le small (pow_mono c.if-bits-ge-BITS.true)))

pub returns-else-bits-ge-BITS : goal.returns-else-bits-ge-BITS
returns-else-bits-ge-BITS c = above_bits c.args.p.0 c.args.bits
