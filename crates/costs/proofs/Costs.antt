-- Each constant is at most 65,535, and a product of two bounded numbers is bounded. Assumes nothing.
use mathlib.Core.Path.{◌≡◌, refl, sym, ap, ◌∙◌}
use Prim.Native.Nat.{ℕ, ◌+◌, ◌*◌, ◌≤◌, min}
use native.Mathlib.Nat.{mul-le-mul, lt_of_not-le}
use native.Mathlib.Decide.{dec_le}
use native.Mathlib.Omega.{arith}
use Rattle.names.specs.Limits.{constant, bits}
use Rattle.plan.specs.declared.Timing.{Timing}
use Rattle.plan.specs.Rules.{«V», U, lead, late}
use Rattle.plan.proofs.Rules.{self, slotted}
use Rattle.costs.specs.Costs.{few_bits, overheads_of, most_V, OverheadWithin}
use Rattle.costs.specs.declared.Overheads.{Overheads}

pub overhead_within : OverheadWithin
unfolding overheads_of
overhead_within t w =
    let nb : min t.nb bits ≡ t.nb = omega (arith, w.nb) in
    let pulses : (t.h + t.g) * min t.nb bits ≤ (constant + constant) * bits =
    mul-le-mul {n₁ = t.h + t.g} {m₁ = min t.nb bits} {n₂ = constant + constant} {m₂ = bits} (omega (arith, w.h, w.g)) (omega arith) in
    let (little, early) = leads in
    record {
      lead_is = refl;
      u_is = ap (λ n. t.g + (t.h + t.g) * n + t.etg) nb;
      late_is = refl;
      slot_is = refl;
      little = little;
      small = omega (arith, pulses, w.g, w.etg);
      early = early;
    }
  where
    leads : (lead t ≤ most_V) × (late t ≤ lead t)
    leads =
        elim (dec_le 1 t.p) [
          | yes h ↦
              let l = slotted t.p («V» t) t.h h in
              (omega (arith, l, w.h), omega (arith, slotted t.p («V» t) 0 h))
          | no h ↦
              let e : t.p ≡ 0 = omega (arith, lt_of_not-le h) in
              let l = self t.p («V» t) t.h e in
              (omega (arith, l, w.f, w.e, w.tfcs, w.swx, w.h), omega (arith, l, self t.p («V» t) 0 e))
        ]

-- ---- what the code hands back, without a master node and with one
module _ (t : Timing) {u : ℕ} (e : u ≡ U (few_bits t)) where
  pub of_self : {v : ℕ} → t.p ≡ 0 → v ≡ «V» t → ◌≡◌ {A = Overheads} (record { lead = v; u = u; late = v; slot = 0 }) (overheads_of t)
  unfolding overheads_of
  of_self none d = λ j. record { lead = (d ∙ sym (self t.p («V» t) t.h none)) j; u = e j; late = (d ∙ sym (self t.p («V» t) 0 none)) j; slot = sym none j }

  pub of_slots : (t.p ≡ 0 → ⊥) → ◌≡◌ {A = Overheads} (record { lead = t.h; u = u; late = 0; slot = t.p }) (overheads_of t)
  unfolding overheads_of
  of_slots there =
      let some : 1 ≤ t.p = omega (arith, there) in
      λ j. record { lead = sym (slotted t.p («V» t) t.h some) j; u = e j; late = sym (slotted t.p («V» t) 0 some) j; slot = t.p }
