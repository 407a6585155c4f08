-- What a message costs the channel beside its payload and its acknowledgement, of every timing, and how large that is within the limits.
use Rattle.std.specs.Prelude.{◌≡◌, ℕ, ◌+◌, ◌*◌, min, ◌≤◌}
use Rattle.names.specs.Limits.{constant, bits}
use Rattle.plan.specs.declared.Timing.{Timing}
use Rattle.plan.specs.Rules.{U, lead, late}
use Rattle.plan.specs.Plan.{TimingWithin}
use Rattle.costs.specs.declared.Overheads.{Overheads}

-- more than 32 priority bits count as 32, so that U fits its word
abbrev pub few_bits : Timing → Timing
few_bits t =
    record {
      f = t.f;
      e = t.e;
      tfcs = t.tfcs;
      swx = t.swx;
      h = t.h;
      g = t.g;
      etg = t.etg;
      nb = min t.nb bits;
      p = t.p;
    }

unfoldable pub overheads_of : Timing → Overheads
overheads_of t = record { lead = lead t; u = U (few_bits t); late = late t; slot = t.p }

-- the most that V can be, and so H: F + E + max(TFCS, SWX) + H
abbrev pub most_V : ℕ
most_V = constant + constant + constant + constant

-- the most that U can be: G + (H + G) × NB + ETG
abbrev pub most_U : ℕ
most_U = constant + (constant + constant) * bits + constant

-- ---- What is proved of them; the proof is in proofs/Costs.antt.

-- the letters of the rules, and no larger than they can be
pub record Overhead (t : Timing) (o : Overheads) : Type 0 where
  pub lead_is : o.lead ≡ lead t
  pub u_is : o.u ≡ U t
  pub late_is : o.late ≡ late t
  pub slot_is : o.slot ≡ t.p
  pub little : o.lead ≤ most_V
  pub small : o.u ≤ most_U
  pub early : o.late ≤ o.lead

-- of a timing within the limits
abbrev pub OverheadWithin : Type 0
OverheadWithin = (t : Timing) → TimingWithin t → Overhead t (overheads_of t)
