-- U has the same value, and every other letter of the two rules is put together from it in the same way. Assumes nothing.
use Rattle.file.specs.File.{ReadPlan}
use Rattle.file.specs.File.{read_said, read_sheet}
use mathlib.Core.Path.{◌≡◌, refl, sym, ap, fun_ext, ◌∙◌}
use mathlib.Core.Bool.{◌&&◌}
use mathlib.Core.List.{List, [], ◌∷◌, ◌++◌, map}
use Prim.Native.Nat.{ℕ, ◌+◌, ◌-◌, ◌*◌}
use native.Mathlib.Nat.{add_assoc}
use lib.Dec.{leb, ltb}
use lib.ListN.{length, get_or}
use Rattle.laws.specs.Lists.{largest_of}
use Rattle.laws.specs.Search.{first}
use Rattle.bound.specs.Terms.{Terms}
use Rattle.bound.specs.Bound.{answer}
use Rattle.std.specs.Prelude.{Ok, Err}
use Rattle.judge.specs.Table.{Checked}
use Rattle.judge.specs.Table.{Line, judge, unless, ◌then◌}
use Rattle.judge.proofs.Table.{refused_not_fine, judged_in_turn, fine_then, fine_parts}
use Rattle.plan.specs.declared.Stream.{Stream}
use Rattle.plan.specs.Plan.{blank, plan_of}
use Rattle.plan.specs.Rules.{self_or_slotted, U, C', lead, C'', late, hp, lp, B, hit, share, terms, answers}
use Rattle.carried.specs.declared.Edition.{Edition}
use Rattle.carried.specs.declared.EnteredTiming.{EnteredTiming}
use Rattle.carried.specs.Carried.{Entered, meant_timing, meant}
use Rattle.carried.proofs.Plans.{one_sheet}
use Rattle.checks.specs.Checks.{counted, field_lines, lag_lines, row_lines, slot_lines, lines}
use Rattle.checks.proofs.Fine.{lag_passed, lag_given, meant_is_right}
use Rattle.file.specs.File.{entered_at, read_as, read_of}
use Rattle.file.proofs.Reading.{counts_are}
use Rattle.lag.specs.Rule05.{U₀₅, C'₀₅, C''₀₅, B₀₅, hit₀₅, share₀₅, terms₀₅, slot_lines₀₅, lines₀₅}
use Rattle.lag.specs.Claims.{SameAnswers, SameOfFile, SameRefusals, NewlyRefused}

-- ---- the letters
module _ (t : EnteredTiming) where
  U-same : U (meant_timing t) ≡ U₀₅ t
  U-same = sym (add_assoc (t.g + (t.h + t.g) * t.nb) t.etg t.lag)

  C'-same : (j : Stream) → C' (meant_timing t) j ≡ C'₀₅ t j
  C'-same j = ap (λ u. j.payload + j.acknowledgement + u) U-same

  C''-same : (j : Stream) → C'' (meant_timing t) j ≡ C''₀₅ t j
  C''-same j = ap (λ c. lead (meant_timing t) + c) (C'-same j)

  share_same : (j : Stream) → share (meant_timing t) j ≡ share₀₅ t j
  share_same j = ap (λ c. record { C'' = self_or_slotted t.p c t.p; T = j.period; J = j.jitter }) (C''-same j)

  slots_same : (ss : List Stream) → slot_lines (meant_timing t) ss ≡ slot_lines₀₅ t ss
  slots_same ss =
      ap (λ (cost : Stream → ℕ). record { number = 10; place = first (λ k. leb 1 t.p && ltb t.p (cost (get_or ss k blank))) 0 (length ss) } ∷ [])
      (fun_ext C''-same)

module _ (v : Entered) (i : Stream) where
  B-same : B (meant v) i ≡ B₀₅ v i
  unfolding B
  B-same =
      ap (λ (cost : Stream → ℕ). self_or_slotted v.timing.p (largest_of (λ j. cost j - 1) (lp (meant v) i)) (v.timing.p - 1))
      (fun_ext (C'-same v.timing))

  hit_same : hit (meant v) i ≡ hit₀₅ v i
  unfolding hit
  hit_same =
      ap (λ (cost : Stream → ℕ). self_or_slotted v.timing.p (largest_of cost (i ∷ hp (meant v) i)) v.timing.p) (fun_ext (C''-same v.timing))

  terms_same : terms (meant v) i ≡ terms₀₅ v i
  unfolding terms
  terms_same =
      λ k.
      record {
        B = B-same k;
        own = share_same v.timing i k;
        urgent = map (λ j. share_same v.timing j k) (hp (meant v) i);
        gaps = v.gaps;
        hit = hit_same k;
        late = late (meant_timing v.timing);
        last = C''-same v.timing i k;
      }

-- ---- the answers
pub same_answers : SameAnswers
same_answers v = ap (λ (each : Stream → Terms). map (λ i. answer (each i) i.deadline) v.streams) (fun_ext (terms_same v))

pub same_of_file : SameOfFile
same_of_file bs edition n m e fine =
    let v = entered_at edition n m bs in
    go (judge (lines edition n m v)) refl (ap read_said (sym (counts_are bs edition n m e)) ∙ fine) ∙ same_answers v
  where
    go : (c : Checked) → judge (lines edition n m (entered_at edition n m bs)) ≡ c → read_said (read_as c (meant (entered_at edition n m bs))) ≡ Ok tt
        → answers (plan_of (read_sheet (read_of bs))) ≡ answers (meant (entered_at edition n m bs))
    go (Ok _) j a =
        let p = meant (entered_at edition n m bs) in
        let right = meant_is_right edition n m (entered_at edition n m bs) j in
        ap (λ (r : ReadPlan). answers (plan_of (read_sheet r))) (counts_are bs edition n m e ∙ ap (λ c. read_as c p) j)
        ∙ ap answers (one_sheet p right.within.count right.within.sources)
    go (Err r) j a = absurd (refused_not_fine a)

-- ---- the refusals: up to 3 the two tables are one, and so are they from 4 on
module _ (edition : Edition) (n m : ℕ) (v : Entered) where
  abbrev up_to3 : List Line
  up_to3 = record { number = 2; place = unless (counted edition n m v) } ∷ field_lines edition v

  abbrev from4 : List Line
  from4 = row_lines v.streams ++ slot_lines (meant_timing v.timing) v.streams

  older_lines : up_to3 ++ from4 ≡ lines₀₅ edition n m v
  older_lines = ap (λ slots. up_to3 ++ row_lines v.streams ++ slots) (slots_same v.timing v.streams)

pub same_refusals : SameRefusals
same_refusals edition n m v h =
    let before = up_to3 edition n m v in
    let after = from4 edition n m v in
    judged_in_turn before (lag_lines v.timing ++ after)
    ∙ ap (λ next. judge before then next) (lag_passed v.timing after h)
    ∙ sym (judged_in_turn before after)
    ∙ ap judge (older_lines edition n m v)

pub newly_refused : NewlyRefused
newly_refused edition n m v h e =
    let before = up_to3 edition n m v in
    let after = from4 edition n m v in
    fine_then before (lag_lines v.timing ++ after) (fine_parts before after (ap judge (older_lines edition n m v) ∙ e)).0
    ∙ lag_given v.timing after h
