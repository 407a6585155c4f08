-- No condition is idle: one test over the whole table, which antt computes, and what it says of a pair that passes. Assumes nothing.
use mathlib.Core.Path.{◌≡◌, refl, sym, ap, ◌∙◌}
use mathlib.Core.Bool.{Bool, true, false, not, ◌&&◌, ◌||◌, true≢false}
use mathlib.Core.List.{[], ◌∷◌, flat_map}
use Prim.Native.Nat.{ℕ, zero, suc, ◌≤◌, ◌<◌}
use native.Mathlib.Omega.{arith}
use borrow.Author.Tests.{eqb-true, not-true}
use lib.Dec.{eqb}
use lib.ListN.{length, get_or}
use Rattle.laws.specs.Lists.{sum_of, largest_of, those, every}
use Rattle.laws.specs.Search.{first}
use Rattle.laws.specs.Signed.{largest_to}
use Rattle.laws.proofs.Lists.{every_each}
use Rattle.laws.proofs.Tests.{both}
use Rattle.laws.specs.Rows.{some}
use Rattle.repeats.specs.Repeats.{first_repeat}
use Rattle.laws.proofs.Rows.{some_passes}
use Rattle.bound.specs.declared.Verdict.{Verdict, TheVariants.Met, TheVariants.Missed, TheVariants.None}
use Rattle.bound.specs.Bound.{E, demand, side_L, busy, side_W, w, bound, answer}
use Rattle.plan.specs.Plan.{Plan, at}
use Rattle.plan.specs.Rules.{self_or_slotted, B, hit, terms, row_answer}
use Rattle.carried.specs.declared.Edition.TheVariants.{Three}
use Rattle.carried.specs.Carried.{plainly}
use Rattle.cover.specs.Cover.{Partnered}
use Rattle.fields.specs.Fields.{fields, lowest}
use Rattle.std.specs.Prelude.{Ok, Err}
use Rattle.judge.specs.Table.{Checked}
use Rattle.judge.specs.Table.{judge}
use Rattle.checks.specs.Checks.{lines}
use Rattle.checks.proofs.Fine.{fine_is_right}
use Rattle.promise.specs.Lighter.{NotRefused, NoGreater, Stands}
use Rattle.compare.specs.Changes.{row_of}
use Rattle.needed.specs.Needed.{conditions, how_many, Pair, pair, Broken, Lost, EachNeeded, easier, NotEmpty}

second : (a b : Bool) → a || b ≡ true → (a ≡ true → ⊥) → b ≡ true
second true b e n = absurd (n refl)
second false b e n = e

-- ---- not refused
abbrev is_fine : Checked → Bool
is_fine (Ok _) = true
is_fine (Err r) = false

abbrev fine : Plan → Bool
fine p = is_fine (judge (lines Three (length p.streams) (length p.gaps) (plainly p)))

fine_says : (p : Plan) → fine p ≡ true → NotRefused p
fine_says p e = fine_is_right _ _ p (go _ e)
  where
    go : (c : Checked) → is_fine c ≡ true → c ≡ Ok tt
    go (Ok _) d = refl
    go (Err r) d = absurd (true≢false (sym d))

-- ---- condition i alone is broken
abbrev broken : ℕ → Plan → Plan → Bool
broken i old new = not (get_or (conditions old new) i true) && every how_many (λ j. eqb j i || get_or (conditions old new) j false)

broken_says : (i : ℕ) (old new : Plan) → broken i old new ≡ true → Broken i old new
broken_says i old new e =
    let (this, rest) = both (not (get_or (conditions old new) i true)) _ e in
    record {
      fails = not-true _ this;
      others = λ j h n. second (eqb j i) _ (every_each _ how_many rest j h) (λ q. n (eqb-true j i q));
    }

-- ---- row k of the second plan is not met, and its namesake in row r of the first is
abbrev is_met : Verdict → Bool
is_met Met = true
is_met Missed = false
is_met None = false

abbrev met : Plan → ℕ → Bool
met p k = is_met (row_answer p (at p k)).verdict

abbrev loses : Plan → Plan → ℕ → ℕ → Bool
loses old new k r = eqb (at new k).label.0 (at old r).label.0 && met old r && not (met new k)

abbrev lost : Plan → Plan → Bool
lost old new = some (λ k. some (loses old new k) (length old.streams)) (length new.streams)

lost_says : (old new : Plan) → lost old new ≡ true → Lost old new
lost_says old new e =
    let (k, h, f) = (some_passes _ (length new.streams)).0 e in
    let (r, l, g) = (some_passes (loses old new k) (length old.streams)).0 f in
    let (m, is) = both (eqb (at new k).label.0 (at old r).label.0 && met old r) (not (met new k)) g in
    let (same, was) = both (eqb (at new k).label.0 (at old r).label.0) (met old r) m in
    record {
      k = k;
      among = h;
      r = r;
      among_old = l;
      label = eqb-true _ _ same;
      lost = λ kept. true≢false (sym (ap is_met (kept.met (is_met_lem _ was))) ∙ not-true _ is);
    }
  where
    is_met_lem : (v : Verdict) → is_met v ≡ true → v ≡ Met
    is_met_lem Met d = refl
    is_met_lem Missed d = absurd (true≢false (sym d))
    is_met_lem None d = absurd (true≢false (sym d))

-- ---- the table
abbrev right : ℕ → Pair → Bool
right i p = fine p.old && fine p.new && broken i p.old p.new && lost p.old p.new

right_says : (i : ℕ) (p : Pair) → right i p ≡ true
    → NotRefused p.old × NotRefused p.new × Broken i p.old p.new × Lost p.old p.new
right_says i p e =
    let (f, d) = both (fine p.old && fine p.new && broken i p.old p.new) (lost p.old p.new) e in
    let (g, c) = both (fine p.old && fine p.new) (broken i p.old p.new) f in
    let (a, b) = both (fine p.old) (fine p.new) g in
    (fine_says _ a, fine_says _ b, broken_says i _ _ c, lost_says _ _ d)

all_right : every how_many (λ i. right i (pair i)) ≡ true
unfolding every some first those sum_of largest_of largest_to first_repeat E demand side_L busy side_W w bound answer self_or_slotted B hit terms fields lowest flat_map judge row_of conditions
all_right = refl

pub each_needed : EachNeeded
each_needed i h = right_says i (pair i) (every_each (λ j. right j (pair j)) how_many all_right i h)

-- ---- lighter in every respect: 11.2 and 10.1 stand in rows 2 and 0 of the first plan
both_fine : fine easier.old && fine easier.new ≡ true
unfolding some first first_repeat self_or_slotted fields lowest flat_map judge
both_fine = refl

no_greater : NoGreater easier.old.timing easier.new.timing
no_greater =
    record {
      f = omega arith;
      e = omega arith;
      tfcs = omega arith;
      swx = omega arith;
      h = omega arith;
      g = omega arith;
      etg = omega arith;
      nb = omega arith;
      p = omega arith;
    }

abbrev row : ℕ → ℕ
row k = get_or (2 ∷ 0 ∷ []) k 0

stand : (k : ℕ) → k < 2 → Stands easier.old easier.new k (row k)
stand zero h =
    record {
      among = omega arith;
      label = refl;
      eased = record { period = omega arith; deadline = omega arith; jitter = omega arith; payload = omega arith; acknowledgement = omega arith };
    }
stand (suc zero) h =
    record {
      among = omega arith;
      label = refl;
      eased = record { period = omega arith; deadline = omega arith; jitter = omega arith; payload = omega arith; acknowledgement = omega arith };
    }
stand (suc (suc k)) h = absurd (omega arith)

order : (j k : ℕ) → j < 2 → k < 2 → (at easier.new j).priority.0 < (at easier.new k).priority.0
    → (at easier.old (row j)).priority.0 < (at easier.old (row k)).priority.0
order zero zero h i l = omega arith
order zero (suc zero) h i l = omega arith
order (suc zero) zero h i l = omega arith
order (suc zero) (suc zero) h i l = omega arith
order zero (suc (suc k)) h i l = absurd (omega arith)
order (suc zero) (suc (suc k)) h i l = absurd (omega arith)
order (suc (suc j)) k h i l = absurd (omega arith)

-- the partner of 950 is 900, and that of 600 is a 500
partners : Partnered (λ gap partner. partner ≤ gap) easier.new.gaps easier.old.gaps
unfolding Partnered
partners = (500 ∷ [], 900, 500 ∷ [], refl, omega arith, ([], 500, 500 ∷ [], refl, omega arith, tt))

pub not_empty : NotEmpty
not_empty =
    let (a, b) = both (fine easier.old) (fine easier.new) both_fine in
    (fine_says _ a, fine_says _ b, record { kit = (λ e. e, λ e. e); timing = no_greater; row = λ k h. row k; stands = stand; order = order; gaps = partners })
