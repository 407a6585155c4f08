-- A lighter plan keeps its promise: at each label the first plan's terms cover the second's. Assumes nothing.
use mathlib.Core.Path.{◌≡◌, refl, sym, ap, ◌∙◌}
use mathlib.Core.Bool.{Bool, true, false, cond}
use Prim.Native.Nat.{ℕ, ◌+◌, ◌≤◌, ◌<◌}
use native.Mathlib.Nat.{le_refl, le_trans, mul-le-mul, lt_of_not-le}
use native.Mathlib.Decide.{dec_le}
use native.Mathlib.Omega.{arith}
use borrow.Author.Tests.{ltb-true, lt-ltb, leb-true, le-leb}
use lib.Dec.{leb}
use lib.ListN.{length}
use Rattle.std.specs.Prelude.{Option, Some, None}
use Rattle.laws.specs.Lists.{largest_of, those}
use Rattle.bound.specs.declared.Verdict.{Verdict, TheVariants.Met, TheVariants.Missed, TheVariants.None}
use Rattle.bound.specs.Bound.{busy, bound, answer, answer_for}
use Rattle.cover.specs.Cover.{Partnered, NoHeavier, NoShorter, Covers}
use Rattle.cover.proofs.Cover.{covered_keeps}
use Rattle.plan.specs.declared.Timing.{Timing}
use Rattle.plan.specs.declared.Stream.{Stream}
use Rattle.plan.specs.Plan.{Plan, blank, at}
use Rattle.plan.specs.Rules as rule
use Rattle.plan.proofs.Rules.{self, slotted, terms_sound}
use Rattle.promise.specs.Lighter.{SameKit, NoGreater, Eased, Lighter, NotRefused, LighterKeeps}
use Rattle.promise.proofs.Partners.{Split, Apart, all_index, split_index, those_split, all_those, apart_those, apart_index, by_name, map_partners, largest_partners, partners_have}

-- ---- the constants
V-le : (old new : Timing) → NoGreater old new → rule.«V» new ≤ rule.«V» old
V-le old new n = omega (arith, n.f, n.e, n.tfcs, n.swx, n.h)

U-le : (old new : Timing) → NoGreater old new → rule.U new ≤ rule.U old
U-le old new n =
    omega (arith, n.g, n.etg, mul-le-mul {n₁ = new.h + new.g} {m₁ = new.nb} {n₂ = old.h + old.g} {m₂ = old.nb} (omega (arith, n.h, n.g)) (omega (arith, n.nb)))

-- what is no greater without a master node, nor with one, is no greater
either_le : (old new : Timing) → SameKit old new → {x y a b : ℕ} → a ≤ x → b ≤ y → rule.self_or_slotted new.p a b ≤ rule.self_or_slotted old.p x y
either_le old new kit {x} {y} {a} {b} h g =
    elim (dec_le 1 old.p) [
      | yes some ↦
          elim (dec_le 1 new.p) [
            | yes too ↦ omega (arith, slotted old.p x y some, slotted new.p a b too, g)
            | no none ↦ absurd (omega (arith, some, kit.1 (omega (arith, lt_of_not-le none))))
          ]
      | no none ↦
          let e : old.p ≡ 0 = omega (arith, lt_of_not-le none) in
          omega (arith, self old.p x y e, self new.p a b (kit.0 e), h)
    ]

-- "met" says that there is a bound, and that it is at most D
met_says : (p : Plan) (s : Stream) → (rule.row_answer p s).verdict ≡ Met → (L : ℕ) × (busy (rule.terms p s) ≡ Some L) × (bound (rule.terms p s) L ≤ s.deadline)
unfolding answer
met_says p s e = go (busy (rule.terms p s)) refl e
  where
    never : (v : Verdict) → v ≡ None → v ≡ Met → ⊥
    never v f g = let z : ◌≡◌ {A = ℕ} 0 1 = cc in omega arith

    not_both : (v : Verdict) → v ≡ Missed → v ≡ Met → ⊥
    not_both v f g = let z : ◌≡◌ {A = ℕ} 0 1 = cc in omega arith

    within : (L : ℕ) (t : Bool) → leb (bound (rule.terms p s) L) s.deadline ≡ t → cond t Met Missed ≡ Met → bound (rule.terms p s) L ≤ s.deadline
    within L true q d = leb-true _ _ q
    within L false q d = absurd (not_both Missed refl d)

    go : (f : Option ℕ) → busy (rule.terms p s) ≡ f → (answer_for (rule.terms p s) s.deadline f).verdict ≡ Met → (L : ℕ) × (busy (rule.terms p s) ≡ Some L) × (bound (rule.terms p s) L ≤ s.deadline)
    go (Some L) q d = (L, q, within L (leb (bound (rule.terms p s) L) s.deadline) refl d)
    go None q d = absurd (never None refl d)

-- and is said where that is so
says_met : (p : Plan) (s : Stream) (L : ℕ) → busy (rule.terms p s) ≡ Some L → bound (rule.terms p s) L ≤ s.deadline → (rule.row_answer p s).verdict ≡ Met
unfolding answer
says_met p s L e g = ap (λ f. (answer_for (rule.terms p s) s.deadline f).verdict) e ∙ ap (λ t. cond t Met Missed) (le-leb _ _ g)

-- ---- a stream and its namesake in the first plan
pub record Partner (new old : Stream) : Type 0 where
  pub eased : Eased old new
  pub some : 1 ≤ old.period

module _ (old new : Timing) (kit : SameKit old new) (n : NoGreater old new) where
  late_le : rule.late new ≤ rule.late old
  late_le = either_le old new kit (V-le old new n) (le_refl 0)

  C'-le : (x y : Stream) → Partner x y → rule.C' new x ≤ rule.C' old y
  C'-le x y p = omega (arith, p.eased.payload, p.eased.acknowledgement, U-le old new n)

  C''-le : (x y : Stream) → Partner x y → rule.C'' new x ≤ rule.C'' old y
  C''-le x y p = omega (arith, C'-le x y p, either_le old new kit (V-le old new n) n.h)

  share_le : (x y : Stream) → Partner x y → NoHeavier (rule.share new x) (rule.share old y)
  share_le x y p =
      record { some = p.some; cost = either_le old new kit (C''-le x y p) n.p; period = p.eased.period; jitter = p.eased.jitter }

module _ (old new : Plan) (a : NotRefused old) (b : NotRefused new) (l : Lighter old new) where
  abbrev was : Timing
  was = old.timing

  abbrev is : Timing
  is = new.timing

  -- each stream of the second plan has a partner under its label
  partner : (k : ℕ) (h : k < length new.streams) → Partner (at new k) (at old (l.row k h))
  partner k h = let s = l.stands k h in record { eased = s.eased; some = (a.within.stream (l.row k h) s.among).some_period }

  abbrev name : Stream → ℕ
  name s = s.label.0

  apart : Apart name new.streams
  apart = apart_index name blank refl new.streams b.labels

  -- those of the second plan that pass a test, where the namesakes of all that pass it pass the first plan's
  partners : (t u : Stream → Bool) → ((k : ℕ) (h : k < length new.streams) → u (at new k) ≡ true → t (at old (l.row k h)) ≡ true)
      → Partnered Partner (those u new.streams) (those t old.streams)
  partners t u f =
      by_name Partner name (those u new.streams) (those t old.streams)
      (all_those (λ x. (y : Stream) × Split (those t old.streams) y × (name y ≡ name x) × Partner x y) u new.streams
      (all_index (λ x. u x ≡ true → (y : Stream) × Split (those t old.streams) y × (name y ≡ name x) × Partner x y) blank new.streams
      (λ k h e. (at old (l.row k h), those_split t old.streams (at old (l.row k h)) (f k h e) (split_index old.streams (l.row k h) blank (l.stands k h).among), sym (l.stands k h).label, partner k h))))
      (apart_those name u new.streams apart)

  module _ (k : ℕ) (h : k < length new.streams) where
    abbrev i : Stream
    i = at new k

    abbrev j : Stream
    j = at old (l.row k h)

    urgent : Partnered Partner (rule.hp new i) (rule.hp old j)
    urgent = partners _ _ (λ m g e. lt-ltb _ _ (l.order m k g h (ltb-true _ _ e)))

    less : Partnered Partner (rule.lp new i) (rule.lp old j)
    less = partners _ _ (λ m g e. lt-ltb _ _ (l.order k m h g (ltb-true _ _ e)))

    blocking_le : rule.B new i ≤ rule.B old j
    unfolding rule.B
    blocking_le =
        either_le was is l.kit (largest_partners _ _ (λ x y p. omega (arith, C'-le was is l.kit l.timing x y p)) (rule.lp new i) (rule.lp old j) less)
        (omega (arith, l.timing.p))

    hit_le : rule.hit new i ≤ rule.hit old j
    unfolding rule.hit largest_of
    hit_le =
        let each = C''-le was is l.kit l.timing in
        either_le was is l.kit (omega (arith, each i j (partner k h), largest_partners _ _ each (rule.hp new i) (rule.hp old j) urgent)) l.timing.p

    gaps_le : Partnered NoShorter new.gaps old.gaps
    gaps_le =
        partners_have (λ gap partner. partner ≤ gap) NoShorter (λ gap. 1 ≤ gap) (λ x y r p. record { some = p; gap = r }) new.gaps old.gaps
        (all_index (λ gap. 1 ≤ gap) 0 old.gaps (λ m g. (a.within.gap m g).some_gap)) l.gaps

    covers : Covers (rule.terms old j) (rule.terms new i)
    unfolding rule.terms
    covers =
        record {
          blocking = blocking_le;
          own = share_le was is l.kit l.timing i j (partner k h);
          urgent = map_partners Partner NoHeavier (rule.share is) (rule.share was) (share_le was is l.kit l.timing) (rule.hp new i) (rule.hp old j) urgent;
          gaps = gaps_le;
          hit = hit_le;
          late = late_le was is l.kit l.timing;
          last = C''-le was is l.kit l.timing i j (partner k h);
        }

    kept_bound : (L : ℕ) → busy (rule.terms old j) ≡ Some L → (K : ℕ) × (busy (rule.terms new i) ≡ Some K) × (bound (rule.terms new i) K ≤ bound (rule.terms old j) L)
    kept_bound L e =
        let among = (l.stands k h).among in
        let sound = terms_sound old j (a.within.stream (l.row k h) among) (a.slots (l.row k h) among) in
        let (K, f, g, d) = covered_keeps (rule.terms old j) (rule.terms new i) sound (terms_sound new i (b.within.stream k h) (b.slots k h)) covers L e in
        (K, f, d)

    kept_met : (rule.row_answer old j).verdict ≡ Met → (rule.row_answer new i).verdict ≡ Met
    kept_met e =
        let (L, f, g) = met_says old j e in
        let (K, d, m) = kept_bound L f in
        says_met new i K d (le_trans m (le_trans g (l.stands k h).eased.deadline))

pub lighter_keeps : LighterKeeps
lighter_keeps old new a b l k h = record { bound = kept_bound old new a b l k h; met = kept_met old new a b l k h }
