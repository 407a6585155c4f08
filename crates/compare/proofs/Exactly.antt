-- The test is exact: of two plans that are not refused no condition is broken exactly if the second is lighter. Labels are distinct in the first,
-- so the row that the test finds under a label is the row that a stream stands in. Assumes nothing.
use mathlib.Core.Path.{◌≡◌, refl, sym, ap, ◌∙◌}
use mathlib.Core.Bool.{Bool, true, false, not, beq, true≢false, false≢true}
use mathlib.Core.List.{map}
use Prim.Native.Nat.{ℕ, ◌≤◌, ◌<◌}
use native.Mathlib.Nat.{lt_of_not-le}
use native.Mathlib.Decide.{dec_le}
use native.Mathlib.Omega.{arith}
use borrow.Author.Tests.{ltb-true, leb-true, leb-false, eqb-true, lt-ltb, le-leb, lt-leb, eq-eqb, ne_eqb, not-true}
use lib.Dec.{leb, ltb}
use lib.ListN.{length, get_or, length-map, get_or-map}
use Rattle.names.specs.declared.Label.{Label}
use Rattle.std.specs.Prelude.{Option, Some, None, Ok}
use Rattle.laws.proofs.Tests.{both}
use Rattle.laws.specs.Rows.{some}
use Rattle.laws.proofs.Rows.{is_false, some_passes, some_at, finds_lowest}
use Rattle.plan.specs.declared.Timing.{Timing}
use Rattle.plan.specs.declared.Stream.{Stream}
use Rattle.plan.specs.Plan.{Plan, blank, at}
use Rattle.plan.specs.Rules.{has_master}
use Rattle.promise.specs.Lighter.{SameKit, NoGreater, Eased, Lighter, NotRefused}
use Rattle.compare.specs.declared.Reason.TheVariants.{MasterNode}
use Rattle.compare.specs.Changes.{◌or◌, first_change, of_kit, constants_of, many_constants, grown, of_constants, row_of, eased, in_row, of_stream, number_in, number_under, overtakes, urgency, of_gap, of_streams, of_order, of_noise, changes}
use Rattle.compare.specs.Claims.{LighterExactly}
use Rattle.compare.proofs.First.{of_not_nothing, or_nothing, must_nothing, must_true, passes, passes_then, no_reason, pass, nothing_if_none}
use Rattle.compare.proofs.Gaps.{by_order, counts_of_partners, partners_of_counts}

-- ---- the master node
alike : (a b : Bool) → beq a b ≡ true → a ≡ b
alike true true e = refl
alike true false e = absurd (false≢true e)
alike false true e = absurd (false≢true e)
alike false false e = refl

as_itself : (a : Bool) → beq a a ≡ true
as_itself true = refl
as_itself false = refl

pub same_kit : (old new : Timing) → of_kit old new ≡ Ok tt → SameKit old new
same_kit old new e = (none old new same, none new old (sym same))
  where
    same : has_master old ≡ has_master new
    same = alike (has_master old) (has_master new) (must_nothing _ _ e)

    none : (s t : Timing) → has_master s ≡ has_master t → s.p ≡ 0 → t.p ≡ 0
    none s t d z = omega (arith, leb-false 1 t.p (sym d ∙ lt-leb 1 s.p (omega arith)))

pub kit_nothing : (old new : Timing) → SameKit old new → of_kit old new ≡ Ok tt
kit_nothing old new k = must_true (beq (has_master old) (has_master new)) MasterNode (ap (λ t. beq t (has_master new)) same ∙ as_itself (has_master new))
  where
    same : has_master old ≡ has_master new
    same =
        elim (dec_le 1 old.p) [
          | yes has ↦
              elim (dec_le 1 new.p) [
                | yes too ↦ le-leb 1 old.p has ∙ sym (le-leb 1 new.p too)
                | no none ↦ absurd (omega (arith, has, k.1 (omega (arith, lt_of_not-le none))))
              ]
          | no none ↦
              let e = lt_of_not-le none in
              lt-leb 1 old.p e ∙ sym (lt-leb 1 new.p (omega (arith, k.0 (omega (arith, e)))))
        ]

-- ---- the constants
pub no_greater : (old new : Timing) → of_constants old new ≡ Ok tt → NoGreater old new
no_greater old new d =
    record {
      f = least 0 (omega arith);
      e = least 1 (omega arith);
      tfcs = least 2 (omega arith);
      swx = least 3 (omega arith);
      h = least 4 (omega arith);
      g = least 5 (omega arith);
      etg = least 6 (omega arith);
      nb = least 7 (omega arith);
      p = least 8 (omega arith);
    }
  where
    least : (k : ℕ) → k < many_constants → get_or (constants_of new) k 0 ≤ get_or (constants_of old) k 0
    least k h = passes _ _ _ ((nothing_if_none (grown (constants_of old) (constants_of new)) many_constants).0 d k h)

pub constants_nothing : (old new : Timing) → NoGreater old new → of_constants old new ≡ Ok tt
unfolding first_change
constants_nothing old new n =
    rw (le-leb _ _ n.f, le-leb _ _ n.e, le-leb _ _ n.tfcs, le-leb _ _ n.swx, le-leb _ _ n.h, le-leb _ _ n.g, le-leb _ _ n.etg, le-leb _ _ n.nb, le-leb _ _ n.p) refl

-- ---- a stream beside the one that it stands in
pub eases : (old new : Stream) → eased old new ≡ Ok tt → Eased old new
unfolding eased
eases old new e =
    let (period, e₀) = passes_then _ _ _ _ e in
    let (jitter, e₁) = passes_then _ _ _ _ e₀ in
    let (payload, e₂) = passes_then _ _ _ _ e₁ in
    let (deadline, e₃) = passes_then _ _ _ _ e₂ in
    record { period = period; deadline = deadline; jitter = jitter; payload = payload; acknowledgement = passes _ _ _ e₃ }

pub eased_nothing : (old new : Stream) → Eased old new → eased old new ≡ Ok tt
unfolding eased
eased_nothing old new h =
    sym
    (pass _ _ _ _ h.period
    (pass _ _ _ _ h.jitter
    (pass _ _ _ _ h.payload
    (pass _ _ _ _ h.deadline
    (sym (no_reason _ _ _ h.acknowledgement))))))

-- ---- the row that is under a label
pub found_row : (p : Plan) (l : Label) (r : ℕ) → row_of p l ≡ Some r → (r < length p.streams) × ((at p r).label.0 ≡ l.0)
unfolding row_of
found_row p l r e = let w = (finds_lowest _ 0 _ r).0 e in (omega (arith, w.below), eqb-true _ _ w.passes)

pub one_row : (p : Plan) → NotRefused p → (i j : ℕ) → i < length p.streams → j < length p.streams → (at p i).label.0 ≡ (at p j).label.0 → i ≡ j
one_row p a i j h g e = a.labels i j (omega (arith, same)) (omega (arith, same)) (name i ∙ e ∙ sym (name j))
  where
    label : Stream → ℕ
    label s = s.label.0

    same : length (map label p.streams) ≡ length p.streams
    same = length-map p.streams label

    name : (k : ℕ) → get_or (map label p.streams) k 0 ≡ (at p k).label.0
    name k = get_or-map label p.streams k blank

pub row_under : (p : Plan) → NotRefused p → (l : Label) (r : ℕ) → r < length p.streams → l.0 ≡ (at p r).label.0 → row_of p l ≡ Some r
unfolding row_of
row_under p a l r h e =
    (finds_lowest _ 0 _ r).1
    (record {
      above = omega arith;
      below = omega arith;
      passes = eq-eqb _ _ (sym e);
      lowest = λ y b c. ne_eqb _ _ (λ d. let q : y ≡ r = one_row p a y r (omega arith) h (d ∙ e) in omega arith);
    })

-- ---- all the conditions
pub record Unbroken (old new : Plan) : Type 0 where
  pub kit : of_kit old.timing new.timing ≡ Ok tt
  pub constants : of_constants old.timing new.timing ≡ Ok tt
  pub streams : (k : ℕ) → k < length new.streams → of_stream old (at new k) ≡ Ok tt
  pub order : (k : ℕ) → k < length new.streams → urgency old new k ≡ Ok tt
  pub gaps : (k : ℕ) → k < length new.gaps → of_gap old new (get_or new.gaps k 0) ≡ Ok tt

pub unbroken : (old new : Plan) → changes old new ≡ Ok tt → Unbroken old new
unfolding changes
unbroken old new e =
    let (k, e₁) = or_nothing (of_kit old.timing new.timing) _ e in
    let (c, e₂) = or_nothing (of_constants old.timing new.timing) (of_streams old new or of_order old new or of_noise old new) e₁ in
    let (s, e₃) = or_nothing (of_streams old new) (of_order old new or of_noise old new) e₂ in
    let (o, g) = or_nothing (of_order old new) (of_noise old new) e₃ in
    record {
      kit = k;
      constants = c;
      streams = (nothing_if_none _ (length new.streams)).0 s;
      order = (nothing_if_none (urgency old new) (length new.streams)).0 o;
      gaps = (nothing_if_none _ (length new.gaps)).0 g;
    }

pub no_changes : (old new : Plan) → Unbroken old new → changes old new ≡ Ok tt
unfolding changes
no_changes old new u =
    let s : of_streams old new ≡ (Ok tt) = (nothing_if_none _ (length new.streams)).1 u.streams in
    let o : of_order old new ≡ (Ok tt) = (nothing_if_none (urgency old new) (length new.streams)).1 u.order in
    let g : of_noise old new ≡ (Ok tt) = (nothing_if_none _ (length new.gaps)).1 u.gaps in
    λ i. u.kit i or u.constants i or s i or o i or g i

-- ---- from the test to a lighter plan
stands_in : (old : Plan) (s : Stream) → of_stream old s ≡ Ok tt → (r : ℕ) × (row_of old s.label ≡ Some r) × Eased (at old r) s
stands_in old s e = go (row_of old s.label) refl e
  where
    go : (f : Option ℕ) → row_of old s.label ≡ f → in_row old s f ≡ Ok tt → (r : ℕ) × (row_of old s.label ≡ Some r) × Eased (at old r) s
    go (Some r) d e = (r, d, eases (at old r) s e)
    go None d e = absurd (of_not_nothing e)

not_overtaken : (old new : Plan) (j k : ℕ) → urgency old new k ≡ Ok tt → j < length new.streams → (at new j).priority.0 < (at new k).priority.0
    → number_under old (at new j).label < number_under old (at new k).label
not_overtaken old new j k e h l = by_order (number_under old (at new k).label) (number_under old (at new j).label) (λ m. absurd (never m)) (λ m. m)
  where
    never : number_under old (at new k).label ≤ number_under old (at new j).label → ⊥
    never m =
        let t : overtakes old new k j ≡ true = rw (lt-ltb _ _ l, le-leb _ _ m) refl in
        true≢false (sym (some_at (overtakes old new k) (length new.streams) j h t) ∙ not-true _ (must_nothing _ _ e))

lighter_if : (old new : Plan) → Unbroken old new → Lighter old new
lighter_if old new u =
    record {
      kit = same_kit old.timing new.timing u.kit;
      timing = no_greater old.timing new.timing u.constants;
      row = λ k h. (found k h).0;
      stands = λ k h.
          let (r, d, e) = found k h in
          let (among, label) = found_row old (at new k).label r d in
          record { among = among; label = sym label; eased = e };
      order = λ j k h i l. rw (← number_is j h, ← number_is k i) (not_overtaken old new j k (u.order k i) h l);
      gaps = partners_of_counts new.gaps old.gaps (λ k h. passes _ _ _ (u.gaps k h));
    }
  where
    found : (k : ℕ) → k < length new.streams → (r : ℕ) × (row_of old (at new k).label ≡ Some r) × Eased (at old r) (at new k)
    found k h = stands_in old (at new k) (u.streams k h)

    number_is : (k : ℕ) (h : k < length new.streams) → number_under old (at new k).label ≡ (at old (found k h).0).priority.0
    number_is k h = ap (number_in old) (found k h).1

-- ---- and back
overtaking : (old new : Plan) (k j : ℕ) → overtakes old new k j ≡ true
    → ((at new j).priority.0 < (at new k).priority.0) × (number_under old (at new k).label ≤ number_under old (at new j).label)
overtaking old new k j e =
    let (a, b) = both (ltb (at new j).priority.0 (at new k).priority.0) (leb (number_under old (at new k).label) (number_under old (at new j).label)) e in
    (ltb-true _ _ a, leb-true _ _ b)

if_lighter : (old new : Plan) → NotRefused old → Lighter old new → Unbroken old new
if_lighter old new a l =
    record {
      kit = kit_nothing old.timing new.timing l.kit;
      constants = constants_nothing old.timing new.timing l.timing;
      streams = λ k h. ap (in_row old (at new k)) (row_is k h) ∙ eased_nothing (at old (l.row k h)) (at new k) (l.stands k h).eased;
      order = λ k h. must_true _ _ (ap not (is_false (some (overtakes old new k) (length new.streams)) (overtaken k h)));
      gaps = λ k h. no_reason _ _ _ (counts_of_partners new.gaps old.gaps l.gaps (get_or new.gaps k 0));
    }
  where
    row_is : (k : ℕ) (h : k < length new.streams) → row_of old (at new k).label ≡ Some (l.row k h)
    row_is k h = let s = l.stands k h in row_under old a (at new k).label (l.row k h) s.among s.label

    number_is : (k : ℕ) (h : k < length new.streams) → number_under old (at new k).label ≡ (at old (l.row k h)).priority.0
    number_is k h = ap (number_in old) (row_is k h)

    overtaken : (k : ℕ) → k < length new.streams → some (overtakes old new k) (length new.streams) ≡ true → ⊥
    overtaken k h e =
        let (j, i, t) = (some_passes (overtakes old new k) (length new.streams)).0 e in
        let (b, c) = overtaking old new k j t in
        omega (arith, c, l.order j k i h b, number_is j i, number_is k h)

pub lighter_exactly : LighterExactly
lighter_exactly old new a b = (λ e. lighter_if old new (unbroken old new e), λ l. no_changes old new (if_lighter old new a l))
