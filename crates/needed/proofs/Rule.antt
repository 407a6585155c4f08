-- The 18 conditions are the rule: 0 is its test of the master node, 1 to 9 of the constants, 10 to 15 of a stream, 16 of the order, 17 of a
-- noise gap. Assumes nothing.
use mathlib.Core.Path.{◌≡◌, refl, sym}
use mathlib.Core.Bool.{Bool, true, false, true≢false}
use mathlib.Core.List.{List, [], ◌∷◌}
use Prim.Native.Nat.{ℕ, zero, suc, ◌<◌}
use native.Mathlib.Omega.{arith}
use borrow.Author.Tests.{leb-true, le-leb}
use lib.Dec.{leb}
use lib.ListN.{length, get_or}
use Rattle.std.specs.Prelude.{Option, Some, None, Ok}
use Rattle.laws.proofs.Lists.{every_each, every_all}
use Rattle.plan.specs.declared.Stream.{Stream}
use Rattle.plan.specs.Plan.{Plan, at}
use Rattle.promise.specs.Lighter.{NoGreater, Eased}
use Rattle.compare.specs.Changes.{row_of, in_row}
use Rattle.compare.proofs.First.{of_not_nothing, must_nothing, must_true}
use Rattle.compare.proofs.Exactly.{no_greater, constants_nothing, eases, eased_nothing, Unbroken, unbroken, no_changes}
use Rattle.needed.specs.Needed.{stands, holds, each_beside, conditions, how_many, AllHoldExactly}

-- ---- all of a list
infixr 30 ◌and◌
data AllTrue : List Bool → Type 0 where
  none : AllTrue []
  ◌and◌ : {b : Bool} {l : List Bool} → b ≡ true → AllTrue l → AllTrue (b ∷ l)

each_true : {l : List Bool} → AllTrue l → (j : ℕ) → j < length l → get_or l j false ≡ true
each_true none j h = absurd (omega arith)
each_true (e and a) zero h = e
each_true (e and a) (suc j) h = each_true a j (omega arith)

-- ---- a stream of the second plan: conditions 10 to 15 of its row
module _ (old : Plan) (s : Stream) where
  in_row_lem : (f : Option ℕ) → stands s f ≡ true
      → holds (λ a b. leb a.period b.period) old s f ≡ true
      → holds (λ a b. leb b.jitter a.jitter) old s f ≡ true
      → holds (λ a b. leb b.payload a.payload) old s f ≡ true
      → holds (λ a b. leb a.deadline b.deadline) old s f ≡ true
      → holds (λ a b. leb b.acknowledgement a.acknowledgement) old s f ≡ true
      → in_row old s f ≡ Ok tt
  in_row_lem (Some r) e t j c d k =
      eased_nothing (at old r) s
      (record { period = leb-true _ _ t; deadline = leb-true _ _ d; jitter = leb-true _ _ j; payload = leb-true _ _ c; acknowledgement = leb-true _ _ k })
  in_row_lem None e t j c d k = absurd (true≢false (sym e))

  -- and back
  it_stands : (f : Option ℕ) → in_row old s f ≡ Ok tt → stands s f ≡ true
  it_stands (Some r) e = refl
  it_stands None e = absurd (of_not_nothing e)

  it_holds : (t : Stream → Stream → Bool) → ((a : Stream) → Eased a s → t a s ≡ true) → (f : Option ℕ) → in_row old s f ≡ Ok tt → holds t old s f ≡ true
  it_holds t h (Some r) e = h (at old r) (eases (at old r) s e)
  it_holds t h None e = absurd (of_not_nothing e)

-- ---- all the conditions
module _ (old new : Plan) where
  abbrev AllHold : Type 0
  AllHold = (j : ℕ) → j < how_many → get_or (conditions old new) j false ≡ true

  constants_hold : AllHold → NoGreater old.timing new.timing
  unfolding conditions
  constants_hold h =
      record {
        f = leb-true _ _ (h 1 (omega arith));
        e = leb-true _ _ (h 2 (omega arith));
        tfcs = leb-true _ _ (h 3 (omega arith));
        swx = leb-true _ _ (h 4 (omega arith));
        h = leb-true _ _ (h 5 (omega arith));
        g = leb-true _ _ (h 6 (omega arith));
        etg = leb-true _ _ (h 7 (omega arith));
        nb = leb-true _ _ (h 8 (omega arith));
        p = leb-true _ _ (h 9 (omega arith));
      }

  unbroken_if : AllHold → Unbroken old new
  unfolding conditions
  unbroken_if h =
      record {
        kit = must_true _ _ (h 0 (omega arith));
        constants = constants_nothing old.timing new.timing (constants_hold h);
        streams = λ k l.
            in_row_lem old (at new k) (row_of old (at new k).label)
            (every_each _ _ (h 10 (omega arith)) k l)
            (every_each _ _ (h 11 (omega arith)) k l)
            (every_each _ _ (h 12 (omega arith)) k l)
            (every_each _ _ (h 13 (omega arith)) k l)
            (every_each _ _ (h 14 (omega arith)) k l)
            (every_each _ _ (h 15 (omega arith)) k l);
        order = λ k l. must_true _ _ (every_each _ _ (h 16 (omega arith)) k l);
        gaps = λ k l. must_true _ _ (every_each _ _ (h 17 (omega arith)) k l);
      }

  -- and back
  each_holds : Unbroken old new → (t : Stream → Stream → Bool) → ((a b : Stream) → Eased a b → t a b ≡ true) → each_beside (holds t old) old new ≡ true
  each_holds u t h = every_all _ _ (λ k l. it_holds old (at new k) t (λ a. h a (at new k)) (row_of old (at new k).label) (u.streams k l))

  if_unbroken : Unbroken old new → AllHold
  unfolding conditions
  if_unbroken u =
      let n = no_greater old.timing new.timing u.constants in
      each_true
      (must_nothing _ _ u.kit
      and le-leb _ _ n.f
      and le-leb _ _ n.e
      and le-leb _ _ n.tfcs
      and le-leb _ _ n.swx
      and le-leb _ _ n.h
      and le-leb _ _ n.g
      and le-leb _ _ n.etg
      and le-leb _ _ n.nb
      and le-leb _ _ n.p
      and every_all _ _ (λ k l. it_stands old (at new k) (row_of old (at new k).label) (u.streams k l))
      and each_holds u (λ a b. leb a.period b.period) (λ a b e. le-leb _ _ e.period)
      and each_holds u (λ a b. leb b.jitter a.jitter) (λ a b e. le-leb _ _ e.jitter)
      and each_holds u (λ a b. leb b.payload a.payload) (λ a b e. le-leb _ _ e.payload)
      and each_holds u (λ a b. leb a.deadline b.deadline) (λ a b e. le-leb _ _ e.deadline)
      and each_holds u (λ a b. leb b.acknowledgement a.acknowledgement) (λ a b e. le-leb _ _ e.acknowledgement)
      and every_all _ _ (λ k l. must_nothing _ _ (u.order k l))
      and every_all _ _ (λ k l. must_nothing _ _ (u.gaps k l))
      and none)

pub all_hold_exactly : AllHoldExactly
all_hold_exactly old new = (λ h. no_changes old new (unbroken_if old new h), λ e. if_unbroken old new (unbroken old new e))
