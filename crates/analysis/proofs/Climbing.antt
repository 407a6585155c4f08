-- Laws of stairs: how an edge goes on, a pass over a lot of them and over all, and what the new edges give. Assumes nothing.
use mathlib.Core.Path.{◌≡◌, refl, sym, ap, ◌∙◌}
use mathlib.Core.List.{List}
use Prim.Native.Nat.{ℕ, ◌+◌, ◌-◌, ◌*◌, ◌≤◌, ◌<◌, min}
use native.Mathlib.Nat.{le_refl, min-le_left, min-le_right, lt_of_not-le, zero-mul, add-mul, mul-le-mul_right}
use native.Mathlib.Decide.{dec_le}
use native.Mathlib.Omega.{arith}
use borrow.Author.Count.{below_more}
use lib.ListN.{length, get_or, set, length-set}
use lib.Seq.{get_or-set_same, get_or-set_other}
use Rattle.names.specs.Limits.{ticks}
use Rattle.laws.specs.Lists.{ceil, sum_to}
use Rattle.laws.proofs.Round.{ceil_zero, ceil_mono, ceil_more, ceil_over}
use Rattle.laws.proofs.Lists.{sum_to_none, sum_to_more, sum_to_le, sum_to_same, sum_to_add, sum_to_mono, sum_to_at_most, sum_to_append}
use Rattle.laws.proofs.Chain.{Mono}
use Rattle.analysis.specs.private.Stairs.{stair, height, start, earliest, latest, onward, Stairs, Edges, Gone, NoEdgeBefore, lot, LotEnds, Near, NewNearest, Moved, far}
use Rattle.analysis.specs.declared.stairs.Climber.{Climber}
use Rattle.analysis.specs.private.Chains.{side}

-- ---- one stair
pub not_yet : (x edge period : ℕ) → x ≤ edge → 0 ≡ ceil (x - edge) period
not_yet x edge period h = let z : x - edge ≡ 0 = omega arith in rw z (sym (ceil_zero period))

pub onward_below : (edge period x : ℕ) → edge < far → period ≤ ticks → x ≤ latest → onward edge period x < far
onward_below edge period x a b h = go (dec_le x edge)
  where
    go : Dec (x ≤ edge) → onward edge period x < far
    go (yes p) = rw (← not_yet x edge period p) (omega (arith, zero-mul period))
    go (no p) = omega (arith, ceil_over (x - edge) period, p)

-- what stands at y is what stood at x, and what the new edge gives
pub onward_later : (edge period cost x y : ℕ) → 1 ≤ period → x ≤ y
    → ceil (y - edge) period * cost ≡ ceil (x - edge) period * cost + ceil (y - onward edge period x) period * cost
onward_later edge period cost x y h k =
    let e : y - onward edge period x ≡ y - edge - ceil (x - edge) period * period = omega arith in
    rw e (ap (λ z. z * cost) (ceil_more period (x - edge) (y - edge) h (omega arith)) ∙ add-mul (ceil (x - edge) period) (ceil (y - edge - ceil (x - edge) period * period) period) cost)

-- ---- a pass from `from` on: those up to k have gone on, the others wait
pub gone_none : (periods edges : List ℕ) (from x : ℕ) → Gone periods edges edges from from x
gone_none periods edges from x = record { long = refl; gone = λ j h l. absurd (omega arith); front = λ j h. refl; waits = λ j h. refl }

-- one stair more
pub gone_more : (periods edges now : List ℕ) (from x k v : ℕ) → from ≤ k → k < length edges → v ≡ onward (get_or now k 0) (get_or periods k 0) x → Gone periods edges now from k x
    → Gone periods edges (set now k v) from (k + 1) x
gone_more periods edges now from x k v a h e p =
    let w : get_or now k 0 ≡ get_or edges k 0 = p.waits k (le_refl k) in
    let here : get_or (set now k v) k 0 ≡ onward (get_or edges k 0) (get_or periods k 0) x = get_or-set_same now k v 0 (omega (arith, p.long)) ∙ e ∙ ap (λ z. onward z (get_or periods k 0) x) w in
    record {
      long = length-set now k v ∙ p.long;
      gone = λ j g l. below_more (λ j. from ≤ j → get_or (set now k v) j 0 ≡ onward (get_or edges j 0) (get_or periods j 0) x) k (λ j l g. get_or-set_other now k j v 0 (λ d. omega arith) ∙ p.gone j g l) (λ _. here) j l g;
      front = λ j g. get_or-set_other now k j v 0 (λ d. omega arith) ∙ p.front j g;
      waits = λ j g. get_or-set_other now k j v 0 (λ d. omega arith) ∙ p.waits j (omega arith);
    }

-- where x has passed no edge, going on is staying
pub gone_still : (periods edges : List ℕ) (from to x : ℕ) → NoEdgeBefore x edges from to → Gone periods edges edges from to x
gone_still periods edges from to x h =
    record {
      long = refl;
      gone = λ k a l. rw (← not_yet x (get_or edges k 0) (get_or periods k 0) (h k a l)) (omega (arith, zero-mul (get_or periods k 0)));
      front = λ k l. refl;
      waits = λ k l. refl;
    }

-- one lot after the other
pub gone_on : (periods edges now next : List ℕ) (k to x : ℕ) → k ≤ to → Gone periods edges now 0 k x → Gone periods now next k to x → Gone periods edges next 0 to x
gone_on periods edges now next k to x h p q =
    record {
      long = q.long ∙ p.long;
      gone = λ j a l. elim (dec_le k j) [
        | yes g ↦ q.gone j g l ∙ ap (λ z. onward z (get_or periods j 0) x) (p.waits j g)
        | no g ↦ q.front j (lt_of_not-le g) ∙ p.gone j a (lt_of_not-le g)
      ];
      front = λ j l. absurd (omega arith);
      waits = λ j g. q.waits j g ∙ p.waits j (omega arith);
    }

-- the height of one stair more, as the pass finds it
pub gone_height : (costs periods edges now : List ℕ) (from x k d : ℕ) → d ≡ ceil (x - get_or now k 0) (get_or periods k 0) → Gone periods edges now from k x
    → height costs periods edges (k + 1) x ≡ height costs periods edges k x + d * get_or costs k 0
unfolding height
gone_height costs periods edges now from x k d e p =
    sum_to_more (stair costs periods edges x) k
    ∙ ap (λ z. sum_to (stair costs periods edges x) k + z * get_or costs k 0)
    (sym (e ∙ ap (λ z. ceil (x - z) (get_or periods k 0)) (p.waits k (omega arith))))

pub height_none : (costs periods edges : List ℕ) (x : ℕ) → height costs periods edges 0 x ≡ 0
unfolding height
height_none costs periods edges x = sum_to_none (stair costs periods edges x)

pub height_le : (costs periods edges : List ℕ) (x k n : ℕ) → k ≤ n → height costs periods edges k x ≤ height costs periods edges n x
unfolding height
height_le costs periods edges x k n h = sum_to_le (stair costs periods edges x) k n h

-- the stairs up to k, and those from k on
height_split : (costs periods edges : List ℕ) (x k to : ℕ) → k ≤ to
    → height costs periods edges to x ≡ height costs periods edges k x + sum_to (λ j. stair costs periods edges x (k + j)) (to - k)
unfolding height
height_split costs periods edges x k to h =
    let e : k + (to - k) ≡ to = omega arith in ap (sum_to (stair costs periods edges x)) (sym e) ∙ sum_to_append (stair costs periods edges x) k (to - k)

-- a lot rises by as much from the edges at its turn as from the first ones
pub height_part : (costs periods edges now : List ℕ) (x k to : ℕ) → k ≤ to → Gone periods edges now 0 k x
    → height costs periods now to x + height costs periods edges k x ≡ height costs periods edges to x + height costs periods now k x
height_part costs periods edges now x k to h p =
    let same = sum_to_same (λ j. stair costs periods now x (k + j)) (λ j. stair costs periods edges x (k + j)) (to - k) (λ j l. ap (λ z. ceil (x - z) (get_or periods (k + j) 0) * get_or costs (k + j) 0) (p.waits (k + j) (omega arith))) in
    omega (arith, height_split costs periods edges x k to h, height_split costs periods now x k to h, same)

-- .. and by nothing where it stays
pub height_still : (costs periods edges : List ℕ) (x k to : ℕ) → k ≤ to → NoEdgeBefore x edges k to → height costs periods edges to x ≡ height costs periods edges k x
height_still costs periods edges x k to h still =
    let none : (j : ℕ) → j < to - k → stair costs periods edges x (k + j) ≤ 0 =
    λ j l. rw (← not_yet x (get_or edges (k + j) 0) (get_or periods (k + j) 0) (still (k + j) (omega arith) (omega arith))) (omega (arith, zero-mul (get_or costs (k + j) 0))) in
    omega (arith, height_split costs periods edges x k to h, sum_to_at_most (λ j. stair costs periods edges x (k + j)) 0 (to - k) none)

-- the edges stay within their word
pub gone_edges : (costs periods edges now : List ℕ) (n k x : ℕ) → Stairs costs periods n → Edges edges n → x ≤ latest → Gone periods edges now 0 k x → Edges now n
gone_edges costs periods edges now n k x s b h p =
    record {
      long = omega (arith, p.long, b.long);
      below = λ j g. elim (dec_le k j) [
        | yes l ↦ rw (p.waits j l) (b.below j g)
        | no l ↦ rw (p.gone j (omega arith) (lt_of_not-le l)) (onward_below (get_or edges j 0) (get_or periods j 0) x (b.below j g) (s.period j g) h)
      ];
    }

-- all stairs have gone on
pub gone_moved : (costs periods edges now : List ℕ) (n x : ℕ) → Stairs costs periods n → Edges edges n → x ≤ latest → Gone periods edges now 0 n x
    → Moved costs periods edges now n x
unfolding height
gone_moved costs periods edges now n x s b h p =
    record {
      known = gone_edges costs periods edges now n n x s b h p;
      later = λ y l. sum_to_add _ _ _ n (λ k g. rw (p.gone k (omega arith) g) (onward_later (get_or edges k 0) (get_or periods k 0) (get_or costs k 0) x y (s.some k g) l));
    }

-- what is known of n stairs is known of fewer
pub fewer_stairs : (costs periods : List ℕ) (to n : ℕ) → to ≤ n → Stairs costs periods n → Stairs costs periods to
fewer_stairs costs periods to n h s =
    record {
      few = omega (arith, s.few);
      costs_long = omega (arith, s.costs_long);
      periods_long = omega (arith, s.periods_long);
      cost = λ k l. s.cost k (omega arith);
      some = λ k l. s.some k (omega arith);
      period = λ k l. s.period k (omega arith);
    }

pub fewer_edges : (edges : List ℕ) (to n : ℕ) → to ≤ n → Edges edges n → Edges edges to
fewer_edges edges to n h b = record { long = omega (arith, b.long); below = λ k l. b.below k (omega arith) }

-- the stairs never fall
pub height_mono : (costs periods edges : List ℕ) (n x y : ℕ) → x ≤ y → height costs periods edges n x ≤ height costs periods edges n y
unfolding height
height_mono costs periods edges n x y h =
    sum_to_mono _ _ n (λ k. mul-le-mul_right (get_or costs k 0) (ceil_mono (get_or periods k 0) (omega arith)))

pub side_mono : (costs periods edges : List ℕ) (n base sum : ℕ) → Mono (side costs periods edges n base sum)
side_mono costs periods edges n base sum x y h = omega (arith, height_mono costs periods edges n (x + start) (y + start) (omega arith))

-- ---- the nearest edges of the lots
-- the nearest of one stair more
pub nearest_more : (edges : List ℕ) (from k v near next : ℕ) → k < length edges → next ≡ min near v → NoEdgeBefore near edges from k → NoEdgeBefore next (set edges k v) from (k + 1)
nearest_more edges from k v near next h e f j a l =
    below_more (λ j. from ≤ j → next ≤ get_or (set edges k v) j 0) k
    (λ j g b. rw (get_or-set_other edges k j v 0 (λ d. omega arith)) (omega (arith, e, min-le_left near v, f j b g)))
    (λ _. rw (get_or-set_same edges k v 0 h) (omega (arith, e, min-le_right near v)))
    j l a

-- at first none is known, and the earliest is before all
pub near_start : {R L : ℕ} (c : Climber R L) (n : ℕ) → n ≤ length c.nearest * lot → ((k : ℕ) → k < n → earliest ≤ get_or c.edges k 0)
    → ((b : ℕ) → b < length c.nearest → get_or c.nearest b 0 ≡ earliest) → Near c n
near_start c n h after none = record { long = h; before = λ b k a l g. omega (arith, none b (omega arith), after k g) }

-- lot b of n stairs: what is known of its nearest edge
pub near_lot : {R L : ℕ} (c : Climber R L) (n b from to : ℕ) → from ≡ b * lot → LotEnds from n to → Near c n → NoEdgeBefore (get_or c.nearest b 0) c.edges from to
near_lot c n b from to d e r k a l = r.before b k (omega arith) (omega (arith, e.short)) (omega (arith, e.within))

-- .. and after it went on
pub near_on : {R L : ℕ} (periods : List ℕ) (c next : Climber R L) (n b from to x : ℕ) → from ≡ b * lot → LotEnds from n to → Gone periods c.edges next.edges from to x → NewNearest c next b from to
    → Near c n → Near next n
near_on periods c next n b from to x s e p f r =
    record {
      long = rw f.long r.long;
      before = λ a k l g m. elim (dec_le from k) [
        | no q ↦ other a k l g m (λ d. omega (arith, d, lt_of_not-le q)) (p.front k (lt_of_not-le q))
        | yes q ↦ elim (dec_le to k) [
          | yes t ↦ other a k l g m (λ d. omega (arith, d, e.whole (omega arith))) (p.waits k t)
          | no t ↦ (let i : a ≡ b = omega (arith, e.short, lt_of_not-le t) in rw i (f.this k q (lt_of_not-le t)))
        ]
      ];
    }
  where
    other : (a k : ℕ) → a * lot ≤ k → k < a * lot + lot → k < n → (a ≡ b → ⊥) → get_or next.edges k 0 ≡ get_or c.edges k 0 → get_or next.nearest a 0 ≤ get_or next.edges k 0
    other a k l g m d s = rw (f.others a d, s) (r.before a k l g m)
