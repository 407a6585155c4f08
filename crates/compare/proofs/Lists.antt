-- What is said of the lists that are lent is what is said of the plans. Assumes nothing.
use Rattle.std.proofs.Common.{◌≡◌, ◌∙◌, refl, sym, ap, ap₂, arith, ℕ, zero, suc, ◌+◌, ◌<◌, ◌≤◌, List, [], ◌∷◌, map, Bool, true, false, not, ◌&&◌, ◌||◌, Option, Some, None, ltb, leb, eqb, length, get_or, take, find, set, min}
use Rattle.std.proofs.lemmas.List.{get_or-map, length-map}
use Rattle.std.specs.Option.{option_map}
use Rattle.names.specs.Limits.{streams}
use Rattle.laws.specs.Rows.{some}
use Rattle.laws.specs.Search.{first}
use Rattle.laws.proofs.Placed.{placed_to, placed_more, placed_all, placed_front}
use Rattle.laws.proofs.Rows.{finds_lowest, finds_nothing}
use Rattle.plan.specs.declared.Stream.{Stream}
use Rattle.plan.specs.Plan.{Plan, blank, at}
use Rattle.compare.specs.declared.Reason.TheVariants.{LessUrgent}
use Rattle.compare.specs.Changes.{must, ◌or◌, first_change, row_of, in_row, of_stream, number_in, number_under, overtakes, of_streams, of_order}
use Rattle.compare.specs.private.Moves.{priority_of, column_placed, under, beside, had, number_then, of_row, overtakes_by, order_by, streams_by}
use Rattle.compare.proofs.First.{Change}

-- ---- what is found in a list is the element in the first place that passes
found_here : {A : Type 0} (t : A → Bool) (d : A) (xs : List A) (r : ℕ) → r < length xs → t (get_or xs r d) ≡ true
    → ((k : ℕ) → k < r → t (get_or xs k d) ≡ false) → find t xs ≡ Some (get_or xs r d)
found_here t d [] r h e n = absurd (omega arith)
found_here t d (x ∷ xs) zero h e n = rw e refl
found_here t d (x ∷ xs) (suc r) h e n =
    let z : t x ≡ false = n 0 (omega arith) in
    rw z (found_here t d xs r (omega arith) e (λ k l. n (suc k) (omega arith)))

found_nowhere : {A : Type 0} (t : A → Bool) (d : A) (xs : List A) → ((k : ℕ) → k < length xs → t (get_or xs k d) ≡ false) → find t xs ≡ None
found_nowhere t d [] n = refl
found_nowhere t d (x ∷ xs) n =
    let z : t x ≡ false = n 0 (omega arith) in
    rw z (found_nowhere t d xs (λ k l. n (suc k) (omega arith)))

found : {A : Type 0} (t : A → Bool) (d : A) (xs : List A) → find t xs ≡ option_map (λ r. get_or xs r d) (first (λ r. t (get_or xs r d)) 0 (length xs))
found t d xs = go (first u 0 (length xs)) refl
  where
    u : ℕ → Bool
    u r = t (get_or xs r d)

    go : (f : Option ℕ) → first u 0 (length xs) ≡ f → find t xs ≡ option_map (λ r. get_or xs r d) f
    go (Some r) e =
        let l = (finds_lowest u 0 (length xs) r).0 e in
        found_here t d xs r (omega (arith, l.below)) l.passes (λ k h. l.lowest k (omega arith) h)
    go None e = found_nowhere t d xs (λ k h. (finds_nothing u 0 (length xs)).0 e k (omega arith) (omega (arith, h)))

-- ---- a column in the places of an array: one stream more, ..
pub column_more : (f : Stream → ℕ) (ss : List Stream) (k : ℕ) {l : List ℕ} {x : ℕ} → k < length ss → length ss ≤ streams
    → l ≡ placed_to streams 0 (map f ss) k → x ≡ f (get_or ss k blank) → set l k x ≡ placed_to streams 0 (map f ss) (k + 1)
column_more f ss k {l} h few e d =
    ap (set l k) (d ∙ sym (get_or-map f ss k blank 0 h))
    ∙ placed_more streams 0 (map f ss) k l (omega arith) (omega (arith, length-map ss f)) e

-- .. all, ..
pub column_all : (f : Stream → ℕ) (ss : List Stream) (n : ℕ) {l : List ℕ} → n ≡ length ss → length ss ≤ streams
    → l ≡ placed_to streams 0 (map f ss) n → l ≡ column_placed f ss
column_all f ss n d h e =
    let m : n ≡ min (length (map f ss)) streams = omega (arith, length-map ss f) in
    e ∙ ap (placed_to streams 0 (map f ss)) m ∙ placed_all streams 0 (map f ss)

-- .. and its front, one place for each stream, is the column
pub column_front : (f : Stream → ℕ) (ss : List Stream) → length ss ≤ streams → take (length ss) (column_placed f ss) ≡ map f ss
column_front f ss h =
    let n : length ss ≡ length (map f ss) = sym (length-map ss f) in
    ap (λ k. take k (column_placed f ss)) n ∙ placed_front streams 0 (map f ss) (omega (arith, n))

-- ---- the same tests, row by row
some_same : (t u : ℕ → Bool) (n : ℕ) → ((j : ℕ) → j < n → t j ≡ u j) → some t n ≡ some u n
unfolding some
some_same t u zero h = refl
some_same t u (suc n) h = ap₂ (λ a b. a || b) (some_same t u n (λ j l. h j (omega arith))) (h n (omega arith))

changes_same : (f g : ℕ → Change) (n : ℕ) → ((k : ℕ) → k < n → f k ≡ g k) → first_change f n ≡ first_change g n
unfolding first_change
changes_same f g zero h = refl
changes_same f g (suc n) h = ap₂ (λ a b. a or b) (changes_same f g n (λ j l. h j (omega arith))) (h n (omega arith))

module _ (old new : Plan) where
  -- the stream that is under a label
  under_row : (s : Stream) → under old.streams s ≡ option_map (at old) (row_of old s.label)
  unfolding row_of
  under_row s = found (λ held. eqb held.label.0 s.label.0) blank old.streams

  -- ---- the streams
  beside_row : (s : Stream) → beside s (under old.streams s) ≡ of_stream old s
  beside_row s = ap (beside s) (under_row s) ∙ go (row_of old s.label)
    where
      go : (f : Option ℕ) → beside s (option_map (at old) f) ≡ in_row old s f
      go (Some r) = refl
      go None = refl

  as_streams : first_change (of_row old.streams new.streams) (length new.streams) ≡ of_streams old new
  as_streams = changes_same _ _ (length new.streams) (λ k h. beside_row (at new k))

  -- ---- their order of priority
  abbrev was : List ℕ
  was = map (number_then old.streams) new.streams

  abbrev is : List ℕ
  is = map priority_of new.streams

  then_is : (s : Stream) → number_then old.streams s ≡ number_under old s.label
  then_is s = ap had (under_row s) ∙ go (row_of old s.label)
    where
      go : (f : Option ℕ) → had (option_map (at old) f) ≡ number_in old f
      go (Some r) = refl
      go None = refl

  was_at : (k : ℕ) → k < length new.streams → get_or was k 0 ≡ number_under old (at new k).label
  was_at k h = get_or-map (number_then old.streams) new.streams k blank 0 h ∙ then_is (at new k)

  is_at : (k : ℕ) → k < length new.streams → get_or is k 0 ≡ (at new k).priority.0
  is_at k h = get_or-map priority_of new.streams k blank 0 h

  overtaking : (k j : ℕ) → k < length new.streams → j < length new.streams → overtakes_by was is k j ≡ overtakes old new k j
  overtaking k j h i = λ x. ltb (is_at j i x) (is_at k h x) && leb (was_at k h x) (was_at j i x)

  as_order : order_by new.streams was is ≡ of_order old new
  as_order =
      changes_same _ _ (length new.streams)
      (λ k h. ap (λ t. must (not t) (LessUrgent (at new k).label))
      (ap (some (overtakes_by was is k)) (length-map new.streams priority_of)
      ∙ some_same _ _ (length new.streams) (λ j i. overtaking k j h i)))

  -- ---- the streams, and then their order
  pub as_plans : (xs ys : List Stream) → xs ≡ old.streams → ys ≡ new.streams → streams_by xs ys ≡ of_streams old new or of_order old new
  as_plans xs ys held given = ap₂ streams_by held given ∙ ap₂ (λ a b. a or b) as_streams as_order
