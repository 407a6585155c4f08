-- The laws of a number's digits: one digit more, the value read back, one text for a number, how many there are. Assumes nothing.
use mathlib.Core.Path.{◌≡◌, refl, sym, ap, ◌∙◌, subst}
use mathlib.Core.Bool.{Bool, true, false}
use mathlib.Core.Logic.{◌⊎◌, inl, inr, ⊎_elim}
use mathlib.Core.List.{List, [], ◌∷◌, ◌++◌, append_assoc, append-nil}
use Prim.Native.Nat.{ℕ, zero, suc, ◌+◌, ◌-◌, ◌*◌, ◌/◌, ◌%◌, ◌≤◌, ◌<◌}
use native.Mathlib.Nat.{pow-suc, div-lt_iff_lt-mul}
use native.Mathlib.Omega.{arith}
use borrow.Author.Tests.{lt-ltb, le-ltb, ltb-true, ltb-false}
use lib.Dec.{ltb}
use lib.ListN.{length, get_or, length-append}
use Rattle.decimal.specs.Decimal.{digit, digits_of, digits, value_from, DigitsAreNumeral, ValueOfDigits, DigitsOfValue, FewDigits}

below : (n : ℕ) → (n < 10) ⊎ (10 ≤ n)
below n = go (ltb n 10) refl
  where
    go : (b : Bool) → ltb n 10 ≡ b → (n < 10) ⊎ (10 ≤ n)
    go true e = inl (ltb-true n 10 e)
    go false e = inr (ltb-false n 10 e)

of_one : (k n : ℕ) → n < 10 → digits_of (suc k) n ≡ digit n ∷ []
unfolding digits_of
of_one k n h = rw (lt-ltb n 10 h, digits_of) refl

of_more : (k n : ℕ) → 10 ≤ n → digits_of (suc k) n ≡ digits_of k (n / 10) ++ (digit (n % 10) ∷ [])
unfolding digits_of
of_more k n h = rw (le-ltb n 10 h, digits_of) refl

-- more than enough is enough
of_same : (k j n : ℕ) → n < k → n < j → digits_of k n ≡ digits_of j n
of_same zero j n h g = absurd (omega arith)
of_same (suc k) zero n h g = absurd (omega arith)
of_same (suc k) (suc j) n h g =
    ⊎_elim
    (λ (l : n < 10). of_one k n l ∙ sym (of_one j n l))
    (λ (l : 10 ≤ n).
    of_more k n l ∙ ap (λ t. t ++ (digit (n % 10) ∷ [])) (of_same k j (n / 10) (omega arith) (omega arith)) ∙ sym (of_more j n l))
    (below n)

pub digits_one : (n : ℕ) → n < 10 → digits n ≡ digit n ∷ []
unfolding digits
digits_one n h = of_one n n h

pub digits_more : (n : ℕ) → 10 ≤ n → digits n ≡ digits (n / 10) ++ (digit (n % 10) ∷ [])
unfolding digits
digits_more n h = of_more n n h ∙ ap (λ t. t ++ (digit (n % 10) ∷ [])) (of_same n (suc (n / 10)) (n / 10) (omega arith) (omega arith))

-- ---- the value read back
pub value_snoc : (n : ℕ) (bs : List ℕ) (b : ℕ) → value_from n (bs ++ (b ∷ [])) ≡ value_from n bs * 10 + (b - digit 0)
unfolding value_from
value_snoc n [] b = refl
value_snoc n (c ∷ bs) b = value_snoc (n * 10 + (c - digit 0)) bs b

value_of : (k n : ℕ) → n < k → value_from 0 (digits_of k n) ≡ n
unfolding value_from
value_of zero n h = absurd (omega arith)
value_of (suc k) n h =
    ⊎_elim
    (λ (l : n < 10). ap (value_from 0) (of_one k n l) ∙ omega arith)
    (λ (l : 10 ≤ n).
    ap (value_from 0) (of_more k n l) ∙ value_snoc 0 (digits_of k (n / 10)) (digit (n % 10)) ∙ omega (arith, value_of k (n / 10) (omega arith)))
    (below n)

pub value_of_digits : ValueOfDigits
unfolding digits
value_of_digits n = value_of (suc n) n (omega arith)

-- ---- the digits of n, and then some more
digits_next : (n b : ℕ) → 1 ≤ n → digit 0 ≤ b → b ≤ digit 9 → digits (n * 10 + (b - digit 0)) ≡ digits n ++ (b ∷ [])
digits_next n b h l g =
    let m = n * 10 + (b - digit 0) in
    let d : m / 10 ≡ n = omega arith in
    let r : digit (m % 10) ≡ b = omega arith in
    digits_more m (omega arith) ∙ ap (λ t. digits t ++ (digit (m % 10) ∷ [])) d ∙ ap (λ t. digits n ++ (t ∷ [])) r

digits_after : (n : ℕ) (bs : List ℕ) → 1 ≤ n → ((i : ℕ) → i < length bs → (digit 0 ≤ get_or bs i 0) × (get_or bs i 0 ≤ digit 9)) → digits (value_from n bs) ≡ digits n ++ bs
unfolding value_from
digits_after n [] h e = sym (append-nil (digits n))
digits_after n (b ∷ bs) h e =
    let (l, g) = e 0 (omega arith) in
    digits_after (n * 10 + (b - digit 0)) bs (omega arith) (λ i p. e (suc i) (omega arith))
    ∙ ap (λ t. t ++ bs) (digits_next n b h l g)
    ∙ append_assoc (digits n) (b ∷ []) bs

front_digit : (b : ℕ) → (digit 0 ≤ b) × (b ≤ digit 9) → digits (0 * 10 + (b - digit 0)) ≡ b ∷ []
front_digit b h =
    let e : digit (0 * 10 + (b - digit 0)) ≡ b = omega arith in
    digits_one (0 * 10 + (b - digit 0)) (omega arith) ∙ ap (λ t. t ∷ []) e

pub digits_of_value : DigitsOfValue
unfolding value_from
digits_of_value [] m = absurd (omega (arith, m.some))
digits_of_value (b ∷ []) m = front_digit b (m.each 0 (omega arith))
digits_of_value (b ∷ c ∷ bs) m =
    digits_after (0 * 10 + (b - digit 0)) (c ∷ bs) (omega (arith, m.front (omega arith))) (λ i p. m.each (suc i) (omega arith))
    ∙ ap (λ t. t ++ (c ∷ bs)) (front_digit b (m.each 0 (omega arith)))

-- ---- the digits are a numeral
-- what holds of each, and of one more
each_snoc : (P : ℕ → Type 0) (bs : List ℕ) (b : ℕ) → ((i : ℕ) → i < length bs → P (get_or bs i 0)) → P b → (i : ℕ) → i < length (bs ++ (b ∷ [])) → P (get_or (bs ++ (b ∷ [])) i 0)
each_snoc P [] b h p zero l = p
each_snoc P [] b h p (suc i) l = absurd (omega arith)
each_snoc P (c ∷ bs) b h p zero l = h 0 (omega arith)
each_snoc P (c ∷ bs) b h p (suc i) l = each_snoc P bs b (λ j g. h (suc j) (omega arith)) p i (omega arith)

-- the first of some, with one more behind
front_snoc : (bs : List ℕ) (b : ℕ) → 1 ≤ length bs → get_or (bs ++ (b ∷ [])) 0 0 ≡ get_or bs 0 0
front_snoc [] b h = absurd (omega arith)
front_snoc (c ∷ bs) b h = refl

record Proper (n : ℕ) (bs : List ℕ) : Type 0 where
  some : 1 ≤ length bs
  each : (i : ℕ) → i < length bs → (digit 0 ≤ get_or bs i 0) × (get_or bs i 0 ≤ digit 9)
  front : 1 ≤ n → digit 1 ≤ get_or bs 0 0
  one : n < 10 → length bs ≡ 1

proper : (k n : ℕ) → n < k → Proper n (digits_of k n)
proper zero n h = absurd (omega arith)
proper (suc k) n h =
    ⊎_elim
    (λ (l : n < 10).
    subst (Proper n) (sym (of_one k n l)) (record {
      some = omega arith;
      each = each_snoc (λ b. (digit 0 ≤ b) × (b ≤ digit 9)) [] (digit n) (λ i g. absurd (omega arith)) (omega arith, omega arith);
      front = λ p. omega arith;
      one = λ p. refl;
    }))
    (λ (l : 10 ≤ n).
    let ds = digits_of k (n / 10) in
    let p : Proper (n / 10) ds = proper k (n / 10) (omega arith) in
    subst (Proper n) (sym (of_more k n l)) (record {
      some = omega (arith, length-append ds (digit (n % 10) ∷ []));
      each = each_snoc (λ b. (digit 0 ≤ b) × (b ≤ digit 9)) ds (digit (n % 10)) p.each (omega arith, omega arith);
      front = λ q. omega (arith, front_snoc ds (digit (n % 10)) p.some, p.front (omega arith));
      one = λ q. absurd (omega arith);
    }))
    (below n)

pub digits_are_numeral : DigitsAreNumeral
unfolding digits
digits_are_numeral n =
    let p = proper (suc n) n (omega arith) in
    record {
      some = p.some;
      each = p.each;
      front = λ h. ⊎_elim (λ (l : n < 10). absurd (omega (arith, p.one l))) (λ (l : 10 ≤ n). p.front (omega arith)) (below n);
    }

-- ---- how many there are
pub few_digits : FewDigits
few_digits zero n h l = absurd (omega arith)
few_digits (suc zero) n h l = omega (arith, ap length (digits_one n l))
few_digits (suc (suc k)) n h l =
    ⊎_elim
    (λ (g : n < 10). omega (arith, ap length (digits_one n g)))
    (λ (g : 10 ≤ n).
    omega (
      arith,
      ap length (digits_more n g),
      length-append (digits (n / 10)) (digit (n % 10) ∷ []),
      few_digits (suc k) (n / 10) (omega arith) ((div-lt_iff_lt-mul (omega arith)).1 (rw pow-suc at l)),
    ))
    (below n)
