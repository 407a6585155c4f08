-- A number as decimal text, in bytes: most significant digit first, "0" for 0, no other text with a 0 in front.
use Rattle.std.specs.Prelude.{◌≡◌, true, false, List, [], ◌∷◌, ◌++◌, ℕ, zero, suc, ◌+◌, ◌-◌, ◌*◌, ◌/◌, ◌%◌, ◌^◌, ◌≤◌, ◌<◌, ltb, length, get_or}

-- the byte of a digit: "0" is 48, "9" is 57
abbrev pub digit : ℕ → ℕ
digit d = 48 + d

-- a number below 10 is its one digit; any other is the digits of its tenth, then its last digit. k bounds how many there are
unfoldable pub digits_of : ℕ → ℕ → List ℕ
digits_of zero n = []
digits_of (suc k) n = elim (ltb n 10) [ true ↦ digit n ∷ [] | false ↦ digits_of k (n / 10) ++ (digit (n % 10) ∷ []) ]

-- the digits of n, which are n + 1 at most
unfoldable pub digits : ℕ → List ℕ
digits n = digits_of (suc n) n

-- the number that digits go on to, after those of n
unfoldable pub value_from : ℕ → List ℕ → ℕ
value_from n [] = n
value_from n (b ∷ bs) = value_from (n * 10 + (b - digit 0)) bs

-- the number that a text of digits is
abbrev pub value_of : List ℕ → ℕ
value_of bs = value_from 0 bs

-- ---- What is proved of a number's text; the proofs are in proofs/Decimal.antt.

-- a text that is a number: digits, at least one, and a 0 in front only by itself
pub record Numeral (bs : List ℕ) : Type 0 where
  pub some : 1 ≤ length bs
  pub each : (i : ℕ) → i < length bs → (digit 0 ≤ get_or bs i 0) × (get_or bs i 0 ≤ digit 9)
  pub front : 2 ≤ length bs → digit 1 ≤ get_or bs 0 0

-- the digits of a number are such a text, ..
abbrev pub DigitsAreNumeral : Type 0
DigitsAreNumeral = (n : ℕ) → Numeral (digits n)

-- .. their value is the number, ..
abbrev pub ValueOfDigits : Type 0
ValueOfDigits = (n : ℕ) → value_of (digits n) ≡ n

-- .. and a text that is a number is the digits of its value: each number has one text
abbrev pub DigitsOfValue : Type 0
DigitsOfValue = (bs : List ℕ) → Numeral bs → digits (value_of bs) ≡ bs

-- a number below 10^k has at most k digits, for k from 1
abbrev pub FewDigits : Type 0
FewDigits = (k n : ℕ) → 1 ≤ k → n < 10 ^ k → length (digits n) ≤ k
