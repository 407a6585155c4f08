-- No two labels have one text: no digit is a point, so the point parts a label's text in one way, and digits are one number's. Assumes nothing.
use mathlib.Core.Path.{◌≡◌, refl, sym, ap, ◌∙◌}
use mathlib.Core.List.{List, [], ◌∷◌, ◌++◌}
use Prim.Native.Nat.{ℕ, suc, ◌/◌, ◌%◌, ◌<◌}
use native.Mathlib.Omega.{arith}
use lib.ListN.{length, get_or, drop}
use Rattle.decimal.specs.Decimal.{digits, value_of}
use Rattle.decimal.proofs.Decimal.{value_of_digits, digits_are_numeral}
use Rattle.ascii.specs.Ascii.{point}
use Rattle.text.specs.Listing.{group}
use Rattle.text.specs.Claims.{LabelsApart}

-- every byte is above the point
abbrev Above : List ℕ → Type 0
Above l = (i : ℕ) → i < length l → point < get_or l i 0

first_byte : {a b : ℕ} {l m : List ℕ} → ◌≡◌ {A = List ℕ} (a ∷ l) (b ∷ m) → a ≡ b
first_byte e = ap (λ l. get_or l 0 0) e

rest_of : {a b : ℕ} {l m : List ℕ} → ◌≡◌ {A = List ℕ} (a ∷ l) (b ∷ m) → l ≡ m
rest_of e = ap (drop 1) e

-- the first point parts a text in one way
parted : (a b c d : List ℕ) → Above a → Above c → a ++ point ∷ b ≡ c ++ point ∷ d → (a ≡ c) × (b ≡ d)
parted [] b [] d h g e = (refl, rest_of e)
parted [] b (y ∷ c) d h g e = absurd (omega (arith, g 0 (omega arith), first_byte e))
parted (x ∷ a) b [] d h g e = absurd (omega (arith, h 0 (omega arith), first_byte e))
parted (x ∷ a) b (y ∷ c) d h g e =
    let (p, q) = parted a b c d (λ i l. h (suc i) (omega arith)) (λ i l. g (suc i) (omega arith)) (rest_of e) in
    (rw (first_byte e, p) refl, q)

digits_above : (n : ℕ) → Above (digits n)
digits_above n i h = omega (arith, ((digits_are_numeral n).each i h).0)

same_number : (m n : ℕ) → digits m ≡ digits n → m ≡ n
same_number m n e = sym (value_of_digits m) ∙ ap value_of e ∙ value_of_digits n

pub labels_apart : LabelsApart
labels_apart a b e =
    let (p, q) = parted (digits (a.0 / group)) (digits (a.0 % group)) (digits (b.0 / group)) (digits (b.0 % group)) (digits_above (a.0 / group)) (digits_above (b.0 / group)) e in
    let g : a.0 / group ≡ b.0 / group = same_number (a.0 / group) (b.0 / group) p in
    let n : a.0 % group ≡ b.0 % group = same_number (a.0 % group) (b.0 % group) q in
    let m : a.0 ≡ b.0 = omega arith in
    ap (λ (x : ℕ). record { 0 = x }) m
