-- Each line begins with a letter of its own, and has at most two numbers of ten digits, or a refusal. Assumes nothing.
use mathlib.Core.Path.{◌≡◌, refl, ap}
use mathlib.Core.List.{List, ◌++◌}
use Prim.Native.Nat.{ℕ, ◌+◌, ◌/◌, ◌%◌, ◌≤◌}
use native.Mathlib.Omega.{arith}
use lib.ListN.{length, get_or, length-append}
use Rattle.names.specs.Limits.{ticks}
use Rattle.names.specs.declared.Label.{Label}
use Rattle.ascii.specs.Ascii.{ascii}
use Rattle.decimal.proofs.Decimal.{few_digits}
use Rattle.text.specs.Listing.{label_text}
use Rattle.text.proofs.Size.{largest_refusal}
use Rattle.compare.specs.declared.Constant.{Constant}
use Rattle.compare.specs.declared.Constant.TheVariants.{F, E, Tfcs, Swx, H, G, Etg, Nb, P}
use Rattle.compare.specs.declared.Reason.{Reason}
use Rattle.compare.specs.declared.Reason.TheVariants.{
  MasterNode,
  GreaterConstant,
  NewLabel,
  ShorterPeriod,
  LongerJitter,
  LongerPayload,
  ShorterDeadline,
  LongerAcknowledgement,
  LessUrgent,
  MoreNoise,
}
use Rattle.compare.specs.declared.Compared.{Compared}
use Rattle.compare.specs.declared.Compared.TheVariants.{FirstRefused, SecondRefused, Lighter, RunAgain}
use Rattle.compare_files.specs.Files.{compared_files}
use Rattle.compare_files.proofs.Kept.{said_of_files}
use Rattle.chief.specs.Told.{constant_name, greater_text, noise_text, reason_text, again_line, told_as, told_of, ToldLighter, named, LargestLine}

-- ---- the first letter
abbrev letter : List ℕ → ℕ
letter l = get_or l 0 0

only_lighter : (c : Compared) → told_as c ≡ ascii "lighter\n" → c ≡ Lighter
unfolding again_line
only_lighter (FirstRefused r) e = absurd (let z : ◌≡◌ {A = ℕ} 102 108 = ap letter e in omega arith)
only_lighter (SecondRefused r) e = absurd (let z : ◌≡◌ {A = ℕ} 115 108 = ap letter e in omega arith)
only_lighter Lighter e = refl
only_lighter (RunAgain why) e = absurd (let z : ◌≡◌ {A = ℕ} 114 108 = ap letter e in omega arith)

lighter_line : (c : Compared) → c ≡ Lighter → told_as c ≡ ascii "lighter\n"
lighter_line c e = ap told_as e

pub told_lighter : ToldLighter
unfolding told_of
told_lighter old new =
    let s = said_of_files old new in
    (λ e. s.exactly.0 (only_lighter (compared_files old new) e), λ l. lighter_line (compared_files old new) (s.exactly.1 l))

-- ---- how long it is
stream_size : (l : Label) (words : List ℕ) → l.0 ≤ ticks → length (label_text l ++ words) ≤ 11 + length words
stream_size l words h =
    simp length-append
    (omega (
      arith,
      few_digits 5 (l.0 / 65536) (omega arith) (omega arith),
      few_digits 5 (l.0 % 65536) (omega arith) (omega arith),
    ))

constant_size : (k : Constant) → length (constant_name k) ≤ 4
constant_size F = omega arith
constant_size E = omega arith
constant_size Tfcs = omega arith
constant_size Swx = omega arith
constant_size H = omega arith
constant_size G = omega arith
constant_size Etg = omega arith
constant_size Nb = omega arith
constant_size P = omega arith

reason_size : (why : Reason) → named why ≤ ticks → length (reason_text why) ≤ 52
unfolding greater_text noise_text
reason_size MasterNode h = omega arith
reason_size (GreaterConstant k) h = simp length-append (omega (arith, constant_size k))
reason_size (NewLabel l) h = omega (arith, stream_size l (ascii " is not in the first plan") h)
reason_size (ShorterPeriod l) h = omega (arith, stream_size l (ascii " has a shorter period") h)
reason_size (LongerJitter l) h = omega (arith, stream_size l (ascii " has a longer jitter") h)
reason_size (LongerPayload l) h = omega (arith, stream_size l (ascii " has a longer payload") h)
reason_size (ShorterDeadline l) h = omega (arith, stream_size l (ascii " has a shorter deadline") h)
reason_size (LongerAcknowledgement l) h = omega (arith, stream_size l (ascii " has a longer acknowledgement") h)
reason_size (LessUrgent l) h = omega (arith, stream_size l (ascii " comes after a stream that it came before") h)
reason_size (MoreNoise gap) h = simp length-append (omega (arith, few_digits 10 gap (omega arith) (omega arith)))

pub largest_line : LargestLine
unfolding again_line
largest_line (FirstRefused r) (n, p) = simp length-append (omega (arith, largest_refusal r n p))
largest_line (SecondRefused r) (n, p) = simp length-append (omega (arith, largest_refusal r n p))
largest_line Lighter h = omega arith
largest_line (RunAgain why) h = simp length-append (omega (arith, reason_size why h))
