-- Each test is one that makes a line of two names, in their order. Assumes nothing.
use mathlib.Core.Path.{◌≡◌, sym, ap, ◌∙◌}
use mathlib.Core.List.{List}
use Prim.Native.Nat.{ℕ, ◌+◌, ◌≤◌, ◌<◌}
use native.Mathlib.Omega.{arith}
use lib.ListN.{length, drop}
use Rattle.ascii.specs.Ascii.{space}
use Rattle.pairs.specs.Pairs.{before, second_name}
use Rattle.pairs.proofs.Laws.{length_rest, no_first, no_second, other_space, two_names_lem, after_space}
use Rattle.pairs.proofs.names_in.Goals as goal
use Rattle.pairs.proofs.names_in.Goals.{After-place_of-space, then-space-at-via-then-space-at, then-space-at-via-else-space-at+then-end-second}

-- what the code has once the first space is looked for: the line, and that its names are parted there
abbrev line_at : After-place_of-space → List ℕ
line_at w = drop w.args.at w.args.text.now

long : (w : After-place_of-space) → length w.args.text.now ≡ w.args.at + length (line_at w)
long w = sym (length_rest w.args.at w.args.text.now (omega arith))

second_is : (w : After-place_of-space) → drop (w.place_of-space.result + 1) w.args.text.now ≡ second_name (line_at w)
second_is w = after_space w.args.text.now w.args.at w.place_of-space.result w.place_of-space.ensures.value

second_long : (w : After-place_of-space) → w.place_of-space.result + 1 ≤ length w.args.text.now
    → w.place_of-space.result + 1 + length (second_name (line_at w)) ≡ length w.args.text.now
second_long w h = ap (λ l. w.place_of-space.result + 1 + length l) (sym (second_is w)) ∙ length_rest (w.place_of-space.result + 1) w.args.text.now h

-- .. and once the second name is looked through
second : (w : After-place_of-space) (x : ℕ) → x ≡ w.place_of-space.result + 1 + length (before space (drop (w.place_of-space.result + 1) w.args.text.now))
    → x ≡ w.place_of-space.result + 1 + length (before space (second_name (line_at w)))
second w x e = e ∙ ap (λ l. w.place_of-space.result + 1 + length (before space l)) (second_is w)

pub returns-then-space-at : goal.returns-then-space-at
returns-then-space-at c =
    let at = goal.at.returns-then-space-at c in
    let a = c.args in
    let l = line_at at.After-place_of-space in
    elim c.then-space-at.branch [
      | then-space-at-via-then-space-at w ↦ sym (no_first l a.at (omega (arith, c.place_of-space.ensures.value, w.if-space-at)))
      | then-space-at-via-else-space-at+then-end-second w ↦ sym (no_second l a.at (omega (arith, long at.After-place_of-space, c.place_of-space.ensures.value, w.if-end-second)))
    ]

pub returns-then-place_of-end : goal.returns-then-place_of-end
returns-then-place_of-end c =
    let at = goal.at.returns-then-place_of-end c in
    let a = c.args in
    let short : length (before space (second_name (line_at at.After-place_of-space))) < length (second_name (line_at at.After-place_of-space)) =
    omega (arith, second at.After-place_of-space _ c.place_of.ensures.value, second_long at.After-place_of-space (omega arith)) in
    sym (other_space (line_at at.After-place_of-space) a.at short)

pub returns : goal.returns
returns c =
    let at = goal.at.returns c in
    let a = c.args in
    two_names_lem (line_at at.After-place_of-space) a.at c.place_of-space.result (length a.text.now) c.place_of-space.ensures.value (long at.After-place_of-space) (omega arith) (omega (arith, long at.After-place_of-space))
    (omega (arith, second at.After-place_of-space _ c.place_of.ensures.value, second_long at.After-place_of-space (omega arith)))
