use mathlib.Core.Path.{◌≡◌, refl, sym, ap, ◌∙◌}
use mathlib.Core.Bool.{Bool, true, false, ◌&&◌}
use mathlib.Core.Logic.{inl, inr}
use mathlib.Core.List.{List}
use Prim.Native.Nat.{ℕ}
use native.Mathlib.Omega.{arith}
use borrow.Author.Tests.{le-leb, lt-leb}
use lib.Dec.{leb}
use lib.ListN.{length, get_or, take}
use Rattle.laws.proofs.Rows.{none_yet, none_more, found_at, found_none}
use Rattle.replay_words.specs.Parts.{has_word, ends_with, ends_after, over, or_all, first_end}
use Rattle.replay_words.proofs.Parts.{above, has_more, ends_more, ends_few}
use Rattle.replay_words.proofs.first_end.Invariants.{over_at}
use Rattle.replay_words.proofs.first_end.Goals as goal

is_over_at : (text : List ℕ) (i : ℕ) {ends : ℕ} {some b : Bool} → ends ≡ ends_after 0 (take i text) → some ≡ has_word (take i text) → some && leb 2 ends ≡ b → over_at text i ≡ b
unfolding over
is_over_at text i e s q = rw (sym e, sym s) q

pub loop-i-init : goal.loop-i-init
unfolding ends_after
loop-i-init c = (none_yet _, refl, refl, omega arith)

pub returns-then-ends-ge2 : goal.returns-then-ends-ge2
unfolding first_end
returns-then-ends-ge2 c =
    let l = c.loop-i in
    let text = c.args.text.now in
    let o : over_at text l.i ≡ true = is_over_at text l.i l.invariant.1 l.invariant.2 (rw (c.if-some.true, le-leb 2 l.ends c.if-ends-ge2.true) refl) in
    sym (ap (λ f. or_all f (length text)) (found_at (over_at text) (length text) l.i l.invariant.0 (omega arith) o))

pub loop-i-preserved : goal.loop-i-preserved
loop-i-preserved c =
    let l = c.loop-i in
    let text = c.args.text.now in
    let b = get_or text l.i 0 in
    let not_over : l.some && leb 2 l.ends ≡ false =
    elim c.else-some.either [ inl e ↦ rw (e.0, lt-leb 2 l.ends e.1) refl | inr e ↦ rw e refl ] in
    let w = c.ends_with-ends.ensures in (
      none_more (over_at text) l.i l.invariant.0 (is_over_at text l.i l.invariant.1 l.invariant.2 not_over),
      w ∙ ap (λ n. ends_with n b) l.invariant.1 ∙ ends_more text l.i (omega arith),
      rw (l.invariant.2, above b) (has_more text l.i (omega arith)),
      rw w (ends_few l.ends b l.i l.invariant.3),
    )

pub returns : goal.returns
unfolding first_end
returns c =
    let l = c.loop-i in
    let text = c.args.text.now in
    sym (ap (λ f. or_all f (length text)) (found_none (over_at text) (length text) l.i l.invariant.0 (omega arith)))
