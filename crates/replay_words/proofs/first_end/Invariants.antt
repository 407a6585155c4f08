-- The loop leaves at the first place before which a tournament's text is over. Assumes nothing.
use mathlib.Core.Path.{◌≡◌}
use mathlib.Core.Bool.{Bool}
use mathlib.Core.List.{List}
use Prim.Native.Nat.{ℕ, ◌≤◌}
use lib.ListN.{take}
use Rattle.laws.proofs.Rows.{NoneBelow}
use Rattle.replay_words.specs.Parts.{has_word, ends_after, over}
use Rattle.replay_words.proofs.first_end.Given as goal

-- the text before a place is over
abbrev pub over_at : List ℕ → ℕ → Bool
over_at text end = over (take end text)

abbrev pub invariant-loop-i : goal.invariant-loop-i
invariant-loop-i l =
    NoneBelow (over_at l.text) l.i × (l.ends ≡ ends_after 0 (take l.i l.text)) × (l.some ≡ has_word (take l.i l.text)) × (l.ends ≤ l.i)
