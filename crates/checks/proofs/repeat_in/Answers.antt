use mathlib.Core.Path.{◌≡◌, refl, ap, ◌∙◌}
use mathlib.Core.List.{List, []}
use Prim.Native.Nat.{ℕ, ◌+◌, ◌<◌, min}
use native.Mathlib.Numerals.{add-one}
use native.Mathlib.Omega.{arith}
use lib.ListN.{length, get_or, set, take, length-set, length-replicate}
use lib.Seq.{take-suc-set}
use Rattle.names.specs.Limits.{streams}
use Rattle.repeats.specs.Repeats.{first_repeat}
use Rattle.laws.specs.Lists.{rows}
use Rattle.laws.proofs.Lists.{rows_more}
use Rattle.carried.specs.Layout as layout
use Rattle.carried.proofs.Pieces.{length_records, record_word}
use Rattle.checks.proofs.repeat_in.Goals as goal

more : (f : ℕ → ℕ) (out : List ℕ) (r : ℕ) {v : ℕ} → r < length out → v ≡ f r → take r out ≡ rows r f → take (r + 1) (set out r v) ≡ rows (r + 1) f
more f out r h d e = rw (d, rows_more f r, add-one r, take-suc-set out r (f r) h, e) refl

pub bounds-column-r : goal.bounds-column-r
bounds-column-r g c = omega (arith, length_records c.args.n c.args.words.now c.records-record-items.ensures, c.requires.n_le_R)

pub loop-r-init : goal.loop-r-init
unfolding rows
loop-r-init g c = (refl, refl)

pub loop-r-preserved : goal.loop-r-preserved
loop-r-preserved g c =
    let l = c.loop-r in
    let a = c.args in
    let ws = a.words.now in
    let all = length_records a.n ws c.records-record-items.ensures in
    let long : length l.column ≡ g.row.R = l.invariant.0 ∙ length-replicate g.row.R 0 in (
      length-set l.column l.r _ ∙ l.invariant.0,
      more (λ j. get_or ws (layout.stream_at j + a.k) 0) l.column l.r (omega (arith, long, all, c.requires.n_le_R))
          (ap (λ rs. get_or (get_or rs l.r []) a.k 0) c.records-record-items.ensures ∙ record_word (min a.n streams) ws l.r (omega (arith, all)) a.k c.requires.k_lt_stream_length)
          l.invariant.1,
    )

pub shared_whole_as_front-first_repeat : goal.shared_whole_as_front-first_repeat
shared_whole_as_front-first_repeat g c = (c.requires.n_le_R, omega (arith, c.requires.R_le_streams))

pub returns : goal.returns
returns g c =
    let l = c.loop-r in
    let a = c.args in
    let ws = a.words.now in
    let e : l.r ≡ a.n = omega (arith, length_records a.n ws c.records-record-items.ensures, c.requires.n_le_R, c.requires.R_le_streams) in
    c.first_repeat.ensures ∙ ap first_repeat (rw (← e) l.invariant.1)
