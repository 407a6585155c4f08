-- As many rows and gaps are laid as are counted and have a place. Assumes nothing.
use mathlib.Core.Path.{◌≡◌, refl, ap, ◌∙◌}
use mathlib.Core.List.{flat_map}
use Prim.Native.Nat.{◌≤◌}
use native.Mathlib.Omega.{arith}
use lib.ListN.{length, take, length-take}
use Rattle.std.proofs.lemmas.List.{get_or-take}
use Rattle.laws.proofs.Lists.{take_min}
use Rattle.names.specs.Limits.{streams, sources}
use Rattle.plan.specs.Plan.{blank}
use Rattle.carried.specs.Layout as layout
use Rattle.carried.specs.Carried.{Entered, entered_words, stream_words}
use Rattle.carried.proofs.Plans.{length_words, lay_timing, lay_stream, lay_gaps}
use Rattle.carried.proofs.words_entered.Goals as goal

pub loop-r-init : goal.loop-r-init
unfolding flat_map
loop-r-init c = c.lay.ensures ∙ lay_timing c.args.timing refl c.entered_words.ensures

pub loop-r-preserved : goal.loop-r-preserved
loop-r-preserved c =
    let a = c.args in
    let l = c.loop-r in
    let e = c.smaller-n.ensures in
    let long = length-take c.smaller-n.result a.streams in
    c.lay-in-loop-r.ensures
    ∙ lay_stream a.timing a.streams l.r (omega (arith, long, e)) l.invariant
    (c.stream_words.ensures ∙ ap stream_words (get_or-take c.smaller-n.result a.streams l.r blank (omega (arith, long))))

pub returns : goal.returns
returns c =
    let l = c.loop-r in
    let a = c.args in
    let v : Entered = record { timing = a.timing; streams = take a.count a.streams; gaps = take a.sources a.gaps } in
    let n : length a.streams ≡ streams = omega arith in
    let m : length a.gaps ≡ sources = omega arith in
    let e : l.r ≡ c.smaller-n.result = omega (arith, length-take c.smaller-n.result a.streams, c.smaller-n.ensures) in
    let rows : take c.smaller-n.result a.streams ≡ v.streams = ap (λ k. take k a.streams) c.smaller-n.ensures ∙ take_min a.count streams a.streams (omega (arith, n)) in
    let gaps : take c.smaller-m.result a.gaps ≡ v.gaps = ap (λ k. take k a.gaps) c.smaller-m.ensures ∙ take_min a.sources sources a.gaps (omega (arith, m)) in
    let room : length (entered_words v) ≤ layout.largest = omega (arith, length_words v, length-take a.count a.streams, length-take a.sources a.gaps, n, m) in
    c.lay-2.ensures ∙ lay_gaps v a.streams c.smaller-n.result (omega (arith, c.smaller-n.ensures, n)) rows gaps room (rw (← e) l.invariant)
