-- A field that is found is one of the words that are carried, so its byte can be counted. Assumes nothing.
use mathlib.Core.Path.{◌≡◌, sym, ap, ◌∙◌}
use Prim.Native.Nat.{ℕ, ◌<◌, min}
use native.Mathlib.Omega.{arith}
use lib.ListN.{length, get_or}
use Rattle.names.specs.Limits.{streams, sources}
use Rattle.std.specs.Prelude.{Some, Err}
use Rattle.laws.proofs.Lists.{length_rows}
use Rattle.judge.proofs.Table.{given, passed, nothing_given}
use Rattle.carried.specs.Layout as layout
use Rattle.carried.specs.Carried.{Entered, stream_in, entered_in}
use Rattle.fields.specs.Fields.{fields, lowest}
use Rattle.fields.proofs.Inside.{at_the_lowest}
use Rattle.fields.proofs.Carried.{length_fields}
use Rattle.checks.specs.Checks.{byte_in}
use Rattle.checks.proofs.check_fields.Goals as goal
use Rattle.checks.proofs.check_fields.Goals.{Start}

-- what is asked about
abbrev asked : Start → Entered
asked b = entered_in (min b.args.counts.n streams) (min b.args.counts.m sources) b.args.words.now

one_of_them : (b : Start) {k : ℕ} → lowest 0 (fields b.args.counts.edition (asked b)) ≡ Some k → k < layout.largest
unfolding entered_in
one_of_them b e =
    let p = asked b in
    let ws = b.args.words.now in
    let n = min b.args.counts.n streams in
    let m = min b.args.counts.m sources in
    let f = (at_the_lowest 0 (fields b.args.counts.edition p) _).0 e in
    omega (arith, f.counted, f.among, length_fields b.args.counts.edition p, length_rows n (λ r. stream_in ws (layout.stream_at r)), length_rows m (λ k. get_or ws (layout.gap_at n k) 0))

-- it has as many rows as are looked at
rows_asked : (b : Start) → length (asked b).streams ≡ min b.args.counts.n streams
unfolding entered_in
rows_asked b = length_rows (min b.args.counts.n streams) _

pub byte_of-requires : goal.byte_of-requires
byte_of-requires c =
    let at = goal.at.byte_of-requires c in
    one_of_them at.Start (sym c.outside.ensures ∙ c.in-Some.is)

pub returns-in-Some : goal.returns-in-Some
returns-in-Some c =
    let at = goal.at.returns-in-Some c in
    c.refused.ensures
    ∙ ap (λ x. Err (record { number = 3; place = x })) (c.byte_of.ensures ∙ ap (λ n. layout.byte_of (layout.in_bodies c.args.counts.edition n c.in-Some.k)) (c.smaller-rows.ensures ∙ sym (rows_asked at.Start)))
    ∙ sym (given _ _ _ (ap (byte_in c.args.counts.edition (length (asked at.Start).streams)) (sym c.outside.ensures ∙ c.in-Some.is)))

pub returns-in-None : goal.returns-in-None
returns-in-None c =
    let at = goal.at.returns-in-None c in
    sym (passed _ _ (ap (byte_in c.args.counts.edition (length (asked at.Start).streams)) (sym c.outside.ensures ∙ c.in-None.is)) ∙ nothing_given)
