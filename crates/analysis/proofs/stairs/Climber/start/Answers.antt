-- The noise sources' stairs start first, and the streams' leave them as they are.
use mathlib.Core.Path.{◌≡◌, ap, ◌∙◌}
use Prim.Native.Nat.{ℕ}
use borrow.Author.Rules.{rules}
use native.Mathlib.Omega.{arith}
use lib.ListN.{length, get_or, replicate, get_or-replicate}
use Rattle.analysis.specs.private.Stairs.{earliest, Started}
use Rattle.analysis.proofs.Starts.{both_started, started_near}
use Rattle.analysis.proofs.stairs.Climber.start.Goals as goal

pub returns-clause-near : goal.returns-clause-near
returns-clause-near g c =
    let p = c.requires in
    let f = c.args.fitting.fit in
    let a = c.args.self.now in
    let edges : length a.edges ≡ g.row.ROOM = search rules in
    let nearest : length a.nearest ≡ g.row.LOTS_ROOM = search rules in
    let both : Started _ _ _ _ _ _ = both_started _ _ _ _ _ _ _ _ (omega (arith, p.room.each, edges)) c.start_sources.ensures c.start_streams.ensures in
    let filled : c.fill.new.self ≡ replicate (length a.nearest) earliest = c.fill.ensures.after (λ y h. h) in
    started_near _ _ _ _ _ _ p.late_le_cost p.window_le_cost (λ k h. (f.urgent k h).jitter) both (omega (arith, c.fill.auto.self, p.room.lots, nearest))
    (λ b h. ap (λ xs. get_or xs b 0) filled ∙ get_or-replicate {A = ℕ} (length a.nearest) b earliest 0 (omega (arith, c.fill.auto.self)))
