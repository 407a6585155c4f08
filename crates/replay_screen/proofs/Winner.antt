-- The last line of a replay names the row with the smallest priority, since that row wins. Assumes nothing.
use mathlib.Core.Path.{◌≡◌, ap, ◌∙◌}
use mathlib.Core.List.{◌++◌}
use native.Mathlib.Omega.{arith}
use lib.ListN.{get_or}
use Rattle.tournament_state.specs.declared.Phase.TheVariants.{AtBit}
use Rattle.tournament_state.specs.Refusals.{none}
use Rattle.tournament_state.proofs.Meaning.{fine_if_playable}
use Rattle.tournament.specs.Rule.{begun_of, steps}
use Rattle.tournament_laws.proofs.Start.{start_priority, kept, start_bits}
use Rattle.tournament_laws.proofs.Winner.{smallest_wins}
use Rattle.tournament_laws.proofs.Calls.{start_fine}
use Rattle.replay_screen.specs.Shown.{bit_lines, wins_line, winner_line, played_of, shown_by, shown_of}
use Rattle.replay_screen.specs.Claims.{SmallestShown}

pub smallest_shown : SmallestShown
unfolding shown_of played_of winner_line
smallest_shown NB n places long t₀ e =
    let t = begun_of NB n places in
    let (d, s) = start_fine NB n places t₀ e in
    let p = (fine_if_playable NB n places (AtBit 1) long).0 d in
    let (w, o) = smallest_wins NB n places (record { bits = p.from; long = long; fair = p.fair }) in
    let few = p.fair.few in
    let own : get_or (steps NB t).priorities w none ≡ get_or places w none =
    ap (λ l. get_or l w none) (kept t NB).priorities ∙ start_priority NB n places w (omega arith) o.smallest.among in (
      w,
      o.smallest,
      ap shown_by e
          ∙ ap played_of s
          ∙ ap (λ k. bit_lines t k ++ winner_line (steps k t).priorities (steps k t).phase) (start_bits NB n places)
          ∙ ap (λ q. bit_lines t NB ++ winner_line (steps NB t).priorities q) o.ends
          ∙ ap (λ q. bit_lines t NB ++ wins_line (record { 0 = w }) q) own,
    )
