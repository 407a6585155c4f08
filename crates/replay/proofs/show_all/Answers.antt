-- A tournament's text ends within the text, and after its start where there is a word. Assumes nothing.
use mathlib.Core.Path.{sym, ◌∙◌}
use native.Mathlib.Omega.{arith}
use Rattle.replay_words.proofs.Parts.{end_within, end_goes_on}
use Rattle.replay.proofs.show_all.Goals as goal

pub split_at-requires : goal.split_at-requires
split_at-requires g c = omega (arith, c.first_end.ensures, end_within c.args.text.now)

pub split_at-requires-in-loop-rest : goal.split_at-requires-in-loop-rest
split_at-requires-in-loop-rest g c = omega (arith, c.first_end-in-loop-rest.ensures, end_within c.loop-rest.rest.now)

pub loop-rest-smaller : goal.loop-rest-smaller
loop-rest-smaller g c =
    let rest = c.loop-rest.rest.now in
    omega (
      arith,
      c.split_at-in-loop-rest.ensures.back_len,
      c.first_end-in-loop-rest.ensures,
      end_within rest,
      end_goes_on rest (sym c.has_word.ensures ∙ c.loop-rest-test.true),
    )
