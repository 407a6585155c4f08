-- Where the contents are fine the bodies begin after them, and their words are laid onto those that are lent. Assumes nothing.
use mathlib.Core.Path.{sym, ◌∙◌}
use Rattle.file.proofs.Reading.{counts_right, counts_size}
use Rattle.reader.proofs.carry.Goals as goal

pub lay_bodies-requires-clause-n_le_streams : goal.lay_bodies-requires-clause-n_le_streams
lay_bodies-requires-clause-n_le_streams c = (counts_right _ _ _ _ (sym c.counts.ensures ∙ c.in_ok-counts.was)).1

pub lay_bodies-requires-clause-m_le_sources : goal.lay_bodies-requires-clause-m_le_sources
lay_bodies-requires-clause-m_le_sources c = (counts_right _ _ _ _ (sym c.counts.ensures ∙ c.in_ok-counts.was)).2

pub lay_bodies-requires-clause-bytes_len : goal.lay_bodies-requires-clause-bytes_len
lay_bodies-requires-clause-bytes_len c = counts_size _ _ _ _ (sym c.counts.ensures ∙ c.in_ok-counts.was)
