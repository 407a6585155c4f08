-- What terms that are known to be within the limits say.
use Rattle.std.specs.Prelude.{ℕ, ◌+◌}
use Rattle.bound.specs.Terms.{Terms}
use Rattle.terms.specs.Gathered.{lent_terms, terms_of}
use Rattle.analysis.specs.declared.fitting.Fitting.{Fitting}

-- the terms, and how many stairs their right sides have
abbrev pub terms_in : Fitting → Terms
terms_in f = terms_of (lent_terms f.terms)

abbrev pub stairs_in : Fitting → ℕ
stairs_in f = f.terms.row.sources + f.terms.row.urgent
