-- What a row's gathered terms are, and when they are within the limits.
use Rattle.std.specs.Prelude.{Bool, true, ◌&&◌, ◌≡◌, ℕ, ◌+◌, ◌^◌, ◌≤◌, ◌<◌, List, length, get_or, leb, ltb, eqb}
use Rattle.names.specs.Limits.{streams, sources, ticks}
use Rattle.laws.specs.Lists.{rows, every}
use Rattle.bound.specs.Terms.{Share, Terms}
use Rattle.bound.specs.Bound.{side_L}
use Rattle.terms.specs.declared.Gathered.{Gathered}
use Rattle.terms.specs.declared.LentTerms.{LentTerms}

-- the most stairs: one for each noise source, and after them one for each more urgent stream
abbrev pub stairs : ℕ
stairs = sources + streams

-- a row's own terms, and what is lent beside them
pub record Lent : Type 0 where
  pub row : Gathered
  pub costs : List ℕ
  pub periods : List ℕ
  pub jitters : List ℕ

abbrev pub lent : Gathered → List ℕ → List ℕ → List ℕ → Lent
lent g costs periods jitters = record { row = g; costs = costs; periods = periods; jitters = jitters }

-- .. in the code's own struct
abbrev pub lent_terms : LentTerms → Lent
lent_terms t = lent t.row t.costs.now t.periods.now t.jitters.now

-- the gap of a noise source, and the share of a stream of hp(i), which stands after the noise sources; only streams have a jitter
abbrev pub gap_of : Lent → ℕ → ℕ
gap_of t k = get_or t.periods k 0

abbrev pub share_at : Lent → ℕ → Share
share_at t k =
    record { C'' = get_or t.costs (t.row.sources + k) 0; T = get_or t.periods (t.row.sources + k) 0; J = get_or t.jitters k 0 }

-- a row's own terms, with the shares of hp(i) and the gaps
abbrev pub terms_with : Gathered → List Share → List ℕ → Terms
terms_with g shares gaps =
    record {
      B = g.blocking;
      own = record { C'' = g.cost; T = g.period; J = g.jitter };
      urgent = shares;
      gaps = gaps;
      hit = g.hit;
      late = g.late;
      last = g.last;
    }

abbrev pub terms_of : Lent → Terms
terms_of t = terms_with t.row (rows t.row.urgent (share_at t)) (rows t.row.sources (gap_of t))

-- a cost is at most 5,000,000, T and N are 1 to 4,294,967,295, J is 0 to that
abbrev pub cost : ℕ
cost = 5000000

abbrev pub share_fits : Share → Bool
share_fits j = leb j.C'' cost && leb 1 j.T && leb j.T ticks && leb j.J ticks

-- each noise source costs a hit, and its gap is within the limits
abbrev pub source_fits : ℕ → ℕ → ℕ → Bool
source_fits hit each N = leb 1 N && leb N ticks && eqb each hit

-- a row's own terms are within the limits: V < C'', the last term is 1 to C'', and there are not too many streams or sources
unfoldable pub row_fits : Gathered → Bool
row_fits g =
    leb g.blocking cost
    && leb g.hit cost
    && ltb g.late g.cost
    && leb 1 g.last
    && leb g.last g.cost
    && leb g.urgent streams
    && leb g.sources sources
    && share_fits (record { C'' = g.cost; T = g.period; J = g.jitter })

-- a cost and a period are lent for each noise source and each stream of hp(i), and a jitter for each of these
abbrev pub long_enough : Lent → Bool
long_enough t =
    leb (t.row.sources + t.row.urgent) (length t.costs)
    && leb (t.row.sources + t.row.urgent) (length t.periods)
    && leb t.row.urgent (length t.jitters)

-- the shares of hp(i) are within the limits
abbrev pub shares_fit : Lent → Bool
shares_fit t = every t.row.urgent (λ k. share_fits (share_at t k))

-- the noise sources are within the limits
abbrev pub sources_fit : Gathered → List ℕ → List ℕ → Bool
sources_fit g costs periods = every g.sources (λ k. source_fits g.hit (get_or costs k 0) (get_or periods k 0))

-- the terms are within the limits
unfoldable pub fits : Lent → Bool
fits t = row_fits t.row && long_enough t && shares_fit t && sources_fit t.row t.costs t.periods

-- ---- What is proved of terms within the limits; the proofs are in proofs/Fit.antt and proofs/Most.antt.

-- L's right side fits a word of 64 bits up to the last L that is looked for, ..
abbrev pub SideFits : Type 0
SideFits = (t : Lent) → fits t ≡ true → (x : ℕ) → x ≤ ticks → side_L (terms_of t) x < 2 ^ 64

-- .. and no word of 63 bits will do: 256 streams of 5,000,000 ticks may ask for more than 10^19
abbrev pub SideNeedsAll : Type 0
SideNeedsAll = (t : Lent) × (fits t ≡ true) × (10 ^ 19 < side_L (terms_of t) ticks)
