-- Document 01, "The rules of the bound", from E on, over the terms r of a stream i.
use Rattle.std.specs.Prelude.{cond, List, ◌∷◌, ℕ, ◌+◌, ◌-◌, ◌*◌, leb, ℤ, pos, nat_abs, ◌-ℤ◌}
use Rattle.names.specs.Limits.{ticks}
use Rattle.laws.specs.Lists.{ceil, sum_of}
use Rattle.laws.specs.Search.{first_fixed, or_zero}
use Rattle.laws.specs.Signed.{largest_to, first_largest}
use Rattle.std.specs.Prelude.{Option, Some, None}
use Rattle.bound.specs.declared.Verdict.{Verdict, TheVariants.Met, TheVariants.Missed, TheVariants.None}
use Rattle.bound.specs.declared.Answer.{Answer}
use Rattle.bound.specs.Terms.{Share, Terms}

-- E(t): the sum over sources of ceil(t / N), times the largest C'' among i and hp(i)
unfoldable pub E : Terms → ℕ → ℕ
E r t = sum_of (λ N. ceil t N) r.gaps * r.hit

-- the sum over some streams of ceil((t + J) / T) × C''
unfoldable pub demand : List Share → ℕ → ℕ
demand js t = sum_of (λ j. ceil (t + j.J) j.T * j.C'') js

-- the right side of L: B + sum over i and hp(i) of ceil((L + J) / T) × C'' + E(L)
unfoldable pub side_L : Terms → ℕ → ℕ
side_L r L = r.B + demand (r.own ∷ r.urgent) L + E r L

-- the busy period L: the least POSITIVE whole number that is its own right side, or none at most 4,294,967,295
unfoldable pub busy : Terms → Option ℕ
busy r = first_fixed (side_L r) 1 ticks

-- Q = ceil((L + J) / T)
abbrev pub Q : Terms → ℕ → ℕ
Q r L = ceil (L + r.own.J) r.own.T

-- the right side of w(q): B + q × C'' + sum over hp(i) of ceil((w + V + J + 1) / T) × C'' + E(w + C'')
unfoldable pub side_W : Terms → ℕ → ℕ → ℕ
side_W r q w = r.B + q * r.own.C'' + demand r.urgent (w + r.late + 1) + E r (w + r.own.C'')

-- w(q): the least whole number that is its own right side; it is at most L - C'' (Claims), so it is looked for up to 4,294,967,295
unfoldable pub w : Terms → ℕ → ℕ
w r q = or_zero (first_fixed (side_W r q) 0 (ticks + 1))

-- the term of q: J + w(q) + C'' - q × T, which may be below zero as a number, though for no q that counts (Claims)
abbrev pub term : Terms → ℕ → ℤ
term r q = pos (r.own.J + w r q + r.last) -ℤ pos (q * r.own.T)

-- the bound: the largest term, for q from 0 to Q - 1; it is above zero (Claims), so its size is the bound itself
unfoldable pub bound : Terms → ℕ → ℕ
bound r L = nat_abs (largest_to (term r) (Q r L - 1))

-- the worst instance: the smallest q, from 0 to Q - 1, whose term is the largest
unfoldable pub worst : Terms → ℕ → ℕ
worst r L = first_largest (term r) (Q r L - 1)

-- "met" is bound ≤ D, else "missed"
abbrev pub verdict : ℕ → ℕ → Verdict
verdict b D = cond (leb b D) Met Missed

-- the answer of a stream with the deadline D
abbrev pub answer_for : Terms → ℕ → Option ℕ → Answer
answer_for r D None = record { verdict = None; bound = 0; instance = 0 }
answer_for r D (Some L) = record { verdict = verdict (bound r L) D; bound = bound r L; instance = worst r L }

unfoldable pub answer : Terms → ℕ → Answer
answer r D = answer_for r D (busy r)

-- the document's numbers: 0 met, 1 missed, 2 none
abbrev pub verdict_number : Verdict → ℕ
verdict_number Met = 0
verdict_number Missed = 1
verdict_number None = 2
