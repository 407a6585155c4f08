-- What private functions say of a plan that is known to be fine.
use Rattle.std.specs.Prelude.{◌≡◌, List, ℕ, ◌<◌, get_or}
use Rattle.laws.specs.Ranks.{rank}
use Rattle.plan.specs.Plan.{Plan}
use Rattle.carried.specs.Layout as layout
use Rattle.carried.specs.Carried.{plan_in}
use Rattle.answers.specs.declared.fine.FinePlan.{FinePlan}
use Rattle.answers.specs.private.Gather.{urgency, Column, InOrder}

-- the plan
abbrev pub plan_held : FinePlan → Plan
plan_held f = plan_in f.n f.m f.words.now

-- the place of row k: how many are more urgent
abbrev pub seat : FinePlan → ℕ → ℕ
seat f k = rank (urgency f.words.now) f.n k

-- the place of each row, in row order
abbrev pub Seats : FinePlan → List ℕ → Type 0
Seats f places = Column (seat f) f.n places

-- all streams stand in order, their costs and periods after the noise sources, ..
abbrev pub AllInOrder : FinePlan → List ℕ → List ℕ → List ℕ → Type 0
AllInOrder f costs periods jitters = InOrder f.words.now f.n f.m f.n costs periods jitters

-- .. and the gaps before the periods
abbrev pub GapsBefore : FinePlan → List ℕ → Type 0
GapsBefore f periods = (k : ℕ) → k < f.m → get_or periods k 0 ≡ get_or f.words.now (layout.gap_at f.n k) 0
