-- What the rules of the bound take of a plan, for one of its streams, i.
use Rattle.std.specs.Prelude.{List, ℕ}

-- a stream as the rules see it: C'' (what one message costs the channel), T and J
pub record Share : Type 0 where
  pub C'' : ℕ
  pub T : ℕ
  pub J : ℕ

pub record Terms : Type 0 where
  -- the blocking of i
  pub B : ℕ
  -- i itself
  pub own : Share
  -- hp(i), the streams more urgent than i
  pub urgent : List Share
  -- N of each noise source
  pub gaps : List ℕ
  -- what one hit costs: the largest C'' among i and hp(i)
  pub hit : ℕ
  -- how long after a cycle's start a release still joins it: V
  pub late : ℕ
  -- what the message itself takes at the end: C'' of i
  pub last : ℕ
