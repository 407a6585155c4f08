-- A number below 10 is its one digit; any other is what its tenth lays, and then its last digit.
use native.Mathlib.Omega.{arith}
use Rattle.text.proofs.Laying.{number_one, number_more}
use Rattle.text.proofs.+lay_number.Goals as goal

pub returns-then-x-lt10 : goal.returns-then-x-lt10
returns-then-x-lt10 t c = number_one _ c.if-x-lt10.true c.lay.ensures

pub returns : goal.returns
returns t c = number_more _ c.if-x-lt10.false (omega arith) c.lay_number-last.ensures c.lay-2.ensures
