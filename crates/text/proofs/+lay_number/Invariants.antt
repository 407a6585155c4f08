-- A number below 10 is its one digit; any other is what its tenth lays, and then its last digit. Its tenth is smaller.
use Rattle.text.proofs.+lay_number.Given as goal

abbrev pub decreases-lay_number : goal.decreases-lay_number
decreases-lay_number l = l.x
