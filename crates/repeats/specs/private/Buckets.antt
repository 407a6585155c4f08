-- Values in buckets: equal values are in one.
use Rattle.std.specs.Prelude.{ℕ, ◌+◌, ◌*◌, ◌-◌, ◌/◌, ◌%◌}
use Rattle.std.specs.Int.Bits.{bit_and}

-- which of n buckets a value is in; any choice would do
unfoldable pub bucket_of : ℕ → ℕ → ℕ
bucket_of n v = bit_and (v % 65536 + 251 * (v / 65536)) (n - 1)
