-- The limits of document 01, each under one name; `src/lib.rt` has the same numbers for the code.
use Rattle.std.specs.Prelude.{ℕ}

-- n is 1 to 256 streams, and in a file of edition 1 or 2 1 to 64; m is 0 to 8 noise sources
abbrev pub streams : ℕ
streams = 256

abbrev pub older_streams : ℕ
older_streams = 64

abbrev pub sources : ℕ
sources = 8

-- a tournament has 1 to 128 contenders
abbrev pub contenders : ℕ
contenders = 128

-- F, E, TFCS, SWX, H, G, ETG and LAG are 0 to 65,535, and so is ETG + LAG; a payload is 1 to 65,535, and an acknowledgement 0 to 65,535
abbrev pub constant : ℕ
constant = 65535

abbrev pub payload : ℕ
payload = 65535

abbrev pub acknowledgement : ℕ
acknowledgement = 65535

-- NB is 1 to 32
abbrev pub bits : ℕ
bits = 32

-- P is at most 5,000,000
abbrev pub slot : ℕ
slot = 5000000

-- "none" exactly if no busy period is at most 4,294,967,295; a period, a jitter, a deadline and a gap are at most that, too
abbrev pub ticks : ℕ
ticks = 4294967295
