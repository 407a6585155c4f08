-- A text as bytes. The texts of the product have characters below 128 alone, each of which is its own byte.
use Rattle.std.specs.Prelude.{List, [], ◌∷◌, ℕ}
use Prim.Native.Char.{code}
use Prim.Native.String.{String, [] as empty, ◌∷◌ as ◌followed-by◌}

abbrev pub ascii : String → List ℕ
ascii empty = []
ascii (c followed-by s) = code c ∷ ascii s

-- the bytes that part fields, lines, and a label's two numbers
abbrev pub space : ℕ
space = 32

abbrev pub newline : ℕ
newline = 10

abbrev pub point : ℕ
point = 46
