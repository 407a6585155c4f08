-- The records of the streams, as std cuts the words after the timing into pieces of seven, and each word of them; and places whose first
-- are written over. Assumes nothing.
use mathlib.Core.Path.{◌≡◌, refl, sym, ap, ◌∙◌}
use mathlib.Core.List.{List, [], ◌++◌}
use Prim.Native.Nat.{ℕ, zero, suc, ◌+◌, ◌*◌, ◌≤◌, ◌<◌, min}
use native.Mathlib.Nat.{mul-zero, mul-suc, add-zero}
use native.Mathlib.Omega.{arith}
use lib.ListN.{length, get_or, take, drop, replicate}
use lib.Seq.{get_or-drop, drop-drop}
use Rattle.std.proofs.lemmas.List.{get_or-take}
use Rattle.std.specs.Simd.{first_chunks}
use Rattle.names.specs.Limits.{streams}
use Rattle.laws.specs.Lists.{placed}
use Rattle.laws.proofs.Placed.{placed_to, placed_short, drop_replicate}
use Rattle.laws.proofs.Lists.{rows_same, rows_take, rows_at, length_rows}
use Rattle.carried.specs.Layout as layout
use Rattle.carried.specs.Carried.{stream_in, records_in}

length_chunks : (c m : ℕ) (l : List ℕ) → length (first_chunks c m l) ≡ m
length_chunks c zero l = refl
length_chunks c (suc m) l = omega (arith, length_chunks c m (drop c l))

chunk_at : (c m k : ℕ) (l : List ℕ) → k < m → get_or (first_chunks c m l) k [] ≡ take c (drop (c * k) l)
chunk_at c zero k l h = absurd (omega arith)
chunk_at c (suc m) zero l h = rw (mul-zero c) refl
chunk_at c (suc m) (suc k) l h =
    let e : c + c * k ≡ c * suc k = omega (arith, mul-suc c k) in
    chunk_at c m k (drop c l) (omega arith) ∙ ap (take c) (drop-drop (c * k) c l ∙ ap (λ i. drop i l) e)

-- as many records are taken as are counted and have a place
pub length_records : (n : ℕ) (ws : List ℕ) {records : List (List ℕ)} → records ≡ records_in (min n streams) ws → length records ≡ min n streams
length_records n ws e = ap length e ∙ length_rows (min n streams) _

module _ (n : ℕ) (ws : List ℕ) where
  pub cut : (m : ℕ) {l : List ℕ} → l ≡ drop layout.timing_length ws → n ≤ m → take n (first_chunks layout.stream_length m l) ≡ records_in n ws
  cut m {l} e h =
      sym (rows_take (first_chunks layout.stream_length m l) [] n (omega (arith, length_chunks layout.stream_length m l)))
      ∙ rows_same n _ _
      (λ r p.
      chunk_at layout.stream_length m r l (omega arith)
      ∙ ap (λ k. take layout.stream_length (drop (layout.stream_length * r) k)) e
      ∙ ap (take layout.stream_length) (drop-drop (layout.stream_length * r) layout.timing_length ws))

  module _ (r : ℕ) (h : r < n) where
    pub record_word : (j : ℕ) → j < layout.stream_length → get_or (get_or (records_in n ws) r []) j 0 ≡ get_or ws (layout.stream_at r + j) 0
    record_word j k =
        ap (λ l. get_or l j 0) (rows_at n (λ i. take layout.stream_length (drop (layout.stream_at i) ws)) [] r h)
        ∙ get_or-take layout.stream_length (drop (layout.stream_at r) ws) j 0 k
        ∙ get_or-drop (layout.stream_at r) ws j 0

    pub record_stream : stream_in (get_or (records_in n ws) r []) 0 ≡ stream_in ws (layout.stream_at r)
    record_stream =
        let first : get_or (get_or (records_in n ws) r []) 0 0 ≡ get_or ws (layout.stream_at r) 0 = record_word 0 (omega arith) ∙ ap (λ i. get_or ws i 0) (add-zero (layout.stream_at r)) in
        rw (first, record_word 1 (omega arith), record_word 2 (omega arith), record_word 3 (omega arith), record_word 4 (omega arith), record_word 5 (omega arith), record_word 6 (omega arith)) refl

-- ---- places whose first m are written over
pub put_first : (n m d : ℕ) (xs : List ℕ) {ys : List ℕ} → ys ≡ take m xs → ys ++ drop m (replicate n d) ≡ placed_to n d xs m
put_first n m d xs e = rw (e, drop_replicate m n d) refl

pub put_short : (n m d : ℕ) (xs : List ℕ) {ys : List ℕ} → length xs ≡ m → m ≤ n → ys ≡ xs → ys ++ drop m (replicate n d) ≡ placed n d xs
put_short n m d xs e h g = rw (g, ← e, drop_replicate (length xs) n d, placed_short n d xs (omega arith)) refl
