-- Where a plan's values stand: among the words that are carried, and in the bytes of its file (document 01, "The plan file", and document
-- 02, requests 01, 05 and 07).
use Rattle.std.specs.Prelude.{Bool, true, not, cond, ◌&&◌, ℕ, ◌+◌, ◌-◌, ◌*◌, ◌/◌, ◌%◌, min, leb, ltb, eqb}
use Rattle.names.specs.Limits.{streams, older_streams, sources}
use Rattle.carried.specs.declared.Edition.{Edition, TheVariants.One, TheVariants.Two, TheVariants.Three}

-- ---- among the words that are carried, counted from 0: the timing, the streams, the noise gaps, with nothing between

-- the timing has 10 words, the last of them P, which is word 9; a stream has 7, the last of them K; a noise gap is one
abbrev pub timing_length : ℕ
timing_length = 10

abbrev pub stream_length : ℕ
stream_length = 7

abbrev pub slot_at : ℕ
slot_at = 9

-- ETG is word 6, and LAG is word 7
abbrev pub etg_at : ℕ
etg_at = 6

abbrev pub lag_at : ℕ
lag_at = 7

-- the stream of row r starts at word 10 + 7r, ..
abbrev pub stream_at : ℕ → ℕ
stream_at r = timing_length + stream_length * r

-- .. and gap k after n streams is word 10 + 7n + k
abbrev pub gap_at : ℕ → ℕ → ℕ
gap_at n k = stream_at n + k

-- the words of the largest plan
abbrev pub largest : ℕ
largest = gap_at streams sources

-- ---- the editions of the plan file: 1 has a plan without a master node, 2 a plan with one, and 3 either

abbrev pub edition_number : Edition → ℕ
edition_number One = 1
edition_number Two = 2
edition_number Three = 3

-- the timing body of edition 1 has no P, and so 9 words, ..
abbrev pub timing_body : Edition → ℕ
timing_body One = 9
timing_body Two = 10
timing_body Three = 10

-- .. and a stream record of editions 1 and 2 has no K, and so 6
abbrev pub stream_body : Edition → ℕ
stream_body One = 6
stream_body Two = 6
stream_body Three = 7

-- in editions 1 and 2 n is at most 64, and in edition 3 at most 256
abbrev pub most_streams : Edition → ℕ
most_streams One = older_streams
most_streams Two = older_streams
most_streams Three = streams

-- ---- in a plan file, in bytes

-- a word of 32 bits has 4 bytes, and 11 words of contents come before the bodies
abbrev pub word : ℕ
word = 4

abbrev pub contents_length : ℕ
contents_length = 11

-- word k of the bodies stands at byte 44 + 4k
abbrev pub byte_of : ℕ → ℕ
byte_of k = word * (contents_length + k)

-- the record of row r, and after n of them the noise body, starts at this word of the bodies
abbrev pub record_at : Edition → ℕ → ℕ
record_at edition r = timing_body edition + stream_body edition * r

-- a file of n streams and m gaps has 80 + 24n + 4m bytes, in edition 2 84 + 24n + 4m, and in edition 3 84 + 28n + 4m
abbrev pub size : Edition → ℕ → ℕ → ℕ
size edition n m = byte_of (record_at edition n + m)

-- no file is larger
abbrev pub largest_file : ℕ
largest_file = size Three streams sources

-- ---- from word k of those that are carried of n streams to the word of the bodies that it stands in

-- it is the K of a stream: the last word of one of the n records, ..
abbrev pub is_acknowledgement : ℕ → ℕ → Bool
is_acknowledgement n k =
    leb timing_length k && ltb ((k - timing_length) / stream_length) n && eqb ((k - timing_length) % stream_length) 6

-- .. and so many K come before it
abbrev pub acknowledgements_before : ℕ → ℕ → ℕ
acknowledgements_before n k = min n ((k - timing_length) / stream_length)

-- whether an edition has a word for it: edition 1 has none for P, and editions 1 and 2 have none for K
abbrev pub has_word : Edition → ℕ → ℕ → Bool
has_word One n k = not (eqb k slot_at) && not (is_acknowledgement n k)
has_word Two n k = not (is_acknowledgement n k)
has_word Three n k = true

-- the word of the bodies: it is as many words earlier as come before it that the edition does not have
abbrev pub in_bodies : Edition → ℕ → ℕ → ℕ
in_bodies One n k = cond (ltb k timing_length) k (k - 1) - acknowledgements_before n k
in_bodies Two n k = k - acknowledgements_before n k
in_bodies Three n k = k
