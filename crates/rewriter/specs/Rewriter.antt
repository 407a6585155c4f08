-- The plan in a file, written again.
use Rattle.file.specs.File.{read_said, read_sheet}
use Rattle.std.specs.Prelude.{◌≡◌, List, ◌++◌, ℕ, ◌≤◌, length, drop}
use Rattle.words.specs.Words.{words_of, Below}
use Rattle.std.specs.Prelude.{Result, Ok, Err}
use Rattle.judge.specs.Table.{Checked}
use Rattle.names.specs.declared.Refusal.{Refusal}
use Rattle.plan.specs.declared.Sheet.{Sheet}
use Rattle.carried.specs.declared.Edition.TheVariants.{Three}
use Rattle.file.specs.File.{edition_in, lag_in, read_of, write_of}
use Rattle.file.specs.Claims.{file_read}

-- what was read is written, and a refused file is refused, with the lent bytes as they were
abbrev pub rewrite_as : Checked → Sheet → List ℕ → Result ℕ Refusal × List ℕ
rewrite_as (Ok _) s buf = write_of s buf
rewrite_as (Err r) s buf = (Err r, buf)

-- of a file's bytes and lent ones
unfoldable pub rewrite_of : List ℕ → List ℕ → Result ℕ Refusal × List ℕ
rewrite_of bytes buf = rewrite_as (read_said (read_of bytes)) (read_sheet (read_of bytes)) buf

-- ---- What is proved of a plan that is written again; the proof is in proofs/Same.antt.

-- a file of edition 3 with a LAG of 0 that is not refused is written again byte for byte, wherever as many bytes are lent, ..
abbrev pub RewritesTheSame : Type 0
RewritesTheSame =
    (bs buf : List ℕ) → Below 256 bs → read_said (read_of bs) ≡ Ok tt → edition_in (words_of bs) ≡ Three → lag_in (words_of bs) ≡ 0
    → length bs ≤ length buf
    → rewrite_of bs buf ≡ (Ok (length bs), bs ++ drop (length bs) buf)

-- .. and one of any edition, with a LAG or with none, as a file of edition 3 with no LAG and the same meaning, wherever as many bytes are
-- lent as that has
pub record BroughtUpToDate (bs buf file : List ℕ) : Type 0 where
  pub written : length file ≤ length buf → rewrite_of bs buf ≡ (Ok (length file), file ++ drop (length file) buf)
  pub edition : edition_in (words_of file) ≡ Three
  pub no_lag : lag_in (words_of file) ≡ 0
  pub meaning : read_of file ≡ read_of bs

abbrev pub RewritesOlder : Type 0
RewritesOlder = (bs buf : List ℕ) → read_said (read_of bs) ≡ Ok tt → BroughtUpToDate bs buf (file_read bs)
