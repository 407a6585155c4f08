-- A file whose contents are refused is refused, and else its words are written. Assumes nothing.
use Rattle.file.specs.File.{counts_said}
use mathlib.Core.Path.{◌≡◌, refl, sym, ap, ◌∙◌}
use mathlib.Core.List.{List}
use Prim.Native.Nat.{ℕ}
use lib.ListN.{replicate}
use Rattle.names.specs.declared.Refusal.{Refusal}
use Rattle.carried.specs.declared.Edition.{Edition}
use Rattle.carried.specs.Layout as layout
use Rattle.carried.specs.Carried.{entered_in}
use Rattle.std.specs.Prelude.{Result, Err}
use Rattle.file.specs.File.{counts_of, carried_of, write_with, write_of}
use Rattle.file.proofs.Carried.{not_counted, by_words}
use Rattle.file.proofs.Writing.{write_refused, written_alike}
use Rattle.rewriter.specs.Rewriter.{rewrite_as, rewrite_of}
use Rattle.std.proofs.lemmas.Result.{err_from_is_err_and}
use Rattle.rewriter.proofs.rewrite.Goals as goal

module _ (bytes buf : List ℕ) where
  abbrev no : Refusal → Result ℕ Refusal × List ℕ
  no r = (Err r, buf)

  not_read : (r : Refusal) → counts_of bytes ≡ Err r → rewrite_of bytes buf ≡ (Err r, buf)
  unfolding rewrite_of write_of
  not_read r e = not_counted (λ c s. rewrite_as c s buf) no (λ x n m p. write_with x n m p buf) (λ s. refl) (λ r s. refl) (λ x n m p. write_refused x n m p buf) (written_alike buf) bytes r e

  read : (x : Edition) (n m : ℕ) → counts_of bytes ≡ counts_said x n m → {ws : List ℕ} → ws ≡ carried_of bytes (replicate layout.largest 0)
      → rewrite_of bytes buf ≡ write_with x n m (entered_in n m ws) buf
  unfolding rewrite_of write_of
  read x n m e d = by_words (λ c s. rewrite_as c s buf) no (λ x n m p. write_with x n m p buf) (λ s. refl) (λ r s. refl) (λ x n m p. write_refused x n m p buf) (written_alike buf) bytes x n m e d

pub returns-in_err-counts-clause-value : goal.returns-in_err-counts-clause-value
returns-in_err-counts-clause-value c =
    let a = c.args in
    let p = err_from_is_err_and c.from_residual.result c.from_residual.ensures.1 in
    rw (p.1, p.2) (ap (λ w. w.0) (sym (not_read a.file.now a.out.now _ (sym c.carry.ensures.value ∙ c.in_err-counts.was))))

pub returns-in_err-counts-clause-out_after : goal.returns-in_err-counts-clause-out_after
returns-in_err-counts-clause-out_after c =
    let a = c.args in
    ap (λ w. w.1) (sym (not_read a.file.now a.out.now _ (sym c.carry.ensures.value ∙ c.in_err-counts.was)))

pub returns-clause-value : goal.returns-clause-value
returns-clause-value c =
    let a = c.args in
    let e = sym (read a.file.now a.out.now _ _ _ (sym c.carry.ensures.value ∙ c.in_ok-counts.was) c.carry.ensures.words_after) in
    c.write_words.ensures.value ∙ ap (λ p. p.0) e

pub returns-clause-out_after : goal.returns-clause-out_after
returns-clause-out_after c =
    let a = c.args in
    let e = sym (read a.file.now a.out.now _ _ _ (sym c.carry.ensures.value ∙ c.in_ok-counts.was) c.carry.ensures.words_after) in
    c.write_words.ensures.buf_after ∙ ap (λ p. p.1) e
