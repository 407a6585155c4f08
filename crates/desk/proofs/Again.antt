-- What is written again is the plan's file, which is the file that was read if that has edition 3, and means the same if not; a refusal's line has 43 bytes at most, and a file 44 at least.
-- Assumes nothing.
use mathlib.Core.Path.{◌≡◌, refl, sym, ap, ◌∙◌, subst}
use mathlib.Core.Bool.{false}
use mathlib.Core.List.{List, []}
use Prim.Native.Nat.{ℕ, ◌*◌, ◌≤◌}
use native.Mathlib.Decide.{dec_le}
use native.Mathlib.Nat.{lt_of_not-le}
use native.Mathlib.Omega.{arith}
use borrow.Author.Tests.{lt-leb}
use lib.ListN.{length}
use Rattle.plan.specs.Plan.{plan_of}
use Rattle.words.specs.Words.{words_of}
use Rattle.carried.specs.declared.Edition.TheVariants.{Three}
use Rattle.carried.specs.Layout as layout
use Rattle.std.specs.Prelude.{Some, None, Result, Ok, Err}
use Rattle.judge.specs.Table.{Checked}
use Rattle.names.specs.declared.Refusal.{Refusal}
use Rattle.file.specs.File.{file_of, edition_in, lag_in, size_right, read_of, read_said, read_sheet}
use Rattle.file.proofs.Exactly.{refused_number}
use Rattle.file.proofs.Reading.{said_size, counts_refused, fine_read}
use Rattle.file.proofs.RoundTrip.{plan_read, right_read, length_file, file_is, means_the_same, same_bytes}
use Rattle.rewriter.specs.Rewriter.{rewrite_of}
use Rattle.rewriter.proofs.Same.{rewrite_refused, rewrite_no_room, rewrite_fine}
use Rattle.text.specs.Listing.{refused_of}
use Rattle.text.specs.Put.{put, Puts}
use Rattle.text.proofs.Laying.{all_put, none_put}
use Rattle.text.proofs.Size.{largest_refusal}
use Rattle.desk.specs.Desk.{file_as, shown_file, SameFile, SameMeaning, FileFits, LineIsNoPlan}

-- ---- what rewriting hands back, and what is then shown
module _ (bs buf : List ℕ) where
  file_shown : (c : Checked) → read_said (read_of bs) ≡ c → shown_file bs ≡ file_as c (plan_of (read_sheet (read_of bs)))
  unfolding shown_file
  file_shown c e = ap (λ a. file_as a (plan_of (read_sheet (read_of bs)))) e

  -- bytes that were written are the file, 6 is that it has no room, and any other refusal is that of reading
  abbrev pub Shows : Result ℕ Refusal × List ℕ → Type 0
  Shows (Ok n, after) = Puts buf 0 (shown_file bs) (Some n) after
  Shows (Err r, after) =
      (r.number ≡ 6 → Puts buf 0 (shown_file bs) None after) × ((r.number ≡ 6 → ⊥) → (shown_file bs ≡ refused_of r) × (after ≡ buf))

  by_answer : (c : Checked) → read_said (read_of bs) ≡ c → Shows (rewrite_of bs buf)
  by_answer (Err r) e =
      rw (rewrite_refused bs buf r e) (λ six. absurd (refused_number bs r e six), λ other. (file_shown (Err r) e, refl))
  by_answer (Ok _) e =
      let file = file_of (plan_of (read_sheet (read_of bs))) in
      let s = ap (put buf 0) (file_shown (Ok tt) e) in
      elim (dec_le (length file) (length buf)) [
        | yes h ↦ let p = sym (s ∙ all_put file buf h) in rw (rewrite_fine bs buf e h) (ap (λ x. x.0) p, ap (λ x. x.1) p)
        | no g ↦
            let h = lt_of_not-le g in
            let p = sym (s ∙ none_put file buf h) in
            rw (rewrite_no_room bs buf e h) (λ six. (ap (λ x. x.0) p, ap (λ x. x.1) p), λ other. absurd (other refl))
      ]

  pub shows : (w : Result ℕ Refusal) → (rewrite_of bs buf).0 ≡ w → Shows (w, (rewrite_of bs buf).1)
  shows w e = subst (λ v. Shows (v, (rewrite_of bs buf).1)) e (by_answer (read_said (read_of bs)) refl)

-- ---- the file again
pub same_file : SameFile
same_file bs below fine three no_lag = file_shown bs [] (Ok tt) fine ∙ same_bytes bs below fine three no_lag

pub same_meaning : SameMeaning
same_meaning bs fine =
    let (edition, no_lag, meaning) = means_the_same bs fine in
    let e = file_shown bs [] (Ok tt) fine in
    (ap (λ l. edition_in (words_of l)) e ∙ edition, ap (λ l. lag_in (words_of l)) e ∙ no_lag, ap read_of e ∙ meaning)

pub file_fits : FileFits
file_fits bs buffer fine room =
    let f = fine_read bs fine in
    let r = right_read bs f in
    let file = shown_file bs in
    let long : length file ≡ layout.size Three (length (plan_read bs f).streams) (length (plan_read bs f).gaps) =
    ap length (file_shown bs [] (Ok tt) fine ∙ file_is bs f) ∙ length_file (plan_read bs f) in
    ap (λ x. x.0) (all_put file buffer (omega (arith, long, r.within.count, r.within.sources)))

pub line_is_no_plan : LineIsNoPlan
line_is_no_plan r n p =
    let short : length (refused_of r) ≤ 43 = largest_refusal r n p in
    let wrong : size_right (refused_of r) ≡ false = simp (lt-leb (layout.word * layout.contents_length) (length (refused_of r)) (omega arith)) in
    ap read_said (counts_refused (refused_of r) _ (said_size (refused_of r) wrong))
