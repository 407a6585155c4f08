-- An empty or over-long list is refused 2: the counts are the lists' own lengths. And a list is answered by its words: where it is not too
-- long they hold all of it, and else it is refused 2 either way. Assumes nothing.
use mathlib.Core.Path.{◌≡◌, sym, ap, ap₂, ◌∙◌}
use mathlib.Core.Bool.{false}
use mathlib.Core.List.{List, [], ◌++◌}
use Prim.Native.Nat.{ℕ, ◌≤◌}
use lib.ListN.{length, take, drop, replicate}
use Rattle.names.specs.Limits.{streams, sources}
use Rattle.laws.specs.Lists.{placed}
use Rattle.laws.proofs.Placed.{placed_front, drop_replicate}
use Rattle.plan.specs.declared.Stream.{Stream}
use Rattle.plan.specs.Plan.{blank}
use Rattle.carried.specs.declared.Edition.TheVariants.{Three}
use Rattle.carried.specs.declared.EnteredTiming.{EnteredTiming}
use Rattle.carried.specs.Carried.{Entered, entered_in, entered_words, in_places}
use Rattle.carried.proofs.Plans.{own_places}
use Rattle.std.specs.Prelude.{Err}
use Rattle.checks.specs.Checks.{in_range}
use Rattle.checks.proofs.Counts.{too_few_lem, too_many, too_noisy, by_range, out_of_range}
use Rattle.answers.specs.Answers.{Answers}
use Rattle.answers.specs.Answers.{answer_with}
use Rattle.answers.proofs.Outcome.{refused_is}
use Rattle.screen.specs.Screen.{entered_for, screen_of, WrongLists}

refused_2 : (n m : ℕ) (v : Entered) (out : List ℕ) → in_range Three n m ≡ false → answer_with Answers Three n m v out ≡ (Err (record { number = 2; place = 0 }), out)
refused_2 n m v out e = refused_is Answers Three n m v out _ (out_of_range Three n m e v [])

pub wrong_counts : WrongLists
unfolding screen_of
wrong_counts xs t gaps out =
    let n = length xs in
    let m = length gaps in
    let two = refused_2 n m (entered_for xs t gaps) out in
    (λ h. two (too_few_lem Three n m h), λ h. two (too_many Three n m h), λ h. two (too_noisy Three n m h))

-- ---- what is taken of lists
-- as many as have a place, over what is blank, are the list in places
pub over_blank : {A : Type 0} (n : ℕ) (d : A) (xs : List A) → take n xs ++ drop (length xs) (replicate n d) ≡ placed n d xs
unfolding placed
over_blank n d xs = ap (λ l. take n xs ++ l) (drop_replicate (length xs) n d)

module _ (xs : List Stream) (t : EnteredTiming) (gaps out : List ℕ) where
  -- the words that are made of them
  abbrev made : List Stream → List ℕ → List ℕ
  made rows copies = in_places (entered_words (record { timing = t; streams = take (length xs) rows; gaps = take (length gaps) copies }))

  abbrev taken : List Stream → List ℕ → Entered
  taken rows copies = entered_in (length xs) (length gaps) (made rows copies)

  all_taken : length xs ≤ streams → length gaps ≤ sources → taken (placed streams blank xs) (placed sources 0 gaps) ≡ entered_for xs t gaps
  all_taken few quiet =
      ap₂ (λ a b. entered_in (length xs) (length gaps) (in_places (entered_words (record { timing = t; streams = a; gaps = b }))))
      (placed_front streams blank xs few) (placed_front sources 0 gaps quiet)
      ∙ own_places (entered_for xs t gaps) few quiet

  pub taken_is : {ws : List ℕ} (rows : List Stream) (copies : List ℕ) → rows ≡ placed streams blank xs → copies ≡ placed sources 0 gaps → ws ≡ made rows copies
      → answer_with Answers Three (length xs) (length gaps) (entered_in (length xs) (length gaps) ws) out ≡ screen_of xs t gaps out
  unfolding screen_of
  taken_is rows copies r g e =
      let answer = answer_with Answers Three (length xs) (length gaps) in
      ap (λ ws. answer (entered_in (length xs) (length gaps) ws) out) e
      ∙ ap₂ (λ a b. answer (taken a b) out) r g
      ∙ by_range Three (length xs) (length gaps) (λ few quiet. ap (λ v. answer v out) (all_taken few quiet))
      (λ q. refused_2 _ _ (taken (placed streams blank xs) (placed sources 0 gaps)) out q ∙ sym (refused_2 _ _ (entered_for xs t gaps) out q))
