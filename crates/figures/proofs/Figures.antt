-- Every figure of document 01's plans: computed again from what is run, the whole table is the table, and an entry that is the same again
-- holds. Where a row's own period is full, that stands for the search that finds no busy period. A wrong figure is refused at `same_again`,
-- which does not say where: ask it of a part of the table. Assumes nothing.
use mathlib.Core.Path.{◌≡◌, refl, sym, ap, ◌∙◌}
use mathlib.Core.Bool.{Bool, true, false, cond, ◌&&◌}
use mathlib.Core.List.{List, [], ◌∷◌, map, flat_map}
use Prim.Native.Nat.{ℕ, ◌+◌}
use native.Mathlib.Omega.{arith}
use borrow.Author.Tests.{leb-true, ltb-true}
use lib.Dec.{leb, ltb}
use lib.ListN.{length}
use Rattle.std.specs.Prelude.{Option, None}
use Rattle.laws.specs.Lists.{sum_of, largest_of, those, rows}
use Rattle.laws.specs.Search.{first}
use Rattle.laws.specs.Signed.{largest_to, first_largest}
use Rattle.laws.proofs.Tests.{both}
use Rattle.laws.specs.Rows.{some}
use Rattle.repeats.specs.Repeats.{first_repeat}
use Rattle.bound.specs.Terms.{Terms}
use Rattle.bound.specs.Bound.{E, demand, side_L, busy, side_W, w, bound, worst, answer_for, answer}
use Rattle.plan.specs.Rules.{self_or_slotted, «V», U, C'', B, hit, terms, answers}
use Rattle.fields.specs.Fields.{fields, lowest}
use Rattle.judge.specs.Table.{judge}
use Rattle.words.specs.Words.{words_of, bytes_of}
use Rattle.carried.specs.Carried.{meant_timing, meant}
use Rattle.file.specs.File.{file_words, entered_in_bodies, same, size_right, entered_file, file_of, read_of}
use Rattle.decimal.specs.Decimal.{digits_of, digits}
use Rattle.text.specs.Listing.{listing_of}
use Rattle.text.specs.Listing as text
use Rattle.tournament_state.specs.Refusals.{lowest_unfit, verdict_of}
use Rattle.tournament.specs.Rule.{begun_of, heard_at, silenced_at, marks_after, lowest_marked, winner_of, next_at, steps}
use Rattle.tournament.specs.Answers.{left, checked, nobody, start_of, run_of}
use Rattle.figures.specs.Plans.{older_file}
use Rattle.figures.specs.Load.{load, delayed}
use Rattle.figures.specs.Figures.{Entry, of_timing, of_plan, of_row, of_listing, of_older, of_bytes, of_tournament}
use Rattle.plan.specs.Plan.{at}
use Rattle.figures.specs.Figures.{values, file, refusal, instances, of_instance, states, Holds, table, All, Figures}
use Rattle.figures.proofs.Load.{full_is_none}

-- ---- a stream: where its own period is full there is no busy period, and elsewhere it is searched for
full : Terms → ℕ → Bool
full r d = leb d (load r d) && ltb d (load r d + delayed r d)

abbrev sought : Terms → Bool → Option ℕ
sought r b = cond b None (busy r)

is_busy : (r : Terms) → sought r (full r r.own.T) ≡ busy r
unfolding full
is_busy r = go (full r r.own.T) refl
  where
    go : (b : Bool) → full r r.own.T ≡ b → sought r b ≡ busy r
    go true e =
        let (all, more) = both (leb r.own.T (load r r.own.T)) _ e in
        sym (full_is_none r r.own.T (record { all = leb-true _ _ all; more = ltb-true _ _ more }))
    go false e = refl

-- ---- an entry, computed again from what is run

-- any file of a wrong size is refused 1; of a right one the size says nothing, and no number passes
abbrev by_size : Bool → ℕ → ℕ
by_size ok number = cond ok (number + 1) 1

again : Entry → Entry
again (of_timing t v u) = of_timing t («V» (meant_timing t)) (U (meant_timing t))
again (of_plan v c d) = of_plan v (values v) (file (entered_file v))
again (of_row v k c L q is a) =
    let p = meant v in
    let r = terms p (at p k) in
    let f = sought r (full r r.own.T) in
    of_row v k (C'' p.timing (at p k)) f (instances r f) (rows (instances r f) (of_instance r)) (answer_for r (at p k).deadline f)
again (of_listing v size text) = of_listing v (length (file_of (meant v))) (listing_of (meant v) (answers (meant v)))
again (of_older v size c) = of_older v (length (older_file v)) (file (older_file v))
again (of_bytes bs size number) = of_bytes bs (length bs) (by_size (size_right bs) number)
again (of_tournament NB n places a b ss) =
    let start = start_of NB n places in
    let t = left start nobody in
    of_tournament NB n places (checked start) (checked (run_of t)) (states t)

-- ---- an entry that is the same again holds

-- a file of a wrong size is refused 1, whatever stands in it
by_size_lem : (bs any : List ℕ) (size number : ℕ) → length bs ≡ size → length any ≡ size → by_size (size_right bs) number ≡ number → file any ≡ refusal number 0
unfolding read_of judge
by_size_lem bs any size number e f h = go (size_right any) refl (rw (f ∙ sym e) h)
  where
    go : (ok : Bool) → size_right any ≡ ok → by_size ok number ≡ number → file any ≡ refusal number 0
    go true q d = absurd (omega (arith, d))
    go false q d = rw (q, file) (ap (λ n. refusal n 0) d)

holds : (e : Entry) → again e ≡ e → Holds e
unfolding again answer
holds (of_timing t v u) e = (cc, cc)
holds (of_plan v c d) e = (cc, cc)
holds (of_row v k c L q is a) e = let b = is_busy (terms (meant v) (at (meant v) k)) in (cc, cc, cc, cc, cc)
holds (of_listing v size text) e = (cc, cc)
holds (of_older v size c) e = (cc, cc)
holds (of_bytes bs size number) e = (cc, λ any f. by_size_lem bs any size number (cc) f (cc))
holds (of_tournament NB n places a b ss) e = (cc, cc, cc)

all_hold : (es : List Entry) → map again es ≡ es → All es
all_hold [] e = tt
all_hold (x ∷ es) e = (holds x cc, all_hold es cc)

-- ---- the whole table is the same again: antt computes it
same_again : map again table ≡ table
unfolding again full load delayed sum_of largest_of those rows first largest_to first_largest some first_repeat
    E demand side_L busy side_W w bound worst answer self_or_slotted B hit terms
    fields lowest flat_map judge words_of bytes_of file_words entered_in_bodies same read_of
    listing_of text.listed_rows text.row digits digits_of
    lowest_unfit verdict_of begun_of heard_at silenced_at marks_after lowest_marked winner_of next_at steps start_of run_of
same_again = refl

pub figures : Figures
figures = all_hold table same_again
