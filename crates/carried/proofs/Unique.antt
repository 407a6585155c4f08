-- The contracts determine the outcomes: each equates the result with one value. Assumes nothing.
use mathlib.Core.Path.{◌≡◌, refl, sym, ◌∙◌}
use borrow.Fn.Kinds.{Dens, res_t, ended_of}
use contract.Lifetimes.{Lfts}
use denote.Triple.Clauses.{Lasts, at_exit}
use Rattle.laws.specs.Determined.{OneOutcome}
use Rattle.carried.proofs.U32FromEdition.from.Kinds as number-kinds
use Rattle.carried.proofs.U32FromEdition.from.Reads as number
use Rattle.carried.proofs.EnteredTimingFromTiming.from.Kinds as entered-kinds
use Rattle.carried.proofs.EnteredTimingFromTiming.from.Reads as entered
use Rattle.carried.proofs.TimingFromEnteredTiming.from.Kinds as held-kinds
use Rattle.carried.proofs.TimingFromEnteredTiming.from.Reads as held
use Rattle.carried.proofs.timing_body.Kinds as timing-body-kinds
use Rattle.carried.proofs.timing_body.Reads as timing-body
use Rattle.carried.proofs.stream_body.Kinds as stream-body-kinds
use Rattle.carried.proofs.stream_body.Reads as stream-body
use Rattle.carried.proofs.most_streams.Kinds as most-streams-kinds
use Rattle.carried.proofs.most_streams.Reads as most-streams
use Rattle.carried.proofs.record_at.Kinds as record-at-kinds
use Rattle.carried.proofs.record_at.Reads as record-at
use Rattle.carried.proofs.has_word.Kinds as has-word-kinds
use Rattle.carried.proofs.has_word.Reads as has_word
use Rattle.carried.proofs.in_bodies.Kinds as in-bodies-kinds
use Rattle.carried.proofs.in_bodies.Reads as in-bodies
use Rattle.carried.proofs.timing_words.Kinds as timing-words-kinds
use Rattle.carried.proofs.timing_words.Reads as timing-words
use Rattle.carried.proofs.words_entered.Kinds as words-entered-kinds
use Rattle.carried.proofs.words_entered.Reads as words-entered
use Rattle.carried.proofs.words_of.Kinds as words-of-kinds
use Rattle.carried.proofs.words_of.Reads as words_of
use Rattle.carried.proofs.words_from.Kinds as words-from-kinds
use Rattle.carried.proofs.words_from.Reads as words-from
use Rattle.carried.proofs.timing_in.Kinds as timing-in-kinds
use Rattle.carried.proofs.timing_in.Reads as timing-in
use Rattle.carried.proofs.timing_from.Kinds as timing-from-kinds
use Rattle.carried.proofs.timing_from.Reads as timing-from
use Rattle.carried.proofs.no_streams.Kinds as no-streams-kinds
use Rattle.carried.proofs.no_streams.Reads as no-streams
use Rattle.carried.proofs.records.Kinds as records-kinds
use Rattle.carried.proofs.records.Reads as records
use Rattle.carried.proofs.sheet_in.Kinds as sheet-in-kinds
use Rattle.carried.proofs.sheet_in.Reads as sheet-in

pub number_from_edition_one : OneOutcome 0 number-kinds.ps number-kinds.r number.Post
number_from_edition_one κs a x y ws us p q = (p ∙ sym q, refl)

pub entered_from_timing_one : OneOutcome 0 entered-kinds.ps entered-kinds.r entered.Post
entered_from_timing_one κs a x y ws us p q = (p ∙ sym q, refl)

pub timing_from_entered_one : OneOutcome 0 held-kinds.ps held-kinds.r held.Post
timing_from_entered_one κs a x y ws us p q = (p ∙ sym q, refl)

pub timing_body_one : OneOutcome 0 timing-body-kinds.ps timing-body-kinds.r timing-body.Post
timing_body_one κs a x y ws us p q = (p.0 ∙ sym q.0, refl)

pub stream_body_one : OneOutcome 0 stream-body-kinds.ps stream-body-kinds.r stream-body.Post
stream_body_one κs a x y ws us p q = (p.0 ∙ sym q.0, refl)

pub most_streams_one : OneOutcome 0 most-streams-kinds.ps most-streams-kinds.r most-streams.Post
most_streams_one κs a x y ws us p q = (p ∙ sym q, refl)

pub record_at_one : OneOutcome 0 record-at-kinds.ps record-at-kinds.r record-at.Post
record_at_one κs a x y ws us p q = (p.0 ∙ sym q.0, refl)

pub has_word_one : OneOutcome 0 has-word-kinds.ps has-word-kinds.r has_word.Post
has_word_one κs a x y ws us p q = (p ∙ sym q, refl)

pub in_bodies_one : OneOutcome 0 in-bodies-kinds.ps in-bodies-kinds.r in-bodies.Post
in_bodies_one κs a x y ws us p q = (p.0 ∙ sym q.0, refl)

pub timing_words_one : OneOutcome 0 timing-words-kinds.ps timing-words-kinds.r timing-words.Post
timing_words_one κs a x y ws us p q = (p ∙ sym q, refl)

pub words_entered_one : OneOutcome 0 words-entered-kinds.ps words-entered-kinds.r words-entered.Post
words_entered_one κs a x y ws us p q = (p ∙ sym q, refl)

pub words_of_one : OneOutcome 0 words-of-kinds.ps words-of-kinds.r words_of.Post
words_of_one κs a x y ws us p q = (p ∙ sym q, refl)

pub words_from_one : OneOutcome 1 words-from-kinds.ps words-from-kinds.r words-from.Post
words_from_one κs a x y ws us p q = (p ∙ sym q, refl)

pub timing_in_one : OneOutcome 1 timing-in-kinds.ps timing-in-kinds.r timing-in.Post
timing_in_one κs a x y ws us p q = (p ∙ sym q, refl)

pub timing_from_one : OneOutcome 1 timing-from-kinds.ps timing-from-kinds.r timing-from.Post
timing_from_one κs a x y ws us p q = (p ∙ sym q, refl)

pub no_streams_one : OneOutcome 0 no-streams-kinds.ps no-streams-kinds.r no-streams.Post
no_streams_one κs a x y ws us p q = (p ∙ sym q, refl)

pub sheet_in_one : OneOutcome 1 sheet-in-kinds.ps sheet-in-kinds.r sheet-in.Post
sheet_in_one κs a x y ws us p q = (p ∙ sym q, refl)

-- What is lent is one; where it lies no contract says.
pub records_one : (κs : Lfts 1) (a : Dens κs records-kinds.ps) (x y : (res_t records-kinds.r κs).Denot) (ws us : Lasts (ended_of 1 records-kinds.ps records-kinds.r) κs a)
    → records.Post κs a x (at_exit (ended_of 1 records-kinds.ps records-kinds.r) κs a ws) → records.Post κs a y (at_exit (ended_of 1 records-kinds.ps records-kinds.r) κs a us)
    → (x.now ≡ y.now) × (ws ≡ us)
records_one κs a x y ws us p q = (p ∙ sym q, refl)
