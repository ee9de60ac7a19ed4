-- What each fault says of the tokens.
use Rattle.std.proofs.Common.{◌≡◌, ℕ, List, [], ◌∷◌, Result, Ok, Err, Bool, true, false, refl, sym, subst, ◌∙◌, inl, inr, ◌⊎◌}
use Rattle.std.proofs.lemmas.List.{append-nil}
use Rattle.vx_ast.specs.Written.{Program}
use Rattle.vx_tokens.specs.declared.token.Word.TheVariants as words
use Rattle.vx_tokens.specs.Tokens.{Kind, word, Token}
use Rattle.vx_tokens.specs.Text.{Ending, AtEnd, OpenComment, WideLiteral, BadCharacter}
use Rattle.vx_grammar.specs.Grammar.{tokens_of}
use Rattle.vx_grammar.specs.Programs.{program_marks}
use Rattle.vx_grammar.specs.Reading as reading
use Rattle.vx_grammar.specs.MemberReading as members
use Rattle.vx_grammar.specs.ProgramLaws.{ProgramSpelled, ProgramWithin, ProgramSays, StopsAtFirst, FirstUnfit, MeasureSays, ProgramsAreSpelled, ReadingStopsAtFirst, MeasuresAreTold}
use Rattle.vx_parser.specs.declared.fault.TextFault as the_fault
use Rattle.vx_parser.specs.declared.fault.TextFault.TheVariants as faults
use Rattle.vx_parser.specs.Answers.{Fault, answer, answer_by, early, unfit_token, is_foreign, is_foreign_member, IsEnd, IsAnswer, Shows}
use Rattle.vx_parser.specs.Refusing.{AllFit, NoProgram, ClauseFitsThere, NoClauseFitsThere, FaultSays, AnswerSays, AnswersSay, IsRefusal}

early_says : (ts : List Token) (e : Ending) → AllFit ts → (IsEnd e → NoProgram ts) → FaultSays ts e (early e)
early_says ts (AtEnd p) fit none = (refl, fit, none)
early_says ts (OpenComment p) fit none = (refl, fit, none)
early_says ts (WideLiteral p) fit none = (refl, fit)
early_says ts (BadCharacter p) fit none = (refl, fit)

-- the tokens of a program fit
program_fits : (ts : List Token) (p : Program) → ProgramWithin ts p → AllFit ts
program_fits ts p h = (
  program_marks h.spelled.phrase,
  record {
    tokens = sym h.spelled.tokens ∙ sym (append-nil (tokens_of (program_marks h.spelled.phrase)));
    within = h.within;
    goes_on = record { phrase = h.spelled.phrase; stands = h.spelled.stands; more = []; marks = sym (append-nil (program_marks h.spelled.phrase)) };
  },
)

ended_says : (ts : List Token) (p : Program) (e : Ending) → ProgramWithin ts p → AnswerSays ts e (answer_by (Ok p) e)
ended_says ts p (AtEnd at) h = (h, tt)
ended_says ts p (OpenComment at) h = (refl, program_fits ts p h, λ x. absurd x)
ended_says ts p (WideLiteral at) h = (refl, program_fits ts p h)
ended_says ts p (BadCharacter at) h = (refl, program_fits ts p h)

unfit_says : (ts : List Token) (e : Ending) (t : Token) (after : List Token) (b : Bool) → FirstUnfit ts (t ∷ after) → (b ≡ true → ClauseFitsThere ts (t ∷ after)) → (b ≡ false → NoClauseFitsThere ts (t ∷ after)) → FaultSays ts e (unfit_token b t)
unfit_says ts e t after true h out known = record { token = t; after = after; place = refl; is = refl; first = h; such = out refl }
unfit_says ts e t after false h out known = record { token = t; after = after; place = refl; is = refl; first = h; such = known refl }

-- a measure is no word that is left out anywhere
no_measure : (ts : List Token) (t : Token) (after : List Token) (foreign : Kind → Bool) → foreign (word words.Decreases) ≡ false → foreign t.kind ≡ true → ClauseFitsThere ts (t ∷ after)
no_measure ts t after foreign not e = λ measure. absurd (let k : foreign (word words.Decreases) ≡ true = subst (λ x. foreign x ≡ true) measure e in cc)

-- where no token is left, the tokens are no program yet
none_left : (ts : List Token) → FirstUnfit ts [] → NoProgram ts
none_left ts h = λ p s. h.none p (subst (λ l. ProgramSpelled l p) (h.fits.tokens ∙ append-nil (tokens_of h.front)) s)

halt_says : (ts : List Token) (e : Ending) (h : members.Halt) → ProgramSays ts (Err h) → StopsAtFirst ts (Err h) → MeasureSays ts (Err h) → AnswerSays ts e (answer_by (Err h) e)
halt_says ts e (members.inside (reading.Unexpected [])) says stops told = early_says ts e says (λ x. none_left ts stops)
halt_says ts e (members.inside (reading.Unexpected (t ∷ after))) says stops told = unfit_says ts e t after (is_foreign t.kind) stops (λ k. no_measure ts t after is_foreign refl k) (λ k. inl told)
halt_says ts e (members.inside (reading.Measured [])) says stops told = early_says ts e says (λ x. none_left ts stops)
halt_says ts e (members.inside (reading.Measured (t ∷ after))) says stops told = record { token = t; after = after; place = refl; is = refl; first = stops; such = λ measure. told }
halt_says ts e (members.no_body []) says stops told = early_says ts e says.0 (λ x. none_left ts stops)
halt_says ts e (members.no_body (t ∷ after)) says stops told = record { token = t; after = after; place = refl; first = stops; due = says.1 }
halt_says ts e (members.second_measure []) says stops told = early_says ts e says.0 (λ x. none_left ts stops)
halt_says ts e (members.second_measure (t ∷ after)) says stops told = record { token = t; after = after; place = refl; is = refl; first = stops; such = inr says.1 }
halt_says ts e (members.no_member []) says stops told = early_says ts e says (λ x. none_left ts stops)
halt_says ts e (members.no_member (t ∷ after)) says stops told = unfit_says ts e t after (is_foreign_member t.kind) stops (λ k. no_measure ts t after is_foreign_member refl k) (λ k. inl told)
halt_says ts e (members.inside (reading.TooDeep [])) says stops told = absurd (let h = says.first in cc)
halt_says ts e (members.inside (reading.TooDeep (t ∷ after))) says stops told = record { token = t; after = after; place = refl; deep = says }
halt_says ts e (members.too_many []) says stops told = absurd (let h = says.rest_is in cc)
halt_says ts e (members.too_many (t ∷ after)) says stops told = record { token = t; after = after; place = refl; many = says }

by_members : (ts : List Token) (e : Ending) (r : Result Program members.Halt) → ProgramSays ts r → StopsAtFirst ts r → MeasureSays ts r → AnswerSays ts e (answer_by r e)
by_members ts e (Ok p) says stops told = ended_says ts p e says
by_members ts e (Err h) says stops told = halt_says ts e h says stops told

pub answers_say : ProgramsAreSpelled → ReadingStopsAtFirst → MeasuresAreTold → AnswersSay
unfolding answer
answers_say spelled first measures ts e = by_members ts e (members.members_at ts) (spelled ts) (first ts) (measures ts)

-- a fault that is answered says so
pub refusal_of : (bytes : List ℕ) (f : the_fault.TextFault) (ts : List Token) (e : Ending) → AnswersSay → IsAnswer bytes (Err f) (answer ts e) → IsRefusal bytes ts e f
refusal_of bytes f ts e law h = by_answer (answer ts e) (law ts e) h
  where
    only_want : (f : the_fault.TextFault) (p : Program) → IsAnswer bytes (Err f) (Ok p) → f ≡ faults.Want
    only_want faults.Want p k = refl
    only_want (faults.NotUtf8 q) p k = absurd k
    only_want (faults.BadCharacter q) p k = absurd k
    only_want (faults.Unexpected q s) p k = absurd k
    only_want (faults.EndOfText q) p k = absurd k
    only_want (faults.WideLiteral q) p k = absurd k
    only_want (faults.TooDeep q) p k = absurd k
    only_want faults.TooLong p k = absurd k
    only_want (faults.TooManyMembers q) p k = absurd k
    only_want (faults.Unsupported q s) p k = absurd k

    shows : (f : the_fault.TextFault) (g : Fault) → IsAnswer bytes (Err f) (Err g) → (f ≡ faults.Want) ⊎ Shows bytes f g
    shows faults.Want g k = inl refl
    shows (faults.NotUtf8 q) g k = inr k
    shows (faults.BadCharacter q) g k = inr k
    shows (faults.Unexpected q s) g k = inr k
    shows (faults.EndOfText q) g k = inr k
    shows (faults.WideLiteral q) g k = inr k
    shows (faults.TooDeep q) g k = inr k
    shows faults.TooLong g k = inr k
    shows (faults.TooManyMembers q) g k = inr k
    shows (faults.Unsupported q s) g k = inr k

    by_answer : (a : Result Program Fault) → AnswerSays ts e a → IsAnswer bytes (Err f) a → IsRefusal bytes ts e f
    by_answer (Ok p) says k = inl (only_want f p k)
    by_answer (Err g) says k = elim (shows f g k) [ inl w ↦ inl w | inr s ↦ inr (g, s, says) ]
