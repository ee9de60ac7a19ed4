use Rattle.std.proofs.Common.{◌≡◌, Ok, Err, ap, sym, subst, ◌∙◌, arith}
use Rattle.vx_tokens.specs.Text.{unmarked}
use Rattle.vx_parser.specs.Answers.{answer, halt_of, AllStandIn, IsAnswer}
use Rattle.vx_parser.proofs.Told.{shown_short, answered_short}
use Rattle.vx_tokens.specs.Tokens.{tokens_in}
use Rattle.vx_tokens.specs.Views.{ending_of}
use Rattle.vx_parser.proofs.Answered.{answered_along, program_answered, ending_answered, fault_answered}
use Rattle.vx_parser.proofs.Refused.{answers_say, refusal_of}
use Rattle.vx_parser.proofs.Spelled.{spelled_is_answered}
use Rattle.vx_parser.proofs.program.parse.Goals as goal

pub returns-in-None-clause-reads : goal.returns-in-None-clause-reads
returns-in-None-clause-reads c = λ short text ts e s.
    let bytes = unmarked c.args.text.now in
    let same = c.in_ok-lexed.ensures.only ts e s in
    let slice : tokens_in c.as_slice-tokens.result.now ≡ ts = ap tokens_in c.as_slice-tokens.ensures.value ∙ same.0 in
    answered_along bytes (Ok (record { members = c.in-Ok.members })) _ ts _ e slice same.1 (program_answered bytes c.in-Ok.members (tokens_in c.as_slice-tokens.result.now) (ending_of c.in_ok-lexed.lexed.ending) c.in-Ok.ensures c.in-None.ensures)

pub returns-in-Ok-clause-reads : goal.returns-in-Ok-clause-reads
returns-in-Ok-clause-reads c = λ short text ts e s.
    let bytes = unmarked c.args.text.now in
    let same = c.in_ok-lexed.ensures.only ts e s in
    let slice : tokens_in c.as_slice-tokens.result.now ≡ ts = ap tokens_in c.as_slice-tokens.ensures.value ∙ same.0 in
    answered_along bytes (Err c.in-Some.fault) _ ts _ e slice same.1 (ending_answered bytes c.in-Some.fault _ (tokens_in c.as_slice-tokens.result.now) (ending_of c.in_ok-lexed.lexed.ending) c.in-Ok.ensures c.in-Some.ensures.0 (c.in-Some.ensures.1 bytes))

-- what is answered of the tokens where reading halts
answered : (c : goal.After-drop-lexed-2) → IsAnswer (unmarked c.args.text.now) (Err c.fault.result) (answer (tokens_in c.as_slice-tokens.result.now) (ending_of c.in_ok-lexed.lexed.ending))
answered c =
    let bytes = unmarked c.args.text.now in
    let these = tokens_in c.as_slice-tokens.result.now in
    let all : AllStandIn bytes c.as_slice-tokens.result.now = subst (AllStandIn bytes) (sym c.as_slice-tokens.ensures.value) c.in_ok-lexed.ensures.texts in
    fault_answered bytes c.fault.result (halt_of c.in-Err-members.halt) these (ending_of c.in_ok-lexed.lexed.ending) (c.programs_are_spelled.ensures these) c.in-Err-members.ensures (c.fault.ensures bytes all)

pub returns-clause-reads : goal.returns-clause-reads
returns-clause-reads c = λ short text ts e s.
    let same = c.in_ok-lexed.ensures.only ts e s in
    let slice : tokens_in c.as_slice-tokens.result.now ≡ ts = ap tokens_in c.as_slice-tokens.ensures.value ∙ same.0 in
    answered_along (unmarked c.args.text.now) (Err c.fault.result) _ ts _ e slice same.1 (answered c)

pub returns-in-Ok-clause-too_long : goal.returns-in-Ok-clause-too_long
returns-in-Ok-clause-too_long c = (λ e. absurd (shown_short (unmarked c.args.text.now) c.in-Some.fault _ (c.in-Some.ensures.1 (unmarked c.args.text.now)) cc), λ long. absurd (omega (arith, long, c.if-text-gt-MAX_TEXT.false)))

pub returns-clause-too_long : goal.returns-clause-too_long
returns-clause-too_long c = (λ e. absurd (answered_short (unmarked c.args.text.now) c.fault.result _ (answered c) cc), λ long. absurd (omega (arith, long, c.if-text-gt-MAX_TEXT.false)))

pub returns-in-None-clause-only : goal.returns-in-None-clause-only
returns-in-None-clause-only c = spelled_is_answered c.args.text.now (Ok (record { members = c.in-Ok.members })) c.spelled_programs_are_read.ensures (returns-in-None-clause-reads c)

pub returns-clause-only : goal.returns-clause-only
returns-clause-only c = spelled_is_answered c.args.text.now (Err c.fault.result) c.spelled_programs_are_read.ensures (returns-clause-reads c)

pub returns-in-Ok-clause-refused : goal.returns-in-Ok-clause-refused
returns-in-Ok-clause-refused c = λ short text ts e s. refusal_of (unmarked c.args.text.now) c.in-Some.fault ts e (answers_say c.programs_are_spelled.ensures c.reading_stops_at_first.ensures c.measures_are_told.ensures) (returns-in-Ok-clause-reads c short text ts e s)

pub returns-clause-refused : goal.returns-clause-refused
returns-clause-refused c = λ short text ts e s. refusal_of (unmarked c.args.text.now) c.fault.result ts e (answers_say c.programs_are_spelled.ensures c.reading_stops_at_first.ensures c.measures_are_told.ensures) (returns-clause-reads c short text ts e s)
