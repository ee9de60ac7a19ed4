use Rattle.vx_tokens.specs.Views.{ending_of}
use Rattle.vx_parser.specs.Answers.{halt_of}
use Rattle.vx_parser.proofs.Told.{fault_at_token}
use Rattle.vx_parser.proofs.program.fault.Goals as goal

pub returns-in-Some-first_left : goal.returns-in-Some-first_left
returns-in-Some-first_left c = λ bytes all.
    fault_at_token bytes c.args.tokens.now c.in-Some.rest.now c.token_fault.result (halt_of c.args.halt) (ending_of c.args.ending) c.in-Some-first_left.token.now c.in-Some.ensures c.in-Some-first_left.ensures all (c.token_fault.ensures bytes)
