use Rattle.std.proofs.Common.{arith}
use Rattle.vx_tokens.specs.Tokens.{tokens_in}
use Rattle.vx_ast.specs.Written.{written_right}
use Rattle.vx_grammar.specs.Reading.{allocation}
use Rattle.vx_grammar.specs.Nesting.{is_full}
use Rattle.vx_expr_parser.proofs.Steps.{nested_is}
use Rattle.vx_expr_parser.proofs.assigned.nested_allocation.Goals as goal

pub returns-in-Some : goal.returns-in-Some
returns-in-Some c = nested_is (allocation c.args.place) (λ x. (written_right x.0, tokens_in x.1.now)) c.allocation.result c.args.room c.in-Some.field-0 (tokens_in c.args.here.now) (tokens_in c.args.tokens.now) c.in-Some.ensures c.allocation.ensures

pub returns-in-None : goal.returns-in-None
returns-in-None c = is_full c.args.room (allocation c.args.place) (tokens_in c.args.here.now) (tokens_in c.args.tokens.now) (omega (arith, c.in-None.ensures))
