use Rattle.std.proofs.Common.{arith}
use Rattle.vx_tokens.specs.Tokens.{tokens_in}
use Rattle.vx_ast.specs.Written.{written_expr}
use Rattle.vx_grammar.specs.Reading.{behind_dot}
use Rattle.vx_grammar.specs.Nesting.{is_full}
use Rattle.vx_expr_parser.proofs.Steps.{nested_is}
use Rattle.vx_expr_parser.proofs.dots.+dots.Goals as goal

pub nested_dot-returns-in-Some : goal.nested_dot-returns-in-Some
nested_dot-returns-in-Some t c = nested_is (behind_dot c.args.place (written_expr c.args.left)) (λ x. (written_expr x.0, tokens_in x.1.now)) c.dotted.result c.args.room c.in-Some.less (tokens_in c.args.here.now) (tokens_in c.args.tokens.now) c.in-Some.ensures (rw c.in_ok-left.ensures.ok at c.dotted.ensures)

pub nested_dot-returns-in-None : goal.nested_dot-returns-in-None
nested_dot-returns-in-None t c = is_full c.args.room (behind_dot c.args.place (written_expr c.args.left)) (tokens_in c.args.here.now) (tokens_in c.args.tokens.now) (omega (arith, c.in-None.ensures))
