use Rattle.std.proofs.Common.{subst}
use Rattle.vx_tokens.specs.Tokens.{tokens_in}
use Rattle.vx_ast.specs.Written.{written_expr}
use Rattle.vx_expr_parser.specs.Gives.{Gives}
use Rattle.vx_expr_parser.proofs.Says.{says_of}
use Rattle.vx_expr_parser.proofs.whole.expression.Goals as goal

pub returns-clause-says : goal.returns-clause-says
returns-clause-says c = says_of 200 (tokens_in c.args.tokens.now) c.whole.result c.whole.ensures (c.answers_are_right.ensures 200 (tokens_in c.args.tokens.now))

pub returns-clause-only : goal.returns-clause-only
returns-clause-only c = λ e s. subst (Gives written_expr c.whole.result) (c.spelled_is_read.ensures 200 (tokens_in c.args.tokens.now) e s) c.whole.ensures
