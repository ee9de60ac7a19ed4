use Rattle.vx_tokens.specs.Tokens.{tokens_in}
use Rattle.vx_ast.specs.Written.{written_right}
use Rattle.vx_grammar.specs.Reading.{allocation, below}
use Rattle.vx_expr_parser.proofs.Steps.{encloses}
use Rattle.vx_expr_parser.proofs.assigned.enclosed_allocation.Goals as goal

pub returns : goal.returns
returns c =
    encloses (allocation c.args.place) written_right (λ ts. tokens_in ts.now) c.in_ok-right.right c.closed.result (below c.args.room) (tokens_in c.args.tokens.now) _ (tokens_in c.in_ok-inner.inner.now) (tokens_in c.in_ok-right.rest.now) c.in_ok-inner.ensures c.in_ok-right.ensures c.closed.ensures
