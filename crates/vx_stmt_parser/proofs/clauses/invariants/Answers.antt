use Rattle.std.proofs.Common.{List, ap}
use Rattle.vx_tokens.specs.Tokens.{Token, tokens_in}
use Rattle.vx_ast.specs.Written.{Exprs, written_all}
use Rattle.vx_expr_parser.specs.Views.{exprs_of}
use Rattle.vx_expr_parser.proofs.Rows.{all_items}
use Rattle.vx_stmt_parser.proofs.Turns.{invariants_is}
use Rattle.vx_stmt_parser.proofs.clauses.invariants.Goals as goal

pub returns : goal.returns
returns c =
    invariants_is (λ x. (exprs_of x.0.items, tokens_in x.1.now)) (λ x. (written_all x.0.items, tokens_in x.1.now)) c.kept.result c.args.room (tokens_in c.args.tokens.now)
    (λ x. ap (λ (l : Exprs). let y : Exprs × List Token = (l, tokens_in x.1.now) in y) (all_items x.0.items)) c.kept.ensures
