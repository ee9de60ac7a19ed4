use Rattle.std.proofs.Common.{map}
use Rattle.vx_tokens.specs.declared.token.Symbol.TheVariants as signs
use Rattle.vx_tokens.specs.Tokens.{tokens_in}
use Rattle.vx_ast.specs.Written.{written_declaration}
use Rattle.vx_grammar.specs.Reading.{expect}
use Rattle.vx_grammar.specs.MemberReading.{parameters_at}
use Rattle.vx_expr_parser.proofs.Steps.{closes}
use Rattle.vx_expr_parser.proofs.declarations.parameters.Goals as goal

pub returns : goal.returns
unfolding parameters_at
returns c =
    rw (c.in_ok-inner.ensures, c.in_ok-parameters.ensures) (closes (λ ds. map written_declaration ds.items) (λ ts. tokens_in ts.now) c.in_ok-parameters.parameters c.closed.result (expect signs.Close (tokens_in c.in_ok-parameters.rest.now)) c.closed.ensures)
