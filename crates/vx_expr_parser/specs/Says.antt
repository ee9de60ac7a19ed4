-- What an answer of the parser says of the tokens.
use Rattle.std.specs.Prelude.{ℕ, Result, Ok, Err, List}
use Rattle.vx_tokens.specs.Tokens.{Token}
use Rattle.vx_tokens.specs.Tokens.{tokens_in}
use Rattle.vx_ast.specs.Written.{written_expr}
use Rattle.vx_ast.specs.declared.Expr as the_expr
use Rattle.vx_grammar.specs.Laws.{SpelledWithin, StopsUnfit, StopsDeep}
use Rattle.vx_expr_parser.specs.declared.stop.Stop as the_stop
use Rattle.vx_expr_parser.specs.declared.stop.Stop.TheVariants as stops

abbrev pub SaysOf : ℕ → List Token → Result the_expr.Expr the_stop.Stop → Type 0
SaysOf limit ts (Ok e) = SpelledWithin limit ts (written_expr e)
SaysOf limit ts (Err (stops.Unexpected rest)) = StopsUnfit limit ts (tokens_in rest.now)
SaysOf limit ts (Err (stops.Measured rest)) = StopsUnfit limit ts (tokens_in rest.now)
SaysOf limit ts (Err (stops.TooDeep rest)) = StopsDeep limit ts (tokens_in rest.now)
SaysOf limit ts (Err stops.Memory) = Unit {0}
