-- What an answer says, from what reading gives.
use Rattle.std.proofs.Common.{ℕ, List, Result, Ok, Err, subst}
use Rattle.vx_tokens.specs.Tokens.{Token}
use Rattle.vx_ast.specs.Written.{written_expr}
use Rattle.vx_ast.specs.declared.Expr as the_expr
use Rattle.vx_grammar.specs.Laws.{whole, Says}
use Rattle.vx_expr_parser.specs.declared.stop.Stop as the_stop
use Rattle.vx_expr_parser.specs.declared.stop.Stop.TheVariants as stops
use Rattle.vx_expr_parser.specs.Gives.{Gives}
use Rattle.vx_expr_parser.specs.Says.{SaysOf}

pub says_of : (limit : ℕ) (ts : List Token) (r : Result the_expr.Expr the_stop.Stop) → Gives written_expr r (whole limit ts) → Says limit ts (whole limit ts) → SaysOf limit ts r
says_of limit ts (Ok e) g s = subst (Says limit ts) g s
says_of limit ts (Err (stops.Unexpected rest)) g s = subst (Says limit ts) g s
says_of limit ts (Err (stops.Measured rest)) g s = subst (Says limit ts) g s
says_of limit ts (Err (stops.TooDeep rest)) g s = subst (Says limit ts) g s
says_of limit ts (Err stops.Memory) g s = tt
