-- Lists of expressions, permissions and instances without where they lie in memory.
use Rattle.std.specs.Prelude.{List, map, vec_items}
use Rattle.std.specs.declared.alloc.Global.{Global}
use Rattle.std.specs.declared.rc.Rc.{Rc}
use Rattle.vx_ast.specs.declared.Expr as the_expr
use Rattle.vx_ast.specs.declared.Instance as the_instance
use Rattle.vx_ast.specs.Written.{Expr, Amount, name_of, written_all, written_expr, written_optional}
use Rattle.vx_grammar.specs.Grammar.{Instance}
use Rattle.vx_expr_parser.specs.declared.expr.Access as the_access

abbrev pub exprs_of : List (Rc the_expr.Expr Global) → List Expr
exprs_of es = map (λ e. written_expr e.value) es

abbrev pub access_of : the_access.Access → Expr × Amount
access_of a = (written_expr a.held, written_optional a.amount)

abbrev pub instance_of : the_instance.Instance → Instance
instance_of i = record { predicate = name_of i.predicate; arguments = written_all (vec_items i.arguments); amount = written_optional i.amount }
