-- Arguments are a list of expressions.
use Rattle.std.proofs.Common.{◌≡◌, List, [], ◌∷◌, refl, ap}
use Rattle.std.specs.declared.alloc.Global.{Global}
use Rattle.std.specs.declared.rc.Rc.{Rc}
use Rattle.vx_ast.specs.declared.Expr as the_expr
use Rattle.vx_ast.specs.declared.ExprKind.{Row_of-ExprKind-Call-1-1, end_of-ExprKind-Call-1-1, more_of-ExprKind-Call-1-1, items-the_row-ExprKind-Call-1-1}
use Rattle.vx_ast.specs.Written.{More, written, written_all, written_expr, written_row}
use Rattle.vx_grammar.specs.Reading.{exprs_from}
use Rattle.vx_expr_parser.specs.Views.{exprs_of}

pub all_items : (es : List (Rc the_expr.Expr Global)) → written_all es ≡ exprs_from (exprs_of es)
all_items [] = refl
all_items (e ∷ es) = ap (More (written_expr e.value)) (all_items es)

pub call_row : (n : _) (k : Row_of-ExprKind-Call-1-1 n) → written_row k ≡ written_all (items-the_row-ExprKind-Call-1-1 n k)
call_row n end_of-ExprKind-Call-1-1 = refl
call_row n (more_of-ExprKind-Call-1-1 p place e rest) = ap (More (written place e)) (call_row _ rest)
