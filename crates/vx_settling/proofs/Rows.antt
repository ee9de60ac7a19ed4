-- The arguments of an application, as a list.
use Rattle.std.proofs.Common.{◌≡◌, ap, refl}
use Rattle.vx_ast.specs.declared.ExprKind.{Row_of-ExprKind-Call-1-1, end_of-ExprKind-Call-1-1, more_of-ExprKind-Call-1-1, items-the_row-ExprKind-Call-1-1}
use Rattle.vx_ast.specs.Written.{More, written, written_all, written_row}

pub call_row : (n : _) (k : Row_of-ExprKind-Call-1-1 n) → written_row k ≡ written_all (items-the_row-ExprKind-Call-1-1 n k)
call_row n end_of-ExprKind-Call-1-1 = refl
call_row n (more_of-ExprKind-Call-1-1 p place e rest) = ap (More (written place e)) (call_row _ rest)
