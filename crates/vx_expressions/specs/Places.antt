-- Where expressions stand.
use Rattle.vx_ast.specs.declared.Place.{Place}
use Rattle.vx_ast.specs.Written.{Expr, Number, Truth, Null, Whole, Nothing, Result, Variable, Call, Read, Unary, Binary, Choice, Old, Access, Unfolding}

abbrev pub place_of : Expr → Place
place_of (Number at n) = at
place_of (Truth at b) = at
place_of (Null at) = at
place_of (Whole at) = at
place_of (Nothing at) = at
place_of (Result at) = at
place_of (Variable at x) = at
place_of (Call at f es) = at
place_of (Read at e f) = at
place_of (Unary at op e) = at
place_of (Binary at op a b) = at
place_of (Choice at c a b) = at
place_of (Old at e) = at
place_of (Access at e share) = at
place_of (Unfolding at i es share e) = at
