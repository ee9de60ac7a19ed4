-- Where an expression stands.
use Rattle.std.proofs.Common.{◌≡◌, refl}
use Rattle.vx_ast.specs.declared.Place.{Place}
use Rattle.vx_ast.specs.declared.ExprKind as tree
use Rattle.vx_ast.specs.Written.{written}
use Rattle.vx_expressions.specs.Places.{place_of}

pub stands : (at : Place) (k : tree.ExprKind) → at ≡ place_of (written at k)
stands at (tree.Number n) = refl
stands at (tree.Boolean b) = refl
stands at tree.Null = refl
stands at tree.Write = refl
stands at tree.Nothing = refl
stands at tree.Outcome = refl
stands at (tree.Variable x) = refl
stands at (tree.Call' f shape row) = refl
stands at (tree.Read' p place e f) = refl
stands at (tree.Unary' op p place e) = refl
stands at (tree.Binary' op p place a q place' b) = refl
stands at (tree.Conditional' p place c q place' a r place'' b) = refl
stands at (tree.Old' p place e) = refl
stands at (tree.Access' p place e amount) = refl
stands at (tree.Unfolding' predicate shape row amount p place e) = refl
