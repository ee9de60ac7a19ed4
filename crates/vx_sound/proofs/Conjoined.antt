-- Postconditions that are joined, and taken apart again: they are typed, and speak of what each speaks of.
use Rattle.std.proofs.Common.{List, [], ◌∷◌}
use Rattle.vx_ast.specs.declared.Place.{Place}
use Rattle.vx_ast.specs.declared.ValueType.TheVariants as type
use Rattle.vx_ast.specs.Syntax.{Name, Program, conjoined, conjoined_with, as_assertion, place_of, And, Or, Implies, Expr, Number, Truth, Null, Part, Variable, Not, Operate, Divide, Connect, Choose, Read, Old, Apply, Unfolding}
use Rattle.vx_types.specs.Typing.{Scope, HasType, IsTyped, AreTruths}
use Rattle.vx_types.specs.Typing as typed
use Rattle.vx_sound.proofs.Speaks.{Speaks, SpeaksOf}

conjoined_with_typed : (p : Program) (scope : Scope) (e : Expr) (rest : List Expr) → HasType p scope e type.Bool → AreTruths p scope rest → HasType p scope (conjoined_with e rest) type.Bool
conjoined_with_typed p scope e [] t ts = t
conjoined_with_typed p scope e (b ∷ rest) t ts = conjoined_with_typed p scope (Connect (place_of e) And e b) rest (typed.connects t ts.0) ts.1

pub conjoined_typed : (p : Program) (scope : Scope) (at : Place) (rest : List Expr) → AreTruths p scope rest → HasType p scope (conjoined at rest) type.Bool
conjoined_typed p scope at [] t = typed.truth
conjoined_typed p scope at (e ∷ rest) t = conjoined_with_typed p scope e rest t.0 t.1

pub assertion_typed : (p : Program) (scope : Scope) (e : Expr) → HasType p scope e type.Bool → IsTyped p scope (as_assertion e)
assertion_typed p scope (Connect at And a b) (typed.connects ta tb) = (assertion_typed p scope a ta, assertion_typed p scope b tb)
assertion_typed p scope (Connect at Or a b) t = t
assertion_typed p scope (Connect at Implies a b) t = t
assertion_typed p scope (Number at n) t = t
assertion_typed p scope (Truth at b) t = t
assertion_typed p scope (Null at) t = t
assertion_typed p scope (Part at n d) t = t
assertion_typed p scope (Variable at x) t = t
assertion_typed p scope (Not at e) t = t
assertion_typed p scope (Operate at op a b) t = t
assertion_typed p scope (Divide at op a b) t = t
assertion_typed p scope (Choose at c a b) t = t
assertion_typed p scope (Read at e f) t = t
assertion_typed p scope (Old at e) t = t
assertion_typed p scope (Apply at f es) t = t
assertion_typed p scope (Unfolding at i es share e) t = t

module _ (Held Applied : Name → Type 0) where
  pub assertion_speaks : (e : Expr) → Speaks Held Applied e → SpeaksOf Held Applied (as_assertion e)
  assertion_speaks (Connect at And a b) k = (assertion_speaks a k.0, assertion_speaks b k.1)
  assertion_speaks (Connect at Or a b) k = k
  assertion_speaks (Connect at Implies a b) k = k
  assertion_speaks (Number at n) k = k
  assertion_speaks (Truth at b) k = k
  assertion_speaks (Null at) k = k
  assertion_speaks (Part at n d) k = k
  assertion_speaks (Variable at x) k = k
  assertion_speaks (Not at e) k = k
  assertion_speaks (Operate at op a b) k = k
  assertion_speaks (Divide at op a b) k = k
  assertion_speaks (Choose at c a b) k = k
  assertion_speaks (Read at e f) k = k
  assertion_speaks (Old at e) k = k
  assertion_speaks (Apply at f es) k = k
  assertion_speaks (Unfolding at i es share e) k = k
