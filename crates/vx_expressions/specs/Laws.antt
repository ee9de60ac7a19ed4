-- Two ways to say what is typed agree: the relation by structure, and the first fault on a walk.
use Rattle.std.specs.Prelude.{◌≡◌, ◌↔◌, Bool, true, false, ◌||◌, Ok, Err, List}
use Rattle.vx_ast.specs.declared.ValueType.{ValueType}
use Rattle.vx_ast.specs.declared.BinaryOperator.TheVariants as binary
use Rattle.vx_ast.specs.Written as expr
use Rattle.vx_ast.specs.Written.{Expr, Exprs, Amount}
use Rattle.vx_expressions.specs.Settings.{Setting, is_predicate}
use Rattle.vx_expressions.specs.Typing.{HasType, HaveTypes, IsShare, IsPermission, IsAssertion}
use Rattle.vx_expressions.specs.Faults.{Fault, Checked, ◌>>=◌, Value, Permission, check, check_all, check_share, claim, assertion}

-- there is a first fault
abbrev pub HasFault : {X : Type 0} → Checked X → Type 0
HasFault checked = (f : Fault) × (checked ≡ Err f)

abbrev pub TypesAgree : Type 0
TypesAgree = (s : Setting) (e : Expr) (t : ValueType) → (check s e ≡ Ok t) ↔ HasType s e t

abbrev pub ListsAgree : Type 0
ListsAgree = (s : Setting) (es : Exprs) (ts : List ValueType) → (check_all s es ≡ Ok ts) ↔ HaveTypes s es ts

abbrev pub SharesAgree : Type 0
SharesAgree = (s : Setting) (share : Amount) → (check_share s share ≡ Ok tt) ↔ IsShare s share

-- what may stand where an assertion may is a value of a type, or a permission
abbrev pub ValuesAgree : Type 0
ValuesAgree = (s : Setting) (e : Expr) (t : ValueType) → (claim s e ≡ Ok (Value t)) ↔ HasType s e t

abbrev pub PermissionsAgree : Type 0
PermissionsAgree = (s : Setting) (e : Expr) → (claim s e ≡ Ok Permission) ↔ IsPermission s e

abbrev pub AssertionsAgree : Type 0
AssertionsAgree = (s : Setting) (e : Expr) → (assertion s e ≡ Ok tt) ↔ IsAssertion s e

-- there is a first fault exactly where there is no type, and exactly where it is no assertion
abbrev pub UntypedAreFaulty : Type 0
UntypedAreFaulty = (s : Setting) (e : Expr) → HasFault (check s e) ↔ ((t : ValueType) → HasType s e t → ⊥)

abbrev pub OthersAreFaulty : Type 0
OthersAreFaulty = (s : Setting) (e : Expr) → HasFault (assertion s e) ↔ (IsAssertion s e → ⊥)

-- whether a permission stands where an assertion's parts may stand
abbrev pub has_permission : Setting → Expr → Bool
has_permission s (expr.Access at e share) = true
has_permission s (expr.Call at f es) = is_predicate (s.member f)
has_permission s (expr.Binary at binary.And a b) = has_permission s a || has_permission s b
has_permission s (expr.Binary at binary.Implies c a) = has_permission s a
has_permission s (expr.Choice at c a b) = has_permission s a || has_permission s b
has_permission s e = false

-- where none stands, an assertion is walked as any expression is: the same type, or the same first fault
abbrev pub PureAreWalkedAlike : Type 0
PureAreWalkedAlike = (s : Setting) (e : Expr) → has_permission s e ≡ false → claim s e ≡ (check s e >>= λ t. Ok (Value t))

-- an expression has one type at most
abbrev pub HasOneType : Type 0
HasOneType = (s : Setting) (e : Expr) (t u : ValueType) → HasType s e t → HasType s e u → t ≡ u

-- and none where it holds a permission
abbrev pub PermissionsAreNoValues : Type 0
PermissionsAreNoValues = (s : Setting) (e : Expr) (t : ValueType) → HasType s e t → IsPermission s e → ⊥
