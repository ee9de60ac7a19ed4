-- The first fault of a statement: its parts in text order, and of a call the targets, the method's name, the arguments,
-- how many arguments and targets there are, and their types.
use Rattle.std.specs.Prelude.{ℕ, true, false, Bool, not, ◌++◌, List, [], ◌∷◌, Option, Some, None, Ok, Err, length, nat_eq, is_some, if◌then◌else◌, ⊤}
use Rattle.vx_ast.specs.declared.Place.{Place}
use Rattle.vx_ast.specs.declared.ValueType.{ValueType}
use Rattle.vx_ast.specs.declared.ValueType.TheVariants as type
use Rattle.vx_ast.specs.Mentions.{is_among}
use Rattle.vx_ast.specs.Written.{Name, Placed, placed, Declaration, Expr, Call, Exprs, NoMore, More, Amount, Right, Value, NewAll, New, Stmt, Declare, Assign, Write, Invoke, Inhale, Exhale, Assert, Assume, Fold, Unfold, If, While, Other, NoElse, Else, Block, Done, Then}
use Rattle.vx_expressions.specs.declared.setting.Variable.{Variable}
use Rattle.vx_expressions.specs.Places.{place_of}
use Rattle.vx_statements.specs.declared.names.Role.TheVariants.{Local}
use Rattle.vx_expressions.specs.Scopes.{Scope, named}
use Rattle.vx_statements.specs.Roles.{with_variable}
use Rattle.vx_expressions.specs.Settings.{Table, Setting, Signature, IsMethod, within_method}
use Rattle.vx_statements.specs.Statements.{scope_after}
use Rattle.vx_expressions.specs.Faults.{Checked, ◌>>=◌, Unknown, Twice, Arity, NotAssignable, UnfoldAbstract, unless, expect, field_type, arguments_fit, check, check_all, check_share, instance, read, assertion}

-- a name that is not among those before it
abbrev pub new_name : List Name → Placed → Checked ⊤
new_name before x = unless (not (is_among x.name before)) (Twice x.place x.name)

-- a variable that is not known yet
abbrev pub new_variable : Scope → Placed → Checked ⊤
new_variable scope x = unless (not (is_some (named scope x.name))) (Twice x.place x.name)

-- the type of a target
abbrev pub assignable : Placed → Option Variable → Checked ValueType
assignable x None = Err (Unknown x.place x.name)
assignable x (Some v) = if v.assignable then Ok v.of else Err (NotAssignable x.place)

abbrev pub target : Scope → List Name → Placed → Checked ValueType
target scope before x = assignable x (named scope x.name) >>= λ t. new_name before x >>= λ _. Ok t

abbrev pub targets : Scope → List Name → List Placed → Checked (List ValueType)
targets scope before [] = Ok []
targets scope before (x ∷ xs) = target scope before x >>= λ t. targets scope (before ++ x.name ∷ []) xs >>= λ ts. Ok (t ∷ ts)

abbrev pub new_field : Table → List Name → Placed → Checked ⊤
new_field table before f = field_type f (named table f.name) >>= λ _. new_name before f

abbrev pub fields : Table → List Name → List Placed → Checked ⊤
fields table before [] = Ok tt
fields table before (f ∷ fs) = new_field table before f >>= λ _. fields table (before ++ f.name ∷ []) fs

-- the targets have the types of the returns, told at the method's name
abbrev pub targets_fit : Place → List ValueType → List ValueType → Checked ⊤
targets_fit at (t ∷ ts) (u ∷ us) = expect at t u >>= λ _. targets_fit at ts us
targets_fit at _ _ = Ok tt

-- the types of a method's parameters and returns
abbrev pub method_of : Placed → Option Signature → Checked (List ValueType × List ValueType)
method_of m (Some (IsMethod parameters returns)) = Ok (parameters, returns)
method_of m _ = Err (Unknown m.place m.name)

abbrev pub as_many : Place → (expected found : ℕ) → Checked ⊤
as_many at expected found = unless (nat_eq found expected) (Arity at expected found)

-- a call of a method with these parameters and returns
abbrev pub called_with : Place → Exprs → (ts found parameters returns : List ValueType) → Checked ⊤
called_with at es ts found parameters returns =
    as_many at (length parameters) (length found) >>= λ _. as_many at (length returns) (length ts) >>= λ _.
    arguments_fit es found parameters >>= λ _. targets_fit at ts returns

abbrev pub is_method : Option Signature → Bool
is_method (Some (IsMethod parameters returns)) = true
is_method _ = false

abbrev pub truth : Setting → Expr → Checked ⊤
truth s e = check s e >>= λ t. expect (place_of e) type.Bool t

abbrev pub assertions : Setting → Exprs → Checked ⊤
assertions s NoMore = Ok tt
assertions s (More e es) = assertion s e >>= λ _. assertions s es

-- fold and unfold
abbrev pub opened : Setting → Placed → Exprs → Amount → Checked ⊤
opened s i es share = instance s i.place i.name es >>= λ has_body. check_share s share >>= λ _. unless has_body (UnfoldAbstract i.place)

module _ (table : Table) where
  abbrev pub call : Scope → List Placed → Placed → Exprs → Checked ⊤
  call scope xs m es =
      targets scope [] xs >>= λ ts. method_of m (named table m.name) >>= λ c. check_all (within_method table scope) es >>= λ found.
      called_with m.place es ts found c.0 c.1

  abbrev pub right : Scope → ValueType → Right → Checked ⊤
  right scope t (Value e) = check (within_method table scope) e >>= λ u. expect (place_of e) t u
  right scope t (NewAll at) = expect at t type.Ref
  right scope t (New at fs) = fields table [] fs >>= λ _. expect at t type.Ref

  abbrev pub assigned : Scope → Placed → Right → Checked ⊤
  assigned scope x r = assignable x (named scope x.name) >>= λ t. right scope t r

  -- `x := m(es)` with a method m is a call
  abbrev pub assign : Scope → Placed → Right → Checked ⊤
  assign scope x (Value (Call at m es)) = if is_method (named table m) then call scope (x ∷ []) (placed at m) es else assigned scope x (Value (Call at m es))
  assign scope x r = assigned scope x r

  abbrev pub first_value : Scope → ValueType → Option Right → Checked ⊤
  first_value scope t None = Ok tt
  first_value scope t (Some r) = right scope t r

  abbrev pub declaration : Scope → Declaration → Option Right → Checked ⊤
  declaration scope d r = new_variable scope d.name >>= λ _. first_value (with_variable Local d scope) d.of r

  abbrev pub field_write : Scope → Expr → Placed → Expr → Checked ⊤
  field_write scope e f e' = read (within_method table scope) e f >>= λ t. check (within_method table scope) e' >>= λ u. expect (place_of e') t u

  abbrev mutual
    pub stmt : Scope → Stmt → Checked ⊤
    stmt scope (Declare at d r) = declaration scope d r
    stmt scope (Assign at x r) = assign scope x r
    stmt scope (Write at e f e') = field_write scope e f e'
    stmt scope (Invoke at xs m es) = call scope xs m es
    stmt scope (Inhale at e) = assertion (within_method table scope) e
    stmt scope (Exhale at e) = assertion (within_method table scope) e
    stmt scope (Assert at e) = assertion (within_method table scope) e
    stmt scope (Assume at e) = truth (within_method table scope) e
    stmt scope (Fold at i es share) = opened (within_method table scope) i es share
    stmt scope (Unfold at i es share) = opened (within_method table scope) i es share
    stmt scope (If at c a b) = truth (within_method table scope) c >>= λ _. block scope a >>= λ _. other scope b
    stmt scope (While at c is b) = truth (within_method table scope) c >>= λ _. assertions (within_method table scope) is >>= λ _. block scope b

    pub other : Scope → Other → Checked ⊤
    other scope NoElse = Ok tt
    other scope (Else b) = block scope b

    pub block : Scope → Block → Checked ⊤
    block scope Done = Ok tt
    block scope (Then st b) = stmt scope st >>= λ _. block (scope_after st scope) b
