-- What is known where an expression stands.
use Rattle.std.specs.Prelude.{Bool, true, false, List, Option, Some, None}
use Rattle.vx_ast.specs.declared.ValueType.{ValueType}
use Rattle.vx_ast.specs.Written.{Name}
use Rattle.vx_expressions.specs.Scopes.{Scope, named, type_in}

-- what the name of a member stands for: types of parameters, and what else its uses depend on
pub data Signature : Type 0 where
  IsField : ValueType → Signature
  IsPredicate : (parameters : List ValueType) → (has_body : Bool) → Signature
  IsFunction : (parameters : List ValueType) → (of : ValueType) → Signature
  IsMethod : (parameters returns : List ValueType) → Signature

abbrev pub is_predicate : Option Signature → Bool
is_predicate (Some (IsPredicate ts has_body)) = true
is_predicate _ = false

-- the members of a program, in file order
abbrev pub Table : Type 0
Table = List (Name × Signature)

pub record Setting : Type 0 where
  pub member : Name → Option Signature
  pub variable : Name → Option ValueType
  -- the type of `result`, in a function's postcondition
  pub outcome : Option ValueType
  -- whether `old` may stand here, and applications of functions
  pub has_old : Bool
  pub applies : Bool
  -- amounts are to be known without running: in a predicate's body and a function's precondition
  pub constant : Bool

-- in a method's precondition, and in a function's body
abbrev pub plainly : Table → Scope → Setting
plainly table scope = record { member = named table; variable = type_in scope; outcome = None; has_old = false; applies = true; constant = false }

-- in a method's body, its postcondition and its invariants
abbrev pub within_method : Table → Scope → Setting
within_method table scope = record { member = named table; variable = type_in scope; outcome = None; has_old = true; applies = true; constant = false }

-- in a function's precondition
abbrev pub before_function : Table → Scope → Setting
before_function table scope = record { member = named table; variable = type_in scope; outcome = None; has_old = false; applies = true; constant = true }

-- in the postcondition of a function of this type
abbrev pub after_function : Table → Scope → ValueType → Setting
after_function table scope t = record { member = named table; variable = type_in scope; outcome = Some t; has_old = false; applies = true; constant = false }

abbrev pub within_measure : Table → Scope → Setting
within_measure table scope = record { member = named table; variable = type_in scope; outcome = None; has_old = false; applies = false; constant = false }

abbrev pub within_predicate : Table → Scope → Setting
within_predicate table scope = record { member = named table; variable = type_in scope; outcome = None; has_old = false; applies = false; constant = true }
