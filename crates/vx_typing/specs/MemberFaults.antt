-- The first fault of a member: its parameters and returns, a parameter that has the name of a function's result, its clauses
-- in text order, and its body.
use Rattle.std.specs.Prelude.{◌++◌, not, List, [], ◌∷◌, Option, Some, None, Ok, ⊤}
use Rattle.vx_ast.specs.declared.ValueType.{ValueType}
use Rattle.vx_ast.specs.declared.ValueType.TheVariants as type
use Rattle.vx_ast.specs.Syntax.{same_name, result_name}
use Rattle.vx_ast.specs.Written.{Name, Placed, Expr, Call, Block, Declaration, Clause, Requires, Ensures, Decreases, Predicate, Function, Method, Kind, IsField, IsPredicate, IsFunction, IsMethod, Member}
use Rattle.vx_statements.specs.declared.names.Role.{Role}
use Rattle.vx_statements.specs.declared.names.Role.TheVariants.{Input, Parameter, Local}
use Rattle.vx_expressions.specs.Places.{place_of}
use Rattle.vx_expressions.specs.Scopes.{Scope}
use Rattle.vx_statements.specs.Roles.{takes, with_variable, with_variables}
use Rattle.vx_expressions.specs.Settings.{Table, Setting, plainly, within_method, before_function, after_function, within_measure, within_predicate}
use Rattle.vx_expressions.specs.Faults.{Checked, ◌>>=◌, Twice, Mismatch, OfType, unless, expect, check, Claim, Value, Permission, call, assertion}
use Rattle.vx_statements.specs.StatementFaults.{new_name, new_variable, truth, block}

abbrev pub declaration : Role → Scope → Declaration → Checked ⊤
declaration role scope d = new_variable scope d.name >>= λ _. unless (takes role d.of) (Mismatch d.type_at (OfType type.Int) d.of)

abbrev pub declarations : Role → Scope → List Declaration → Checked ⊤
declarations role scope [] = Ok tt
declarations role scope (d ∷ ds) = declaration role scope d >>= λ _. declarations role (with_variable role d scope) ds

-- a function declares its result: a parameter of that name declares it twice
abbrev pub leaves_result : Placed → Checked ⊤
leaves_result x = unless (not (same_name result_name x.name)) (Twice x.place x.name)

abbrev pub leave_result : List Declaration → Checked ⊤
leave_result [] = Ok tt
leave_result (d ∷ ds) = leaves_result d.name >>= λ _. leave_result ds

abbrev pub typed_as : Setting → ValueType → Expr → Checked ⊤
typed_as s t e = check s e >>= λ u. expect (place_of e) t u

-- a measure is an Int, or an instance
abbrev pub measured : Expr → Claim → Checked ⊤
measured e (Value t) = expect (place_of e) type.Int t
measured e Permission = Ok tt

abbrev pub measure : Setting → Expr → Checked ⊤
measure s (Call at i es) = call s at i es >>= λ x. measured (Call at i es) x
measure s e = typed_as s type.Int e

module _ (table : Table) where
  abbrev pub body : Scope → Option Expr → Checked ⊤
  body scope None = Ok tt
  body scope (Some e) = assertion (within_predicate table scope) e

  abbrev pub clause : Scope → ValueType → Clause → Checked ⊤
  clause scope of (Requires e) = assertion (before_function table scope) e
  clause scope of (Ensures e) = truth (after_function table scope of) e
  clause scope of (Decreases e) = measure (within_measure table scope) e

  abbrev pub clauses : Scope → ValueType → List Clause → Checked ⊤
  clauses scope of [] = Ok tt
  clauses scope of (c ∷ cs) = clause scope of c >>= λ _. clauses scope of cs

  -- of a method
  abbrev pub contract : (before after : Scope) → Clause → Checked ⊤
  contract before after (Requires e) = assertion (plainly table before) e
  contract before after (Ensures e) = assertion (within_method table after) e
  contract before after (Decreases e) = Ok tt

  abbrev pub contracts : (before after : Scope) → List Clause → Checked ⊤
  contracts before after [] = Ok tt
  contracts before after (c ∷ cs) = contract before after c >>= λ _. contracts before after cs

  abbrev pub statements : Scope → Option Block → Checked ⊤
  statements scope None = Ok tt
  statements scope (Some b) = block table scope b

  abbrev pub predicate : Predicate → Checked ⊤
  predicate p = declarations Input [] p.parameters >>= λ _. body (with_variables Input p.parameters []) p.body

  abbrev pub function : Function → Checked ⊤
  function f =
      declarations Input [] f.parameters >>= λ _. leave_result f.parameters >>= λ _. clauses (with_variables Input f.parameters []) f.of f.clauses >>= λ _.
      typed_as (plainly table (with_variables Input f.parameters [])) f.of f.body

  -- with the parameters known, and with the returns too
  abbrev pub contract_and_body : (before after : Scope) → List Clause → Option Block → Checked ⊤
  contract_and_body before after cs b = contracts before after cs >>= λ _. statements after b

  abbrev pub method : Method → Checked ⊤
  method m =
      declarations Parameter [] m.parameters >>= λ _. declarations Local (with_variables Parameter m.parameters []) m.returns >>= λ _.
      contract_and_body (with_variables Parameter m.parameters []) (with_variables Local m.returns (with_variables Parameter m.parameters [])) m.clauses m.body

  abbrev pub kind : Kind → Checked ⊤
  kind (IsField t) = Ok tt
  kind (IsPredicate p) = predicate p
  kind (IsFunction f) = function f
  kind (IsMethod m) = method m

  abbrev pub members : List Member → Checked ⊤
  members [] = Ok tt
  members (m ∷ ms) = kind m.kind >>= λ _. members ms

-- no member has the name of one before it
abbrev pub new_names : List Name → List Member → Checked ⊤
new_names before [] = Ok tt
new_names before (m ∷ ms) = new_name before m.name >>= λ _. new_names (before ++ m.name.name ∷ []) ms
