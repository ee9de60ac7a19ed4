-- Which members are typed, by their structure.
use Rattle.std.specs.Prelude.{◌≡◌, ◌⊎◌, true, false, List, [], ◌∷◌, Option, Some, None, map, is_some, ⊤}
use Rattle.vx_ast.specs.declared.ValueType.{ValueType}
use Rattle.vx_ast.specs.declared.ValueType.TheVariants as type
use Rattle.vx_ast.specs.Mentions.{is_among}
use Rattle.vx_ast.specs.Syntax.{result_name}
use Rattle.vx_ast.specs.Written as written
use Rattle.vx_ast.specs.Written.{Expr, Call, Block, Declaration, Clause, Requires, Ensures, Decreases, Predicate, Function, Method, Kind, Member, Program}
use Rattle.vx_statements.specs.declared.names.Role.{Role}
use Rattle.vx_statements.specs.declared.names.Role.TheVariants.{Input, Parameter, Local}
use Rattle.vx_expressions.specs.Scopes.{Scope, named}
use Rattle.vx_statements.specs.Roles.{takes, with_variable, with_variables}
use Rattle.vx_expressions.specs.Settings.{Table, Setting, Signature, IsField, IsPredicate, IsFunction, IsMethod, plainly, within_method, before_function, after_function, within_measure, within_predicate}
use Rattle.vx_expressions.specs.Typing.{HasType, IsPermission, IsAssertion}
use Rattle.vx_statements.specs.Statements.{IsTypedBlock}

-- what the names of members stand for
abbrev pub types_in : List Declaration → List ValueType
types_in ds = map (λ d. d.of) ds

abbrev pub signature_of : Kind → Signature
signature_of (written.IsField t) = IsField t
signature_of (written.IsPredicate p) = IsPredicate (types_in p.parameters) (is_some p.body)
signature_of (written.IsFunction f) = IsFunction (types_in f.parameters) f.of
signature_of (written.IsMethod m) = IsMethod (types_in m.parameters) (types_in m.returns)

abbrev pub table_of : Program → Table
table_of p = map (λ m. (m.name.name, signature_of m.kind)) p

-- each is new, and of a type that it can have
abbrev pub AreDeclared : Role → Scope → List Declaration → Type 0
AreDeclared role scope [] = ⊤
AreDeclared role scope (d ∷ ds) = (named scope d.name.name ≡ None) × (takes role d.of ≡ true) × AreDeclared role (with_variable role d scope) ds

-- of a function's parameters none has the name of its result
abbrev pub LeaveResult : List Declaration → Type 0
LeaveResult ds = is_among result_name (map (λ d. d.name.name) ds) ≡ false

-- a measure: an Int, or an instance `P(es)`
abbrev pub IsMeasure : Setting → Expr → Type 0
IsMeasure s (Call at i es) = HasType s (Call at i es) type.Int ⊎ IsPermission s (Call at i es)
IsMeasure s e = HasType s e type.Int

module _ (table : Table) where
  abbrev pub IsTypedBody : Scope → Option Expr → Type 0
  IsTypedBody scope None = ⊤
  IsTypedBody scope (Some e) = IsAssertion (within_predicate table scope) e

  abbrev pub IsTypedClause : Scope → ValueType → Clause → Type 0
  IsTypedClause scope of (Requires e) = IsAssertion (before_function table scope) e
  IsTypedClause scope of (Ensures e) = HasType (after_function table scope of) e type.Bool
  IsTypedClause scope of (Decreases e) = IsMeasure (within_measure table scope) e

  abbrev pub AreTypedClauses : Scope → ValueType → List Clause → Type 0
  AreTypedClauses scope of [] = ⊤
  AreTypedClauses scope of (c ∷ cs) = IsTypedClause scope of c × AreTypedClauses scope of cs

  -- of a method, which has no measure: its returns are not known in its preconditions
  abbrev pub IsTypedContract : (before after : Scope) → Clause → Type 0
  IsTypedContract before after (Requires e) = IsAssertion (plainly table before) e
  IsTypedContract before after (Ensures e) = IsAssertion (within_method table after) e
  IsTypedContract before after (Decreases e) = ⊤

  abbrev pub AreTypedContracts : (before after : Scope) → List Clause → Type 0
  AreTypedContracts before after [] = ⊤
  AreTypedContracts before after (c ∷ cs) = IsTypedContract before after c × AreTypedContracts before after cs

  abbrev pub IsTypedBlockOf : Scope → Option Block → Type 0
  IsTypedBlockOf scope None = ⊤
  IsTypedBlockOf scope (Some b) = IsTypedBlock table scope b

  pub record IsTypedPredicate (p : Predicate) : Type 0 where
    pub parameters : AreDeclared Input [] p.parameters
    pub body : IsTypedBody (with_variables Input p.parameters []) p.body

  pub record IsTypedFunction (f : Function) : Type 0 where
    pub parameters : AreDeclared Input [] f.parameters
    pub result : LeaveResult f.parameters
    pub clauses : AreTypedClauses (with_variables Input f.parameters []) f.of f.clauses
    pub body : HasType (plainly table (with_variables Input f.parameters [])) f.body f.of

  pub record IsTypedMethod (m : Method) : Type 0 where
    pub parameters : AreDeclared Parameter [] m.parameters
    pub returns : AreDeclared Local (with_variables Parameter m.parameters []) m.returns
    pub clauses : AreTypedContracts (with_variables Parameter m.parameters []) (with_variables Local m.returns (with_variables Parameter m.parameters [])) m.clauses
    pub body : IsTypedBlockOf (with_variables Local m.returns (with_variables Parameter m.parameters [])) m.body

  abbrev pub IsTypedKind : Kind → Type 0
  IsTypedKind (written.IsField t) = ⊤
  IsTypedKind (written.IsPredicate p) = IsTypedPredicate p
  IsTypedKind (written.IsFunction f) = IsTypedFunction f
  IsTypedKind (written.IsMethod m) = IsTypedMethod m

  abbrev pub AreTypedMembers : List Member → Type 0
  AreTypedMembers [] = ⊤
  AreTypedMembers (m ∷ ms) = IsTypedKind m.kind × AreTypedMembers ms
