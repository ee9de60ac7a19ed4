-- Which statements are typed, by their structure.
use Rattle.std.specs.Prelude.{◌≡◌, ◌⊎◌, ◌++◌, true, false, List, [], ◌∷◌, Option, Some, None, ⊤}
use Rattle.vx_ast.specs.declared.ValueType.{ValueType}
use Rattle.vx_ast.specs.declared.ValueType.TheVariants as type
use Rattle.vx_ast.specs.Mentions.{is_among}
use Rattle.vx_ast.specs.Written.{Name, Placed, Call, Read, Exprs, NoMore, More, Amount, Right, Value, NewAll, New, Stmt, Declare, Assign, Write, Invoke, Inhale, Exhale, Assert, Assume, Fold, Unfold, If, While, Other, NoElse, Else, Block, Done, Then}
use Rattle.vx_statements.specs.declared.names.Role.TheVariants.{Local}
use Rattle.vx_expressions.specs.Scopes.{Scope, named}
use Rattle.vx_statements.specs.Roles.{with_variable}
use Rattle.vx_expressions.specs.Settings.{Table, Setting, IsField, IsPredicate, IsMethod, within_method}
use Rattle.vx_expressions.specs.Typing.{HasType, HaveTypes, IsShare, IsAssertion}

-- none is among those before it
abbrev pub AreNew : List Name → List Placed → Type 0
AreNew before [] = ⊤
AreNew before (x ∷ xs) = (is_among x.name before ≡ false) × AreNew (before ++ x.name ∷ []) xs

-- a variable that can be assigned
abbrev pub IsTarget : Scope → Name → ValueType → Type 0
IsTarget scope x t = named scope x ≡ Some record { of = t; assignable = true }

abbrev pub AreTargets : Scope → List Placed → List ValueType → Type 0
AreTargets scope [] [] = ⊤
AreTargets scope (x ∷ xs) (t ∷ ts) = IsTarget scope x.name t × AreTargets scope xs ts
AreTargets scope _ _ = ⊥

abbrev pub AreAssertions : Setting → Exprs → Type 0
AreAssertions s NoMore = ⊤
AreAssertions s (More e es) = IsAssertion s e × AreAssertions s es

-- what is folded and unfolded: an instance of a predicate with a body
pub record IsOpened (s : Setting) (i : Placed) (es : Exprs) (share : Amount) : Type 0 where
  pub parameters : List ValueType
  pub predicate : s.member i.name ≡ Some (IsPredicate parameters true)
  pub arguments : HaveTypes s es parameters
  pub amount : IsShare s share

-- what is known after a statement
abbrev pub scope_after : Stmt → Scope → Scope
scope_after (Declare at d r) scope = with_variable Local d scope
scope_after _ scope = scope

module _ (table : Table) where
  abbrev pub AreFields : List Placed → Type 0
  AreFields [] = ⊤
  AreFields (f ∷ fs) = ((t : ValueType) × (named table f.name ≡ Some (IsField t))) × AreFields fs

  -- a call, its targets and arguments as many as there are returns and parameters, and of their types
  pub record IsTypedCall (scope : Scope) (xs : List Placed) (m : Name) (es : Exprs) : Type 0 where
    pub parameters : List ValueType
    pub returns : List ValueType
    pub method : named table m ≡ Some (IsMethod parameters returns)
    pub arguments : HaveTypes (within_method table scope) es parameters
    pub targets : AreTargets scope xs returns
    pub new : AreNew [] xs

  -- a value of a type, and a new reference
  abbrev pub IsRight : Scope → ValueType → Right → Type 0
  IsRight scope t (Value e) = HasType (within_method table scope) e t
  IsRight scope t (NewAll at) = t ≡ type.Ref
  IsRight scope t (New at fs) = AreFields fs × AreNew [] fs × (t ≡ type.Ref)

  -- `x := m(es)` with a method m
  abbrev pub AssignsCall : Scope → Placed → Right → Type 0
  AssignsCall scope x (Value (Call at m es)) = IsTypedCall scope (x ∷ []) m es
  AssignsCall scope x _ = ⊥

  abbrev pub AssignsRight : Scope → Placed → Right → Type 0
  AssignsRight scope x r = (t : ValueType) × IsTarget scope x.name t × IsRight scope t r

  -- in its own right side a variable is known
  abbrev pub IsTypedDeclaration : Scope → ValueType → Option Right → Type 0
  IsTypedDeclaration scope t None = ⊤
  IsTypedDeclaration scope t (Some r) = IsRight scope t r

  abbrev mutual
    pub IsTypedStmt : Scope → Stmt → Type 0
    IsTypedStmt scope (Declare at d r) = (named scope d.name.name ≡ None) × IsTypedDeclaration (with_variable Local d scope) d.of r
    IsTypedStmt scope (Assign at x r) = AssignsRight scope x r ⊎ AssignsCall scope x r
    IsTypedStmt scope (Write at e f e') = (t : ValueType) × HasType (within_method table scope) (Read at e f) t × HasType (within_method table scope) e' t
    IsTypedStmt scope (Invoke at xs m es) = IsTypedCall scope xs m.name es
    IsTypedStmt scope (Inhale at e) = IsAssertion (within_method table scope) e
    IsTypedStmt scope (Exhale at e) = IsAssertion (within_method table scope) e
    IsTypedStmt scope (Assert at e) = IsAssertion (within_method table scope) e
    IsTypedStmt scope (Assume at e) = HasType (within_method table scope) e type.Bool
    IsTypedStmt scope (Fold at i es share) = IsOpened (within_method table scope) i es share
    IsTypedStmt scope (Unfold at i es share) = IsOpened (within_method table scope) i es share
    IsTypedStmt scope (If at c a b) = HasType (within_method table scope) c type.Bool × IsTypedBlock scope a × IsTypedOther scope b
    IsTypedStmt scope (While at c is b) = HasType (within_method table scope) c type.Bool × AreAssertions (within_method table scope) is × IsTypedBlock scope b

    pub IsTypedOther : Scope → Other → Type 0
    IsTypedOther scope NoElse = ⊤
    IsTypedOther scope (Else b) = IsTypedBlock scope b

    -- a variable is known to the end of its block
    pub IsTypedBlock : Scope → Block → Type 0
    IsTypedBlock scope Done = ⊤
    IsTypedBlock scope (Then st b) = IsTypedStmt scope st × IsTypedBlock (scope_after st scope) b
