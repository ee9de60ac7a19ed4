-- Programs whose numerals are below 2^127. The denominator of an amount doesn't count: what is written of it is in lowest terms.
use Rattle.std.specs.Prelude.{⊤, ◌<◌, ◌^◌, IfSome}
use Rattle.vx_ast.specs.Syntax.{Program, Member, Kind, IsField, IsPredicate, IsFunction, IsMethod, Function, Method, Measure, ByNumber, ByInstance, Expr, Number, Truth, Null, Part, Variable, Not, Operate, Divide, Connect, Choose, Read, Old, Apply, Unfolding, Exprs, NoMore, More, Assertion, Pure, Points, Instance, Both, Implied, Chosen, Stmt, Declare, Assign, Write, New, Call, Inhale, Exhale, Assert, Assume, Fold, Unfold, If, While, Block, Done, Then}
use Rattle.vx_terms.specs.Interpretations.{Each}

abbrev mutual
  pub IsSmallExpr : Expr → Type 0
  IsSmallExpr (Number at n) = n < 2 ^ 127
  IsSmallExpr (Truth at b) = ⊤
  IsSmallExpr (Null at) = ⊤
  IsSmallExpr (Part at n d) = n < 2 ^ 127
  IsSmallExpr (Variable at x) = ⊤
  IsSmallExpr (Not at e) = IsSmallExpr e
  IsSmallExpr (Operate at op a b) = IsSmallExpr a × IsSmallExpr b
  IsSmallExpr (Divide at op a b) = IsSmallExpr a × IsSmallExpr b
  IsSmallExpr (Connect at c a b) = IsSmallExpr a × IsSmallExpr b
  IsSmallExpr (Choose at c a b) = IsSmallExpr c × IsSmallExpr a × IsSmallExpr b
  IsSmallExpr (Read at e f) = IsSmallExpr e
  IsSmallExpr (Old at e) = IsSmallExpr e
  IsSmallExpr (Apply at f es) = AreSmallExprs es
  IsSmallExpr (Unfolding at i es share e) = AreSmallExprs es × IsSmallExpr share × IsSmallExpr e

  pub AreSmallExprs : Exprs → Type 0
  AreSmallExprs NoMore = ⊤
  AreSmallExprs (More e es) = IsSmallExpr e × AreSmallExprs es

abbrev pub IsSmallAssertion : Assertion → Type 0
IsSmallAssertion (Pure e) = IsSmallExpr e
IsSmallAssertion (Points at e f share) = IsSmallExpr e × IsSmallExpr share
IsSmallAssertion (Instance at i es share) = AreSmallExprs es × IsSmallExpr share
IsSmallAssertion (Both a b) = IsSmallAssertion a × IsSmallAssertion b
IsSmallAssertion (Implied c a) = IsSmallExpr c × IsSmallAssertion a
IsSmallAssertion (Chosen c a b) = IsSmallExpr c × IsSmallAssertion a × IsSmallAssertion b

abbrev mutual
  pub IsSmallStmt : Stmt → Type 0
  IsSmallStmt (Declare at x t) = ⊤
  IsSmallStmt (Assign at x e) = IsSmallExpr e
  IsSmallStmt (Write at e f e') = IsSmallExpr e × IsSmallExpr e'
  IsSmallStmt (New at x fs) = ⊤
  IsSmallStmt (Call at xs m es) = AreSmallExprs es
  IsSmallStmt (Inhale at a) = IsSmallAssertion a
  IsSmallStmt (Exhale at a) = IsSmallAssertion a
  IsSmallStmt (Assert at a) = IsSmallAssertion a
  IsSmallStmt (Assume at e) = IsSmallExpr e
  IsSmallStmt (Fold at i es share) = AreSmallExprs es × IsSmallExpr share
  IsSmallStmt (Unfold at i es share) = AreSmallExprs es × IsSmallExpr share
  IsSmallStmt (If at c a b) = IsSmallExpr c × IsSmallBlock a × IsSmallBlock b
  IsSmallStmt (While at c is b) = IsSmallExpr c × Each IsSmallAssertion is × IsSmallBlock b

  pub IsSmallBlock : Block → Type 0
  IsSmallBlock Done = ⊤
  IsSmallBlock (Then s b) = IsSmallStmt s × IsSmallBlock b

abbrev pub IsSmallMeasure : Measure → Type 0
IsSmallMeasure (ByNumber e) = IsSmallExpr e
IsSmallMeasure (ByInstance at i es) = AreSmallExprs es

pub record IsSmallFunction (g : Function) : Type 0 where
  pub requires : Each IsSmallAssertion g.requires
  pub ensures : Each IsSmallExpr g.ensures
  pub decreases : IfSome g.decreases IsSmallMeasure
  pub body : IsSmallExpr g.body

pub record IsSmallMethod (m : Method) : Type 0 where
  pub requires : Each IsSmallAssertion m.requires
  pub ensures : Each IsSmallAssertion m.ensures
  pub body : IfSome m.body IsSmallBlock

abbrev pub IsSmallKind : Kind → Type 0
IsSmallKind (IsField t) = ⊤
IsSmallKind (IsPredicate d) = IfSome d.body IsSmallAssertion
IsSmallKind (IsFunction g) = IsSmallFunction g
IsSmallKind (IsMethod m) = IsSmallMethod m

abbrev pub HasSmallNumerals : Program → Type 0
HasSmallNumerals p = Each (λ (m : Member). IsSmallKind m.kind) p
