-- The part of the language with fields and permissions: no predicate, no function and no call.
use Rattle.std.specs.Prelude.{List, [], ◌∷◌, Option, Some, None, ⊤}
use Rattle.vx_ast.specs.Syntax.{Method, Expr, Number, Truth, Null, Part, Variable, Not, Operate, Divide, Connect, Choose, Read, Old, Assertion, Pure, Points, Both, Implied, Chosen, Stmt, Declare, Assign, Write, New, Inhale, Exhale, Assert, Assume, If, While, Block, Done, Then}

abbrev pub InFields : Expr → Type 0
InFields (Number at n) = ⊤
InFields (Truth at b) = ⊤
InFields (Null at) = ⊤
InFields (Part at n d) = ⊤
InFields (Variable at x) = ⊤
InFields (Not at e) = InFields e
InFields (Operate at op a b) = InFields a × InFields b
InFields (Divide at op a b) = InFields a × InFields b
InFields (Connect at c a b) = InFields a × InFields b
InFields (Choose at c a b) = InFields c × InFields a × InFields b
InFields (Read at e f) = InFields e
InFields (Old at e) = InFields e
InFields _ = ⊥

abbrev pub IsOfFields : Assertion → Type 0
IsOfFields (Pure e) = InFields e
IsOfFields (Points at e f share) = InFields e × InFields share
IsOfFields (Both a b) = IsOfFields a × IsOfFields b
IsOfFields (Implied c a) = InFields c × IsOfFields a
IsOfFields (Chosen c a b) = InFields c × IsOfFields a × IsOfFields b
IsOfFields _ = ⊥

abbrev pub AreOfFields : List Assertion → Type 0
AreOfFields [] = ⊤
AreOfFields (a ∷ rest) = IsOfFields a × AreOfFields rest

abbrev mutual
  pub IsFieldStmt : Stmt → Type 0
  IsFieldStmt (Declare at x t) = ⊤
  IsFieldStmt (Assign at x e) = InFields e
  IsFieldStmt (Write at e f e') = InFields e × InFields e'
  IsFieldStmt (New at x fs) = ⊤
  IsFieldStmt (Inhale at a) = IsOfFields a
  IsFieldStmt (Exhale at a) = IsOfFields a
  IsFieldStmt (Assert at a) = IsOfFields a
  IsFieldStmt (Assume at e) = InFields e
  IsFieldStmt (If at c a b) = InFields c × IsFieldBlock a × IsFieldBlock b
  IsFieldStmt (While at c is b) = InFields c × AreOfFields is × IsFieldBlock b
  IsFieldStmt _ = ⊥

  pub IsFieldBlock : Block → Type 0
  IsFieldBlock Done = ⊤
  IsFieldBlock (Then st b) = IsFieldStmt st × IsFieldBlock b

abbrev pub IsFieldBody : Option Block → Type 0
IsFieldBody None = ⊤
IsFieldBody (Some b) = IsFieldBlock b

pub record IsFieldMethod (m : Method) : Type 0 where
  pub requires : AreOfFields m.requires
  pub ensures : AreOfFields m.ensures
  pub body : IsFieldBody m.body
