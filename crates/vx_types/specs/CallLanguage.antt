-- The language of fields, with calls: no predicate and no function.
use Rattle.std.specs.Prelude.{Option, Some, None, ⊤}
use Rattle.vx_ast.specs.Syntax.{Kind, IsField, IsPredicate, IsFunction, IsMethod, Method, Exprs, NoMore, More, Stmt, Call, If, While, Block, Done, Then}
use Rattle.vx_types.specs.FieldLanguage.{InFields, AreOfFields, IsFieldStmt}

abbrev pub AreInFields : Exprs → Type 0
AreInFields NoMore = ⊤
AreInFields (More e es) = InFields e × AreInFields es

abbrev mutual
  pub IsCallingStmt : Stmt → Type 0
  IsCallingStmt (Call at xs m es) = AreInFields es
  IsCallingStmt (If at c a b) = InFields c × IsCallingBlock a × IsCallingBlock b
  IsCallingStmt (While at c is b) = InFields c × AreOfFields is × IsCallingBlock b
  IsCallingStmt st = IsFieldStmt st

  pub IsCallingBlock : Block → Type 0
  IsCallingBlock Done = ⊤
  IsCallingBlock (Then st b) = IsCallingStmt st × IsCallingBlock b

abbrev pub IsCallingBody : Option Block → Type 0
IsCallingBody None = ⊤
IsCallingBody (Some b) = IsCallingBlock b

pub record IsCallingMethod (m : Method) : Type 0 where
  pub requires : AreOfFields m.requires
  pub ensures : AreOfFields m.ensures
  pub body : IsCallingBody m.body

-- fields, and methods with fields, loops and calls
abbrev pub IsCallingMember : Kind → Type 0
IsCallingMember (IsField t) = ⊤
IsCallingMember (IsMethod m) = IsCallingMethod m
IsCallingMember (IsPredicate d) = ⊥
IsCallingMember (IsFunction g) = ⊥
