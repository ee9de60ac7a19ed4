-- Contracts of fields, and what speaks of fields alone.
use Rattle.std.proofs.Common.{◌≡◌, ◌++◌, Option, Some, None}
use Rattle.vx_ast.specs.Syntax.{Name, Program, Method, method_named, Stmt, Declare, Assign, Write, New, Call, Inhale, Exhale, Assert, Assume, Fold, Unfold, If, While, Block, Done, Then}
use Rattle.vx_types.specs.Typing.{AllTyped}
use Rattle.vx_types.specs.FieldLanguage.{InFields, AreOfFields, IsFieldStmt, IsFieldBlock, IsFieldBody, IsFieldMethod}
use Rattle.vx_types.specs.CallLanguage.{AreInFields}

-- what a caller reads of a method: its contract
pub record HasFieldContract (p : Program) (m : Method) : Type 0 where
  pub typed_requires : AllTyped p m.parameters m.requires
  pub typed_ensures : AllTyped p (m.parameters ++ m.returns) m.ensures
  pub requires : AreOfFields m.requires
  pub ensures : AreOfFields m.ensures

abbrev pub IsCallable : Program → Name → Type 0
IsCallable p f = (m : Method) → method_named p f ≡ Some m → HasFieldContract p m

-- of fields, where what is called has such a contract
abbrev mutual
  pub SpeaksOfFields : Program → Stmt → Type 0
  SpeaksOfFields p (Call at xs f es) = AreInFields es × IsCallable p f
  SpeaksOfFields p (If at c a b) = InFields c × AllSpeaks p a × AllSpeaks p b
  SpeaksOfFields p (While at c is b) = InFields c × AreOfFields is × AllSpeaks p b
  SpeaksOfFields p st = IsFieldStmt st

  pub AllSpeaks : Program → Block → Type 0
  AllSpeaks p Done = Unit {0}
  AllSpeaks p (Then st b) = SpeaksOfFields p st × AllSpeaks p b

abbrev pub BodySpeaks : Program → Option Block → Type 0
BodySpeaks p None = Unit {0}
BodySpeaks p (Some b) = AllSpeaks p b

pub record MethodSpeaks (p : Program) (m : Method) : Type 0 where
  pub requires : AreOfFields m.requires
  pub ensures : AreOfFields m.ensures
  pub body : BodySpeaks p m.body

-- Without calls nothing is read of others.
module _ (p : Program) where
  mutual
    stmt : (st : Stmt) → IsFieldStmt st → SpeaksOfFields p st
    stmt (Declare at x t) k = k
    stmt (Assign at x e) k = k
    stmt (Write at e f e') k = k
    stmt (New at x fs) k = k
    stmt (Call at xs f es) k = absurd k
    stmt (Inhale at a) k = k
    stmt (Exhale at a) k = k
    stmt (Assert at a) k = k
    stmt (Assume at e) k = k
    stmt (Fold at i es share) k = absurd k
    stmt (Unfold at i es share) k = absurd k
    stmt (If at c a b) k = (k.0, block a k.1, block b k.2)
    stmt (While at c is b) k = (k.0, k.1, block b k.2)

    block : (b : Block) → IsFieldBlock b → AllSpeaks p b
    block Done k = tt
    block (Then st b) k = (stmt st k.0, block b k.1)

  body : (b : Option Block) → IsFieldBody b → BodySpeaks p b
  body None k = tt
  body (Some b) k = block b k

  pub field_method_speaks : (m : Method) → IsFieldMethod m → MethodSpeaks p m
  field_method_speaks m k = record { requires = k.requires; ensures = k.ensures; body = body m.body k.body }
