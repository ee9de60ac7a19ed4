-- What is of the store language is of the language with fields.
use Rattle.std.proofs.Common.{List, [], ◌∷◌, Option, Some, None}
use Rattle.vx_ast.specs.Syntax.{Method, Expr, Number, Truth, Variable, Not, Operate, Divide, Connect, Choose, Assertion, Pure, Both, Stmt, Declare, Assign, Inhale, Exhale, Assert, Assume, If, Block, Done, Then}
use Rattle.vx_types.specs.StoreLanguage.{InStore, IsPlain, ArePlain, IsStoreStmt, IsStoreBlock, IsStoreBody, IsStoreMethod}
use Rattle.vx_types.specs.FieldLanguage.{InFields, IsOfFields, AreOfFields, IsFieldStmt, IsFieldBlock, IsFieldBody, IsFieldMethod}

expr : (e : Expr) → InStore e → InFields e
expr (Number at n) k = tt
expr (Truth at b) k = tt
expr (Variable at x) k = tt
expr (Not at e) k = expr e k
expr (Operate at op a b) k = (expr a k.0, expr b k.1)
expr (Divide at op a b) k = (expr a k.0, expr b k.1)
expr (Connect at c a b) k = (expr a k.0, expr b k.1)
expr (Choose at c a b) k = (expr c k.0, expr a k.1, expr b k.2)
expr e k = absurd k

assertion : (a : Assertion) → IsPlain a → IsOfFields a
assertion (Pure e) k = expr e k
assertion (Both a b) k = (assertion a k.0, assertion b k.1)
assertion a k = absurd k

assertions : (rest : List Assertion) → ArePlain rest → AreOfFields rest
assertions [] k = tt
assertions (a ∷ rest) k = (assertion a k.0, assertions rest k.1)

mutual
  stmt : (st : Stmt) → IsStoreStmt st → IsFieldStmt st
  stmt (Declare at x t) k = tt
  stmt (Assign at x e) k = expr e k
  stmt (Inhale at a) k = assertion a k
  stmt (Exhale at a) k = assertion a k
  stmt (Assert at a) k = assertion a k
  stmt (Assume at e) k = expr e k
  stmt (If at c a b) k = (expr c k.0, block a k.1, block b k.2)
  stmt st k = absurd k

  block : (b : Block) → IsStoreBlock b → IsFieldBlock b
  block Done k = tt
  block (Then st b) k = (stmt st k.0, block b k.1)

body : (b : Option Block) → IsStoreBody b → IsFieldBody b
body None k = tt
body (Some b) k = block b k

pub store_method : (m : Method) → IsStoreMethod m → IsFieldMethod m
store_method m k = record { requires = assertions m.requires k.requires; ensures = assertions m.ensures k.ensures; body = body m.body k.body }
