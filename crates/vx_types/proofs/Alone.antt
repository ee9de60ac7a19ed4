-- A method with fields and loops mentions no other member, nor does one with calls where all members are fields and methods.
use Rattle.std.proofs.Common.{◌≡◌, List, [], ◌∷◌, ◌++◌, Option, Some, None, refl, ◌∙◌, ap, ap₂, subst}
use Rattle.vx_ast.specs.Syntax.{Name, Program, Kind, IsField, IsPredicate, IsFunction, IsMethod, Method, method_in, Exprs, NoMore, More, Expr, Number, Truth, Null, Part, Variable, Not, Operate, Divide, Connect, Choose, Read, Old, Assertion, Pure, Points, Both, Implied, Chosen, Stmt, Declare, Assign, Write, New, Call, Inhale, Exhale, Assert, Assume, Fold, Unfold, If, While, Block, Done, Then, member_named}
use Rattle.vx_ast.specs.Mentions.{mentioned, mentioned_in, mentioned_by}
use Rattle.vx_types.specs.FieldLanguage.{InFields, IsOfFields, AreOfFields, IsFieldStmt, IsFieldBlock, IsFieldBody, IsFieldMethod}
use Rattle.vx_types.specs.CallLanguage.{AreInFields, IsCallingStmt, IsCallingBlock, IsCallingBody, IsCallingMember}
use Rattle.vx_ast.specs.Apart.{Stands}
use Rattle.vx_types.specs.Closure.{mentioned_by_all, mentioned_by_contract, mentioned_by_stmt, mentioned_by_block, mentioned_by_body, mentioned_by_kind, mentions, InClosure, itself, further}

none_and_none : {xs ys : List Name} → xs ≡ [] → ys ≡ [] → xs ++ ys ≡ []
none_and_none e f = ap₂ (λ (xs ys : List Name). xs ++ ys) e f

expr : (e : Expr) → InFields e → mentioned e ≡ []
expr (Number at n) k = refl
expr (Truth at b) k = refl
expr (Null at) k = refl
expr (Part at n d) k = refl
expr (Variable at x) k = refl
expr (Not at e) k = expr e k
expr (Operate at op a b) k = none_and_none (expr a k.0) (expr b k.1)
expr (Divide at op a b) k = none_and_none (expr a k.0) (expr b k.1)
expr (Connect at c a b) k = none_and_none (expr a k.0) (expr b k.1)
expr (Choose at c a b) k = none_and_none (none_and_none (expr c k.0) (expr a k.1)) (expr b k.2)
expr (Read at e f) k = expr e k
expr (Old at e) k = expr e k
expr e k = absurd k

assertion : (a : Assertion) → IsOfFields a → mentioned_by a ≡ []
assertion (Pure e) k = expr e k
assertion (Points at e f share) k = none_and_none (expr e k.0) (expr share k.1)
assertion (Both a b) k = none_and_none (assertion a k.0) (assertion b k.1)
assertion (Implied c a) k = none_and_none (expr c k.0) (assertion a k.1)
assertion (Chosen c a b) k = none_and_none (none_and_none (expr c k.0) (assertion a k.1)) (assertion b k.2)
assertion a k = absurd k

assertions : (rest : List Assertion) → AreOfFields rest → mentioned_by_all rest ≡ []
assertions [] k = refl
assertions (a ∷ rest) k = none_and_none (assertion a k.0) (assertions rest k.1)

module _ (p : Program) where
  mutual
    stmt : (st : Stmt) → IsFieldStmt st → mentioned_by_stmt p st ≡ []
    stmt (Declare at x t) k = refl
    stmt (Assign at x e) k = expr e k
    stmt (Write at e f e') k = none_and_none (expr e k.0) (expr e' k.1)
    stmt (New at x fs) k = refl
    stmt (Inhale at a) k = assertion a k
    stmt (Exhale at a) k = assertion a k
    stmt (Assert at a) k = assertion a k
    stmt (Assume at e) k = expr e k
    stmt (If at c a b) k = none_and_none (none_and_none (expr c k.0) (block a k.1)) (block b k.2)
    stmt (While at c is b) k = none_and_none (none_and_none (expr c k.0) (assertions is k.1)) (block b k.2)
    stmt st k = absurd k

    block : (b : Block) → IsFieldBlock b → mentioned_by_block p b ≡ []
    block Done k = refl
    block (Then st b) k = none_and_none (stmt st k.0) (block b k.1)

  body : (b : Option Block) → IsFieldBody b → mentioned_by_body p b ≡ []
  body None k = refl
  body (Some b) k = block b k

  method : (m : Method) → IsFieldMethod m → mentioned_by_kind p (Some (IsMethod m)) ≡ []
  method m k = none_and_none (none_and_none (assertions m.requires k.requires) (assertions m.ensures k.ensures)) (body m.body k.body)

  pub alone : (x : Name) (m : Method) → member_named p x ≡ Some (IsMethod m) → IsFieldMethod m → (y : Name) → InClosure p x y → y ≡ x
  alone x m named k y itself = refl
  alone x m named k y (further {y = z} c h) =
      let none : mentions p x ≡ [] = ap (mentioned_by_kind p) named ∙ method m k in
      absurd (subst (Stands y) none (subst (λ (w : Name). Stands y (mentions p w)) (alone x m named k z c) h))

-- With calls: of what is called the contract is read, which mentions nothing either.
module _ (p : Program) (all : (x : Name) (k : Kind) → member_named p x ≡ Some k → IsCallingMember k) where
  exprs : (es : Exprs) → AreInFields es → mentioned_in es ≡ []
  exprs NoMore k = refl
  exprs (More e es) k = none_and_none (expr e k.0) (exprs es k.1)

  contract : (o : Option Kind) → ((k : Kind) → o ≡ Some k → IsCallingMember k) → mentioned_by_contract (method_in o) ≡ []
  contract None h = refl
  contract (Some (IsField t)) h = refl
  contract (Some (IsPredicate d)) h = refl
  contract (Some (IsFunction g)) h = refl
  contract (Some (IsMethod m)) h = let k = h (IsMethod m) refl in none_and_none (assertions m.requires k.requires) (assertions m.ensures k.ensures)

  mutual
    calling_stmt : (st : Stmt) → IsCallingStmt st → mentioned_by_stmt p st ≡ []
    calling_stmt (Declare at x t) k = refl
    calling_stmt (Assign at x e) k = expr e k
    calling_stmt (Write at e f e') k = none_and_none (expr e k.0) (expr e' k.1)
    calling_stmt (New at x fs) k = refl
    calling_stmt (Call at xs m es) k = none_and_none (exprs es k) (contract (member_named p m) (all m))
    calling_stmt (Inhale at a) k = assertion a k
    calling_stmt (Exhale at a) k = assertion a k
    calling_stmt (Assert at a) k = assertion a k
    calling_stmt (Assume at e) k = expr e k
    calling_stmt (Fold at i es share) k = absurd k
    calling_stmt (Unfold at i es share) k = absurd k
    calling_stmt (If at c a b) k = none_and_none (none_and_none (expr c k.0) (calling_block a k.1)) (calling_block b k.2)
    calling_stmt (While at c is b) k = none_and_none (none_and_none (expr c k.0) (assertions is k.1)) (calling_block b k.2)

    calling_block : (b : Block) → IsCallingBlock b → mentioned_by_block p b ≡ []
    calling_block Done k = refl
    calling_block (Then st b) k = none_and_none (calling_stmt st k.0) (calling_block b k.1)

  calling_body : (b : Option Block) → IsCallingBody b → mentioned_by_body p b ≡ []
  calling_body None k = refl
  calling_body (Some b) k = calling_block b k

  calling_kind : (o : Option Kind) → ((k : Kind) → o ≡ Some k → IsCallingMember k) → mentioned_by_kind p o ≡ []
  calling_kind None h = refl
  calling_kind (Some (IsField t)) h = refl
  calling_kind (Some (IsPredicate d)) h = absurd (h (IsPredicate d) refl)
  calling_kind (Some (IsFunction g)) h = absurd (h (IsFunction g) refl)
  calling_kind (Some (IsMethod m)) h =
      let k = h (IsMethod m) refl in
      none_and_none (none_and_none (assertions m.requires k.requires) (assertions m.ensures k.ensures)) (calling_body m.body k.body)

  pub calling_alone : (x y : Name) → InClosure p x y → y ≡ x
  calling_alone x y itself = refl
  calling_alone x y (further {y = z} c h) =
      absurd (subst (Stands y) (calling_kind (member_named p x) (all x)) (subst (λ (w : Name). Stands y (mentions p w)) (calling_alone x z c) h))
