-- A typed method of the calling language speaks of fields alone where it leads to no predicate and no function.
use Rattle.std.proofs.Common.{◌≡◌, inl, inr, List, [], ◌∷◌, ◌++◌, Option, Some, None, refl, sym, subst}
use Rattle.vx_ast.specs.declared.ValueType.{ValueType}
use Rattle.vx_ast.specs.Syntax.{Name, Program, Kind, IsField, IsPredicate, IsFunction, IsMethod, Predicate, Function, Method, member_named, predicate_in, function_in, predicate_named, function_named, method_named, Expr, Assertion, Pure, Points, Instance, Both, Implied, Chosen, Stmt, Declare, Assign, Write, New, Call, Inhale, Exhale, Assert, Assume, Fold, Unfold, If, While, Block, Done, Then}
use Rattle.vx_ast.specs.Mentions.{mentioned, mentioned_in, mentioned_by}
use Rattle.vx_types.specs.Typing.{Scope, HasType, number, truth, nulls, part, variable, nots, operates, scales, divides, connects, chooses, reads, olds, applies, unfoldings, IsTyped, AllTyped, IsTypedMethod}
use Rattle.vx_types.specs.FieldLanguage.{InFields, IsOfFields, AreOfFields}
use Rattle.vx_ast.specs.Apart.{Stands}
use Rattle.vx_types.specs.Premises.{IsTypedProgram}
use Rattle.vx_types.specs.Closure.{mentioned_by_all, mentioned_by_contract, mentioned_by_stmt, mentioned_by_block, mentioned_by_body, mentioned_by_kind, InClosure, itself, further}
use Rattle.vx_types.specs.CallLanguage.{IsCallingStmt, IsCallingBlock, IsCallingBody, IsCallingMethod, IsCallingMember}
use Rattle.vx_sound.proofs.Contracts.{HasFieldContract, SpeaksOfFields, AllSpeaks, BodySpeaks, MethodSpeaks}

in_first : (y : Name) (xs ys : List Name) → Stands y xs → Stands y (xs ++ ys)
in_first y [] ys h = absurd h
in_first y (x ∷ xs) ys (inl e) = inl e
in_first y (x ∷ xs) ys (inr h) = inr (in_first y xs ys h)

in_last : (y : Name) (xs ys : List Name) → Stands y ys → Stands y (xs ++ ys)
in_last y [] ys h = h
in_last y (x ∷ xs) ys h = inr (in_last y xs ys h)

predicate_member : (o : Option Kind) (d : Predicate) → predicate_in o ≡ Some d → o ≡ Some (IsPredicate d)
predicate_member None d e = cc
predicate_member (Some (IsField t)) d e = cc
predicate_member (Some (IsPredicate c)) d e = same c d e
  where
    same : (c d : Predicate) → Some c ≡ Some d → Some (IsPredicate c) ≡ Some (IsPredicate d)
    same c d e = cc
predicate_member (Some (IsFunction g)) d e = cc
predicate_member (Some (IsMethod m)) d e = cc

function_member : (o : Option Kind) (g : Function) → function_in o ≡ Some g → o ≡ Some (IsFunction g)
function_member None g e = cc
function_member (Some (IsField t)) g e = cc
function_member (Some (IsPredicate d)) g e = cc
function_member (Some (IsFunction f)) g e = same f g e
  where
    same : (f g : Function) → Some f ≡ Some g → Some (IsFunction f) ≡ Some (IsFunction g)
    same f g e = cc
function_member (Some (IsMethod m)) g e = cc

module _ (p : Program) where
  -- neither a predicate nor a function
  record IsOther (y : Name) : Type 0 where
    pub predicate : (d : Predicate) → predicate_named p y ≡ Some d → ⊥
    pub function : (g : Function) → function_named p y ≡ Some g → ⊥

  abbrev AreOthers : List Name → Type 0
  AreOthers names = (y : Name) → Stands y names → IsOther y

  firsts : (xs ys : List Name) → AreOthers (xs ++ ys) → AreOthers xs
  firsts xs ys n y h = n y (in_first y xs ys h)

  lasts : (xs ys : List Name) → AreOthers (xs ++ ys) → AreOthers ys
  lasts xs ys n y h = n y (in_last y xs ys h)

  expr : {scope : Scope} {e : Expr} {t : ValueType} → HasType p scope e t → AreOthers (mentioned e) → InFields e
  expr (number at n) k = tt
  expr truth k = tt
  expr (nulls at) k = tt
  expr (part at n d l) k = tt
  expr (variable at x e) k = tt
  expr (nots a) k = expr a k
  expr (operates {a = a} {b = b} o ta tb) k = (expr ta (firsts (mentioned a) (mentioned b) k), expr tb (lasts (mentioned a) (mentioned b) k))
  expr (scales at n tb) k = (tt, expr tb k)
  expr (divides {a = a} {b = b} ta tb) k = (expr ta (firsts (mentioned a) (mentioned b) k), expr tb (lasts (mentioned a) (mentioned b) k))
  expr (connects {a = a} {b = b} ta tb) k = (expr ta (firsts (mentioned a) (mentioned b) k), expr tb (lasts (mentioned a) (mentioned b) k))
  expr (chooses {c = c} {a = a} {b = b} tc ta tb) k =
      let f = firsts (mentioned c ++ mentioned a) (mentioned b) k in
      (expr tc (firsts (mentioned c) (mentioned a) f), expr ta (lasts (mentioned c) (mentioned a) f), expr tb (lasts (mentioned c ++ mentioned a) (mentioned b) k))
  expr (reads f e a) k = expr a k
  expr (olds a) k = expr a k
  expr (applies f g is es) k = absurd ((k f (inl refl)).function g is)
  expr (unfoldings i d is es share a) k = absurd ((k i (inl refl)).predicate d is)

  assertion : (scope : Scope) (a : Assertion) → IsTyped p scope a → AreOthers (mentioned_by a) → IsOfFields a
  assertion scope (Pure e) t k = expr t k
  assertion scope (Points at e f share) t k = (expr t.0 (firsts (mentioned e) (mentioned share) k), expr t.2 (lasts (mentioned e) (mentioned share) k))
  assertion scope (Instance at i es share) t k = absurd ((k i (inl refl)).predicate t.0.0 t.0.1)
  assertion scope (Both a b) t k = (assertion scope a t.0 (firsts (mentioned_by a) (mentioned_by b) k), assertion scope b t.1 (lasts (mentioned_by a) (mentioned_by b) k))
  assertion scope (Implied c a) t k = (expr t.0 (firsts (mentioned c) (mentioned_by a) k), assertion scope a t.1 (lasts (mentioned c) (mentioned_by a) k))
  assertion scope (Chosen c a b) t k =
      let f = firsts (mentioned c ++ mentioned_by a) (mentioned_by b) k in
      (expr t.0 (firsts (mentioned c) (mentioned_by a) f), assertion scope a t.1 (lasts (mentioned c) (mentioned_by a) f), assertion scope b t.2 (lasts (mentioned c ++ mentioned_by a) (mentioned_by b) k))

  assertions : (scope : Scope) (rest : List Assertion) → AllTyped p scope rest → AreOthers (mentioned_by_all rest) → AreOfFields rest
  assertions scope [] t k = tt
  assertions scope (a ∷ rest) t k = (assertion scope a t.0 (firsts (mentioned_by a) (mentioned_by_all rest) k), assertions scope rest t.1 (lasts (mentioned_by a) (mentioned_by_all rest) k))

  contract : (m : Method) → IsTypedMethod p m → AreOthers (mentioned_by_contract (Some m)) → HasFieldContract p m
  contract m t k = record {
    typed_requires = t.requires;
    typed_ensures = t.ensures;
    requires = assertions m.parameters m.requires t.requires (firsts (mentioned_by_all m.requires) (mentioned_by_all m.ensures) k);
    ensures = assertions (m.parameters ++ m.returns) m.ensures t.ensures (lasts (mentioned_by_all m.requires) (mentioned_by_all m.ensures) k);
  }

  module _ (typed : IsTypedProgram p) where
    mutual
      stmt : (st : Stmt) → IsCallingStmt st → AreOthers (mentioned_by_stmt p st) → SpeaksOfFields p st
      stmt (Declare at x t) j k = j
      stmt (Assign at x e) j k = j
      stmt (Write at e f e') j k = j
      stmt (New at x fs) j k = j
      stmt (Call at xs f es) j k =
          let n = lasts (mentioned_in es) (mentioned_by_contract (method_named p f)) k in
          (j, λ m named. contract m (typed.methods f m named) (subst (λ o. AreOthers (mentioned_by_contract o)) named n))
      stmt (Inhale at a) j k = j
      stmt (Exhale at a) j k = j
      stmt (Assert at a) j k = j
      stmt (Assume at e) j k = j
      stmt (Fold at i es share) j k = absurd j
      stmt (Unfold at i es share) j k = absurd j
      stmt (If at c a b) j k =
          let f = firsts (mentioned c ++ mentioned_by_block p a) (mentioned_by_block p b) k in
          (j.0, block a j.1 (lasts (mentioned c) (mentioned_by_block p a) f), block b j.2 (lasts (mentioned c ++ mentioned_by_block p a) (mentioned_by_block p b) k))
      stmt (While at c is b) j k = (j.0, j.1, block b j.2 (lasts (mentioned c ++ mentioned_by_all is) (mentioned_by_block p b) k))

      block : (b : Block) → IsCallingBlock b → AreOthers (mentioned_by_block p b) → AllSpeaks p b
      block Done j k = tt
      block (Then st b) j k = (stmt st j.0 (firsts (mentioned_by_stmt p st) (mentioned_by_block p b) k), block b j.1 (lasts (mentioned_by_stmt p st) (mentioned_by_block p b) k))

    body : (b : Option Block) → IsCallingBody b → AreOthers (mentioned_by_body p b) → BodySpeaks p b
    body None j k = tt
    body (Some b) j k = block b j k

    -- of what it mentions, in its body and in the contracts of what it calls
    pub speaks : (x : Name) (m : Method) → member_named p x ≡ Some (IsMethod m) → IsCallingMethod m → ((y : Name) (l : Kind) → InClosure p x y → member_named p y ≡ Some l → IsCallingMember l) → MethodSpeaks p m
    speaks x m named j all = record { requires = j.requires; ensures = j.ensures; body = body m.body j.body (lasts (mentioned_by_contract (Some m)) (mentioned_by_body p m.body) others) }
      where
        other : (y : Name) → InClosure p x y → IsOther y
        other y c = record {
          predicate = λ d e. all y (IsPredicate d) c (predicate_member (member_named p y) d e);
          function = λ g e. all y (IsFunction g) c (function_member (member_named p y) g e);
        }

        others : AreOthers (mentioned_by_kind p (Some (IsMethod m)))
        others y h = other y (further itself (subst (λ o. Stands y (mentioned_by_kind p o)) (sym named) h))
