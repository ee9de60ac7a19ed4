-- What x leads to speaks of instances of predicates, and of functions, that x leads to.
use Rattle.std.proofs.Common.{◌≡◌, true, inl, List, [], ◌∷◌, ◌++◌, Option, Some, None, refl, sym, ap, subst}
use Rattle.std.proofs.lemmas.Option.{same_Some}
use Rattle.vx_ast.specs.declared.ValueType.{ValueType}
use Rattle.vx_ast.specs.Syntax.{Name, Declaration, Program, Kind, IsField, IsPredicate, IsFunction, IsMethod, Predicate, Function, Method, member_named, predicate_named, function_in, function_named, method_named, Expr, Exprs, Assertion, Pure, Points, Instance, Both, Implied, Chosen, Stmt, Declare, Assign, Write, New, Call, Inhale, Exhale, Assert, Assume, Fold, Unfold, If, While, Block, Done, Then}
use Rattle.vx_ast.specs.Mentions.{mentioned, mentioned_in, mentioned_by}
use Rattle.vx_types.specs.Typing.{Scope, HaveNoPerm, HasType, number, truth, nulls, part, variable, nots, operates, scales, divides, connects, chooses, reads, olds, applies, unfoldings, HaveTypes, no_more, more, IsTyped, AllTyped, IsTypedStmt, IsTypedBlock, IsTypedBody, IsTypedMethod, scope_after}
use Rattle.vx_ast.specs.Apart.{Stands}
use Rattle.vx_types.specs.Premises.{IsTypedProgram}
use Rattle.vx_types.specs.Closure.{mentioned_by_all, mentioned_by_contract, mentioned_by_stmt, mentioned_by_block, mentioned_by_body as mentioned_by_statements, mentioned_by_kind, InClosure, itself, further}
use Rattle.vx_sound.proofs.World.{World}
use Rattle.vx_sound.proofs.Speaks.{Speaks, AllSpeak, SpeaksOf, AllSpeakOf}
use Rattle.vx_sound.proofs.Says.{HasContract, Says, AllSay, BodySays, MethodSays}
use Rattle.vx_sound_preds.specs.Bodies.{GoodBodies}
use Rattle.vx_sound_preds.proofs.Holding.{Applying, functions_world}
use Rattle.vx_sound_preds.proofs.Speaking.{AllSeen as Seen, lefts as lefts_of, rights as rights_of}

pub function_member : (o : Option Kind) (g : Function) → function_in o ≡ Some g → o ≡ Some (IsFunction g)
function_member (Some (IsFunction e)) g h = ap (λ (g : Function). Some (IsFunction g)) (same_Some e g h)
function_member None g h = cc
function_member (Some (IsField t)) g h = cc
function_member (Some (IsPredicate d)) g h = cc
function_member (Some (IsMethod m)) g h = cc

module _ (p : Program) (x : Name) where
  abbrev AllSeen : List Name → Type 0
  AllSeen = Seen p x

  lefts : (ys zs : List Name) → Seen p x (ys ++ zs) → Seen p x ys
  lefts = lefts_of p x

  rights : (ys zs : List Name) → Seen p x (ys ++ zs) → Seen p x zs
  rights = rights_of p x

  -- x leads to no function
  abbrev pub NoFunction : Type 0
  NoFunction = (f : Name) (g : Function) → InClosure p x f → function_named p f ≡ Some g → ⊥

  abbrev pub Held : Name → Type 0
  Held = InClosure p x

  -- the functions that x leads to may be applied
  abbrev pub MayApply : (Name → Type 0) → Type 0
  MayApply Applied = (f : Name) (g : Function) → InClosure p x f → function_named p f ≡ Some g → Applied f

  module _ (applying : Applying) (may : MayApply applying.Applied) where
    mutual
      pub expression : {scope : Scope} {e : Expr} {t : ValueType} → HasType p scope e t → AllSeen (mentioned e) → Speaks Held applying.Applied e
      expression (number at n) s = tt
      expression (truth) s = tt
      expression (nulls at) s = tt
      expression (part at n d l) s = tt
      expression (variable at y e) s = tt
      expression (nots h) s = expression h s
      expression (operates {a = a} {b = b} o ha hb) s = (expression ha (lefts (mentioned a) (mentioned b) s), expression hb (rights (mentioned a) (mentioned b) s))
      expression (scales place n hb) s = (tt, expression hb s)
      expression (divides {a = a} {b = b} ha hb) s = (expression ha (lefts (mentioned a) (mentioned b) s), expression hb (rights (mentioned a) (mentioned b) s))
      expression (connects {a = a} {b = b} ha hb) s = (expression ha (lefts (mentioned a) (mentioned b) s), expression hb (rights (mentioned a) (mentioned b) s))
      expression (chooses {c = c} {a = a} {b = b} hc ha hb) s =
          let first = lefts (mentioned c ++ mentioned a) (mentioned b) s in (
            expression hc (lefts (mentioned c) (mentioned a) first),
            expression ha (rights (mentioned c) (mentioned a) first),
            expression hb (rights (mentioned c ++ mentioned a) (mentioned b) s),
          )
      expression (reads f e h) s = expression h s
      expression (olds h) s = expression h s
      expression (applies f {es = es} g e hs) s = (may f g (s f (inl refl)) e, expressions hs (rights (f ∷ []) (mentioned_in es) s))
      expression (unfoldings i {es = es} {share = share} {e = e} d is hs hq h) s =
          let rest = rights (i ∷ []) (mentioned_in es ++ mentioned share ++ mentioned e) s in
          let first = lefts (mentioned_in es ++ mentioned share) (mentioned e) rest in (
            s i (inl refl),
            expressions hs (lefts (mentioned_in es) (mentioned share) first),
            expression hq (rights (mentioned_in es) (mentioned share) first),
            expression h (rights (mentioned_in es ++ mentioned share) (mentioned e) rest),
          )

      pub expressions : {scope : Scope} {es : Exprs} {ds : List Declaration} → HaveTypes p scope es ds → AllSeen (mentioned_in es) → AllSpeak Held applying.Applied es
      expressions no_more s = tt
      expressions (more {e = e} {es = es} h hs) s = (expression h (lefts (mentioned e) (mentioned_in es) s), expressions hs (rights (mentioned e) (mentioned_in es) s))

    pub assertion : (scope : Scope) (a : Assertion) → IsTyped p scope a → AllSeen (mentioned_by a) → SpeaksOf Held applying.Applied a
    assertion scope (Pure e) t s = expression t s
    assertion scope (Points at e f share) t s = (expression t.0 (lefts (mentioned e) (mentioned share) s), expression t.2 (rights (mentioned e) (mentioned share) s))
    assertion scope (Instance at i es share) t s =
        let rest = rights (i ∷ []) (mentioned_in es ++ mentioned share) s in
        (s i (inl refl), expressions t.0.2 (lefts (mentioned_in es) (mentioned share) rest), expression t.1 (rights (mentioned_in es) (mentioned share) rest))
    assertion scope (Both a b) t s = (assertion scope a t.0 (lefts (mentioned_by a) (mentioned_by b) s), assertion scope b t.1 (rights (mentioned_by a) (mentioned_by b) s))
    assertion scope (Implied c a) t s = (expression t.0 (lefts (mentioned c) (mentioned_by a) s), assertion scope a t.1 (rights (mentioned c) (mentioned_by a) s))
    assertion scope (Chosen c a b) t s =
        let first = lefts (mentioned c ++ mentioned_by a) (mentioned_by b) s in (
          expression t.0 (lefts (mentioned c) (mentioned_by a) first),
          assertion scope a t.1 (rights (mentioned c) (mentioned_by a) first),
          assertion scope b t.2 (rights (mentioned c ++ mentioned_by a) (mentioned_by b) s),
        )

    assertions : (scope : Scope) (rest : List Assertion) → AllTyped p scope rest → AllSeen (mentioned_by_all rest) → AllSpeakOf Held applying.Applied rest
    assertions scope [] t s = tt
    assertions scope (a ∷ rest) t s = (assertion scope a t.0 (lefts (mentioned_by a) (mentioned_by_all rest) s), assertions scope rest t.1 (rights (mentioned_by a) (mentioned_by_all rest) s))

    -- Statements, and the contracts of what they call

    module _ (typed : IsTypedProgram p) (good : GoodBodies p) (no_perm : (x : Name) (d : Predicate) → predicate_named p x ≡ Some d → HaveNoPerm d.parameters) where
      abbrev world : World
      world = functions_world p good Held no_perm true applying

      contract : (f : Name) (m : Method) → method_named p f ≡ Some m → AllSeen (mentioned_by_contract (method_named p f)) → HasContract world m
      contract f m e s =
          let t = typed.methods f m e in
          let seen = subst (λ (o : Option Method). AllSeen (mentioned_by_contract o)) e s in
          record {
            typed_requires = t.requires;
            typed_ensures = t.ensures;
            requires = assertions m.parameters m.requires t.requires (lefts (mentioned_by_all m.requires) (mentioned_by_all m.ensures) seen);
            ensures = assertions (m.parameters ++ m.returns) m.ensures t.ensures (rights (mentioned_by_all m.requires) (mentioned_by_all m.ensures) seen);
          }

      mutual
        statement : (scope : Scope) (st : Stmt) → IsTypedStmt p scope st → AllSeen (mentioned_by_stmt p st) → Says world st
        statement scope (Declare at y t) k s = tt
        statement scope (Assign at y e) k s = expression k.2 s
        statement scope (Write at e f e') k s = (expression k.2 (lefts (mentioned e) (mentioned e') s), expression k.3 (rights (mentioned e) (mentioned e') s))
        statement scope (New at y fs) k s = tt
        statement scope (Call at xs f es) k s = (expressions k.2 (lefts (mentioned_in es) (mentioned_by_contract (method_named p f)) s), λ m e. contract f m e (rights (mentioned_in es) (mentioned_by_contract (method_named p f)) s))
        statement scope (Inhale at a) k s = assertion scope a k s
        statement scope (Exhale at a) k s = assertion scope a k s
        statement scope (Assert at a) k s = assertion scope a k s
        statement scope (Assume at e) k s = expression k s
        statement scope (Fold at i es share) k s =
            let rest = rights (i ∷ []) (mentioned_in es ++ mentioned share) s in
            (s i (inl refl), expressions k.0.2 (lefts (mentioned_in es) (mentioned share) rest), expression k.1 (rights (mentioned_in es) (mentioned share) rest))
        statement scope (Unfold at i es share) k s =
            let rest = rights (i ∷ []) (mentioned_in es ++ mentioned share) s in
            (s i (inl refl), expressions k.0.2 (lefts (mentioned_in es) (mentioned share) rest), expression k.1 (rights (mentioned_in es) (mentioned share) rest))
        statement scope (If at c a b) k s =
            let first = lefts (mentioned c ++ mentioned_by_block p a) (mentioned_by_block p b) s in (
              expression k.0 (lefts (mentioned c) (mentioned_by_block p a) first),
              block scope a k.1 (rights (mentioned c) (mentioned_by_block p a) first),
              block scope b k.2 (rights (mentioned c ++ mentioned_by_block p a) (mentioned_by_block p b) s),
            )
        statement scope (While at c is b) k s =
            let first = lefts (mentioned c ++ mentioned_by_all is) (mentioned_by_block p b) s in (
              expression k.0 (lefts (mentioned c) (mentioned_by_all is) first),
              assertions scope is k.1 (rights (mentioned c) (mentioned_by_all is) first),
              block scope b k.2 (rights (mentioned c ++ mentioned_by_all is) (mentioned_by_block p b) s),
            )

        block : (scope : Scope) (b : Block) → IsTypedBlock p scope b → AllSeen (mentioned_by_block p b) → AllSay world b
        block scope Done k s = tt
        block scope (Then st b) k s = (statement scope st k.0 (lefts (mentioned_by_stmt p st) (mentioned_by_block p b) s), block (scope_after p st scope) b k.1 (rights (mentioned_by_stmt p st) (mentioned_by_block p b) s))

      body : (scope : Scope) (b : Option Block) → IsTypedBody p scope b → AllSeen (mentioned_by_statements p b) → BodySays world b
      body scope None k s = tt
      body scope (Some b) k s = block scope b k s

      pub method_says : (m : Method) → member_named p x ≡ Some (IsMethod m) → IsTypedMethod p m → MethodSays world m
      method_says m named t =
          let seen : AllSeen (mentioned_by_contract (Some m) ++ mentioned_by_statements p m.body) = λ y s. further itself (subst (λ (o : Option Kind). Stands y (mentioned_by_kind p o)) (sym named) s) in
          let c = lefts (mentioned_by_contract (Some m)) (mentioned_by_statements p m.body) seen in
          record {
            requires = assertions m.parameters m.requires t.requires (lefts (mentioned_by_all m.requires) (mentioned_by_all m.ensures) c);
            ensures = assertions (m.parameters ++ m.returns) m.ensures t.ensures (rights (mentioned_by_all m.requires) (mentioned_by_all m.ensures) c);
            body = body (m.parameters ++ m.returns) m.body t.body (rights (mentioned_by_contract (Some m)) (mentioned_by_statements p m.body) seen);
          }
