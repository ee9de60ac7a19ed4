-- In a typed program functions speak of no earlier state, and they are good: their preconditions may apply any.
use Rattle.std.proofs.Common.{◌≡◌, ℕ, zero, suc, ℤ, pos, negsuc, Bool, true, false, cond, List, [], ◌∷◌, ◌++◌, Option, Some, None, refl, sym, ◌∙◌, ap, subst}
use Rattle.std.specs.Prelude.{option_and_then}
use Rattle.std.proofs.lemmas.Option.{same_Some}
use Rattle.vx_ast.specs.declared.Place.{Place}
use Rattle.vx_ast.specs.declared.ValueType.{ValueType}
use Rattle.vx_ast.specs.declared.ValueType.TheVariants.{Perm}
use Rattle.vx_ast.specs.Syntax.{Name, same_name, Declaration, Program, Function, function_named, Connective, And, Operator, Equal, Less, LessEqual, Greater, GreaterEqual, Add, Subtract, Multiply, Division, Quotient, Remainder, Expr, Connect, Exprs, Assertion, Pure, Points, Both, Implied, Chosen, joined, joined_with, conjoined, conjoined_with, place_of}
use Rattle.vx_ast.specs.Syntax as syntax
use Rattle.vx_ast.specs.Apart.{Stands}
use Rattle.vx_types.specs.Typing.{Scope, HaveNoPerm, gives_type, HasType, number, truth, nulls, part, variable, nots, operates, scales, divides, connects, chooses, reads, olds, applies, unfoldings, HaveTypes, no_more, more, IsTyped}
use Rattle.vx_terms.specs.Interpretations.{Each}
use Rattle.vx_types.specs.Now.{IsOfNow, AreOfNow, SaysNow}
use Rattle.vx_types.specs.Premises.{IsConstantAmount, HasConstantAmounts, IsTypedProgram}
use Rattle.vx_meaning.specs.Values.{Value, IntValue, BoolValue, RefValue, PermValue, negated, operated, divided, divided_ints, needs_right, without_right}
use Rattle.vx_meaning.specs.States.{State, Store, Location, lookup, bind, with_store, at_old, value_at, field_type, type_or_int}
use Rattle.vx_meaning.specs.Evaluate.{choose, connected, read, applications, value, values}
use Rattle.vx_elements.proofs.Values.{value_typed}
use Rattle.vx_elements.proofs.Scopes.{joined_typed}
use Rattle.vx_sound_preds.specs.Bodies.{IsRigid, AreRigid, RigidStore, Rigid}
use Rattle.vx_sound_preds.proofs.Flats.{came}
use Rattle.vx_sound_preds.proofs.Exchanging.{bound_rigid}
use Rattle.vx_sound_preds.proofs.Typed.{on_left, on_right}
use Rattle.vx_sound_preds.proofs.Holding.{rigid_value}
use Rattle.vx_sound_funcs.specs.Told.{precondition_of}
use Rattle.vx_sound_preds.specs.Asking.{Says, AllSay, HasRigidArguments, IsAskingAmount, IsAsking}
use Rattle.vx_sound_funcs.specs.Firm.{GoodFunctions}
use Rattle.vx_sound_funcs.specs.Laws.{SpeakNow}

-- What isn't a Perm has no amount as its value, where no variable has one.

found : (x : Name) (xs : Store) (v : Value) → RigidStore xs → lookup x xs ≡ Some v → IsRigid v
found x [] v h e = cc
found x (y ∷ xs) v h e = go (same_name x y.0) (found x xs v h.1) e
  where
    go : (b : Bool) → (lookup x xs ≡ Some v → IsRigid v) → cond b (Some y.1) (lookup x xs) ≡ Some v → IsRigid v
    go true f e = subst IsRigid (same_Some y.1 v e) h.0
    go false f e = f e

picked : (v : Value) (x y : Option Value) (w : Value) → (x ≡ Some w → IsRigid w) → (y ≡ Some w → IsRigid w) → choose v x y ≡ Some w → IsRigid w
picked (BoolValue true) x y w h k e = h e
picked (BoolValue false) x y w h k e = k e
picked (IntValue z) x y w h k e = cc
picked (RefValue z) x y w h k e = cc
picked (PermValue z) x y w h k e = cc

negated_rigid : (v w : Value) → negated v ≡ Some w → IsRigid w
negated_rigid (BoolValue b) w e = subst IsRigid (same_Some _ w e) tt
negated_rigid (IntValue b) w e = cc
negated_rigid (RefValue b) w e = cc
negated_rigid (PermValue b) w e = cc

-- the result of an operator, where there is one
abbrev IsRigidResult : Option Value → Type 0
IsRigidResult None = Unit {0}
IsRigidResult (Some v) = IsRigid v

result_is : (o : Option Value) (v : Value) → IsRigidResult o → o ≡ Some v → IsRigid v
result_is o v h e = subst IsRigidResult e h

compared : (v w : Value) → IsRigidResult (operated Equal v w) × IsRigidResult (operated Less v w) × IsRigidResult (operated LessEqual v w) × IsRigidResult (operated Greater v w) × IsRigidResult (operated GreaterEqual v w)
compared (IntValue a) (IntValue b) = (tt, tt, tt, tt, tt)
compared (IntValue a) (BoolValue b) = (tt, tt, tt, tt, tt)
compared (IntValue a) (RefValue b) = (tt, tt, tt, tt, tt)
compared (IntValue a) (PermValue b) = (tt, tt, tt, tt, tt)
compared (PermValue a) (IntValue b) = (tt, tt, tt, tt, tt)
compared (PermValue a) (BoolValue b) = (tt, tt, tt, tt, tt)
compared (PermValue a) (RefValue b) = (tt, tt, tt, tt, tt)
compared (PermValue a) (PermValue b) = (tt, tt, tt, tt, tt)
compared (BoolValue a) w = (tt, tt, tt, tt, tt)
compared (RefValue a) w = (tt, tt, tt, tt, tt)

reckoned : (v w : Value) → IsRigid v → IsRigid w → IsRigidResult (operated Add v w) × IsRigidResult (operated Subtract v w) × IsRigidResult (operated Multiply v w)
reckoned (IntValue a) (IntValue b) h k = (tt, tt, tt)
reckoned (IntValue a) (BoolValue b) h k = (tt, tt, tt)
reckoned (IntValue a) (RefValue b) h k = (tt, tt, tt)
reckoned (IntValue a) (PermValue b) h k = absurd k
reckoned (PermValue a) w h k = absurd h
reckoned (BoolValue a) w h k = (tt, tt, tt)
reckoned (RefValue a) w h k = (tt, tt, tt)

operated_rigid : (op : Operator) (t : ValueType) (v w : Value) → ((gives_type op t ≡ Perm) → ⊥) → (((t ≡ Perm) → ⊥) → IsRigid v) → (((t ≡ Perm) → ⊥) → IsRigid w) → IsRigidResult (operated op v w)
operated_rigid Equal t v w k f g = (compared v w).0
operated_rigid Less t v w k f g = (compared v w).1
operated_rigid LessEqual t v w k f g = (compared v w).2
operated_rigid Greater t v w k f g = (compared v w).3
operated_rigid GreaterEqual t v w k f g = (compared v w).4
operated_rigid Add t v w k f g = (reckoned v w (f k) (g k)).0
operated_rigid Subtract t v w k f g = (reckoned v w (f k) (g k)).1
operated_rigid Multiply t v w k f g = (reckoned v w (f k) (g k)).2

divided_ints_rigid : (op : Division) (a b : ℤ) → IsRigidResult (divided_ints op a b)
divided_ints_rigid op a (pos zero) = tt
divided_ints_rigid Quotient a (pos (suc n)) = tt
divided_ints_rigid Remainder a (pos (suc n)) = tt
divided_ints_rigid Quotient a (negsuc n) = tt
divided_ints_rigid Remainder a (negsuc n) = tt

divided_rigid : (op : Division) (v w : Value) → IsRigidResult (divided op v w)
divided_rigid op (IntValue a) (IntValue b) = divided_ints_rigid op a b
divided_rigid op (IntValue a) (BoolValue b) = tt
divided_rigid op (IntValue a) (RefValue b) = tt
divided_rigid op (IntValue a) (PermValue b) = tt
divided_rigid op (BoolValue a) w = tt
divided_rigid op (RefValue a) w = tt
divided_rigid op (PermValue a) w = tt

connected_rigid : (c : Connective) (v : Value) (o : Option Value) (w : Value) → (o ≡ Some w → IsRigid w) → connected c v o ≡ Some w → IsRigid w
connected_rigid c (BoolValue a) o w h e = go (needs_right c a) e
  where
    go : (b : Bool) → cond b o (Some (BoolValue (without_right c))) ≡ Some w → IsRigid w
    go true e = h e
    go false e = subst IsRigid (same_Some (BoolValue (without_right c)) w e) tt
connected_rigid c (IntValue a) o w h e = cc
connected_rigid c (RefValue a) o w h e = cc
connected_rigid c (PermValue a) o w h e = cc

module _ (p : Program) where
  read_rigid : (f : Name) (s : State) (r v : Value) → ((field_type p f ≡ Perm) → ⊥) → read p s f r ≡ Some v → IsRigid v
  read_rigid f s (RefValue r) v k e =
      let l : Location = record { receiver = r; field = f } in
      subst IsRigid (same_Some (value_at p s.heap l) v e) (rigid_value (value_at p s.heap l) (λ is. k (sym (value_typed p s.heap l) ∙ is)))
  read_rigid f s (IntValue r) v k e = cc
  read_rigid f s (BoolValue r) v k e = cc
  read_rigid f s (PermValue r) v k e = cc

  module _ (typed : IsTypedProgram p) where
    -- of applications, by n
    abbrev ApplicationsRigid : ℕ → Type 0
    ApplicationsRigid n = (f : Name) (d : Function) (vs : List Value) (s : State) (v : Value) → function_named p f ≡ Some d → ((d.of ≡ Perm) → ⊥) → AreRigid vs → applications p n f vs s ≡ Some v → IsRigid v

    module _ (n : ℕ) (ih : ApplicationsRigid n) where
      mutual
        rigid : (s : State) → Rigid s → {scope : Scope} {e : Expr} {t : ValueType} → HasType p scope e t → ((t ≡ Perm) → ⊥) → (v : Value) → value p (applications p n) s e ≡ Some v → IsRigid v
        rigid s r (number at n) k v e = subst IsRigid (same_Some _ v e) tt
        rigid s r (truth) k v e = subst IsRigid (same_Some _ v e) tt
        rigid s r (nulls at) k v e = subst IsRigid (same_Some _ v e) tt
        rigid s r (part at n d l) k v e = absurd (k refl)
        rigid s r (variable at x is) k v e = found x s.store v r e
        rigid s r (nots {e = a} h) k v e =
            let x = came (value p (applications p n) s a) negated v e in
            negated_rigid x.it v x.then
        rigid s r (operates {op = op} {a = a} {b = b} {t = t} o ha hb) k v e =
            let x = came (value p (applications p n) s a) (λ v. option_and_then (λ w. operated op v w) (value p (applications p n) s b)) v e in
            let y = came (value p (applications p n) s b) (λ w. operated op x.it w) v x.then in
            result_is (operated op x.it y.it) v (operated_rigid op t x.it y.it k (λ no_perm. rigid s r ha no_perm x.it x.is) (λ no_perm. rigid s r hb no_perm y.it y.is)) y.then
        rigid s r (scales place m hb) k v e = absurd (k refl)
        rigid s r (divides {op = op} {a = a} {b = b} ha hb) k v e =
            let x = came (value p (applications p n) s a) (λ v. option_and_then (λ w. divided op v w) (value p (applications p n) s b)) v e in
            let y = came (value p (applications p n) s b) (λ w. divided op x.it w) v x.then in
            result_is (divided op x.it y.it) v (divided_rigid op x.it y.it) y.then
        rigid s r (connects {c = c} {a = a} {b = b} ha hb) k v e =
            let x = came (value p (applications p n) s a) (λ v. connected c v (value p (applications p n) s b)) v e in
            connected_rigid c x.it (value p (applications p n) s b) v (rigid s r hb k v) x.then
        rigid s r (chooses {c = c} {a = a} {b = b} hc ha hb) k v e =
            let x = came (value p (applications p n) s c) (λ v. choose v (value p (applications p n) s a) (value p (applications p n) s b)) v e in
            picked x.it (value p (applications p n) s a) (value p (applications p n) s b) v (rigid s r ha k v) (rigid s r hb k v) x.then
        rigid s r (reads {e = a} f {t = t} is h) k v e =
            let x = came (value p (applications p n) s a) (read p s f) v e in
            read_rigid f s x.it v (λ m. k (sym (ap type_or_int is) ∙ m)) x.then
        rigid s r (olds h) k v e = rigid (at_old s) r h k v e
        rigid s r (applies f {es = es} d is hs) k v e =
            let x = came (values p (applications p n) s es) (λ vs. applications p n f vs s) v e in
            ih f d x.it s v is k (all_rigid s r hs (typed.functions f d is).parameters x.it x.is) x.then
        rigid s r (unfoldings i d is hs hq h) k v e = rigid s r h k v e

        all_rigid : (s : State) → Rigid s → {scope : Scope} {es : Exprs} {ds : List Declaration} → HaveTypes p scope es ds → HaveNoPerm ds → (vs : List Value) → values p (applications p n) s es ≡ Some vs → AreRigid vs
        all_rigid s r no_more k vs e = subst AreRigid (same_Some [] vs e) tt
        all_rigid s r (more {e = a} {es = es} h hs) k vs e =
            let x = came (value p (applications p n) s a) (λ v. option_and_then (λ vs. Some (v ∷ vs)) (values p (applications p n) s es)) vs e in
            let y = came (values p (applications p n) s es) (λ vs. Some (x.it ∷ vs)) vs x.then in
            subst AreRigid (same_Some (x.it ∷ y.it) vs y.then) (rigid s r h k.0 x.it x.is, all_rigid s r hs k.1 y.it y.is)

    same_function : (d g : Function) → Some d ≡ Some g → d ≡ g
    same_function d g e = cc

    applications_rigid : (n : ℕ) → ApplicationsRigid n
    applications_rigid zero f d vs s v is k ri e = nothing e
      where
        nothing : None ≡ Some v → IsRigid v
        nothing e = cc
    applications_rigid (suc n) f d vs s v is k ri e =
        let g = came (function_named p f) (λ g. value p (applications p n) (with_store (bind g.parameters vs) s) g.body) v e in
        let same = same_function d g.it (sym is ∙ g.is) in
        let at = subst (λ (g : Function). value p (applications p n) (with_store (bind g.parameters vs) s) g.body ≡ Some v) (sym same) g.then in
        rigid n (applications_rigid n) (with_store (bind d.parameters vs) s) (bound_rigid d.parameters vs ri) (typed.functions f d is).body k v at

    -- What typed functions say

    mutual
      says : {scope : Scope} {e : Expr} {t : ValueType} → HasType p scope e t → IsOfNow e → Says (HasRigidArguments p) e
      says (number at n) k = tt
      says (truth) k = tt
      says (nulls at) k = tt
      says (part at n d l) k = tt
      says (variable at x e) k = tt
      says (nots h) k = says h k
      says (operates o ha hb) k = (says ha k.0, says hb k.1)
      says (scales place n hb) k = (tt, says hb k.1)
      says (divides ha hb) k = (says ha k.0, says hb k.1)
      says (connects ha hb) k = (says ha k.0, says hb k.1)
      says (chooses hc ha hb) k = (says hc k.0, says ha k.1, says hb k.2)
      says (reads g e h) k = says h k
      says (olds h) k = absurd k
      says (applies f d is hs) k = ((λ n s vs r e. all_rigid n (applications_rigid n) s r hs (typed.functions f d is).parameters vs e), all_say hs k)
      says (unfoldings i d is hs hq h) k = (all_say hs k.0, says hq k.1, says h k.2)

      all_say : {scope : Scope} {es : Exprs} {ds : List Declaration} → HaveTypes p scope es ds → AreOfNow es → AllSay (HasRigidArguments p) es
      all_say no_more k = tt
      all_say (more h hs) k = (says h k.0, all_say hs k.1)

    -- What applies none

    abbrev NoFunctions : List Name → Type 0
    NoFunctions xs = (x : Name) → Stands x xs → function_named p x ≡ None

    lefts : (xs ys : List Name) → NoFunctions (xs ++ ys) → NoFunctions xs
    lefts xs ys h x k = h x (on_left x xs ys k)

    rights : (xs ys : List Name) → NoFunctions (xs ++ ys) → NoFunctions ys
    rights xs ys h x k = h x (on_right x xs ys k)

    amount_is : {scope : Scope} (e : syntax.Expr) {t : ValueType} → HasType p scope e t → IsOfNow e → IsConstantAmount e → IsAskingAmount p e
    amount_is e h k c = record { says = says h k; amount = c.0; above = c.2; value_is = c.1 p }

    asks_by : (scope : Scope) (a : Assertion) → IsTyped p scope a → HasConstantAmounts a → SaysNow a → IsAsking p a
    asks_by scope (Pure e) t c k = says t k
    asks_by scope (Points at e x share) t c k = (says t.0 k.0, amount_is share t.2 k.1 c)
    asks_by scope (syntax.Instance at i es share) t c k = (
      all_say t.0.2 k.0,
      amount_is share t.1 k.1 c,
      λ n s vs r e. all_rigid n (applications_rigid n) s r t.0.2 (typed.predicates i t.0.0 t.0.1).parameters vs e,
    )
    asks_by scope (Both a b) t c k = (asks_by scope a t.0 c.0 k.0, asks_by scope b t.1 c.1 k.1)
    asks_by scope (Implied e a) t c k = (says t.0 k.0, asks_by scope a t.1 c k.1)
    asks_by scope (Chosen e a b) t c k = (says t.0 k.0, asks_by scope a t.1 c.0 k.1, asks_by scope b t.2 c.1 k.2)

    joined_with_constant : (a : Assertion) (rest : List Assertion) → HasConstantAmounts a → Each HasConstantAmounts rest → HasConstantAmounts (joined_with a rest)
    joined_with_constant a [] k ks = k
    joined_with_constant a (b ∷ rest) k ks = joined_with_constant (Both a b) rest (k, ks.0) ks.1

    joined_constant : (at : _) (rest : List Assertion) → Each HasConstantAmounts rest → HasConstantAmounts (joined at rest)
    joined_constant at [] k = tt
    joined_constant at (a ∷ rest) k = joined_with_constant a rest k.0 k.1

    joined_with_now : (a : Assertion) (rest : List Assertion) → SaysNow a → Each SaysNow rest → SaysNow (joined_with a rest)
    joined_with_now a [] k ks = k
    joined_with_now a (b ∷ rest) k ks = joined_with_now (Both a b) rest (k, ks.0) ks.1

    joined_now : (at : Place) (rest : List Assertion) → Each SaysNow rest → SaysNow (joined at rest)
    joined_now at [] k = tt
    joined_now at (a ∷ rest) k = joined_with_now a rest k.0 k.1

    conjoined_with_now : (a : Expr) (rest : List Expr) → IsOfNow a → Each IsOfNow rest → IsOfNow (conjoined_with a rest)
    conjoined_with_now a [] k ks = k
    conjoined_with_now a (b ∷ rest) k ks = conjoined_with_now (Connect (place_of a) And a b) rest (k, ks.0) ks.1

    conjoined_now : (at : Place) (rest : List Expr) → Each IsOfNow rest → IsOfNow (conjoined at rest)
    conjoined_now at [] k = tt
    conjoined_now at (a ∷ rest) k = conjoined_with_now a rest k.0 k.1

    -- a function's body, its precondition and its promise have no `old`
    pub functions_speak_now : SpeakNow p
    functions_speak_now f g named = (typed.functions_now f g named).body

    pub requirements_now : (f : Name) (g : Function) → function_named p f ≡ Some g → SaysNow (precondition_of g)
    requirements_now f g named = joined_now g.place g.requires (typed.functions_now f g named).requires

    pub promises_now : (f : Name) (g : Function) → function_named p f ≡ Some g → IsOfNow (conjoined g.place g.ensures)
    promises_now f g named = conjoined_now g.place g.ensures (typed.functions_now f g named).ensures

    pub good_functions : GoodFunctions p
    good_functions = record {
      asks = λ f g named. asks_by g.parameters (precondition_of g) (joined_typed p g.parameters g.place g.requires (typed.functions f g named).requires) (joined_constant g.place g.requires (typed.preconditions f g named)) (requirements_now f g named);
      says = λ f g named. says (typed.functions f g named).body (functions_speak_now f g named);
      promises_now = promises_now;
    }
