-- A typed program has good bodies of predicates.
use Rattle.std.proofs.Common.{◌≡◌, inl, inr, zero, suc, pos, negsuc, Bool, true, false, cond, List, [], ◌∷◌, ◌++◌, Option, Some, None, refl, sym, ◌∙◌, ap, subst}
use Rattle.std.specs.Prelude.{ℤ, option_and_then}
use Rattle.std.proofs.lemmas.Option.{same_Some}
use Rattle.vx_ast.specs.declared.ValueType.{ValueType}
use Rattle.vx_ast.specs.declared.ValueType.TheVariants.{Perm}
use Rattle.vx_ast.specs.Syntax.{Name, same_name, Declaration, Program, Function, Connective, Operator, Equal, Less, LessEqual, Greater, GreaterEqual, Add, Subtract, Multiply, Division, Quotient, Remainder, Expr, Exprs, Assertion, Pure, Points, Both, Implied, Chosen, function_named}
use Rattle.vx_ast.specs.Syntax as syntax
use Rattle.vx_ast.specs.Mentions.{mentioned, mentioned_in}
use Rattle.vx_types.specs.Typing.{Scope, HaveNoPerm, gives_type, HasType, number, truth, nulls, part, variable, nots, operates, scales, divides, connects, chooses, reads, olds, applies, unfoldings, HaveTypes, no_more, more, IsTyped, IsTypedContent}
use Rattle.vx_ast.specs.Apart.{entered_by, entered_by_body, Stands}
use Rattle.vx_types.specs.Now.{IsOfNow, AreOfNow, SaysNow}
use Rattle.vx_types.specs.Premises.{IsConstantAmount, HasConstantAmounts, IsTypedProgram}
use Rattle.vx_meaning.specs.Values.{Value, IntValue, BoolValue, RefValue, PermValue, type_of, negated, operated, divided, divided_ints, needs_right, without_right}
use Rattle.vx_meaning.specs.States.{State, Store, Location, lookup, value_at, field_type, type_or_int}
use Rattle.vx_meaning.specs.Evaluate.{choose, connected, read, value, values}
use Rattle.vx_meaning.specs.Flatten.{no_applications}
use Rattle.vx_elements.proofs.Values.{value_typed}
use Rattle.vx_sound_preds.specs.Bodies.{IsRigid, AreRigid, RigidStore, Rigid, IsPlain, ArePlain, IsAmount, IsPlainBody, GoodBodies}
use Rattle.vx_sound_preds.proofs.Flats.{came}

-- Names in lists

pub on_left : (x : Name) (xs ys : List Name) → Stands x xs → Stands x (xs ++ ys)
on_left x [] ys h = absurd h
on_left x (z ∷ xs) ys (inl e) = inl e
on_left x (z ∷ xs) ys (inr h) = inr (on_left x xs ys h)

pub on_right : (x : Name) (xs ys : List Name) → Stands x ys → Stands x (xs ++ ys)
on_right x [] ys h = h
on_right x (z ∷ xs) ys h = inr (on_right x xs ys h)

none_of : {A : Type 0} (o : Option A) → ((a : A) → o ≡ Some a → ⊥) → o ≡ None
none_of None h = refl
none_of (Some a) h = absurd (h a refl)

module _ (p : Program) where
  -- none of these names is a function
  abbrev NoFunctions : List Name → Type 0
  NoFunctions xs = (x : Name) → Stands x xs → function_named p x ≡ None

  lefts : (xs ys : List Name) → NoFunctions (xs ++ ys) → NoFunctions xs
  lefts xs ys h x k = h x (on_left x xs ys k)

  rights : (xs ys : List Name) → NoFunctions (xs ++ ys) → NoFunctions ys
  rights xs ys h x k = h x (on_right x xs ys k)

  -- Typed, of now and without a function: plain.

  mutual
    plain : {scope : Scope} {e : Expr} {t : ValueType} → HasType p scope e t → IsOfNow e → NoFunctions (mentioned e) → IsPlain e
    plain (number at n) k f = tt
    plain (truth) k f = tt
    plain (nulls at) k f = tt
    plain (part at n d l) k f = tt
    plain (variable at x e) k f = tt
    plain (nots h) k f = plain h k f
    plain (operates {a = a} {b = b} o ha hb) k f = (plain ha k.0 (lefts (mentioned a) (mentioned b) f), plain hb k.1 (rights (mentioned a) (mentioned b) f))
    plain (scales place n hb) k f = (tt, plain hb k.1 f)
    plain (divides {a = a} {b = b} ha hb) k f = (plain ha k.0 (lefts (mentioned a) (mentioned b) f), plain hb k.1 (rights (mentioned a) (mentioned b) f))
    plain (connects {a = a} {b = b} ha hb) k f = (plain ha k.0 (lefts (mentioned a) (mentioned b) f), plain hb k.1 (rights (mentioned a) (mentioned b) f))
    plain (chooses {c = c} {a = a} {b = b} hc ha hb) k f =
        let first = lefts (mentioned c ++ mentioned a) (mentioned b) f in (
          plain hc k.0 (lefts (mentioned c) (mentioned a) first),
          plain ha k.1 (rights (mentioned c) (mentioned a) first),
          plain hb k.2 (rights (mentioned c ++ mentioned a) (mentioned b) f),
        )
    plain (reads g e h) k f = plain h k f
    plain (olds h) k f = absurd k
    plain (applies g d e hs) k f = absurd (not_both (function_named p g) d e (f g (inl refl)))
      where
        not_both : (o : Option Function) (d : Function) → o ≡ Some d → o ≡ None → ⊥
        not_both o d e g = cc
    plain (unfoldings i {es = es} {share = share} {e = e} d is hs hq h) k f =
        let rest = rights (i ∷ []) (mentioned_in es ++ mentioned share ++ mentioned e) f in
        let first = lefts (mentioned_in es ++ mentioned share) (mentioned e) rest in (
          all_plain hs k.0 (lefts (mentioned_in es) (mentioned share) first),
          plain hq k.1 (rights (mentioned_in es) (mentioned share) first),
          plain h k.2 (rights (mentioned_in es ++ mentioned share) (mentioned e) rest),
        )

    all_plain : {scope : Scope} {es : Exprs} {ds : List Declaration} → HaveTypes p scope es ds → AreOfNow es → NoFunctions (mentioned_in es) → ArePlain es
    all_plain no_more k f = tt
    all_plain (more {e = e} {es = es} h hs) k f = (plain h k.0 (lefts (mentioned e) (mentioned_in es) f), all_plain hs k.1 (rights (mentioned e) (mentioned_in es) f))

  -- What isn't a Perm has no amount as its value, where no variable has one.

  rigid_is : (v : Value) → ((type_of v ≡ Perm) → ⊥) → IsRigid v
  rigid_is (IntValue z) k = tt
  rigid_is (BoolValue z) k = tt
  rigid_is (RefValue z) k = tt
  rigid_is (PermValue q) k = k refl

  found : (x : Name) (xs : Store) (v : Value) → RigidStore xs → lookup x xs ≡ Some v → IsRigid v
  found x [] v h e = cc
  found x (y ∷ xs) v h e = go (same_name x y.0) (found x xs v h.1) e
    where
      go : (b : Bool) → (lookup x xs ≡ Some v → IsRigid v) → cond b (Some y.1) (lookup x xs) ≡ Some v → IsRigid v
      go true f e = subst IsRigid (same_Some y.1 v e) h.0
      go false f e = f e

  read_rigid : (f : Name) (s : State) (r v : Value) → ((field_type p f ≡ Perm) → ⊥) → read p s f r ≡ Some v → IsRigid v
  read_rigid f s (RefValue r) v k e =
      let l : Location = record { receiver = r; field = f } in
      subst IsRigid (same_Some (value_at p s.heap l) v e) (rigid_is (value_at p s.heap l) (λ is. k (sym (value_typed p s.heap l) ∙ is)))
  read_rigid f s (IntValue r) v k e = cc
  read_rigid f s (BoolValue r) v k e = cc
  read_rigid f s (PermValue r) v k e = cc

  picked : (v : Value) (x y : Option Value) (w : Value) → (x ≡ Some w → IsRigid w) → (y ≡ Some w → IsRigid w) → choose v x y ≡ Some w → IsRigid w
  picked (BoolValue true) x y w h k e = h e
  picked (BoolValue false) x y w h k e = k e
  picked (IntValue z) x y w h k e = cc
  picked (RefValue z) x y w h k e = cc
  picked (PermValue z) x y w h k e = cc

  negated_rigid : (v w : Value) → negated v ≡ Some w → IsRigid w
  negated_rigid (BoolValue b) w e = subst IsRigid (same_Some _ w e) tt
  negated_rigid (IntValue b) w e = cc
  negated_rigid (RefValue b) w e = cc
  negated_rigid (PermValue b) w e = cc

  -- the result of an operator, where there is one
  abbrev IsRigidResult : Option Value → Type 0
  IsRigidResult None = Unit {0}
  IsRigidResult (Some v) = IsRigid v

  result_is : (o : Option Value) (v : Value) → IsRigidResult o → o ≡ Some v → IsRigid v
  result_is o v h e = subst IsRigidResult e h

  compared : (v w : Value) → IsRigidResult (operated Equal v w) × IsRigidResult (operated Less v w) × IsRigidResult (operated LessEqual v w) × IsRigidResult (operated Greater v w) × IsRigidResult (operated GreaterEqual v w)
  compared (IntValue a) (IntValue b) = (tt, tt, tt, tt, tt)
  compared (IntValue a) (BoolValue b) = (tt, tt, tt, tt, tt)
  compared (IntValue a) (RefValue b) = (tt, tt, tt, tt, tt)
  compared (IntValue a) (PermValue b) = (tt, tt, tt, tt, tt)
  compared (PermValue a) (IntValue b) = (tt, tt, tt, tt, tt)
  compared (PermValue a) (BoolValue b) = (tt, tt, tt, tt, tt)
  compared (PermValue a) (RefValue b) = (tt, tt, tt, tt, tt)
  compared (PermValue a) (PermValue b) = (tt, tt, tt, tt, tt)
  compared (BoolValue a) w = (tt, tt, tt, tt, tt)
  compared (RefValue a) w = (tt, tt, tt, tt, tt)

  reckoned : (v w : Value) → IsRigid v → IsRigid w → IsRigidResult (operated Add v w) × IsRigidResult (operated Subtract v w) × IsRigidResult (operated Multiply v w)
  reckoned (IntValue a) (IntValue b) h k = (tt, tt, tt)
  reckoned (IntValue a) (BoolValue b) h k = (tt, tt, tt)
  reckoned (IntValue a) (RefValue b) h k = (tt, tt, tt)
  reckoned (IntValue a) (PermValue b) h k = absurd k
  reckoned (PermValue a) w h k = absurd h
  reckoned (BoolValue a) w h k = (tt, tt, tt)
  reckoned (RefValue a) w h k = (tt, tt, tt)

  operated_rigid : (op : Operator) (t : ValueType) (v w : Value) → ((gives_type op t ≡ Perm) → ⊥) → (((t ≡ Perm) → ⊥) → IsRigid v) → (((t ≡ Perm) → ⊥) → IsRigid w) → IsRigidResult (operated op v w)
  operated_rigid Equal t v w k f g = (compared v w).0
  operated_rigid Less t v w k f g = (compared v w).1
  operated_rigid LessEqual t v w k f g = (compared v w).2
  operated_rigid Greater t v w k f g = (compared v w).3
  operated_rigid GreaterEqual t v w k f g = (compared v w).4
  operated_rigid Add t v w k f g = (reckoned v w (f k) (g k)).0
  operated_rigid Subtract t v w k f g = (reckoned v w (f k) (g k)).1
  operated_rigid Multiply t v w k f g = (reckoned v w (f k) (g k)).2

  divided_ints_rigid : (op : Division) (a b : ℤ) → IsRigidResult (divided_ints op a b)
  divided_ints_rigid op a (pos zero) = tt
  divided_ints_rigid Quotient a (pos (suc n)) = tt
  divided_ints_rigid Remainder a (pos (suc n)) = tt
  divided_ints_rigid Quotient a (negsuc n) = tt
  divided_ints_rigid Remainder a (negsuc n) = tt

  divided_rigid : (op : Division) (v w : Value) → IsRigidResult (divided op v w)
  divided_rigid op (IntValue a) (IntValue b) = divided_ints_rigid op a b
  divided_rigid op (IntValue a) (BoolValue b) = tt
  divided_rigid op (IntValue a) (RefValue b) = tt
  divided_rigid op (IntValue a) (PermValue b) = tt
  divided_rigid op (BoolValue a) w = tt
  divided_rigid op (RefValue a) w = tt
  divided_rigid op (PermValue a) w = tt

  connected_rigid : (c : Connective) (v : Value) (o : Option Value) (w : Value) → (o ≡ Some w → IsRigid w) → connected c v o ≡ Some w → IsRigid w
  connected_rigid c (BoolValue a) o w h e = go (needs_right c a) e
    where
      go : (b : Bool) → cond b o (Some (BoolValue (without_right c))) ≡ Some w → IsRigid w
      go true e = h e
      go false e = subst IsRigid (same_Some (BoolValue (without_right c)) w e) tt
  connected_rigid c (IntValue a) o w h e = cc
  connected_rigid c (RefValue a) o w h e = cc
  connected_rigid c (PermValue a) o w h e = cc

  module _ (s : State) (r : Rigid s) where
    rigid : {scope : Scope} {e : Expr} {t : ValueType} → HasType p scope e t → ((t ≡ Perm) → ⊥) → IsPlain e → (v : Value) → value p no_applications s e ≡ Some v → IsRigid v
    rigid (number at n) k pl v e = subst IsRigid (same_Some _ v e) tt
    rigid (truth) k pl v e = subst IsRigid (same_Some _ v e) tt
    rigid (nulls at) k pl v e = subst IsRigid (same_Some _ v e) tt
    rigid (part at n d l) k pl v e = absurd (k refl)
    rigid (variable at x is) k pl v e = found x s.store v r e
    rigid (nots {e = a} h) k pl v e =
        let x = came (value p no_applications s a) negated v e in
        negated_rigid x.it v x.then
    rigid (operates {op = op} {a = a} {b = b} {t = t} o ha hb) k pl v e =
        let x = came (value p no_applications s a) (λ v. option_and_then (λ w. operated op v w) (value p no_applications s b)) v e in
        let y = came (value p no_applications s b) (λ w. operated op x.it w) v x.then in
        result_is (operated op x.it y.it) v (operated_rigid op t x.it y.it k (λ no_perm. rigid ha no_perm pl.0 x.it x.is) (λ no_perm. rigid hb no_perm pl.1 y.it y.is)) y.then
    rigid (scales place n hb) k pl v e = absurd (k refl)
    rigid (divides {op = op} {a = a} {b = b} ha hb) k pl v e =
        let x = came (value p no_applications s a) (λ v. option_and_then (λ w. divided op v w) (value p no_applications s b)) v e in
        let y = came (value p no_applications s b) (λ w. divided op x.it w) v x.then in
        result_is (divided op x.it y.it) v (divided_rigid op x.it y.it) y.then
    rigid (connects {c = c} {a = a} {b = b} ha hb) k pl v e =
        let x = came (value p no_applications s a) (λ v. connected c v (value p no_applications s b)) v e in
        connected_rigid c x.it (value p no_applications s b) v (rigid hb k pl.1 v) x.then
    rigid (chooses {c = c} {a = a} {b = b} hc ha hb) k pl v e =
        let x = came (value p no_applications s c) (λ v. choose v (value p no_applications s a) (value p no_applications s b)) v e in
        picked x.it (value p no_applications s a) (value p no_applications s b) v (rigid ha k pl.1 v) (rigid hb k pl.2 v) x.then
    rigid (reads {e = a} f {t = t} is h) k pl v e =
        let x = came (value p no_applications s a) (read p s f) v e in
        read_rigid f s x.it v (λ m. k (sym (ap type_or_int is) ∙ m)) x.then
    rigid (olds h) k pl v e = absurd pl
    rigid (applies g d is hs) k pl v e = absurd pl
    rigid (unfoldings i d is hs hq h) k pl v e = rigid h k pl.2 v e

    all_rigid : {scope : Scope} {es : Exprs} {ds : List Declaration} → HaveTypes p scope es ds → HaveNoPerm ds → ArePlain es → (vs : List Value) → values p no_applications s es ≡ Some vs → AreRigid vs
    all_rigid no_more k pl vs e = subst AreRigid (same_Some [] vs e) tt
    all_rigid (more {e = a} {es = es} h hs) k pl vs e =
        let x = came (value p no_applications s a) (λ v. option_and_then (λ vs. Some (v ∷ vs)) (values p no_applications s es)) vs e in
        let y = came (values p no_applications s es) (λ vs. Some (x.it ∷ vs)) vs x.then in
        subst AreRigid (same_Some (x.it ∷ y.it) vs y.then) (rigid h k.0 pl.0 x.it x.is, all_rigid hs k.1 pl.1 y.it y.is)

  amount_is : (e : Expr) → IsPlain e → IsConstantAmount e → IsAmount p e
  amount_is e pl c = record { plain = pl; amount = c.0; above = c.2; value_is = c.1 p no_applications }

  module _ (typed : IsTypedProgram p) where
    body_is : (scope : Scope) (a : Assertion) → IsTyped p scope a → HasConstantAmounts a → SaysNow a → NoFunctions (entered_by a) → IsPlainBody p Rigid a
    body_is scope (Pure e) t c k f = plain t k f
    body_is scope (Points at e x share) t c k f = (plain t.0 k.0 (lefts (mentioned e) (mentioned share) f), amount_is share (plain t.2 k.1 (rights (mentioned e) (mentioned share) f)) c)
    body_is scope (syntax.Instance at i es share) t c k f =
        let es_plain = all_plain t.0.2 k.0 (lefts (mentioned_in es) (mentioned share) f) in (
          es_plain,
          amount_is share (plain t.1 k.1 (rights (mentioned_in es) (mentioned share) f)) c,
          λ s vs r e. all_rigid s r t.0.2 (typed.predicates i t.0.0 t.0.1).parameters es_plain vs e,
        )
    body_is scope (Both a b) t c k f = (body_is scope a t.0 c.0 k.0 (lefts (entered_by a) (entered_by b) f), body_is scope b t.1 c.1 k.1 (rights (entered_by a) (entered_by b) f))
    body_is scope (Implied e a) t c k f = (plain t.0 k.0 (lefts (mentioned e) (entered_by a) f), body_is scope a t.1 c k.1 (rights (mentioned e) (entered_by a) f))
    body_is scope (Chosen e a b) t c k f =
        let first = lefts (mentioned e ++ entered_by a) (entered_by b) f in (
          plain t.0 k.0 (lefts (mentioned e) (entered_by a) first),
          body_is scope a t.1 c.0 k.1 (rights (mentioned e) (entered_by a) first),
          body_is scope b t.2 c.1 k.2 (rights (mentioned e ++ entered_by a) (entered_by b) f),
        )

    pub good_bodies : GoodBodies p
    good_bodies = record {
      plain = λ i d a is body. body_is d.parameters a (subst (IsTypedContent p d.parameters) body (typed.predicates i d is).body) (typed.bodies i d a is body) (typed.now i d a is body)
          (λ x h. none_of (function_named p x) (typed.apart.body i d x is (subst (λ b. Stands x (entered_by_body b)) (sym body) h)));
    }
