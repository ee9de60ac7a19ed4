-- What has a type has its values, where the variables have values of their types.
use Rattle.std.proofs.Common.{◌≡◌, ℤ, pos, negsuc, zero, suc, Bool, true, false, cond, List, [], ◌∷◌, Option, Some, None, refl, sym, ◌∙◌, ap, subst}
use Rattle.std.specs.Prelude.{option_and_then}
use Rattle.std.proofs.lemmas.Option.{same_Some}
use Rattle.vx_ast.specs.declared.ValueType.{ValueType}
use Rattle.vx_ast.specs.declared.ValueType.TheVariants.{Int}
use Rattle.vx_ast.specs.declared.ValueType.TheVariants as type
use Rattle.vx_ast.specs.Syntax.{Name, same_name, Declaration, Program, Connective, Division, Quotient, Remainder, Multiply, Expr, Exprs}
use Rattle.vx_types.specs.Typing.{type_in, HasType, number, truth, nulls, part, variable, nots, operates, scales, divides, connects, chooses, reads, olds, applies, unfoldings, HaveTypes, no_more, more}
use Rattle.vx_meaning.specs.Values.{Value, IntValue, BoolValue, RefValue, PermValue, type_of, negated, operated, divided, divided_ints, needs_right, without_right}
use Rattle.vx_meaning.specs.States as run
use Rattle.vx_meaning.specs.States.{State, Heap, lookup, bind, value_at}
use Rattle.vx_meaning.specs.Evaluate.{choose, connected, read, value, values}
use Rattle.vx_meaning.specs.Flatten.{no_applications, bare}
use Rattle.vx_terms.specs.Interpretations.{Interpretation, TreeElement, RefLeaf}
use Rattle.vx_elements.proofs.Values.{operated_is, value_typed, field_type_is, perm_value_is}
use Rattle.vx_sound_preds.specs.Bodies.{IsPlain, ArePlain}
use Rattle.vx_sound_preds.proofs.Flats.{came}

-- any interpretation in which null is a reference
unfoldable pub some_interpretation : Interpretation
some_interpretation = record { functions = λ f a es. TreeElement (RefLeaf 0); quotients = λ z. pos 0; remainders = λ z. pos 0 }

abbrev pub Of : ValueType → Option Value → Type 0
Of t None = Unit {0}
Of t (Some v) = type_of v ≡ t

pub of_is : (t : ValueType) (o : Option Value) (v : Value) → Of t o → o ≡ Some v → type_of v ≡ t
of_is t o v h e = subst (Of t) e h

pub negated_type : (v : Value) → Of type.Bool (negated v)
negated_type (BoolValue b) = refl
negated_type (IntValue b) = tt
negated_type (RefValue b) = tt
negated_type (PermValue b) = tt

divided_ints_type : (op : Division) (a b : ℤ) → Of Int (divided_ints op a b)
divided_ints_type op a (pos zero) = tt
divided_ints_type Quotient a (pos (suc n)) = refl
divided_ints_type Remainder a (pos (suc n)) = refl
divided_ints_type Quotient a (negsuc n) = refl
divided_ints_type Remainder a (negsuc n) = refl

pub divided_type : (op : Division) (v w : Value) → Of Int (divided op v w)
divided_type op (IntValue a) (IntValue b) = divided_ints_type op a b
divided_type op (IntValue a) (BoolValue b) = tt
divided_type op (IntValue a) (RefValue b) = tt
divided_type op (IntValue a) (PermValue b) = tt
divided_type op (BoolValue a) w = tt
divided_type op (RefValue a) w = tt
divided_type op (PermValue a) w = tt

pub connected_type : (c : Connective) (v : Value) (o : Option Value) (w : Value) → (o ≡ Some w → type_of w ≡ type.Bool) → connected c v o ≡ Some w → type_of w ≡ type.Bool
connected_type c (BoolValue a) o w h e = go (needs_right c a) e
  where
    go : (b : Bool) → cond b o (Some (BoolValue (without_right c))) ≡ Some w → type_of w ≡ type.Bool
    go true e = h e
    go false e = ap type_of (sym (same_Some (BoolValue (without_right c)) w e))
connected_type c (IntValue a) o w h e = cc
connected_type c (RefValue a) o w h e = cc
connected_type c (PermValue a) o w h e = cc

pub picked_type : (t : ValueType) (v : Value) (x y : Option Value) (w : Value) → (x ≡ Some w → type_of w ≡ t) → (y ≡ Some w → type_of w ≡ t) → choose v x y ≡ Some w → type_of w ≡ t
picked_type t (BoolValue true) x y w h k e = h e
picked_type t (BoolValue false) x y w h k e = k e
picked_type t (IntValue z) x y w h k e = cc
picked_type t (RefValue z) x y w h k e = cc
picked_type t (PermValue z) x y w h k e = cc

pub found_type : (x : Name) (t : ValueType) (ds : List Declaration) (vs : List Value) (v : Value) → run.HaveTypes ds vs → type_in x ds ≡ Some t → lookup x (bind ds vs) ≡ Some v → type_of v ≡ t
found_type x t [] vs v h e f = cc
found_type x t (d ∷ ds) [] v h e f = absurd h
found_type x t (d ∷ ds) (w ∷ vs) v h e f = go (same_name x d.name) e f (found_type x t ds vs v h.1)
  where
    types : (a b : ValueType) → Some a ≡ Some b → a ≡ b
    types a b e = cc

    go : (b : Bool) → cond b (Some d.of) (type_in x ds) ≡ Some t → cond b (Some w) (lookup x (bind ds vs)) ≡ Some v → (type_in x ds ≡ Some t → lookup x (bind ds vs) ≡ Some v → type_of v ≡ t) → type_of v ≡ t
    go true e f k = ap type_of (sym (same_Some w v f)) ∙ h.0 ∙ types d.of t e
    go false e f k = k e f

module _ (p : Program) (ds : List Declaration) (vs : List Value) (typed : run.HaveTypes ds vs) (h : Heap) where
  abbrev s : State
  s = bare (bind ds vs) h

  read_type : (f : Name) (t : ValueType) (r v : Value) → run.field_type p f ≡ t → read p (bare (bind ds vs) h) f r ≡ Some v → type_of v ≡ t
  read_type f t (RefValue r) v is e =
      let l : run.Location = record { receiver = r; field = f } in
      ap type_of (sym (same_Some (value_at p h l) v e)) ∙ value_typed p h l ∙ is
  read_type f t (IntValue r) v is e = cc
  read_type f t (BoolValue r) v is e = cc
  read_type f t (PermValue r) v is e = cc

  pub has_type : {e : Expr} {t : ValueType} → HasType p ds e t → IsPlain e → (v : Value) → value p no_applications s e ≡ Some v → type_of v ≡ t
  has_type (number at n) pl v e = ap type_of (sym (same_Some _ v e))
  has_type (truth) pl v e = ap type_of (sym (same_Some _ v e))
  has_type (nulls at) pl v e = ap type_of (sym (same_Some _ v e))
  has_type (part at n d l) pl v e = ap type_of (sym (same_Some _ v e))
  has_type (variable at x {t = t} is) pl v e = found_type x t ds vs v typed is e
  has_type (nots {e = a} k) pl v e =
      let x = came (value p no_applications s a) negated v e in
      of_is type.Bool (negated x.it) v (negated_type x.it) x.then
  has_type (operates {op = op} {a = a} {b = b} {t = t} o ka kb) pl v e =
      let x = came (value p no_applications s a) (λ v. option_and_then (λ w. operated op v w) (value p no_applications s b)) v e in
      let y = came (value p no_applications s b) (λ w. operated op x.it w) v x.then in
      let z = operated_is some_interpretation op x.it y.it t o (has_type ka pl.0 x.it x.is) (has_type kb pl.1 y.it y.is) in
      ap type_of (sym (same_Some z.result v (sym z.is ∙ y.then))) ∙ z.typed
  has_type (scales place n {b = b} kb) pl v e =
      let y = came (value p no_applications s b) (λ w. operated Multiply (IntValue (pos n)) w) v e in
      let q = perm_value_is y.it (has_type kb pl.1 y.it y.is) in
      ap type_of (sym (same_Some _ v (sym (ap (operated Multiply (IntValue (pos n))) q.1) ∙ y.then)))
  has_type (divides {op = op} {a = a} {b = b} ka kb) pl v e =
      let x = came (value p no_applications s a) (λ v. option_and_then (λ w. divided op v w) (value p no_applications s b)) v e in
      let y = came (value p no_applications s b) (λ w. divided op x.it w) v x.then in
      of_is Int (divided op x.it y.it) v (divided_type op x.it y.it) y.then
  has_type (connects {c = c} {a = a} {b = b} ka kb) pl v e =
      let x = came (value p no_applications s a) (λ v. connected c v (value p no_applications s b)) v e in
      connected_type c x.it (value p no_applications s b) v (has_type kb pl.1 v) x.then
  has_type (chooses {c = c} {a = a} {b = b} {t = t} kc ka kb) pl v e =
      let x = came (value p no_applications s c) (λ v. choose v (value p no_applications s a) (value p no_applications s b)) v e in
      picked_type t x.it (value p no_applications s a) (value p no_applications s b) v (has_type ka pl.1 v) (has_type kb pl.2 v) x.then
  has_type (reads {e = a} f {t = t} is k) pl v e =
      let x = came (value p no_applications s a) (read p s f) v e in
      read_type f t x.it v (field_type_is p f is) x.then
  has_type (olds k) pl v e = absurd pl
  has_type (applies g d is hs) pl v e = absurd pl
  has_type (unfoldings i d is hs hq k) pl v e = has_type k pl.2 v e

  pub have_types : {es : Exprs} {fs : List Declaration} → HaveTypes p ds es fs → ArePlain es → (ws : List Value) → values p no_applications s es ≡ Some ws → run.HaveTypes fs ws
  have_types {fs = fs} no_more pl ws e = subst (run.HaveTypes []) (same_Some [] ws e) tt
  have_types (more {e = a} {es = es} {d = d} {ds = fs} k ks) pl ws e =
      let x = came (value p no_applications s a) (λ v. option_and_then (λ vs. Some (v ∷ vs)) (values p no_applications s es)) ws e in
      let y = came (values p no_applications s es) (λ vs. Some (x.it ∷ vs)) ws x.then in
      subst (run.HaveTypes (d ∷ fs)) (same_Some (x.it ∷ y.it) ws y.then) (has_type k pl.0 x.it x.is, have_types ks pl.1 y.it y.is)
