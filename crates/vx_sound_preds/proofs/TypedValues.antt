-- In a typed program what has a type has its values, also where functions are applied; so an application has a value of its
-- function's type.
use Rattle.std.proofs.Common.{◌≡◌, ℕ, zero, suc, pos, List, [], ◌∷◌, Option, Some, None, sym, ◌∙◌, ap, subst}
use Rattle.std.specs.Prelude.{option_and_then}
use Rattle.std.proofs.lemmas.Option.{same_Some}
use Rattle.vx_ast.specs.declared.ValueType.{ValueType}
use Rattle.vx_ast.specs.declared.ValueType.TheVariants.{Int}
use Rattle.vx_ast.specs.declared.ValueType.TheVariants as type
use Rattle.vx_ast.specs.Syntax.{Name, Declaration, Program, Function, function_named, Multiply, Expr, Exprs}
use Rattle.vx_types.specs.Typing.{Scope, type_in, HasType, number, truth, nulls, part, variable, nots, operates, scales, divides, connects, chooses, reads, olds, applies, unfoldings, HaveTypes, no_more, more, IsTypedFunction}
use Rattle.vx_meaning.specs.Values.{Value, IntValue, BoolValue, RefValue, PermValue, type_of, negated, operated, divided}
use Rattle.vx_meaning.specs.States as run
use Rattle.vx_meaning.specs.States.{State, Store, lookup, bind, value_at, with_store, at_old}
use Rattle.vx_meaning.specs.Evaluate.{choose, connected, read, applications, value, values}
use Rattle.vx_elements.proofs.Values.{operated_is, value_typed, field_type_is, perm_value_is}
use Rattle.vx_sound_preds.proofs.Flats.{came}
use Rattle.vx_sound_preds.proofs.Types.{some_interpretation, of_is, negated_type, divided_type, connected_type, picked_type, found_type}

-- the variables of a scope have values of their types
abbrev pub AreTyped : Scope → Store → Type 0
AreTyped ds xs = (x : Name) (t : ValueType) (v : Value) → type_in x ds ≡ Some t → lookup x xs ≡ Some v → type_of v ≡ t

same_function : (d g : Function) → Some d ≡ Some g → d ≡ g
same_function d g e = cc

module _ (p : Program) (typed : (f : Name) (g : Function) → function_named p f ≡ Some g → IsTypedFunction p g) where
  read_type : (s : State) (f : Name) (t : ValueType) (r v : Value) → run.field_type p f ≡ t → read p s f r ≡ Some v → type_of v ≡ t
  read_type s f t (RefValue r) v is e =
      let l : run.Location = record { receiver = r; field = f } in
      ap type_of (sym (same_Some (value_at p s.heap l) v e)) ∙ value_typed p s.heap l ∙ is
  read_type s f t (IntValue r) v is e = cc
  read_type s f t (BoolValue r) v is e = cc
  read_type s f t (PermValue r) v is e = cc

  -- of applications, by n
  abbrev ApplicationsTyped : ℕ → Type 0
  ApplicationsTyped n = (f : Name) (g : Function) (vs : List Value) (s : State) (v : Value) → function_named p f ≡ Some g → run.HaveTypes g.parameters vs → applications p n f vs s ≡ Some v → type_of v ≡ g.of

  module _ (n : ℕ) (below : ApplicationsTyped n) where
    abbrev At : State → Expr → Option Value
    At s e = value p (applications p n) s e

    mutual
      pub has_type : (s : State) {ds : Scope} → AreTyped ds s.store → {e : Expr} {t : ValueType} → HasType p ds e t → (v : Value) → value p (applications p n) s e ≡ Some v → type_of v ≡ t
      has_type s k (number at n) v e = ap type_of (sym (same_Some _ v e))
      has_type s k (truth) v e = ap type_of (sym (same_Some _ v e))
      has_type s k (nulls at) v e = ap type_of (sym (same_Some _ v e))
      has_type s k (part at n d l) v e = ap type_of (sym (same_Some _ v e))
      has_type s k (variable at x {t = t} is) v e = k x t v is e
      has_type s k (nots {e = a} h) v e =
          let x = came (At s a) negated v e in
          of_is type.Bool (negated x.it) v (negated_type x.it) x.then
      has_type s k (operates {op = op} {a = a} {b = b} {t = t} o ka kb) v e =
          let x = came (At s a) (λ v. option_and_then (λ w. operated op v w) (At s b)) v e in
          let y = came (At s b) (λ w. operated op x.it w) v x.then in
          let z = operated_is some_interpretation op x.it y.it t o (has_type s k ka x.it x.is) (has_type s k kb y.it y.is) in
          ap type_of (sym (same_Some z.result v (sym z.is ∙ y.then))) ∙ z.typed
      has_type s k (scales place n {b = b} kb) v e =
          let y = came (At s b) (λ w. operated Multiply (IntValue (pos n)) w) v e in
          let q = perm_value_is y.it (has_type s k kb y.it y.is) in
          ap type_of (sym (same_Some _ v (sym (ap (operated Multiply (IntValue (pos n))) q.1) ∙ y.then)))
      has_type s k (divides {op = op} {a = a} {b = b} ka kb) v e =
          let x = came (At s a) (λ v. option_and_then (λ w. divided op v w) (At s b)) v e in
          let y = came (At s b) (λ w. divided op x.it w) v x.then in
          of_is Int (divided op x.it y.it) v (divided_type op x.it y.it) y.then
      has_type s k (connects {c = c} {a = a} {b = b} ka kb) v e =
          let x = came (At s a) (λ v. connected c v (At s b)) v e in
          connected_type c x.it (At s b) v (has_type s k kb v) x.then
      has_type s k (chooses {c = c} {a = a} {b = b} {t = t} kc ka kb) v e =
          let x = came (At s c) (λ v. choose v (At s a) (At s b)) v e in
          picked_type t x.it (At s a) (At s b) v (has_type s k ka v) (has_type s k kb v) x.then
      has_type s k (reads {e = a} f {t = t} is h) v e =
          let x = came (At s a) (read p s f) v e in
          read_type s f t x.it v (field_type_is p f is) x.then
      has_type s k (olds h) v e = has_type (at_old s) k h v e
      has_type s k (applies f {es = es} g is hs) v e =
          let x = came (values p (applications p n) s es) (λ vs. applications p n f vs s) v e in
          below f g x.it s v is (have_types s k hs x.it x.is) x.then
      has_type s k (unfoldings i d is hs hq h) v e = has_type s k h v e

      pub have_types : (s : State) {ds : Scope} → AreTyped ds s.store → {es : Exprs} {fs : List Declaration} → HaveTypes p ds es fs → (ws : List Value) → values p (applications p n) s es ≡ Some ws → run.HaveTypes fs ws
      have_types s k no_more ws e = subst (run.HaveTypes []) (same_Some [] ws e) tt
      have_types s k (more {e = a} {es = es} {d = d} {ds = fs} h hs) ws e =
          let x = came (At s a) (λ v. option_and_then (λ vs. Some (v ∷ vs)) (values p (applications p n) s es)) ws e in
          let y = came (values p (applications p n) s es) (λ vs. Some (x.it ∷ vs)) ws x.then in
          subst (run.HaveTypes (d ∷ fs)) (same_Some (x.it ∷ y.it) ws y.then) (has_type s k h x.it x.is, have_types s k hs y.it y.is)

  pub applications_typed : (n : ℕ) → ApplicationsTyped n
  applications_typed zero f g vs s v is types e = nothing e
    where
      nothing : None ≡ Some v → type_of v ≡ g.of
      nothing e = cc
  applications_typed (suc n) f g vs s v is types e =
      let d = came (function_named p f) (λ d. value p (applications p n) (with_store (bind d.parameters vs) s) d.body) v e in
      let same = same_function d.it g (sym d.is ∙ is) in
      let at = subst (λ (d : Function). value p (applications p n) (with_store (bind d.parameters vs) s) d.body ≡ Some v) same d.then in
      has_type n (applications_typed n) (with_store (bind g.parameters vs) s) (λ x t w a b. found_type x t g.parameters vs w types a b) (typed f g is).body v at
