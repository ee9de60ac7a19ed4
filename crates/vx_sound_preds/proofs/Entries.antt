-- The entries of a typed body are of locations and of instances that can be held, and so are those of a precondition.
use Rattle.std.proofs.Common.{◌≡◌, ℕ, Bool, true, false, cond, List, [], ◌∷◌, ◌++◌, Option, Some, None, subst}
use Rattle.std.specs.Prelude.{option_and_then}
use Rattle.std.proofs.lemmas.Option.{same_Some}
use Rattle.vx_ast.specs.Syntax.{Name, Declaration, Program, Predicate, Function, predicate_named, function_named, Assertion, Pure, Points, Both, Implied, Chosen}
use Rattle.vx_ast.specs.Syntax as syntax
use Rattle.vx_meaning.specs.Values.{Value, IntValue, BoolValue, RefValue, PermValue, is_true}
use Rattle.vx_meaning.specs.States as run
use Rattle.vx_meaning.specs.States.{State, Heap, Holdings, At, Folded, bind}
use Rattle.vx_meaning.specs.Evaluate as plain
use Rattle.vx_meaning.specs.Evaluate.{Applications, value, values, applications}
use Rattle.vx_meaning.specs.Flatten.{no_applications, bare, entries, location_entry, instance_entry}
use Rattle.vx_types.specs.Typing.{HaveNoPerm, IsTyped, IsTypedFunction}
use Rattle.vx_sound.proofs.World.{IsTypedInstance}
use Rattle.vx_sound.proofs.Speaks.{SpeaksOf}
use Rattle.vx_sound_preds.specs.Bodies.{Rigid, IsPlainBody}
use Rattle.vx_sound_preds.specs.Asking.{asking_entries}
use Rattle.vx_sound_preds.proofs.Flats.{came}
use Rattle.vx_sound_preds.proofs.Types.{found_type, have_types}
use Rattle.vx_sound_preds.proofs.TypedValues as applied_values
use Rattle.vx_sound_preds.proofs.TypedValues.{applications_typed}
use Rattle.vx_sound_preds.proofs.Holding.{TypedAll}
use Rattle.vx_sound_preds.proofs.Asked.{AsksFor}

module _ (p : Program) (Held : Name → Type 0) (no_perm : (x : Name) (d : Predicate) → predicate_named p x ≡ Some d → HaveNoPerm d.parameters) where
  append_typed : (xs ys : Holdings) → TypedAll p Held xs → TypedAll p Held ys → TypedAll p Held (xs ++ ys)
  append_typed [] ys a b = b
  append_typed (x ∷ xs) ys a b = (a.0, append_typed xs ys a.1 b)

  chosen_typed : (v : Value) (first second : Option Holdings) (es : Holdings) → (first ≡ Some es → TypedAll p Held es) → (second ≡ Some es → TypedAll p Held es) → plain.choose v first second ≡ Some es → TypedAll p Held es
  chosen_typed (BoolValue true) first second es a b e = a e
  chosen_typed (BoolValue false) first second es a b e = b e
  chosen_typed (IntValue z) first second es a b e = cc
  chosen_typed (RefValue z) first second es a b e = cc
  chosen_typed (PermValue z) first second es a b e = cc

  empty_typed : (es : Holdings) → Some [] ≡ Some es → TypedAll p Held es
  empty_typed es e = subst (TypedAll p Held) (same_Some [] es e) tt

  truth_typed : (b : Bool) (es : Holdings) → cond b (Some []) None ≡ Some es → TypedAll p Held es
  truth_typed true es e = empty_typed es e
  truth_typed false es e = cc

  location_typed : (f : Name) (r v : Value) (es : Holdings) → location_entry f r v ≡ Some es → TypedAll p Held es
  location_typed f (RefValue r) (PermValue q) es e = subst (TypedAll p Held) (same_Some ((At record { receiver = r; field = f }, q) ∷ []) es e) (tt, tt)
  location_typed f (RefValue r) (IntValue q) es e = cc
  location_typed f (RefValue r) (BoolValue q) es e = cc
  location_typed f (RefValue r) (RefValue q) es e = cc
  location_typed f (IntValue r) v es e = cc
  location_typed f (BoolValue r) v es e = cc
  location_typed f (PermValue r) v es e = cc

  instance_typed : (i : Name) (vs : List Value) (v : Value) (es : Holdings) → IsTypedInstance p Held (record { predicate = i; arguments = vs }) → instance_entry i vs v ≡ Some es → TypedAll p Held es
  instance_typed i vs (PermValue q) es t e = subst (TypedAll p Held) (same_Some ((Folded record { predicate = i; arguments = vs }, q) ∷ []) es e) (t, tt)
  instance_typed i vs (IntValue q) es t e = cc
  instance_typed i vs (BoolValue q) es t e = cc
  instance_typed i vs (RefValue q) es t e = cc

  pub entries_typed : (ds : List Declaration) (vs : List Value) (tv : run.HaveTypes ds vs) (h : Heap) (a : Assertion) (es : Holdings) → IsTyped p ds a → IsPlainBody p Rigid a → SpeaksOf Held (λ f. ⊥) a → entries p (bare (bind ds vs) h) a ≡ Some es → TypedAll p Held es
  entries_typed ds vs tv h (Pure e) es t k sp eq =
      let y = came (value p no_applications (bare (bind ds vs) h) e) (λ v. cond (is_true v) (Some []) None) es eq in
      truth_typed (is_true y.it) es y.then
  entries_typed ds vs tv h (Points at e f share) es t k sp eq =
      let y = came (value p no_applications (bare (bind ds vs) h) e) (λ r. option_and_then (location_entry f r) (value p no_applications (bare (bind ds vs) h) share)) es eq in
      let z = came (value p no_applications (bare (bind ds vs) h) share) (location_entry f y.it) es y.then in
      location_typed f y.it z.it es z.then
  entries_typed ds vs tv h (syntax.Instance at i xs share) es t k sp eq =
      let y = came (values p no_applications (bare (bind ds vs) h) xs) (λ ws. option_and_then (instance_entry i ws) (value p no_applications (bare (bind ds vs) h) share)) es eq in
      let z = came (value p no_applications (bare (bind ds vs) h) share) (instance_entry i y.it) es y.then in
      instance_typed i y.it z.it es (sp.0, (t.0.0, t.0.1, no_perm i t.0.0 t.0.1, have_types p ds vs tv h t.0.2 k.0 y.it y.is)) z.then
  entries_typed ds vs tv h (Both a b) es t k sp eq =
      let y = came (entries p (bare (bind ds vs) h) a) (λ xs. option_and_then (λ ys. Some (xs ++ ys)) (entries p (bare (bind ds vs) h) b)) es eq in
      let z = came (entries p (bare (bind ds vs) h) b) (λ ys. Some (y.it ++ ys)) es y.then in
      subst (TypedAll p Held) (same_Some (y.it ++ z.it) es z.then) (append_typed y.it z.it (entries_typed ds vs tv h a y.it t.0 k.0 sp.0 y.is) (entries_typed ds vs tv h b z.it t.1 k.1 sp.1 z.is))
  entries_typed ds vs tv h (Implied c a) es t k sp eq =
      let y = came (value p no_applications (bare (bind ds vs) h) c) (λ v. plain.choose v (entries p (bare (bind ds vs) h) a) (Some [])) es eq in
      chosen_typed y.it (entries p (bare (bind ds vs) h) a) (Some []) es (entries_typed ds vs tv h a es t.1 k.1 sp.1) (empty_typed es) y.then
  entries_typed ds vs tv h (Chosen c a b) es t k sp eq =
      let y = came (value p no_applications (bare (bind ds vs) h) c) (λ v. plain.choose v (entries p (bare (bind ds vs) h) a) (entries p (bare (bind ds vs) h) b)) es eq in
      chosen_typed y.it (entries p (bare (bind ds vs) h) a) (entries p (bare (bind ds vs) h) b) es (entries_typed ds vs tv h a es t.1 k.1 sp.1) (entries_typed ds vs tv h b es t.2 k.2 sp.2) y.then

  -- of an assertion that may apply functions
  module _ (functions : (x : Name) (g : Function) → function_named p x ≡ Some g → IsTypedFunction p g) (ds : List Declaration) (vs : List Value) (tv : run.HaveTypes ds vs) (h : Heap) (n : ℕ) where
    abbrev here : State
    here = bare (bind ds vs) h

    abbrev ap' : Applications
    ap' = applications p n

    pub asking_typed : (a : Assertion) (es : Holdings) → IsTyped p ds a → AsksFor Held a → asking_entries p (applications p n) (bare (bind ds vs) h) a ≡ Some es → TypedAll p Held es
    asking_typed (Pure e) es t sp eq =
        let y = came (value p ap' here e) (λ v. cond (is_true v) (Some []) None) es eq in
        truth_typed (is_true y.it) es y.then
    asking_typed (Points at e f share) es t sp eq =
        let y = came (value p ap' here e) (λ r. option_and_then (location_entry f r) (value p no_applications here share)) es eq in
        let z = came (value p no_applications here share) (location_entry f y.it) es y.then in
        location_typed f y.it z.it es z.then
    asking_typed (syntax.Instance at i xs share) es t sp eq =
        let y = came (values p ap' here xs) (λ ws. option_and_then (instance_entry i ws) (value p no_applications here share)) es eq in
        let z = came (value p no_applications here share) (instance_entry i y.it) es y.then in
        let kinds = applied_values.have_types p functions n (applications_typed p functions n) here (λ x t v a b. found_type x t ds vs v tv a b) t.0.2 y.it y.is in
        instance_typed i y.it z.it es (sp, (t.0.0, t.0.1, no_perm i t.0.0 t.0.1, kinds)) z.then
    asking_typed (Both a b) es t sp eq =
        let y = came (asking_entries p ap' here a) (λ xs. option_and_then (λ ys. Some (xs ++ ys)) (asking_entries p ap' here b)) es eq in
        let z = came (asking_entries p ap' here b) (λ ys. Some (y.it ++ ys)) es y.then in
        subst (TypedAll p Held) (same_Some (y.it ++ z.it) es z.then) (append_typed y.it z.it (asking_typed a y.it t.0 sp.0 y.is) (asking_typed b z.it t.1 sp.1 z.is))
    asking_typed (Implied c a) es t sp eq =
        let y = came (value p ap' here c) (λ v. plain.choose v (asking_entries p ap' here a) (Some [])) es eq in
        chosen_typed y.it (asking_entries p ap' here a) (Some []) es (asking_typed a es t.1 sp) (empty_typed es) y.then
    asking_typed (Chosen c a b) es t sp eq =
        let y = came (value p ap' here c) (λ v. plain.choose v (asking_entries p ap' here a) (asking_entries p ap' here b)) es eq in
        chosen_typed y.it (asking_entries p ap' here a) (asking_entries p ap' here b) es (asking_typed a es t.1 sp.0) (asking_typed b es t.2 sp.1) y.then
