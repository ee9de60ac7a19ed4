-- A statement is typed exactly where its first fault is none.
use Rattle.std.proofs.Common.{◌≡◌, ◌⊎◌, inl, inr, ◌++◌, ℕ, Bool, true, false, List, [], ◌∷◌, length, Option, Some, None, refl, sym, ap, ap₂, ◌∙◌, subst, Ok, arith, eq-eqb}
use Rattle.std.proofs.lemmas.Bool.{eqb-true}
use Rattle.std.specs.Prelude.{⊤, not, is_some, if◌then◌else◌}
use Rattle.vx_ast.specs.declared.Place.{Place}
use Rattle.vx_ast.specs.declared.ValueType.{ValueType}
use Rattle.vx_ast.specs.declared.ValueType.TheVariants as type
use Rattle.vx_ast.specs.Mentions.{is_among}
use Rattle.vx_ast.specs.Written as expr
use Rattle.vx_ast.specs.Written.{Name, Placed, placed, Expr, Call, Exprs, NoMore, More, Amount, Right, Value, NewAll, New, Stmt, Declare, Assign, Write, Invoke, Inhale, Exhale, Assert, Assume, Fold, Unfold, If, While, Other, NoElse, Else, Block, Done, Then}
use Rattle.vx_expressions.specs.declared.setting.Variable.{Variable}
use Rattle.vx_expressions.specs.Places.{place_of}
use Rattle.vx_statements.specs.declared.names.Role.TheVariants.{Local}
use Rattle.vx_expressions.specs.Scopes.{Scope, named}
use Rattle.vx_statements.specs.Roles.{with_variable}
use Rattle.vx_expressions.specs.Settings.{Table, Setting, Signature, IsField, IsPredicate, IsMethod, within_method}
use Rattle.vx_expressions.specs.Typing as typing
use Rattle.vx_expressions.specs.Typing.{HasType, HaveTypes}
use Rattle.vx_expressions.specs.Faults.{◌>>=◌, Twice, Arity, UnfoldAbstract, unless, expect, field_type, arguments_fit, instance_of, check, check_all, check_share, instance, read, assertion}
use Rattle.vx_statements.specs.Statements.{AreNew, IsTarget, AreTargets, AreAssertions, IsOpened, scope_after, AreFields, IsTypedCall, IsRight, AssignsCall, AssignsRight, IsTypedDeclaration, IsTypedStmt, IsTypedOther, IsTypedBlock}
use Rattle.vx_statements.specs.StatementFaults.{new_name, new_variable, assignable, target, targets, new_field, fields, targets_fit, method_of, as_many, called_with, is_method, truth, assertions, opened, call, right, assigned, assign, first_value, field_write, stmt, other, block}
use Rattle.vx_expressions.proofs.Passed.{ok_is, not_ok, bound, chosen, tested, expected, as_expected}
use Rattle.vx_expressions.proofs.Scopes.{not_known}
use Rattle.vx_expressions.proofs.AgreesTypes.{fit_to, fits, instance_to, instance_from, to_type, to_types, to_share, from_type, from_types, from_share}
use Rattle.vx_expressions.proofs.AgreesClaims.{to_assertion, passes}

-- ---- names
pub from_not : (b : Bool) → not b ≡ true → b ≡ false
from_not true e = cc
from_not false e = refl

pub new_to : (before : List Name) (x : Placed) (u : ⊤) → new_name before x ≡ Ok u → is_among x.name before ≡ false
new_to before x u h = from_not (is_among x.name before) (tested (not (is_among x.name before)) _ u h)

pub new_from : (before : List Name) (x : Placed) → is_among x.name before ≡ false → new_name before x ≡ Ok tt
new_from before x h = ap (λ b. unless (not b) (Twice x.place x.name)) h

pub variable_to : (scope : Scope) (x : Placed) (u : ⊤) → new_variable scope x ≡ Ok u → named scope x.name ≡ None
variable_to scope x u h = not_known (named scope x.name) _ u h

pub variable_from : (scope : Scope) (x : Placed) → named scope x.name ≡ None → new_variable scope x ≡ Ok tt
variable_from scope x h = ap (λ (o : Option Variable). unless (not (is_some o)) (Twice x.place x.name)) h

-- ---- targets
assignable_to : (x : Placed) (o : Option Variable) (t : ValueType) → assignable x o ≡ Ok t → o ≡ Some record { of = t; assignable = true }
assignable_to x None t h = not_ok h
assignable_to x (Some v) t h = let c = chosen v.assignable v.of t _ h in ap₂ (λ t b. Some record { of = t; assignable = b }) c.1 c.0

target_to : (scope : Scope) (before : List Name) (x : Placed) (t : ValueType) → target scope before x ≡ Ok t → IsTarget scope x.name t × (is_among x.name before ≡ false)
target_to scope before x t h =
    let y = bound (assignable x (named scope x.name)) _ t h in
    let z = bound (new_name before x) _ t y.2 in
    (subst (IsTarget scope x.name) (ok_is z.2) (assignable_to x (named scope x.name) y.0 y.1), new_to before x z.0 z.1)

target_from : (scope : Scope) (before : List Name) (x : Placed) (t : ValueType) → IsTarget scope x.name t → is_among x.name before ≡ false → target scope before x ≡ Ok t
target_from scope before x t h k =
    ap (λ r. r >>= λ t. new_name before x >>= λ u. Ok t) (ap (assignable x) h) ∙ ap (λ r. r >>= λ u. Ok t) (new_from before x k)

targets_to : (scope : Scope) (before : List Name) (xs : List Placed) (ts : List ValueType) → targets scope before xs ≡ Ok ts → AreTargets scope xs ts × AreNew before xs
targets_to scope before [] ts h = (subst (AreTargets scope []) (ok_is h) tt, tt)
targets_to scope before (x ∷ xs) ts h =
    let y = bound (target scope before x) _ ts h in
    let z = bound (targets scope (before ++ x.name ∷ []) xs) _ ts y.2 in
    let one = target_to scope before x y.0 y.1 in
    let rest = targets_to scope (before ++ x.name ∷ []) xs z.0 z.1 in
    (subst (AreTargets scope (x ∷ xs)) (ok_is z.2) (one.0, rest.0), (one.1, rest.1))

targets_from : (scope : Scope) (before : List Name) (xs : List Placed) (ts : List ValueType) → AreTargets scope xs ts → AreNew before xs → targets scope before xs ≡ Ok ts
targets_from scope before [] [] h k = refl
targets_from scope before [] (t ∷ ts) h k = absurd h
targets_from scope before (x ∷ xs) [] h k = absurd h
targets_from scope before (x ∷ xs) (t ∷ ts) h k =
    ap (λ r. r >>= λ t. targets scope (before ++ x.name ∷ []) xs >>= λ ts. Ok (t ∷ ts)) (target_from scope before x t h.0 k.0)
    ∙ ap (λ r. r >>= λ ts. Ok (t ∷ ts)) (targets_from scope (before ++ x.name ∷ []) xs ts h.1 k.1)

fit_targets : (at : Place) (ts us : List ValueType) (u : ⊤) → length ts ≡ length us → targets_fit at ts us ≡ Ok u → ts ≡ us
fit_targets at [] [] u l h = refl
fit_targets at [] (v ∷ us) u l h = absurd (omega arith)
fit_targets at (t ∷ ts) [] u l h = absurd (omega arith)
fit_targets at (t ∷ ts) (v ∷ us) u l h =
    let x = bound (expect at t v) _ u h in ap₂ (λ x xs. x ∷ xs) (sym (expected at t v x.0 x.1)) (fit_targets at ts us u (omega arith) x.2)

targets_fitted : (at : Place) (ts : List ValueType) → targets_fit at ts ts ≡ Ok tt
targets_fitted at [] = refl
targets_fitted at (t ∷ ts) = ap (λ r. r >>= λ u. targets_fit at ts ts) (as_expected at t) ∙ targets_fitted at ts

many_to : (at : Place) (n m : ℕ) (u : ⊤) → as_many at n m ≡ Ok u → m ≡ n
many_to at n m u h = eqb-true m n (tested _ _ u h)

many : (at : Place) (n : ℕ) → as_many at n n ≡ Ok tt
many at n = ap (λ b. unless b (Arity at n n)) (eq-eqb n n refl)

method_to : (m : Placed) (o : Option Signature) (c : List ValueType × List ValueType) → method_of m o ≡ Ok c → o ≡ Some (IsMethod c.0 c.1)
method_to m (Some (IsMethod ps rs)) c h = ap (λ c. Some (IsMethod c.0 c.1)) (ok_is h)
method_to m o c h = not_ok h

-- ---- conditions, assertions, instances
pub truth_to : (s : Setting) (e : Expr) (u : ⊤) → truth s e ≡ Ok u → HasType s e type.Bool
truth_to s e u h = let y = bound (check s e) _ u h in subst (HasType s e) (expected (place_of e) type.Bool y.0 u y.2) (to_type s e y.0 y.1)

pub truth_from : (s : Setting) {e : Expr} → HasType s e type.Bool → truth s e ≡ Ok tt
truth_from s {e = e} h = ap (λ r. r >>= λ t. expect (place_of e) type.Bool t) (from_type s h)

assertions_to : (s : Setting) (es : Exprs) (u : ⊤) → assertions s es ≡ Ok u → AreAssertions s es
assertions_to s NoMore u h = tt
assertions_to s (More e es) u h = let y = bound (assertion s e) _ u h in (to_assertion s e y.0 y.1, assertions_to s es u y.2)

assertions_from : (s : Setting) (es : Exprs) → AreAssertions s es → assertions s es ≡ Ok tt
assertions_from s NoMore h = refl
assertions_from s (More e es) h = ap (λ r. r >>= λ u. assertions s es) (passes s e h.0) ∙ assertions_from s es h.1

opened_to : (s : Setting) (i : Placed) (es : Exprs) (share : Amount) (u : ⊤) → opened s i es share ≡ Ok u → IsOpened s i es share
opened_to s i es share u h =
    let y = bound (instance s i.place i.name es) _ u h in
    let z = bound (check_all s es) _ y.0 y.1 in
    let k = to_types s es z.0 z.1 in
    let w = bound (check_share s share) _ u y.2 in
    let b = tested y.0 _ u w.2 in
    record {
      parameters = z.0;
      predicate = instance_to i.place i.name k (s.member i.name) y.0 z.2 ∙ ap (λ b. Some (IsPredicate z.0 b)) b;
      arguments = k;
      amount = to_share s share w.0 w.1;
    }

opened_from : (s : Setting) (i : Placed) (es : Exprs) (share : Amount) → IsOpened s i es share → opened s i es share ≡ Ok tt
opened_from s i es share h =
    let is : instance s i.place i.name es ≡ Ok true =
    ap (λ r. r >>= λ found. instance_of i.place i.name es found (s.member i.name)) (from_types s h.arguments) ∙ instance_from i.place i.name es h.predicate in
    ap (λ r. r >>= λ b. check_share s share >>= λ u. unless b (UnfoldAbstract i.place)) is ∙ ap (λ r. r >>= λ u. unless true (UnfoldAbstract i.place)) (from_share s h.amount)

module _ (table : Table) where
  -- ---- fields
  field_to : (before : List Name) (f : Placed) (o : Option Signature) (u : ⊤) → (field_type f o >>= λ t. new_name before f) ≡ Ok u → ((t : ValueType) × (o ≡ Some (IsField t))) × (is_among f.name before ≡ false)
  field_to before f (Some (IsField t)) u h = ((t, refl), new_to before f u h)
  field_to before f o u h = not_ok h

  fields_to : (before : List Name) (fs : List Placed) (u : ⊤) → fields table before fs ≡ Ok u → AreFields table fs × AreNew before fs
  fields_to before [] u h = (tt, tt)
  fields_to before (f ∷ fs) u h =
      let y = bound (new_field table before f) _ u h in
      let one = field_to before f (named table f.name) y.0 y.1 in
      let rest = fields_to (before ++ f.name ∷ []) fs u y.2 in
      ((one.0, rest.0), (one.1, rest.1))

  field_from : (before : List Name) (f : Placed) (t : ValueType) → named table f.name ≡ Some (IsField t) → is_among f.name before ≡ false → new_field table before f ≡ Ok tt
  field_from before f t h k = ap (λ o. field_type f o >>= λ t. new_name before f) h ∙ new_from before f k

  fields_from : (before : List Name) (fs : List Placed) → AreFields table fs → AreNew before fs → fields table before fs ≡ Ok tt
  fields_from before [] h k = refl
  fields_from before (f ∷ fs) h k =
      ap (λ r. r >>= λ u. fields table (before ++ f.name ∷ []) fs) (field_from before f h.0.0 h.0.1 k.0) ∙ fields_from (before ++ f.name ∷ []) fs h.1 k.1

  -- ---- calls
  call_to : (scope : Scope) (xs : List Placed) (m : Placed) (es : Exprs) (u : ⊤) → call table scope xs m es ≡ Ok u → IsTypedCall table scope xs m.name es
  call_to scope xs m es u h =
      let here = within_method table scope in
      let y = bound (targets scope [] xs) _ u h in
      let z = bound (method_of m (named table m.name)) _ u y.2 in
      let w = bound (check_all here es) _ u z.2 in
      let k = to_types here es w.0 w.1 in
      let a = bound (as_many m.place (length z.0.0) (length w.0)) _ u w.2 in
      let b = bound (as_many m.place (length z.0.1) (length y.0)) _ u a.2 in
      let c = bound (arguments_fit es w.0 z.0.0) _ u b.2 in
      let given = fit_to k z.0.0 c.0 (many_to m.place (length z.0.0) (length w.0) a.0 a.1) c.1 in
      let set = fit_targets m.place y.0 z.0.1 u (many_to m.place (length z.0.1) (length y.0) b.0 b.1) c.2 in
      let t = targets_to scope [] xs y.0 y.1 in
      record {
        parameters = z.0.0;
        returns = z.0.1;
        method = method_to m (named table m.name) z.0 z.1;
        arguments = subst (HaveTypes here es) given k;
        targets = subst (AreTargets scope xs) set t.0;
        new = t.1;
      }

  called_from : (at : Place) (es : Exprs) (ps rs : List ValueType) → called_with at es rs ps ps rs ≡ Ok tt
  called_from at es ps rs =
      ap (λ r. r >>= λ u. as_many at (length rs) (length rs) >>= λ u. arguments_fit es ps ps >>= λ u. targets_fit at rs rs) (many at (length ps))
      ∙ ap (λ r. r >>= λ u. arguments_fit es ps ps >>= λ u. targets_fit at rs rs) (many at (length rs))
      ∙ ap (λ r. r >>= λ u. targets_fit at rs rs) (fits es ps) ∙ targets_fitted at rs

  call_from : (scope : Scope) (xs : List Placed) (m : Placed) (es : Exprs) → IsTypedCall table scope xs m.name es → call table scope xs m es ≡ Ok tt
  call_from scope xs m es h =
      let here = within_method table scope in
      ap (λ r. r >>= λ ts. method_of m (named table m.name) >>= λ c. check_all here es >>= λ found. called_with m.place es ts found c.0 c.1) (targets_from scope [] xs h.returns h.targets h.new)
      ∙ ap (λ o. method_of m o >>= λ c. check_all here es >>= λ found. called_with m.place es h.returns found c.0 c.1) h.method
      ∙ ap (λ r. r >>= λ found. called_with m.place es h.returns found h.parameters h.returns) (from_types here h.arguments)
      ∙ called_from m.place es h.parameters h.returns

  -- ---- what is assigned
  right_to : (scope : Scope) (t : ValueType) (r : Right) (u : ⊤) → right table scope t r ≡ Ok u → IsRight table scope t r
  right_to scope t (Value e) u h =
      let y = bound (check (within_method table scope) e) _ u h in
      subst (HasType (within_method table scope) e) (expected (place_of e) t y.0 u y.2) (to_type (within_method table scope) e y.0 y.1)
  right_to scope t (NewAll at) u h = sym (expected at t type.Ref u h)
  right_to scope t (New at fs) u h =
      let y = bound (fields table [] fs) _ u h in
      let f = fields_to [] fs y.0 y.1 in
      (f.0, f.1, sym (expected at t type.Ref u y.2))

  right_from : (scope : Scope) (t : ValueType) (r : Right) → IsRight table scope t r → right table scope t r ≡ Ok tt
  right_from scope t (Value e) h = ap (λ r. r >>= λ u. expect (place_of e) t u) (from_type (within_method table scope) h) ∙ as_expected (place_of e) t
  right_from scope t (NewAll at) h = ap (λ t. expect at t type.Ref) h
  right_from scope t (New at fs) h = ap (λ r. r >>= λ u. expect at t type.Ref) (fields_from [] fs h.0 h.1) ∙ ap (λ t. expect at t type.Ref) h.2

  assigned_to : (scope : Scope) (x : Placed) (r : Right) (u : ⊤) → assigned table scope x r ≡ Ok u → AssignsRight table scope x r
  assigned_to scope x r u h =
      let y = bound (assignable x (named scope x.name)) _ u h in
      (y.0, assignable_to x (named scope x.name) y.0 y.1, right_to scope y.0 r u y.2)

  assigned_from : (scope : Scope) (x : Placed) (r : Right) → AssignsRight table scope x r → assigned table scope x r ≡ Ok tt
  assigned_from scope x r h = ap (λ o. assignable x o >>= λ t. right table scope t r) h.1 ∙ right_from scope h.0 r h.2

  call_or_value : (scope : Scope) (x : Placed) (at : Place) (m : Name) (es : Exprs) (u : ⊤) (b : Bool) →
      (if b then call table scope (x ∷ []) (placed at m) es else assigned table scope x (Value (Call at m es))) ≡ Ok u → AssignsRight table scope x (Value (Call at m es)) ⊎ AssignsCall table scope x (Value (Call at m es))
  call_or_value scope x at m es u true h = inr (call_to scope (x ∷ []) (placed at m) es u h)
  call_or_value scope x at m es u false h = inl (assigned_to scope x (Value (Call at m es)) u h)

  assign_to : (scope : Scope) (x : Placed) (r : Right) (u : ⊤) → assign table scope x r ≡ Ok u → AssignsRight table scope x r ⊎ AssignsCall table scope x r
  assign_to scope x (Value (Call at m es)) u h = call_or_value scope x at m es u (is_method (named table m)) h
  assign_to scope x r u h = inl (assigned_to scope x r u h)

  -- what has a type is no call of a method
  no_method : (scope : Scope) (at : Place) (m : Name) (es : Exprs) (t : ValueType) → HasType (within_method table scope) (Call at m es) t → is_method (named table m) ≡ false
  no_method scope _ _ es t (typing.applies at m is a k) = ap is_method is

  assign_value : (scope : Scope) (x : Placed) (r : Right) → AssignsRight table scope x r → assign table scope x r ≡ Ok tt
  assign_value scope x (Value (Call at m es)) h =
      ap (λ b. if b then call table scope (x ∷ []) (placed at m) es else assigned table scope x (Value (Call at m es))) (no_method scope at m es h.0 h.2)
      ∙ assigned_from scope x (Value (Call at m es)) h
  assign_value scope x r h = assigned_from scope x r h

  assign_call : (scope : Scope) (x : Placed) (r : Right) → AssignsCall table scope x r → assign table scope x r ≡ Ok tt
  assign_call scope x (Value (Call at m es)) h =
      ap (λ b. if b then call table scope (x ∷ []) (placed at m) es else assigned table scope x (Value (Call at m es))) (ap is_method h.method)
      ∙ call_from scope (x ∷ []) (placed at m) es h
  assign_call scope x r h = absurd h

  assign_from : (scope : Scope) (x : Placed) (r : Right) → AssignsRight table scope x r ⊎ AssignsCall table scope x r → assign table scope x r ≡ Ok tt
  assign_from scope x r (inl h) = assign_value scope x r h
  assign_from scope x r (inr h) = assign_call scope x r h

  first_to : (scope : Scope) (t : ValueType) (r : Option Right) (u : ⊤) → first_value table scope t r ≡ Ok u → IsTypedDeclaration table scope t r
  first_to scope t None u h = tt
  first_to scope t (Some r) u h = right_to scope t r u h

  first_from : (scope : Scope) (t : ValueType) (r : Option Right) → IsTypedDeclaration table scope t r → first_value table scope t r ≡ Ok tt
  first_from scope t None h = refl
  first_from scope t (Some r) h = right_from scope t r h

  write_to : (scope : Scope) (at : Place) (e : Expr) (f : Placed) (e' : Expr) (u : ⊤) → field_write table scope e f e' ≡ Ok u → IsTypedStmt table scope (Write at e f e')
  write_to scope at e f e' u h =
      let here = within_method table scope in
      let y = bound (read here e f) _ u h in
      let z = bound (check here e') _ u y.2 in
      (y.0, to_type here (expr.Read at e f) y.0 y.1, subst (HasType here e') (expected (place_of e') y.0 z.0 u z.2) (to_type here e' z.0 z.1))

  write_from : (scope : Scope) (at : Place) (e : Expr) (f : Placed) (e' : Expr) → IsTypedStmt table scope (Write at e f e') → field_write table scope e f e' ≡ Ok tt
  write_from scope at e f e' h =
      let here = within_method table scope in
      ap (λ r. r >>= λ t. check here e' >>= λ u. expect (place_of e') t u) (from_type here h.1) ∙ ap (λ r. r >>= λ u. expect (place_of e') h.0 u) (from_type here h.2)
      ∙ as_expected (place_of e') h.0

  mutual
    pub to_stmt : (scope : Scope) (st : Stmt) (u : ⊤) → stmt table scope st ≡ Ok u → IsTypedStmt table scope st
    to_stmt scope (Declare at d r) u h =
        let y = bound (new_variable scope d.name) _ u h in (variable_to scope d.name y.0 y.1, first_to (with_variable Local d scope) d.of r u y.2)
    to_stmt scope (Assign at x r) u h = assign_to scope x r u h
    to_stmt scope (Write at e f e') u h = write_to scope at e f e' u h
    to_stmt scope (Invoke at xs m es) u h = call_to scope xs m es u h
    to_stmt scope (Inhale at e) u h = to_assertion (within_method table scope) e u h
    to_stmt scope (Exhale at e) u h = to_assertion (within_method table scope) e u h
    to_stmt scope (Assert at e) u h = to_assertion (within_method table scope) e u h
    to_stmt scope (Assume at e) u h = truth_to (within_method table scope) e u h
    to_stmt scope (Fold at i es share) u h = opened_to (within_method table scope) i es share u h
    to_stmt scope (Unfold at i es share) u h = opened_to (within_method table scope) i es share u h
    to_stmt scope (If at c a b) u h =
        let y = bound (truth (within_method table scope) c) _ u h in
        let z = bound (block table scope a) _ u y.2 in
        (truth_to (within_method table scope) c y.0 y.1, to_block scope a z.0 z.1, to_other scope b u z.2)
    to_stmt scope (While at c is b) u h =
        let y = bound (truth (within_method table scope) c) _ u h in
        let z = bound (assertions (within_method table scope) is) _ u y.2 in
        (truth_to (within_method table scope) c y.0 y.1, assertions_to (within_method table scope) is z.0 z.1, to_block scope b u z.2)

    to_other : (scope : Scope) (b : Other) (u : ⊤) → other table scope b ≡ Ok u → IsTypedOther table scope b
    to_other scope NoElse u h = tt
    to_other scope (Else b) u h = to_block scope b u h

    pub to_block : (scope : Scope) (b : Block) (u : ⊤) → block table scope b ≡ Ok u → IsTypedBlock table scope b
    to_block scope Done u h = tt
    to_block scope (Then st b) u h = let y = bound (stmt table scope st) _ u h in (to_stmt scope st y.0 y.1, to_block (scope_after st scope) b u y.2)

  mutual
    pub from_stmt : (scope : Scope) (st : Stmt) → IsTypedStmt table scope st → stmt table scope st ≡ Ok tt
    from_stmt scope (Declare at d r) h =
        ap (λ x. x >>= λ u. first_value table (with_variable Local d scope) d.of r) (variable_from scope d.name h.0) ∙ first_from (with_variable Local d scope) d.of r h.1
    from_stmt scope (Assign at x r) h = assign_from scope x r h
    from_stmt scope (Write at e f e') h = write_from scope at e f e' h
    from_stmt scope (Invoke at xs m es) h = call_from scope xs m es h
    from_stmt scope (Inhale at e) h = passes (within_method table scope) e h
    from_stmt scope (Exhale at e) h = passes (within_method table scope) e h
    from_stmt scope (Assert at e) h = passes (within_method table scope) e h
    from_stmt scope (Assume at e) h = truth_from (within_method table scope) h
    from_stmt scope (Fold at i es share) h = opened_from (within_method table scope) i es share h
    from_stmt scope (Unfold at i es share) h = opened_from (within_method table scope) i es share h
    from_stmt scope (If at c a b) h =
        ap (λ r. r >>= λ u. block table scope a >>= λ u. other table scope b) (truth_from (within_method table scope) h.0)
        ∙ ap (λ r. r >>= λ u. other table scope b) (from_block scope a h.1) ∙ from_other scope b h.2
    from_stmt scope (While at c is b) h =
        ap (λ r. r >>= λ u. assertions (within_method table scope) is >>= λ u. block table scope b) (truth_from (within_method table scope) h.0)
        ∙ ap (λ r. r >>= λ u. block table scope b) (assertions_from (within_method table scope) is h.1) ∙ from_block scope b h.2

    from_other : (scope : Scope) (b : Other) → IsTypedOther table scope b → other table scope b ≡ Ok tt
    from_other scope NoElse h = refl
    from_other scope (Else b) h = from_block scope b h

    pub from_block : (scope : Scope) (b : Block) → IsTypedBlock table scope b → block table scope b ≡ Ok tt
    from_block scope Done h = refl
    from_block scope (Then st b) h = ap (λ r. r >>= λ u. block table (scope_after st scope) b) (from_stmt scope st h.0) ∙ from_block (scope_after st scope) b h.1
