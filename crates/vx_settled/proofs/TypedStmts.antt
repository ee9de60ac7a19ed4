-- A statement that is typed as it is written is typed when it is settled.
use Rattle.std.proofs.Common.{◌≡◌, ◌∙◌, inl, inr, ◌++◌, Bool, true, false, List, [], ◌∷◌, Some, None, map, option_map, refl, sym, ap, subst}
use Rattle.std.specs.Prelude.{if◌then◌else◌}
use Rattle.std.proofs.lemmas.List.{map-append}
use Rattle.vx_ast.specs.declared.Place.{Place}
use Rattle.vx_ast.specs.declared.ValueType.{ValueType}
use Rattle.vx_ast.specs.declared.ValueType.TheVariants as type
use Rattle.vx_ast.specs.Written as written
use Rattle.vx_ast.specs.Written.{Name, Placed}
use Rattle.vx_ast.specs.Resolve as resolve
use Rattle.vx_ast.specs.Resolve.{Names, expression, expressions, names_in, assign}
use Rattle.vx_ast.specs.Syntax as Syntax
use Rattle.vx_ast.specs.Syntax.{same_name, Declaration, Program}
use Rattle.vx_statements.specs.declared.names.Role.{Role}
use Rattle.vx_statements.specs.declared.names.Role.TheVariants.{Local}
use Rattle.vx_expressions.specs.declared.setting.Variable.{Variable}
use Rattle.vx_expressions.specs.Scopes as scopes
use Rattle.vx_expressions.specs.Scopes.{named}
use Rattle.vx_statements.specs.Roles.{with_variable, with_variables}
use Rattle.vx_expressions.specs.Settings.{Table, Setting, within_method}
use Rattle.vx_typing.specs.Members.{AreDeclared}
use Rattle.vx_expressions.specs.Typing as typing
use Rattle.vx_statements.specs.Statements as typing'
use Rattle.vx_statements.specs.Statements.{IsTarget, AreTargets, IsOpened, IsTypedCall, IsRight, AssignsCall}
use Rattle.vx_types.specs.Typing.{Scope, type_in, AreOnce, HasType, TargetsHaveTypes, AreFields, scope_after, IsTypedStmt, IsTypedBlock}
use Rattle.vx_settled.proofs.TypedNames.{Knows, types, same_refl, differs_back, new_distinct}
use Rattle.vx_settled.proofs.TypedExprs.{Sees, typed, all_typed, share_typed}
use Rattle.vx_settled.proofs.TypedClaims.{claim, claims}

-- ---- scopes
abbrev pub settled : scopes.Scope → Scope
settled scope = map (λ e. record { name = e.0; of = e.1.of }) scope

pub same_types : (scope : scopes.Scope) (x : Name) → type_in x (settled scope) ≡ scopes.type_in scope x
same_types [] x = refl
same_types (e ∷ es) x = go (same_name x e.0) (same_types es x)
  where
    go : (b : Bool) → type_in x (settled es) ≡ scopes.type_in es x → (if b then Some e.1.of else type_in x (settled es)) ≡ option_map (λ v. v.of) (if b then Some e.1 else named es x)
    go true h = refl
    go false h = h

pub one_more : (role : Role) (d : written.Declaration) (scope : scopes.Scope) → settled (with_variable role d scope) ≡ settled scope ++ record { name = d.name.name; of = d.of } ∷ []
one_more role d scope = map-append (λ (e : Name × Variable). let r : Declaration = record { name = e.0; of = e.1.of } in r) scope _

target : (scope : scopes.Scope) (x : Name) (t : ValueType) → IsTarget scope x t → type_in x (settled scope) ≡ Some t
target scope x t h = same_types scope x ∙ ap (option_map (λ (v : Variable). v.of)) h

pub new : (scope : scopes.Scope) (x : Name) → named scope x ≡ None → type_in x (settled scope) ≡ None
new scope x h = same_types scope x ∙ ap (option_map (λ (v : Variable). v.of)) h

-- a further variable with a name of its own
once_more : (scope : Scope) (d : Declaration) → AreOnce scope → type_in d.name scope ≡ None → AreOnce (scope ++ d ∷ [])
once_more [] d once e = (refl, tt)
once_more (c ∷ cs) d once e = go (same_name d.name c.name) refl e (once_more cs d once.1)
  where
    still : (x : Name) (cs : Scope) → type_in x cs ≡ None → same_name x d.name ≡ false → type_in x (cs ++ d ∷ []) ≡ None
    still x [] e f = ap (λ (b : Bool). if b then Some d.of else None) f
    still x (b ∷ bs) e f = other (same_name x b.name) e (still x bs)
      where
        other : (q : Bool) → (if q then Some b.of else type_in x bs) ≡ None → (type_in x bs ≡ None → same_name x d.name ≡ false → type_in x (bs ++ d ∷ []) ≡ None) → (if q then Some b.of else type_in x (bs ++ d ∷ [])) ≡ None
        other true e next = (cc)
        other false e next = next e f

    go : (q : Bool) → same_name d.name c.name ≡ q → (if q then Some c.of else type_in d.name cs) ≡ None → (type_in d.name cs ≡ None → AreOnce (cs ++ d ∷ [])) → AreOnce (c ∷ (cs ++ d ∷ []))
    go true f e next = (cc)
    go false f e next = (still c.name cs once.0 (differs_back d.name c.name f), next e)

pub declared_once : (role : Role) (ds : List written.Declaration) (scope : scopes.Scope) → AreOnce (settled scope) → AreDeclared role scope ds → AreOnce (settled (with_variables role ds scope))
declared_once role [] scope once h = once
declared_once role (d ∷ ds) scope once h =
    declared_once role ds (with_variable role d scope)
    (subst AreOnce (sym (one_more role d scope)) (once_more (settled scope) record { name = d.name.name; of = d.of } once (new scope d.name.name h.0))) h.2

-- the variable that was declared last
last_named : (x : Name) (v : Variable) (scope : scopes.Scope) → named scope x ≡ None → named (scope ++ (x, v) ∷ []) x ≡ Some v
last_named x v [] h = ap (λ (b : Bool). if b then Some v else None) (same_refl x)
last_named x v (e ∷ es) h = go (same_name x e.0) h (last_named x v es)
  where
    go : (b : Bool) → (if b then Some e.1 else named es x) ≡ None → (named es x ≡ None → named (es ++ (x, v) ∷ []) x ≡ Some v) → (if b then Some e.1 else named (es ++ (x, v) ∷ []) x) ≡ Some v
    go true h k = (cc)
    go false h k = k h

declared : (scope : scopes.Scope) (d : written.Declaration) → named scope d.name.name ≡ None → IsTarget (with_variable Local d scope) d.name.name d.of
declared scope d h = last_named d.name.name record { of = d.of; assignable = true } scope h

module _ (table : Table) (names : Names) (p : Program) (knows : Knows (named table) names p) where
  pub sees : (scope : scopes.Scope) → Sees (within_method table scope) (settled scope) names p
  sees scope = record { variables = λ x t h. same_types scope x ∙ h; outcome = λ t h. cc; members = knows }

  targets : (scope : scopes.Scope) (xs : List Placed) (ts : List ValueType) (ds : List Declaration) → types ds ≡ ts → AreTargets scope xs ts → TargetsHaveTypes p (settled scope) (names_in names xs) ds
  targets scope [] [] [] e h = tt
  targets scope [] [] (d ∷ ds) e h = (cc)
  targets scope [] (t ∷ ts) ds e h = absurd h
  targets scope (x ∷ xs) [] ds e h = absurd h
  targets scope (x ∷ xs) (t ∷ ts) [] e h = (cc)
  targets scope (x ∷ xs) (t ∷ ts) (d ∷ ds) e h =
      let first : d.of ≡ t = cc in
      let rest : types ds ≡ ts = cc in
      (target scope x.name t h.0 ∙ ap Some (sym first), targets scope xs ts ds rest h.1)

  called : (scope : scopes.Scope) (at : Place) (xs : List Placed) (m : Name) (es : written.Exprs) → IsTypedCall table scope xs m es
      → IsTypedStmt p (settled scope) (Syntax.Call at (names_in names xs) m (expressions es))
  called scope at xs m es h =
      let c = knows.method m h.parameters h.returns h.method in
      (c.0, c.1, all_typed (within_method table scope) (settled scope) names p (sees scope) h.arguments c.0.parameters c.2, targets scope xs h.returns c.0.returns c.3 h.targets)

  listed : (fs : List Placed) → typing'.AreFields table fs → AreFields p (names_in names fs)
  listed [] h = tt
  listed (f ∷ fs) h = ((h.0.0, knows.field f.name h.0.0 h.0.1), listed fs h.1)

  -- ---- assignments
  -- a value is assigned, and no call is made
  assigns_value : (s : Setting) (scope : Scope) (sees : Sees s scope names p) (at : Place) (x : Name) {e : written.Expr} {t : ValueType} → typing.HasType s e t
      → assign names at x (written.Value e) ≡ Syntax.Assign at x (expression e)
  assigns_value s scope sees at x (typing.number p n) = refl
  assigns_value s scope sees at x (typing.truth p b) = refl
  assigns_value s scope sees at x (typing.nulls p) = refl
  assigns_value s scope sees at x (typing.whole p) = refl
  assigns_value s scope sees at x (typing.nothing p) = refl
  assigns_value s scope sees at x (typing.result p m) = refl
  assigns_value s scope sees at x (typing.variable p y m) = refl
  assigns_value s scope sees at x (typing.applies q f {es = es} {ts = ts} {t = t} m a h) =
      ap (λ (b : Bool). if b then Syntax.Call at (x ∷ []) f (expressions es) else Syntax.Assign at x (expression (written.Call q f es))) (sees.members.no_method f ts t m)
  assigns_value s scope sees at x (typing.reads p f h m) = refl
  assigns_value s scope sees at x (typing.nots p h) = refl
  assigns_value s scope sees at x (typing.negates p h) = refl
  assigns_value s scope sees at x (typing.operates p o h k) = refl
  assigns_value s scope sees at x (typing.scales p q n h) = refl
  assigns_value s scope sees at x (typing.fraction p q r n d l) = refl
  assigns_value s scope sees at x (typing.chooses p g h k) = refl
  assigns_value s scope sees at x (typing.olds p h o) = refl
  assigns_value s scope sees at x (typing.unfoldings p i m h k g) = refl

  right : (scope : scopes.Scope) (at : Place) (x : Placed) (t : ValueType) (r : written.Right) → IsTarget scope x.name t → IsRight table scope t r
      → IsTypedStmt p (settled scope) (assign names at x.name r)
  right scope at x t (written.Value e) h k =
      subst (IsTypedStmt p (settled scope)) (sym (assigns_value (within_method table scope) (settled scope) (sees scope) at x.name k))
      (t, target scope x.name t h, typed (within_method table scope) (settled scope) names p (sees scope) k)
  right scope at x t (written.NewAll place) h k = (target scope x.name t h ∙ ap Some k, knows.fields, knows.distinct)
  right scope at x t (written.New place fs) h k = (target scope x.name t h ∙ ap Some k.2, listed fs k.0, new_distinct [] fs k.1)

  into : (scope : scopes.Scope) (at : Place) (x : Placed) (r : written.Right) → AssignsCall table scope x r → IsTypedStmt p (settled scope) (assign names at x.name r)
  into scope at x (written.Value (written.Call q m es)) h =
      subst (λ (b : Bool). IsTypedStmt p (settled scope) (if b then Syntax.Call at (x.name ∷ []) m (expressions es) else Syntax.Assign at x.name (expression (written.Call q m es))))
      (sym (knows.is_method m h.parameters h.returns h.method)) (called scope at (x ∷ []) m es h)
  into scope at x r h = absurd h

  -- it declares nothing
  call_after : (at : Place) (x m : Name) (es : Syntax.Exprs) (e : Syntax.Expr) (scope : Scope) (b : Bool)
      → scope_after p (if b then Syntax.Call at (x ∷ []) m es else Syntax.Assign at x e) scope ≡ scope
  call_after at x m es e scope true = refl
  call_after at x m es e scope false = refl

  assign_after : (at : Place) (x : Name) (r : written.Right) (scope : Scope) → scope_after p (assign names at x r) scope ≡ scope
  assign_after at x (written.Value (written.Call q m es)) scope = call_after at x m (expressions es) (expression (written.Call q m es)) scope (names.is_method m)
  assign_after at x (written.NewAll place) scope = refl
  assign_after at x (written.New place fs) scope = refl
  assign_after at x r scope = refl

  -- an assignment before others
  assigned_then : (scope : Scope) (at : Place) (x : Name) (r : written.Right) (rest : Syntax.Block) → IsTypedStmt p scope (assign names at x r) → IsTypedBlock p scope rest
      → IsTypedBlock p scope (Syntax.Then (assign names at x r) rest)
  assigned_then scope at x r rest h k = (h, subst (λ scope. IsTypedBlock p scope rest) (sym (assign_after at x r scope)) k)

  -- ---- statements
  opened : (scope : scopes.Scope) (at : Place) (i : Placed) (es : written.Exprs) (share : written.Amount) → IsOpened (within_method table scope) i es share
      → IsTypedStmt p (settled scope) (Syntax.Fold at i.name (expressions es) (resolve.amount at share))
  opened scope at i es share h =
      let d = knows.predicate i.name h.parameters true h.predicate in
      ((d.0, d.1, all_typed (within_method table scope) (settled scope) names p (sees scope) h.arguments d.0.parameters d.2), share_typed (within_method table scope) (settled scope) names p (sees scope) at h.amount)

  module _ (scope : scopes.Scope) where
    value : {e : written.Expr} {t : ValueType} → typing.HasType (within_method table scope) e t → HasType p (settled scope) (expression e) t
    value h = typed (within_method table scope) (settled scope) names p (sees scope) h

    location_of : {at : Place} {e : written.Expr} {f : Placed} {t : ValueType} → typing.HasType (within_method table scope) (written.Read at e f) t
        → (Syntax.field_named p f.name ≡ Some t) × HasType p (settled scope) (expression e) type.Ref
    location_of (typing.reads at f {t = t} h m) = (knows.field f.name t m, value h)

  mutual
    -- a statement before others
    pub statement : (scope : scopes.Scope) (st : written.Stmt) (rest : Syntax.Block) → typing'.IsTypedStmt table scope st → IsTypedBlock p (settled (typing'.scope_after st scope)) rest
        → IsTypedBlock p (settled scope) (resolve.statement names st rest)
    statement scope (written.Declare at d None) rest h k = (new scope d.name.name h.0, subst (λ scope. IsTypedBlock p scope rest) (one_more Local d scope) k)
    statement scope (written.Declare at d (Some r)) rest h k =
        let after = with_variable Local d scope in (
          new scope d.name.name h.0,
          subst (λ scope. IsTypedBlock p scope (Syntax.Then (assign names at d.name.name r) rest)) (one_more Local d scope)
              (assigned_then (settled after) at d.name.name r rest (right after at d.name d.of r (declared scope d h.0) h.1) k),
        )
    statement scope (written.Assign at x r) rest (inl h) k = assigned_then (settled scope) at x.name r rest (right scope at x h.0 r h.1 h.2) k
    statement scope (written.Assign at x r) rest (inr h) k = assigned_then (settled scope) at x.name r rest (into scope at x r h) k
    statement scope (written.Write at e f e') rest h k = let l = location_of scope h.1 in ((h.0, l.0, l.1, value scope h.2), k)
    statement scope (written.Invoke at xs m es) rest h k = (called scope at xs m.name es h, k)
    statement scope (written.Inhale at e) rest h k = (claim (within_method table scope) (settled scope) names p (sees scope) h, k)
    statement scope (written.Exhale at e) rest h k = (claim (within_method table scope) (settled scope) names p (sees scope) h, k)
    statement scope (written.Assert at e) rest h k = (claim (within_method table scope) (settled scope) names p (sees scope) h, k)
    statement scope (written.Assume at e) rest h k = (value scope h, k)
    statement scope (written.Fold at i es share) rest h k = (opened scope at i es share h, k)
    statement scope (written.Unfold at i es share) rest h k = (opened scope at i es share h, k)
    statement scope (written.If at c a b) rest h k = ((value scope h.0, block scope a h.1, other scope b h.2), k)
    statement scope (written.While at c is b) rest h k =
        ((value scope h.0, claims (within_method table scope) (settled scope) names p (sees scope) is h.1, block scope b h.2), k)

    other : (scope : scopes.Scope) (b : written.Other) → typing'.IsTypedOther table scope b → IsTypedBlock p (settled scope) (resolve.other_side names b)
    other scope written.NoElse h = tt
    other scope (written.Else b) h = block scope b h

    pub block : (scope : scopes.Scope) (b : written.Block) → typing'.IsTypedBlock table scope b → IsTypedBlock p (settled scope) (resolve.block names b)
    block scope written.Done h = tt
    block scope (written.Then st b) h = statement scope st (resolve.block names b) h.0 (block (typing'.scope_after st scope) b h.1)
