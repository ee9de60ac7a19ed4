-- A program that is typed as it is written is typed as a whole when it is settled.
use Rattle.std.proofs.Common.{◌≡◌, ◌∙◌, inl, inr, ◌++◌, ◌||◌, ℕ, zero, suc, Bool, true, false, List, [], ◌∷◌, Option, Some, None, map, slice_get, refl, sym, ap, subst}
use Rattle.std.specs.Prelude.{⊤, if◌then◌else◌}
use Rattle.vx_ast.specs.declared.Place.{Place}
use Rattle.vx_ast.specs.declared.ValueType.{ValueType}
use Rattle.vx_ast.specs.declared.ValueType.TheVariants as type
use Rattle.vx_ast.specs.Mentions.{is_among}
use Rattle.vx_ast.specs.Written as written
use Rattle.vx_ast.specs.Written.{Name}
use Rattle.vx_ast.specs.Resolve as resolve
use Rattle.vx_ast.specs.Resolve.{Names, assertion, expression, expressions, names_of}
use Rattle.vx_ast.specs.Syntax.{same_name, result_name, Assertion, Program, Member, ByNumber, ByInstance, Kind, IsField, IsPredicate, IsFunction, IsMethod, Predicate, Function, Method, member_named, predicate_in, function_in, method_in, predicate_named}
use Rattle.vx_terms.specs.Interpretations.{Each}
use Rattle.vx_statements.specs.declared.names.Role.TheVariants.{Input}
use Rattle.vx_expressions.specs.Scopes as scopes
use Rattle.vx_expressions.specs.Scopes.{named}
use Rattle.vx_statements.specs.Roles.{takes, with_variable, with_variables}
use Rattle.vx_expressions.specs.Settings.{Table, plainly, before_function, after_function, within_measure, within_predicate}
use Rattle.vx_expressions.specs.Typing as typing
use Rattle.vx_statements.specs.Statements.{AreNew}
use Rattle.vx_typing.specs.Members as members
use Rattle.vx_typing.specs.Members.{table_of, AreDeclared, LeaveResult, AreTypedClauses, IsMeasure, AreTypedMembers, IsTypedKind}
use Rattle.vx_types.specs.Typing as settled_typing
use Rattle.vx_types.specs.Typing.{Scope, type_in, AreOnce, HaveNoPerm, HasType, AllTyped, AreTruths, IsTypedContent, IsTypedMeasure, IsTypedPredicate, IsTypedFunction, IsTypedMethod}
use Rattle.vx_types.specs.Now.{IsOfNow, AreOfNow, SaysNow, IsMeasuredNow, SpeaksOfNow}
use Rattle.vx_types.specs.Premises.{HasConstantAmounts}
use Rattle.vx_settled.specs.WhenSettled.{TypedProgramWhenSettled}
use Rattle.vx_settled.proofs.TypedNames.{Knows, knows, same_refl, differs_back, Absent, absent, among_last}
use Rattle.vx_settled.proofs.TypedExprs.{Sees, typed, all_typed}
use Rattle.vx_settled.proofs.TypedClaims.{claim}
use Rattle.vx_settled.proofs.ConstantAmounts.{claim_amounts}
use Rattle.vx_settled.proofs.SaidNow.{now, all_now, claim_now}
use Rattle.vx_settled.proofs.TypedStmts.{settled, same_types, declared_once}
use Rattle.vx_settled.proofs.TypedMembers.{all_more, method}
use Rattle.vx_settled.proofs.KeptApart.{kept_apart}

-- ---- scopes

no_perms : (names : Names) (ds : List written.Declaration) (scope : scopes.Scope) → AreDeclared Input scope ds → HaveNoPerm (map (resolve.declaration names) ds)
no_perms names [] scope h = tt
no_perms names (d ∷ ds) scope h = (λ e. not_taken (subst (λ t. takes Input t ≡ true) e h.1), no_perms names ds (with_variable Input d scope) h.2)
  where
    not_taken : false ≡ true → ⊥
    not_taken e = (cc)

longer : (x : Name) (scope more : Scope) (t : ValueType) → type_in x scope ≡ Some t → type_in x (scope ++ more) ≡ Some t
longer x [] more t h = (cc)
longer x (d ∷ ds) more t h = go (same_name x d.name) h (longer x ds more t)
  where
    go : (b : Bool) → (if b then Some d.of else type_in x ds) ≡ Some t → (type_in x ds ≡ Some t → type_in x (ds ++ more) ≡ Some t) → (if b then Some d.of else type_in x (ds ++ more)) ≡ Some t
    go true h k = h
    go false h k = k h

-- a name that is none of the parameters'
is_last : (names : Names) (x : Name) (t : ValueType) (ds : List written.Declaration) → is_among x (map (λ (d : written.Declaration). d.name.name) ds) ≡ false →
    type_in x (map (resolve.declaration names) ds ++ record { name = x; of = t } ∷ []) ≡ Some t
is_last names x t [] h = ap (λ (b : Bool). if b then Some t else None) (same_refl x)
is_last names x t (d ∷ ds) h = go (same_name x d.name.name) h (is_last names x t ds)
  where
    go : (b : Bool) → (b || is_among x (map (λ (d : written.Declaration). d.name.name) ds)) ≡ false →
        (is_among x (map (λ (d : written.Declaration). d.name.name) ds) ≡ false → type_in x (map (resolve.declaration names) ds ++ record { name = x; of = t } ∷ []) ≡ Some t) →
        (if b then Some d.of else type_in x (map (resolve.declaration names) ds ++ record { name = x; of = t } ∷ [])) ≡ Some t
    go true h k = (cc)
    go false h k = k h

same_type : (t u : ValueType) → Some t ≡ Some u → u ≡ t
same_type t u e = (cc)

same_assertion : (a b : Assertion) → Some a ≡ Some b → a ≡ b
same_assertion a b e = (cc)

same_function : (a b : Function) → IsFunction a ≡ IsFunction b → a ≡ b
same_function a b e = (cc)

module _ (table : Table) (names : Names) (p : Program) (knows : Knows (named table) names p) where
  abbrev parameters : List written.Declaration → Scope
  parameters ds = map (resolve.declaration names) ds

  abbrev inputs : List written.Declaration → scopes.Scope
  inputs ds = with_variables Input ds []

  inputs_settled : (ds : List written.Declaration) → settled (inputs ds) ≡ parameters ds
  inputs_settled ds = all_more names Input ds []

  inputs_once : (ds : List written.Declaration) → AreDeclared Input [] ds → AreOnce (parameters ds)
  inputs_once ds h = subst AreOnce (inputs_settled ds) (declared_once Input ds [] tt h)

  known : (ds : List written.Declaration) (x : Name) (t : ValueType) → scopes.type_in (inputs ds) x ≡ Some t → type_in x (parameters ds) ≡ Some t
  known ds x t h = subst (λ (s : Scope). type_in x s ≡ Some t) (inputs_settled ds) (same_types (inputs ds) x ∙ h)

  -- ---- predicates

  predicate_sees : (ds : List written.Declaration) → Sees (within_predicate table (inputs ds)) (parameters ds) names p
  predicate_sees ds = record { variables = known ds; outcome = λ t h. (cc); members = knows }

  content : (ds : List written.Declaration) (body : Option written.Expr) → members.IsTypedBody table (inputs ds) body → IsTypedContent p (parameters ds) (resolve.optional_assertion names body)
  content ds None h = tt
  content ds (Some e) h = claim (within_predicate table (inputs ds)) (parameters ds) names p (predicate_sees ds) h

  predicate : (at : Place) (d : written.Predicate) → members.IsTypedPredicate table d → IsTypedPredicate p record { place = at; parameters = parameters d.parameters; body = resolve.optional_assertion names d.body }
  predicate at d h = record { names = inputs_once d.parameters h.parameters; parameters = no_perms names d.parameters [] h.parameters; body = content d.parameters d.body h.body }

  -- its amounts are known
  content_amounts : (ds : List written.Declaration) (body : Option written.Expr) → members.IsTypedBody table (inputs ds) body → (a : Assertion) → resolve.optional_assertion names body ≡ Some a → HasConstantAmounts a
  content_amounts ds None h a is = (cc)
  content_amounts ds (Some e) h a is = subst HasConstantAmounts (same_assertion (assertion names e) a is) (claim_amounts (within_predicate table (inputs ds)) (parameters ds) names p (predicate_sees ds) refl h)

  -- and it has no `old`
  content_now : (ds : List written.Declaration) (body : Option written.Expr) → members.IsTypedBody table (inputs ds) body → (a : Assertion) → resolve.optional_assertion names body ≡ Some a → SaysNow a
  content_now ds None h a is = (cc)
  content_now ds (Some e) h a is = subst SaysNow (same_assertion (assertion names e) a is) (claim_now (within_predicate table (inputs ds)) refl names h)

  -- ---- functions

  before_sees : (ds : List written.Declaration) → Sees (before_function table (inputs ds)) (parameters ds) names p
  before_sees ds = record { variables = known ds; outcome = λ t h. (cc); members = knows }

  measure_sees : (ds : List written.Declaration) → Sees (within_measure table (inputs ds)) (parameters ds) names p
  measure_sees ds = record { variables = known ds; outcome = λ t h. (cc); members = knows }

  plainly_sees : (ds : List written.Declaration) → Sees (plainly table (inputs ds)) (parameters ds) names p
  plainly_sees ds = record { variables = known ds; outcome = λ t h. (cc); members = knows }

  abbrev with_result : List written.Declaration → ValueType → Scope
  with_result ds of = parameters ds ++ record { name = result_name; of = of } ∷ []

  after_sees : (ds : List written.Declaration) (of : ValueType) → LeaveResult ds → Sees (after_function table (inputs ds) of) (with_result ds of) names p
  after_sees ds of away = record {
    variables = λ x t h. longer x (parameters ds) (record { name = result_name; of = of } ∷ []) t (known ds x t h);
    outcome = λ t h. subst (λ u. type_in result_name (with_result ds of) ≡ Some u) (sym (same_type of t h)) (is_last names result_name of ds away);
    members = knows;
  }

  required : (ds : List written.Declaration) (of : ValueType) (cs : List written.Clause) → AreTypedClauses table (inputs ds) of cs → AllTyped p (parameters ds) (map (assertion names) (written.requires_of cs))
  required ds of [] h = tt
  required ds of (written.Requires e ∷ cs) h = (claim (before_function table (inputs ds)) (parameters ds) names p (before_sees ds) h.0, required ds of cs h.1)
  required ds of (written.Ensures e ∷ cs) h = required ds of cs h.1
  required ds of (written.Decreases e ∷ cs) h = required ds of cs h.1

  required_amounts : (ds : List written.Declaration) (of : ValueType) (cs : List written.Clause) → AreTypedClauses table (inputs ds) of cs → Each HasConstantAmounts (map (assertion names) (written.requires_of cs))
  required_amounts ds of [] h = tt
  required_amounts ds of (written.Requires e ∷ cs) h = (claim_amounts (before_function table (inputs ds)) (parameters ds) names p (before_sees ds) refl h.0, required_amounts ds of cs h.1)
  required_amounts ds of (written.Ensures e ∷ cs) h = required_amounts ds of cs h.1
  required_amounts ds of (written.Decreases e ∷ cs) h = required_amounts ds of cs h.1

  ensured : (ds : List written.Declaration) (of : ValueType) (away : LeaveResult ds) (cs : List written.Clause) → AreTypedClauses table (inputs ds) of cs →
      AreTruths p (with_result ds of) (map expression (written.ensures_of cs))
  ensured ds of away [] h = tt
  ensured ds of away (written.Requires e ∷ cs) h = ensured ds of away cs h.1
  ensured ds of away (written.Ensures e ∷ cs) h = (typed (after_function table (inputs ds) of) (with_result ds of) names p (after_sees ds of away) h.0, ensured ds of away cs h.1)
  ensured ds of away (written.Decreases e ∷ cs) h = ensured ds of away cs h.1

  -- a measure by an instance, or by a number
  by_number : (ds : List written.Declaration) {e : written.Expr} → typing.HasType (within_measure table (inputs ds)) e type.Int → HasType p (parameters ds) (expression e) type.Int
  by_number ds h = typed (within_measure table (inputs ds)) (parameters ds) names p (measure_sees ds) h

  applied : (ds : List written.Declaration) {at : Place} {i : Name} {es : written.Exprs} → typing.HasType (within_measure table (inputs ds)) (written.Call at i es) type.Int → names.is_predicate i ≡ false
  applied ds (typing.applies at i {ts = ts} {t = t} m a h) = knows.no_predicate i ts t m

  instanced : (ds : List written.Declaration) {at : Place} {i : Name} {es : written.Exprs} → typing.IsPermission (within_measure table (inputs ds)) (written.Call at i es) →
      (names.is_predicate i ≡ true) × (d : Predicate) × (predicate_named p i ≡ Some d) × settled_typing.HaveTypes p (parameters ds) (expressions es) d.parameters
  instanced ds (typing.instance at i {ts = ts} {has_body = b} m h) =
      let d = knows.predicate i ts b m in
      (knows.is_predicate i ts b m, d.0, d.1, all_typed (within_measure table (inputs ds)) (parameters ds) names p (measure_sees ds) h d.0.parameters d.2)

  measured : (ds : List written.Declaration) (e : written.Expr) → IsMeasure (within_measure table (inputs ds)) e → IsTypedMeasure p (parameters ds) (Some (resolve.measure names e))
  measured ds (written.Call at i es) (inl h) =
      subst (λ (b : Bool). IsTypedMeasure p (parameters ds) (Some (if b then ByInstance at i (expressions es) else ByNumber (expression (written.Call at i es))))) (sym (applied ds h)) (by_number ds h)
  measured ds (written.Call at i es) (inr h) =
      let k = instanced ds h in
      subst (λ (b : Bool). IsTypedMeasure p (parameters ds) (Some (if b then ByInstance at i (expressions es) else ByNumber (expression (written.Call at i es))))) (sym k.0) (k.1, k.2, k.3)
  measured ds (written.Number at n) h = by_number ds h
  measured ds (written.Truth at b) h = by_number ds h
  measured ds (written.Null at) h = by_number ds h
  measured ds (written.Whole at) h = by_number ds h
  measured ds (written.Nothing at) h = by_number ds h
  measured ds (written.Result at) h = by_number ds h
  measured ds (written.Variable at x) h = by_number ds h
  measured ds (written.Read at e f) h = by_number ds h
  measured ds (written.Unary at o e) h = by_number ds h
  measured ds (written.Binary at o a b) h = by_number ds h
  measured ds (written.Choice at c a b) h = by_number ds h
  measured ds (written.Old at e) h = by_number ds h
  measured ds (written.Access at e share) h = by_number ds h
  measured ds (written.Unfolding at i es share e) h = by_number ds h

  decreasing : (ds : List written.Declaration) (of : ValueType) (cs : List written.Clause) → AreTypedClauses table (inputs ds) of cs → IsTypedMeasure p (parameters ds) (resolve.optional_measure names (written.measure_of cs))
  decreasing ds of [] h = tt
  decreasing ds of (written.Requires e ∷ cs) h = decreasing ds of cs h.1
  decreasing ds of (written.Ensures e ∷ cs) h = decreasing ds of cs h.1
  decreasing ds of (written.Decreases e ∷ cs) h = measured ds e h.0

  function : (at : Place) (f : written.Function) → members.IsTypedFunction table f → (g : Function) → IsFunction g ≡ resolve.kind names at (written.IsFunction f) → IsTypedFunction p g
  function at f h g is = subst (IsTypedFunction p) (sym (same_function _ _ is)) record {
    names = inputs_once f.parameters h.parameters;
    parameters = no_perms names f.parameters [] h.parameters;
    requires = required f.parameters f.of f.clauses h.clauses;
    ensures = ensured f.parameters f.of h.result f.clauses h.clauses;
    measure = decreasing f.parameters f.of f.clauses h.clauses;
    body = typed (plainly table (inputs f.parameters)) (parameters f.parameters) names p (plainly_sees f.parameters) h.body;
  }

  -- and none of its parts has an `old`
  required_now : (ds : List written.Declaration) (of : ValueType) (cs : List written.Clause) → AreTypedClauses table (inputs ds) of cs → Each SaysNow (map (assertion names) (written.requires_of cs))
  required_now ds of [] h = tt
  required_now ds of (written.Requires e ∷ cs) h = (claim_now (before_function table (inputs ds)) refl names h.0, required_now ds of cs h.1)
  required_now ds of (written.Ensures e ∷ cs) h = required_now ds of cs h.1
  required_now ds of (written.Decreases e ∷ cs) h = required_now ds of cs h.1

  ensured_now : (ds : List written.Declaration) (of : ValueType) (cs : List written.Clause) → AreTypedClauses table (inputs ds) of cs → Each IsOfNow (map expression (written.ensures_of cs))
  ensured_now ds of [] h = tt
  ensured_now ds of (written.Requires e ∷ cs) h = ensured_now ds of cs h.1
  ensured_now ds of (written.Ensures e ∷ cs) h = (now (after_function table (inputs ds) of) refl h.0, ensured_now ds of cs h.1)
  ensured_now ds of (written.Decreases e ∷ cs) h = ensured_now ds of cs h.1

  number_now : (ds : List written.Declaration) {e : written.Expr} → typing.HasType (within_measure table (inputs ds)) e type.Int → IsOfNow (expression e)
  number_now ds h = now (within_measure table (inputs ds)) refl h

  arguments_now : (ds : List written.Declaration) {at : Place} {i : Name} {es : written.Exprs} → IsMeasure (within_measure table (inputs ds)) (written.Call at i es) → AreOfNow (expressions es)
  arguments_now ds (inl (typing.applies at i m a h)) = all_now (within_measure table (inputs ds)) refl h
  arguments_now ds (inr (typing.instance at i m h)) = all_now (within_measure table (inputs ds)) refl h

  measured_now : (ds : List written.Declaration) (e : written.Expr) → IsMeasure (within_measure table (inputs ds)) e → IsMeasuredNow (Some (resolve.measure names e))
  measured_now ds (written.Call at i es) h = go (names.is_predicate i)
    where
      go : (b : Bool) → IsMeasuredNow (Some (if b then ByInstance at i (expressions es) else ByNumber (expression (written.Call at i es))))
      go true = arguments_now ds h
      go false = arguments_now ds h
  measured_now ds (written.Number at n) h = number_now ds h
  measured_now ds (written.Truth at b) h = number_now ds h
  measured_now ds (written.Null at) h = number_now ds h
  measured_now ds (written.Whole at) h = number_now ds h
  measured_now ds (written.Nothing at) h = number_now ds h
  measured_now ds (written.Result at) h = number_now ds h
  measured_now ds (written.Variable at x) h = number_now ds h
  measured_now ds (written.Read at e f) h = number_now ds h
  measured_now ds (written.Unary at o e) h = number_now ds h
  measured_now ds (written.Binary at o a b) h = number_now ds h
  measured_now ds (written.Choice at c a b) h = number_now ds h
  measured_now ds (written.Old at e) h = number_now ds h
  measured_now ds (written.Access at e share) h = number_now ds h
  measured_now ds (written.Unfolding at i es share e) h = number_now ds h

  decreasing_now : (ds : List written.Declaration) (of : ValueType) (cs : List written.Clause) → AreTypedClauses table (inputs ds) of cs → IsMeasuredNow (resolve.optional_measure names (written.measure_of cs))
  decreasing_now ds of [] h = tt
  decreasing_now ds of (written.Requires e ∷ cs) h = decreasing_now ds of cs h.1
  decreasing_now ds of (written.Ensures e ∷ cs) h = decreasing_now ds of cs h.1
  decreasing_now ds of (written.Decreases e ∷ cs) h = measured_now ds e h.0

  function_now : (at : Place) (f : written.Function) → members.IsTypedFunction table f → (g : Function) → IsFunction g ≡ resolve.kind names at (written.IsFunction f) → SpeaksOfNow g
  function_now at f h g is = subst SpeaksOfNow (sym (same_function _ _ is)) record {
    requires = required_now f.parameters f.of f.clauses h.clauses;
    ensures = ensured_now f.parameters f.of f.clauses h.clauses;
    measure = decreasing_now f.parameters f.of f.clauses h.clauses;
    body = now (plainly table (inputs f.parameters)) refl h.body;
  }

  -- ---- members by name

  abbrev TypedKind : Kind → Type 0
  TypedKind (IsField t) = ⊤
  TypedKind (IsPredicate d) = IsTypedPredicate p d × ((a : Assertion) → d.body ≡ Some a → HasConstantAmounts a) × ((a : Assertion) → d.body ≡ Some a → SaysNow a)
  TypedKind (IsFunction g) = IsTypedFunction p g × Each HasConstantAmounts g.requires × SpeaksOfNow g
  TypedKind (IsMethod m) = IsTypedMethod p m

  kind : (at : Place) (k : written.Kind) → IsTypedKind table k → TypedKind (resolve.kind names at k)
  kind at (written.IsField t) h = tt
  kind at (written.IsPredicate d) h = (predicate at d h, content_amounts d.parameters d.body h.body, content_now d.parameters d.body h.body)
  kind at (written.IsFunction f) h = (function at f h _ refl, required_amounts f.parameters f.of f.clauses h.clauses, function_now at f h _ refl)
  kind at (written.IsMethod m) h = method table names p knows (written.IsMethod m) at _ h refl

  same_kind : (a b : Kind) → Some a ≡ Some b → a ≡ b
  same_kind a b e = (cc)

  named_typed : (ms : List written.Member) → AreTypedMembers table ms → (x : Name) (k : Kind) → member_named (map (resolve.member names) ms) x ≡ Some k → TypedKind k
  named_typed [] h x k e = (cc)
  named_typed (w ∷ ms) h x k e = go (same_name x w.name.name) e (named_typed ms h.1 x k)
    where
      go : (b : Bool) → elim b as (λ c. Option Kind) [ true ↦ Some (resolve.kind names w.place w.kind) | false ↦ member_named (map (resolve.member names) ms) x ] ≡ Some k →
          (member_named (map (resolve.member names) ms) x ≡ Some k → TypedKind k) → TypedKind k
      go true e next = subst TypedKind (same_kind _ k e) (kind w.place w.kind h.0)
      go false e next = next e

-- ---- each member is found by its name

pub found_later : (names : Names) (x : Name) (ms : List written.Member) → Absent x ms → (n : ℕ) (m : Member) → slice_get (map (resolve.member names) ms) n ≡ Some m → same_name m.name x ≡ false
found_later names x [] away n m at = (cc)
found_later names x (w ∷ ms) away zero m at = subst (λ (y : Member). same_name y.name x ≡ false) (same_member (resolve.member names w) m at) (differs_back x w.name.name away.0)
  where
    same_member : (a b : Member) → Some a ≡ Some b → a ≡ b
    same_member a b e = (cc)
found_later names x (w ∷ ms) away (suc n) m at = found_later names x ms away.1 n m at

found_by_name : (names : Names) (before : List Name) (ms : List written.Member) → AreNew before (map (λ m. m.name) ms) → (n : ℕ) (m : Member) → slice_get (map (resolve.member names) ms) n ≡ Some m →
    member_named (map (resolve.member names) ms) m.name ≡ Some m.kind
found_by_name names before [] new n m at = (cc)
found_by_name names before (w ∷ ms) new zero m at = subst (λ (y : Member). member_named (map (resolve.member names) (w ∷ ms)) y.name ≡ Some y.kind) (same_member (resolve.member names w) m at) here
  where
    same_member : (a b : Member) → Some a ≡ Some b → a ≡ b
    same_member a b e = (cc)

    here : member_named (map (resolve.member names) (w ∷ ms)) w.name.name ≡ Some (resolve.kind names w.place w.kind)
    here = ap (λ (b : Bool). elim b as (λ c. Option Kind) [ true ↦ Some (resolve.kind names w.place w.kind) | false ↦ member_named (map (resolve.member names) ms) w.name.name ]) (same_refl w.name.name)
found_by_name names before (w ∷ ms) new (suc n) m at =
    ap (λ (b : Bool). elim b as (λ c. Option Kind) [ true ↦ Some (resolve.kind names w.place w.kind) | false ↦ member_named (map (resolve.member names) ms) m.name ])
    (found_later names w.name.name ms (absent w.name.name (before ++ w.name.name ∷ []) ms (among_last w.name.name before) new.1) n m at)
    ∙ found_by_name names (before ++ w.name.name ∷ []) ms new.1 n m at

-- ---- the program

predicate_found : (o : Option Kind) (d : Predicate) → predicate_in o ≡ Some d → o ≡ Some (IsPredicate d)
predicate_found None d e = (cc)
predicate_found (Some (IsField t)) d e = (cc)
predicate_found (Some (IsPredicate q)) d e = (cc)
predicate_found (Some (IsFunction g)) d e = (cc)
predicate_found (Some (IsMethod m)) d e = (cc)

function_found : (o : Option Kind) (g : Function) → function_in o ≡ Some g → o ≡ Some (IsFunction g)
function_found None g e = (cc)
function_found (Some (IsField t)) g e = (cc)
function_found (Some (IsPredicate q)) g e = (cc)
function_found (Some (IsFunction h)) g e = (cc)
function_found (Some (IsMethod m)) g e = (cc)

method_found : (o : Option Kind) (m : Method) → method_in o ≡ Some m → o ≡ Some (IsMethod m)
method_found None m e = (cc)
method_found (Some (IsField t)) m e = (cc)
method_found (Some (IsPredicate q)) m e = (cc)
method_found (Some (IsFunction g)) m e = (cc)
method_found (Some (IsMethod c)) m e = (cc)

pub typed_program_when_settled : TypedProgramWhenSettled
typed_program_when_settled w h =
    let p = resolve.program w in
    let all : (x : Name) (k : Kind) → member_named p x ≡ Some k → TypedKind (table_of w) (names_of w) p (knows w h.names) k = named_typed (table_of w) (names_of w) p (knows w h.names) w h.members in
    record {
      names = found_by_name (names_of w) [] w h.names;
      predicates = λ x d e. (all x (IsPredicate d) (predicate_found (member_named p x) d e)).0;
      functions = λ x g e. (all x (IsFunction g) (function_found (member_named p x) g e)).0;
      methods = λ x m e. all x (IsMethod m) (method_found (member_named p x) m e);
      bodies = λ x d a e is. (all x (IsPredicate d) (predicate_found (member_named p x) d e)).1 a is;
      now = λ x d a e is. (all x (IsPredicate d) (predicate_found (member_named p x) d e)).2 a is;
      preconditions = λ x g e. (all x (IsFunction g) (function_found (member_named p x) g e)).1;
      functions_now = λ x g e. (all x (IsFunction g) (function_found (member_named p x) g e)).2;
      apart = kept_apart w h;
    }
