-- A member is typed exactly where its first fault is none.
use Rattle.std.proofs.Common.{◌≡◌, ◌⊎◌, inl, inr, ◌++◌, not, List, [], ◌∷◌, Option, Some, None, true, map, refl, ap, ◌∙◌, subst, Ok}
use Rattle.std.proofs.lemmas.Bool.{not-true, or_from, or_parts}
use Rattle.std.specs.Prelude.{⊤}
use Rattle.vx_ast.specs.declared.Place.{Place}
use Rattle.vx_ast.specs.declared.ValueType.{ValueType}
use Rattle.vx_ast.specs.declared.ValueType.TheVariants as type
use Rattle.vx_ast.specs.Syntax.{same_name, result_name}
use Rattle.vx_ast.specs.Written.{Name, Placed, Expr, Call, Exprs, Block, Declaration, Clause, Requires, Ensures, Decreases, Predicate, Function, Method, Kind, IsField, IsPredicate, IsFunction, IsMethod, Member}
use Rattle.vx_statements.specs.declared.names.Role.{Role}
use Rattle.vx_statements.specs.declared.names.Role.TheVariants.{Input, Parameter, Local}
use Rattle.vx_expressions.specs.Places.{place_of}
use Rattle.vx_expressions.specs.Scopes.{Scope, named}
use Rattle.vx_statements.specs.Roles.{takes, with_variable, with_variables}
use Rattle.vx_expressions.specs.Settings.{Table, Setting, plainly, within_method, before_function, after_function, within_measure, within_predicate}
use Rattle.vx_expressions.specs.Typing.{HasType, IsPermission}
use Rattle.vx_expressions.specs.Faults.{◌>>=◌, Twice, Mismatch, OfType, unless, expect, check, Claim, Value, Permission, call}
use Rattle.vx_statements.specs.Statements.{AreNew}
use Rattle.vx_statements.specs.StatementFaults.{new_name, new_variable}
use Rattle.vx_typing.specs.Members.{AreDeclared, LeaveResult, IsMeasure, IsTypedBody, IsTypedClause, AreTypedClauses, IsTypedContract, AreTypedContracts, IsTypedBlockOf, IsTypedPredicate, IsTypedFunction, IsTypedMethod, IsTypedKind, AreTypedMembers}
use Rattle.vx_typing.specs.MemberFaults as first
use Rattle.vx_typing.specs.MemberFaults.{declaration, declarations, leaves_result, leave_result, typed_as, measured, measure, new_names}
use Rattle.vx_expressions.proofs.Passed.{bound, tested, expected, as_expected}
use Rattle.vx_expressions.proofs.AgreesTypes.{to_type, from_type}
use Rattle.vx_expressions.proofs.AgreesClaims.{Claimed, to_claim, to_assertion, value_claim, from_permission, passes}
use Rattle.vx_statements.proofs.AgreesStatements.{new_to, new_from, variable_to, variable_from, truth_to, truth_from, to_block, from_block}

-- ---- parameters
declared_to : (role : Role) (scope : Scope) (ds : List Declaration) (u : ⊤) → declarations role scope ds ≡ Ok u → AreDeclared role scope ds
declared_to role scope [] u h = tt
declared_to role scope (d ∷ ds) u h =
    let y = bound (declaration role scope d) _ u h in
    let z = bound (new_variable scope d.name) _ y.0 y.1 in
    (variable_to scope d.name z.0 z.1, tested (takes role d.of) _ y.0 z.2, declared_to role (with_variable role d scope) ds u y.2)

one_from : (role : Role) (scope : Scope) (d : Declaration) → named scope d.name.name ≡ None → takes role d.of ≡ true → declaration role scope d ≡ Ok tt
one_from role scope d h k =
    ap (λ r. r >>= λ u. unless (takes role d.of) (Mismatch d.type_at (OfType type.Int) d.of)) (variable_from scope d.name h) ∙ ap (λ b. unless b (Mismatch d.type_at (OfType type.Int) d.of)) k

declared_from : (role : Role) (scope : Scope) (ds : List Declaration) → AreDeclared role scope ds → declarations role scope ds ≡ Ok tt
declared_from role scope [] h = refl
declared_from role scope (d ∷ ds) h =
    ap (λ r. r >>= λ u. declarations role (with_variable role d scope) ds) (one_from role scope d h.0 h.1) ∙ declared_from role (with_variable role d scope) ds h.2

-- ---- the name of the result
result_to : (ds : List Declaration) (u : ⊤) → leave_result ds ≡ Ok u → LeaveResult ds
result_to [] u h = refl
result_to (d ∷ ds) u h =
    let y = bound (leaves_result d.name) _ u h in
    let is_result = same_name result_name d.name.name in
    or_from is_result _ (not-true is_result (tested (not is_result) _ y.0 y.1)) (result_to ds u y.2)

result_from : (ds : List Declaration) → LeaveResult ds → leave_result ds ≡ Ok tt
result_from [] h = refl
result_from (d ∷ ds) h =
    let away = or_parts (same_name result_name d.name.name) _ h in
    ap (λ b. unless (not b) (Twice d.name.place d.name.name) >>= λ u. leave_result ds) away.0 ∙ result_from ds away.1

-- ---- values and measures
as_to : (s : Setting) (t : ValueType) (e : Expr) (u : ⊤) → typed_as s t e ≡ Ok u → HasType s e t
as_to s t e u h = let y = bound (check s e) _ u h in subst (HasType s e) (expected (place_of e) t y.0 u y.2) (to_type s e y.0 y.1)

as_from : (s : Setting) (t : ValueType) (e : Expr) → HasType s e t → typed_as s t e ≡ Ok tt
as_from s t e h = ap (λ r. r >>= λ u. expect (place_of e) t u) (from_type s h) ∙ as_expected (place_of e) t

call_to : (s : Setting) (e : Expr) (x : Claim) (u : ⊤) → Claimed s e x → measured e x ≡ Ok u → HasType s e type.Int ⊎ IsPermission s e
call_to s e (Value t) u h k = inl (subst (HasType s e) (expected (place_of e) type.Int t u k) h)
call_to s e Permission u h k = inr h

measure_to : (s : Setting) (e : Expr) (u : ⊤) → measure s e ≡ Ok u → IsMeasure s e
measure_to s (Call at i es) u h = let y = bound (call s at i es) _ u h in call_to s (Call at i es) y.0 u (to_claim s (Call at i es) y.0 y.1) y.2
measure_to s e u h = as_to s type.Int e u h

called_from : (s : Setting) (at : Place) (i : Name) (es : Exprs) → HasType s (Call at i es) type.Int ⊎ IsPermission s (Call at i es) → measure s (Call at i es) ≡ Ok tt
called_from s at i es (inl h) = ap (λ r. r >>= λ x. measured (Call at i es) x) (value_claim s (Call at i es) type.Int (from_type s h))
called_from s at i es (inr h) = ap (λ r. r >>= λ x. measured (Call at i es) x) (from_permission s h)

measure_from : (s : Setting) (e : Expr) → IsMeasure s e → measure s e ≡ Ok tt
measure_from s (Call at i es) h = called_from s at i es h
measure_from s e h = as_from s type.Int e h

module _ (table : Table) where
  -- ---- clauses and bodies
  body_to : (scope : Scope) (b : Option Expr) (u : ⊤) → first.body table scope b ≡ Ok u → IsTypedBody table scope b
  body_to scope None u h = tt
  body_to scope (Some e) u h = to_assertion (within_predicate table scope) e u h

  body_from : (scope : Scope) (b : Option Expr) → IsTypedBody table scope b → first.body table scope b ≡ Ok tt
  body_from scope None h = refl
  body_from scope (Some e) h = passes (within_predicate table scope) e h

  clause_to : (scope : Scope) (of : ValueType) (c : Clause) (u : ⊤) → first.clause table scope of c ≡ Ok u → IsTypedClause table scope of c
  clause_to scope of (Requires e) u h = to_assertion (before_function table scope) e u h
  clause_to scope of (Ensures e) u h = truth_to (after_function table scope of) e u h
  clause_to scope of (Decreases e) u h = measure_to (within_measure table scope) e u h

  clause_from : (scope : Scope) (of : ValueType) (c : Clause) → IsTypedClause table scope of c → first.clause table scope of c ≡ Ok tt
  clause_from scope of (Requires e) h = passes (before_function table scope) e h
  clause_from scope of (Ensures e) h = truth_from (after_function table scope of) h
  clause_from scope of (Decreases e) h = measure_from (within_measure table scope) e h

  clauses_to : (scope : Scope) (of : ValueType) (cs : List Clause) (u : ⊤) → first.clauses table scope of cs ≡ Ok u → AreTypedClauses table scope of cs
  clauses_to scope of [] u h = tt
  clauses_to scope of (c ∷ cs) u h = let y = bound (first.clause table scope of c) _ u h in (clause_to scope of c y.0 y.1, clauses_to scope of cs u y.2)

  clauses_from : (scope : Scope) (of : ValueType) (cs : List Clause) → AreTypedClauses table scope of cs → first.clauses table scope of cs ≡ Ok tt
  clauses_from scope of [] h = refl
  clauses_from scope of (c ∷ cs) h = ap (λ r. r >>= λ u. first.clauses table scope of cs) (clause_from scope of c h.0) ∙ clauses_from scope of cs h.1

  contract_to : (before after : Scope) (c : Clause) (u : ⊤) → first.contract table before after c ≡ Ok u → IsTypedContract table before after c
  contract_to before after (Requires e) u h = to_assertion (plainly table before) e u h
  contract_to before after (Ensures e) u h = to_assertion (within_method table after) e u h
  contract_to before after (Decreases e) u h = tt

  contract_from : (before after : Scope) (c : Clause) → IsTypedContract table before after c → first.contract table before after c ≡ Ok tt
  contract_from before after (Requires e) h = passes (plainly table before) e h
  contract_from before after (Ensures e) h = passes (within_method table after) e h
  contract_from before after (Decreases e) h = refl

  contracts_to : (before after : Scope) (cs : List Clause) (u : ⊤) → first.contracts table before after cs ≡ Ok u → AreTypedContracts table before after cs
  contracts_to before after [] u h = tt
  contracts_to before after (c ∷ cs) u h = let y = bound (first.contract table before after c) _ u h in (contract_to before after c y.0 y.1, contracts_to before after cs u y.2)

  contracts_from : (before after : Scope) (cs : List Clause) → AreTypedContracts table before after cs → first.contracts table before after cs ≡ Ok tt
  contracts_from before after [] h = refl
  contracts_from before after (c ∷ cs) h = ap (λ r. r >>= λ u. first.contracts table before after cs) (contract_from before after c h.0) ∙ contracts_from before after cs h.1

  statements_to : (scope : Scope) (b : Option Block) (u : ⊤) → first.statements table scope b ≡ Ok u → IsTypedBlockOf table scope b
  statements_to scope None u h = tt
  statements_to scope (Some b) u h = to_block table scope b u h

  statements_from : (scope : Scope) (b : Option Block) → IsTypedBlockOf table scope b → first.statements table scope b ≡ Ok tt
  statements_from scope None h = refl
  statements_from scope (Some b) h = from_block table scope b h

  -- ---- members
  predicate_to : (p : Predicate) (u : ⊤) → first.predicate table p ≡ Ok u → IsTypedPredicate table p
  predicate_to p u h =
      let y = bound (declarations Input [] p.parameters) _ u h in
      record { parameters = declared_to Input [] p.parameters y.0 y.1; body = body_to (with_variables Input p.parameters []) p.body u y.2 }

  predicate_from : (p : Predicate) → IsTypedPredicate table p → first.predicate table p ≡ Ok tt
  predicate_from p h =
      let scope = with_variables Input p.parameters [] in
      ap (λ r. r >>= λ u. first.body table scope p.body) (declared_from Input [] p.parameters h.parameters) ∙ body_from scope p.body h.body

  function_to : (f : Function) (u : ⊤) → first.function table f ≡ Ok u → IsTypedFunction table f
  function_to f u h =
      let scope = with_variables Input f.parameters [] in
      let y = bound (declarations Input [] f.parameters) _ u h in
      let x = bound (leave_result f.parameters) _ u y.2 in
      let z = bound (first.clauses table scope f.of f.clauses) _ u x.2 in
      record {
        parameters = declared_to Input [] f.parameters y.0 y.1;
        result = result_to f.parameters x.0 x.1;
        clauses = clauses_to scope f.of f.clauses z.0 z.1;
        body = as_to (plainly table scope) f.of f.body u z.2;
      }

  function_from : (f : Function) → IsTypedFunction table f → first.function table f ≡ Ok tt
  function_from f h =
      let scope = with_variables Input f.parameters [] in
      ap (λ r. r >>= λ u. leave_result f.parameters >>= λ u. first.clauses table scope f.of f.clauses >>= λ u. typed_as (plainly table scope) f.of f.body) (declared_from Input [] f.parameters h.parameters)
      ∙ ap (λ r. r >>= λ u. first.clauses table scope f.of f.clauses >>= λ u. typed_as (plainly table scope) f.of f.body) (result_from f.parameters h.result)
      ∙ ap (λ r. r >>= λ u. typed_as (plainly table scope) f.of f.body) (clauses_from scope f.of f.clauses h.clauses)
      ∙ as_from (plainly table scope) f.of f.body h.body

  method_to : (m : Method) (u : ⊤) → first.method table m ≡ Ok u → IsTypedMethod table m
  method_to m u h =
      let before = with_variables Parameter m.parameters [] in
      let after = with_variables Local m.returns before in
      let y = bound (declarations Parameter [] m.parameters) _ u h in
      let z = bound (declarations Local before m.returns) _ u y.2 in
      let w = bound (first.contracts table before after m.clauses) _ u z.2 in
      record {
        parameters = declared_to Parameter [] m.parameters y.0 y.1;
        returns = declared_to Local before m.returns z.0 z.1;
        clauses = contracts_to before after m.clauses w.0 w.1;
        body = statements_to after m.body u w.2;
      }

  method_from : (m : Method) → IsTypedMethod table m → first.method table m ≡ Ok tt
  method_from m h =
      let before = with_variables Parameter m.parameters [] in
      let after = with_variables Local m.returns before in
      ap (λ r. r >>= λ u. declarations Local before m.returns >>= λ u. first.contract_and_body table before after m.clauses m.body) (declared_from Parameter [] m.parameters h.parameters)
      ∙ ap (λ r. r >>= λ u. first.contract_and_body table before after m.clauses m.body) (declared_from Local before m.returns h.returns)
      ∙ ap (λ r. r >>= λ u. first.statements table after m.body) (contracts_from before after m.clauses h.clauses) ∙ statements_from after m.body h.body

  pub kind_to : (k : Kind) (u : ⊤) → first.kind table k ≡ Ok u → IsTypedKind table k
  kind_to (IsField t) u h = tt
  kind_to (IsPredicate p) u h = predicate_to p u h
  kind_to (IsFunction f) u h = function_to f u h
  kind_to (IsMethod m) u h = method_to m u h

  pub kind_from : (k : Kind) → IsTypedKind table k → first.kind table k ≡ Ok tt
  kind_from (IsField t) h = refl
  kind_from (IsPredicate p) h = predicate_from p h
  kind_from (IsFunction f) h = function_from f h
  kind_from (IsMethod m) h = method_from m h

  pub members_to : (ms : List Member) (u : ⊤) → first.members table ms ≡ Ok u → AreTypedMembers table ms
  members_to [] u h = tt
  members_to (m ∷ ms) u h = let y = bound (first.kind table m.kind) _ u h in (kind_to m.kind y.0 y.1, members_to ms u y.2)

  pub members_from : (ms : List Member) → AreTypedMembers table ms → first.members table ms ≡ Ok tt
  members_from [] h = refl
  members_from (m ∷ ms) h = ap (λ r. r >>= λ u. first.members table ms) (kind_from m.kind h.0) ∙ members_from ms h.1

-- ---- the names of members
abbrev pub names_of : List Member → List Placed
names_of ms = map (λ (m : Member). m.name) ms

pub names_to : (before : List Name) (ms : List Member) (u : ⊤) → new_names before ms ≡ Ok u → AreNew before (names_of ms)
names_to before [] u h = tt
names_to before (m ∷ ms) u h = let y = bound (new_name before m.name) _ u h in (new_to before m.name y.0 y.1, names_to (before ++ m.name.name ∷ []) ms u y.2)

pub names_from : (before : List Name) (ms : List Member) → AreNew before (names_of ms) → new_names before ms ≡ Ok tt
names_from before [] h = refl
names_from before (m ∷ ms) h = ap (λ r. r >>= λ u. new_names (before ++ m.name.name ∷ []) ms) (new_from before m.name h.0) ∙ names_from (before ++ m.name.name ∷ []) ms h.1
