-- What typing asks of groups, by numbers, keeps the members of the settled program apart, by names.
use Rattle.std.proofs.Common.{◌≡◌, ◌∙◌, ◌⊎◌, inl, inr, ◌++◌, ℕ, zero, suc, Bool, true, List, [], ◌∷◌, Option, Some, None, map, refl, sym, ap, subst, append_assoc, true≢false, is_some}
use Rattle.std.specs.Prelude.{if◌then◌else◌, flat_map}
use Rattle.vx_ast.specs.declared.Place.{Place}
use Rattle.vx_ast.specs.declared.ValueType.{ValueType}
use Rattle.vx_ast.specs.Written as written
use Rattle.vx_ast.specs.Written.{Name}
use Rattle.vx_ast.specs.Resolve as resolve
use Rattle.vx_ast.specs.Resolve.{names_of, program, expression, expressions, assertion}
use Rattle.vx_ast.specs.Syntax.{Program, Kind, Predicate, Function, IsField, IsPredicate, IsFunction, IsMethod, Assertion, ByNumber, ByInstance, Both, joined, joined_with, member_named, function_in, predicate_in, function_named, predicate_named}
use Rattle.vx_ast.specs.Mentions.{mentioned, mentioned_by, mentions_of}
use Rattle.vx_expressions.specs.Scopes as scopes
use Rattle.vx_expressions.specs.Scopes.{named}
use Rattle.vx_statements.specs.Roles.{with_variables}
use Rattle.vx_statements.specs.declared.names.Role.TheVariants.{Input}
use Rattle.vx_expressions.specs.Settings as settings
use Rattle.vx_expressions.specs.Settings.{plainly, before_function, after_function, within_measure, within_predicate}
use Rattle.vx_expressions.specs.Typing as typing
use Rattle.vx_typing.specs.Members.{table_of, IsMeasure, AreTypedClauses, IsTypedBody}
use Rattle.vx_typing.specs.Programs.{IsTyped}
use Rattle.vx_typing.specs.Uses.{Use, uses, uses_in, uses_of_body, uses_before, uses_of_clauses, uses_by}
use Rattle.vx_typing.specs.Uses as uses'
use Rattle.vx_typing.specs.Groups.{number_of, kind_at, mentions, at_once, further, IsOwn}
use Rattle.vx_typing.specs.Groups as groups
use Rattle.vx_ast.specs.Apart.{Stands, entered_by, entered_by_measure, entered_by_body}
use Rattle.vx_ast.specs.Apart.{mentioned_by_body, mentioned_by_predicate, mentioned_from, ReachesBy, Reaches, KeepsApart}
use Rattle.vx_settled.proofs.TypedNames.{Knows, knows}
use Rattle.vx_settled.proofs.TypedExprs.{Sees}
use Rattle.vx_settled.proofs.TypedStmts.{settled, same_types}
use Rattle.vx_settled.proofs.MentionedUses.{on_left, on_right, either_side, turned, IsUsed, Leads, nothing, both, fewer, Covers, value, values}
use Rattle.vx_settled.proofs.EnteredUses.{Reads, entering, mentioning, IsOf, covers_all, claim}
use Rattle.vx_settled.proofs.NumberedNames.{FunctionAt, PredicateAt, function_at, predicate_at, mentions_it}

-- ---- lists of clauses
in_joined_with : (x : Name) (a : Assertion) (rest : List Assertion) → Stands x (entered_by (joined_with a rest)) → Stands x (entered_by a ++ flat_map entered_by rest)
in_joined_with x a [] h = on_left x (entered_by a) [] h
in_joined_with x a (b ∷ rest) h = subst (Stands x) (append_assoc (entered_by a) (entered_by b) (flat_map entered_by rest)) (in_joined_with x (Both a b) rest h)

in_joined : (x : Name) (at : Place) (as' : List Assertion) → Stands x (entered_by (joined at as')) → Stands x (flat_map entered_by as')
in_joined x at [] h = h
in_joined x at (a ∷ rest) h = in_joined_with x a rest h

-- a list taken out of the middle
middle : (x : Name) (xs ys zs : List Name) → Stands x (xs ++ (ys ++ zs)) → Stands x (ys ++ (xs ++ zs))
middle x xs ys zs h = go (either_side x xs (ys ++ zs) h)
  where
    behind : Stands x ys ⊎ Stands x zs → Stands x (ys ++ (xs ++ zs))
    behind (inl k) = on_left x ys (xs ++ zs) k
    behind (inr k) = on_right x ys (xs ++ zs) (on_right x xs zs k)

    go : Stands x xs ⊎ Stands x (ys ++ zs) → Stands x (ys ++ (xs ++ zs))
    go (inl k) = on_right x ys (xs ++ zs) (on_left x xs zs k)
    go (inr k) = behind (either_side x ys zs k)

-- what follows from each use that is so, and what no use is
one_is : (P : Use → Type 0) (Q : Type 0) → ((u : Use) → P u → Q) → (us : List Use) → IsUsed P us → Q
one_is P Q f [] h = absurd h
one_is P Q f (u ∷ us) (inl h) = f u h
one_is P Q f (u ∷ us) (inr h) = one_is P Q f us h

each_of : (P Q : Use → Type 0) → ((u : Use) → P u → Q u → ⊥) → (us : List Use) → uses'.Each Q us → IsUsed P us → ⊥
each_of P Q f [] all h = h
each_of P Q f (u ∷ us) all (inl h) = f u h all.0
each_of P Q f (u ∷ us) all (inr h) = each_of P Q f us all.1 h

no_function : (o : Option Kind) (d : Predicate) → predicate_in o ≡ Some d → function_in o ≡ None
no_function None d h = refl
no_function (Some (IsField t)) d h = refl
no_function (Some (IsPredicate w)) d h = refl
no_function (Some (IsFunction g)) d h = (cc)
no_function (Some (IsMethod m)) d h = refl

same_function : (a b : Function) → IsFunction a ≡ IsFunction b → a ≡ b
same_function a b e = cc

same_predicate : (a b : Predicate) → IsPredicate a ≡ IsPredicate b → a ≡ b
same_predicate a b e = cc

-- x is unfolded, and a predicate
pub record IsOpenedOf (p : Program) (x : Name) (u : Use) : Type 0 where
  pub name : x ≡ u.name
  pub unfolds : u.unfolds ≡ true
  pub predicate : function_named p x ≡ None

module _ (p : written.Program) (typed : IsTyped p) where
  known : Knows (named (table_of p)) (names_of p) (program p)
  known = knows p typed.names

  -- what is known in a precondition, and in a predicate's body
  before_sees : (scope : scopes.Scope) → Sees (before_function (table_of p) scope) (settled scope) (names_of p) (program p)
  before_sees scope = record { variables = λ x t h. same_types scope x ∙ h; outcome = λ t h. cc; members = known }

  body_sees : (scope : scopes.Scope) → Sees (within_predicate (table_of p) scope) (settled scope) (names_of p) (program p)
  body_sees scope = record { variables = λ x t h. same_types scope x ∙ h; outcome = λ t h. cc; members = known }

  module _ (x : Name) where
    -- an unfolding is of a predicate
    opened_as : (i : written.Placed) (ts : List ValueType) → named (table_of p) i.name ≡ Some (settings.IsPredicate ts true) → x ≡ i.name → IsOpenedOf (program p) x (uses'.unfolds_it i)
    opened_as i ts m e =
        let d = known.predicate i.name ts true m in
        record { name = e; unfolds = refl; predicate = no_function (member_named (program p) x) d.0 (ap (predicate_named (program p)) e ∙ d.1) }

    no_function_opened : (us : List Use) → IsUsed (IsOpenedOf (program p) x) us → function_named (program p) x ≡ None
    no_function_opened us h = one_is (IsOpenedOf (program p) x) (function_named (program p) x ≡ None) (λ u o. o.predicate) us h

    is_used : (us : List Use) → IsUsed (IsOpenedOf (program p) x) us → IsUsed (IsOf x) us
    is_used [] h = h
    is_used (u ∷ us) (inl o) = inl o.name
    is_used (u ∷ us) (inr h) = inr (is_used us h)

    -- where no function may be applied
    covers_body : (scope : scopes.Scope) → Covers x (IsOpenedOf (program p) x) (within_predicate (table_of p) scope)
    covers_body scope = record { called = λ at f a e. cc; opened = opened_as }

    covers_measure : (scope : scopes.Scope) → Covers x (IsOpenedOf (program p) x) (within_measure (table_of p) scope)
    covers_measure scope = record { called = λ at f a e. cc; opened = opened_as }

    -- ---- functions
    module _ (scope : scopes.Scope) (of : ValueType) where
      required : (read : Assertion → List Name) → Reads x (IsOf x) read → {e : written.Expr} → typing.IsAssertion (before_function (table_of p) scope) e → Leads x (IsOf x) (read (assertion (names_of p) e)) (uses e)
      required read reads h =
          claim x (IsOf x) read reads (names_of p) (before_function (table_of p) scope) (covers_all x (before_function (table_of p) scope)) (settled scope) (program p) (before_sees scope) h

      before : (cs : List written.Clause) → AreTypedClauses (table_of p) scope of cs → Leads x (IsOf x) (flat_map entered_by (map (assertion (names_of p)) (written.requires_of cs))) (uses_before cs)
      before [] h = nothing x (IsOf x)
      before (written.Requires e ∷ cs) h = both x (IsOf x) (required entered_by (entering x (IsOf x)) h.0) (before cs h.1)
      before (written.Ensures e ∷ cs) h = before cs h.1
      before (written.Decreases e ∷ cs) h = before cs h.1

      contract : (read : Assertion → List Name) → Reads x (IsOf x) read → (cs : List written.Clause) → AreTypedClauses (table_of p) scope of cs
          → Leads x (IsOf x) (flat_map read (map (assertion (names_of p)) (written.requires_of cs)) ++ flat_map mentioned (map expression (written.ensures_of cs))) (uses_of_clauses cs)
      contract read reads [] h = nothing x (IsOf x)
      contract read reads (written.Requires e ∷ cs) h =
          let first = read (assertion (names_of p) e) in
          let others = flat_map read (map (assertion (names_of p)) (written.requires_of cs)) in
          let after = flat_map mentioned (map expression (written.ensures_of cs)) in
          subst (λ (xs : List Name). Leads x (IsOf x) xs (uses_of_clauses (written.Requires e ∷ cs))) (sym (append_assoc first others after)) (both x (IsOf x) (required read reads h.0) (contract read reads cs h.1))
      contract read reads (written.Ensures e ∷ cs) h =
          let others = flat_map read (map (assertion (names_of p)) (written.requires_of cs)) in
          let after = flat_map mentioned (map expression (written.ensures_of cs)) in
          fewer x (IsOf x) (middle x others (mentioned (expression e)) after)
          (both x (IsOf x) (value x (IsOf x) (after_function (table_of p) scope of) (covers_all x (after_function (table_of p) scope of)) h.0) (contract read reads cs h.1))
      contract read reads (written.Decreases e ∷ cs) h = contract read reads cs h.1

      function : (f : written.Function) → AreTypedClauses (table_of p) scope of f.clauses → typing.HasType (plainly (table_of p) scope) f.body of
          → Leads x (IsOf x) (mentioned (expression f.body) ++ flat_map mentioned_by (map (assertion (names_of p)) (written.requires_of f.clauses)) ++ flat_map mentioned (map expression (written.ensures_of f.clauses))) (uses_by (written.IsFunction f))
      function f h k =
          let body = mentioned (expression f.body) in
          let first = flat_map mentioned_by (map (assertion (names_of p)) (written.requires_of f.clauses)) in
          let after = flat_map mentioned (map expression (written.ensures_of f.clauses)) in
          fewer x (IsOf x) (λ s. turned x body (first ++ after) (subst (Stands x) (append_assoc body first after) s))
          (both x (IsOf x) (contract mentioned_by (mentioning x) f.clauses h) (value x (IsOf x) (plainly (table_of p) scope) (covers_all x (plainly (table_of p) scope)) k))

      -- a measure applies no function
      by_measure : (e : written.Expr) → IsMeasure (within_measure (table_of p) scope) e → Stands x (entered_by_measure (Some (resolve.measure (names_of p) e))) → function_named (program p) x ≡ None
      by_measure (written.Call at i es) (inl (typing.applies at' i' m a h)) s = (cc)
      by_measure (written.Call at i es) (inr (typing.instance at' i' {ts = ts} {has_body = b} m h)) s =
          no_function_opened (uses_in es [])
          ((values x (IsOpenedOf (program p) x) (within_measure (table_of p) scope) (covers_measure scope) h).lead []
          (inl (subst (λ (z : Bool). Stands x (entered_by_measure (Some (if z then ByInstance at i (expressions es) else ByNumber (expression (written.Call at i es)))))) (known.is_predicate i ts b m) s)))
      by_measure e h s = no_function_opened (uses e []) ((value x (IsOpenedOf (program p) x) (within_measure (table_of p) scope) (covers_measure scope) h).lead [] (inl s))

      measured : (cs : List written.Clause) → AreTypedClauses (table_of p) scope of cs → Stands x (entered_by_measure (resolve.optional_measure (names_of p) (written.measure_of cs))) → function_named (program p) x ≡ None
      measured [] h s = absurd s
      measured (written.Requires e ∷ cs) h s = measured cs h.1 s
      measured (written.Ensures e ∷ cs) h s = measured cs h.1 s
      measured (written.Decreases e ∷ cs) h s = by_measure e h.0 s

    -- ---- predicates
    entered_body : (scope : scopes.Scope) (b : Option written.Expr) → IsTypedBody (table_of p) scope b → Stands x (entered_by_body (resolve.optional_assertion (names_of p) b)) → IsUsed (IsOpenedOf (program p) x) (uses_of_body b [])
    entered_body scope None h s = absurd s
    entered_body scope (Some e) h s =
        (claim x (IsOpenedOf (program p) x) entered_by (entering x (IsOpenedOf (program p) x)) (names_of p) (within_predicate (table_of p) scope) (covers_body scope) (settled scope) (program p) (body_sees scope) h).lead [] (inl s)

    mentioned_body : (scope : scopes.Scope) (b : Option written.Expr) → IsTypedBody (table_of p) scope b → Stands x (mentioned_by_body (resolve.optional_assertion (names_of p) b)) → IsUsed (IsOf x) (uses_of_body b [])
    mentioned_body scope None h s = absurd s
    mentioned_body scope (Some e) h s =
        (claim x (IsOf x) mentioned_by (mentioning x) (names_of p) (within_predicate (table_of p) scope) (covers_all x (within_predicate (table_of p) scope)) (settled scope) (program p) (body_sees scope) h).lead [] (inl s)

    -- ---- members as they are settled
    mentioned_by_function_at : (y : Name) (g : Function) (f : FunctionAt p y g) → Stands x (mentions_of (Some g)) → IsUsed (IsOf x) (uses_by (written.IsFunction f.function) [])
    mentioned_by_function_at y g f s =
        (function (with_variables Input f.function.parameters []) f.function.of f.function f.typed.clauses f.typed.body).lead []
        (inl (subst (λ (w : Function). Stands x (mentions_of (Some w))) (sym (same_function _ g f.is)) s))

    entered_before : (y : Name) (g : Function) (f : FunctionAt p y g) → Stands x (entered_by (joined g.place g.requires)) → Stands x (flat_map entered_by (map (assertion (names_of p)) (written.requires_of f.function.clauses)))
    entered_before y g f s = subst (λ (w : Function). Stands x (flat_map entered_by w.requires)) (sym (same_function _ g f.is)) (in_joined x g.place g.requires s)

    used_before : (y : Name) (g : Function) (f : FunctionAt p y g) → Stands x (entered_by (joined g.place g.requires)) → IsUsed (IsOf x) (uses_before f.function.clauses [])
    used_before y g f s = (before (with_variables Input f.function.parameters []) f.function.of f.function.clauses f.typed.clauses).lead [] (inl (entered_before y g f s))

    used_by_contract : (y : Name) (g : Function) (f : FunctionAt p y g) → Stands x (entered_by (joined g.place g.requires)) → IsUsed (IsOf x) (uses_by (written.IsFunction f.function) [])
    used_by_contract y g f s =
        let first = flat_map entered_by (map (assertion (names_of p)) (written.requires_of f.function.clauses)) in
        let after = flat_map mentioned (map expression (written.ensures_of f.function.clauses)) in
        (contract (with_variables Input f.function.parameters []) f.function.of entered_by (entering x (IsOf x)) f.function.clauses f.typed.clauses).lead (uses f.function.body []) (inl (on_left x first after (entered_before y g f s)))

    in_measure : (y : Name) (g : Function) (f : FunctionAt p y g) → Stands x (entered_by_measure g.decreases) → function_named (program p) x ≡ None
    in_measure y g f s =
        measured (with_variables Input f.function.parameters []) f.function.of f.function.clauses f.typed.clauses (subst (λ (w : Function). Stands x (entered_by_measure w.decreases)) (sym (same_function _ g f.is)) s)

    opened_in_body : (y : Name) (d : Predicate) (f : PredicateAt p y d) → Stands x (entered_by_body d.body) → IsUsed (IsOpenedOf (program p) x) (uses_of_body f.predicate.body [])
    opened_in_body y d f s =
        entered_body (with_variables Input f.predicate.parameters []) f.predicate.body f.typed.body (subst (λ (w : Predicate). Stands x (entered_by_body w.body)) (sym (same_predicate _ d f.is)) s)

    mentioned_in_body : (y : Name) (d : Predicate) (f : PredicateAt p y d) → Stands x (mentioned_by_body d.body) → IsUsed (IsOf x) (uses_by (written.IsPredicate f.predicate) [])
    mentioned_in_body y d f s =
        mentioned_body (with_variables Input f.predicate.parameters []) f.predicate.body f.typed.body (subst (λ (w : Predicate). Stands x (mentioned_by_body w.body)) (sym (same_predicate _ d f.is)) s)

  -- ---- ways
  -- what leads from z to y by names, leads so by numbers
  record Edge (z y : Name) : Type 0 where
    number : ℕ
    named : number_of p z ≡ Some number
    leads : (b : ℕ) → number_of p y ≡ Some b → mentions p number b ≡ true

  edge : (z y : Name) → Stands y (mentioned_from (program p) z) → Edge z y
  edge z y s = go (function_named (program p) z) refl (predicate_named (program p) z) refl (either_side y (mentions_of (function_named (program p) z)) (mentioned_by_predicate (predicate_named (program p) z)) s)
    where
      of_function : (g : Function) (f : FunctionAt p z g) → Stands y (mentions_of (Some g)) → Edge z y
      of_function g f s = record { number = f.number; named = f.named; leads = mentions_it p f.number (written.IsFunction f.function) f.at y (mentioned_by_function_at y z g f s) }

      of_predicate : (d : Predicate) (f : PredicateAt p z d) → Stands y (mentioned_by_body d.body) → Edge z y
      of_predicate d f s = record { number = f.number; named = f.named; leads = mentions_it p f.number (written.IsPredicate f.predicate) f.at y (mentioned_in_body y z d f s) }

      go : (g : Option Function) → function_named (program p) z ≡ g → (d : Option Predicate) → predicate_named (program p) z ≡ d → Stands y (mentions_of g) ⊎ Stands y (mentioned_by_predicate d) → Edge z y
      go (Some g) e d q (inl k) = of_function g (function_at p typed z g e) k
      go None e d q (inl k) = absurd k
      go g e (Some d) q (inr k) = of_predicate d (predicate_at p typed z d q) k
      go g e None q (inr k) = absurd k

  reached : (n : ℕ) (x y : Name) (b : ℕ) → number_of p y ≡ Some b → ReachesBy (program p) n x y → (a : ℕ) × (number_of p x ≡ Some a) × groups.Reaches p a b
  reached zero x y b h r = absurd r
  reached (suc n) x y b h (inl s) = let e = edge x y s in (e.number, e.named, at_once (e.leads b h))
  reached (suc n) x y b h (inr (z, s, r)) =
      let e = edge x z s in
      let k = reached n z y b h r in
      (e.number, e.named, further (e.leads k.0 k.1) k.2)

  named_none : {o : Option Function} {g : Function} → o ≡ None → o ≡ Some g → ⊥
  named_none n e = true≢false (ap is_some (sym e ∙ n))

  -- what is mentioned and leads back is of the own group
  own : (x y : Name) (a : ℕ) (k : written.Kind) → number_of p y ≡ Some a → kind_at p a ≡ Some k → IsUsed (IsOf x) (uses_by k []) → Reaches (program p) x y → IsOwn p a x
  own x y a k named at used r =
      let b = reached r.0 x y a named r.1 in
      (b.0, b.1, (at_once (mentions_it p a k at x used b.0 b.1), b.2))

  pub kept_apart : KeepsApart (program p)
  kept_apart = record {
    measure = λ f g x e s w named. named_none (in_measure x f g (function_at p typed f g e) s) named;
    body = λ i d x e s g named.
        let w = predicate_at p typed i d e in
        named_none (no_function_opened x (uses_of_body w.predicate.body []) (opened_in_body x i d w s)) named;
    precondition = λ f g x e s r.
        let w = function_at p typed f g e in
        let own = own x f w.number (written.IsFunction w.function) w.named w.at (used_by_contract x f g w s) r in
        each_of (IsOf x) (λ u. IsOwn p w.number u.name → ⊥) (λ u same not_own. not_own (subst (IsOwn p w.number) same own)) (uses_before w.function.clauses [])
        (typed.groups.preconditions w.number w.function w.at) (used_before x f g w s);
    unfolding_body = λ i d x e s r.
        let w = predicate_at p typed i d e in
        let opened = opened_in_body x i d w s in
        let own = own x i w.number (written.IsPredicate w.predicate) w.named w.at (is_used x (uses_of_body w.predicate.body []) opened) r in
        each_of (IsOpenedOf (program p) x) (λ u. u.unfolds ≡ true → IsOwn p w.number u.name → ⊥) (λ u o not_own. not_own o.unfolds (subst (IsOwn p w.number) o.name own)) (uses_of_body w.predicate.body [])
        (typed.groups.bodies w.number w.predicate w.at) opened;
  }
