-- The member that a settled name stands for has a number in the written program.
use Rattle.std.proofs.Common.{◌≡◌, ◌∙◌, inl, inr, ◌+◌, ℕ, suc, Bool, true, false, List, [], ◌∷◌, Option, Some, None, map, refl, sym, ap, subst, arith, eq-eqb}
use Rattle.std.specs.Prelude.{if◌then◌else◌}
use Rattle.std.proofs.lemmas.Bool.{or_left, or_right}
use Rattle.vx_ast.specs.declared.Place.{Place}
use Rattle.vx_ast.specs.Written as written
use Rattle.vx_ast.specs.Written.{Name}
use Rattle.vx_ast.specs.Resolve as resolve
use Rattle.vx_ast.specs.Resolve.{Names, names_of, program}
use Rattle.vx_ast.specs.Syntax.{same_name, Kind, IsField, IsPredicate, IsFunction, IsMethod, Predicate, Function, member_named, function_in, predicate_in, function_named, predicate_named}
use Rattle.vx_expressions.specs.Settings.{Table}
use Rattle.vx_typing.specs.Members.{table_of, IsTypedKind, IsTypedFunction, IsTypedPredicate, AreTypedMembers}
use Rattle.vx_typing.specs.Programs.{IsTyped}
use Rattle.vx_typing.specs.Uses.{Use}
use Rattle.vx_typing.specs.Groups.{kind_at, number_in, number_of, is_number, are_of, uses_by_kind, mentions}
use Rattle.vx_settled.proofs.MentionedUses.{IsUsed}
use Rattle.vx_settled.proofs.EnteredUses.{IsOf}

record Numbered (table : Table) (names : Names) (ms : List written.Member) (x : Name) (k : Kind) : Type 0 where
  member : written.Member
  number : ℕ
  found : (start : ℕ) → number_in start ms x ≡ Some (start + number)
  at : kind_at ms number ≡ Some member.kind
  is : resolve.kind names member.place member.kind ≡ k
  typed : IsTypedKind table member.kind

same_kind : (a b : Kind) → Some a ≡ Some b → a ≡ b
same_kind a b e = cc

module _ (table : Table) (names : Names) where
  pick : (m : written.Member) (ms : List written.Member) (x : Name) (k : Kind) (b : Bool) → same_name x m.name.name ≡ b → IsTypedKind table m.kind
      → elim b as (λ c. Option Kind) [ true ↦ Some (resolve.kind names m.place m.kind) | false ↦ member_named (map (resolve.member names) ms) x ] ≡ Some k
      → (member_named (map (resolve.member names) ms) x ≡ Some k → Numbered table names ms x k) → Numbered table names (m ∷ ms) x k
  pick m ms x k true e typed h rest = record {
    member = m;
    number = 0;
    found = λ start. let same : start ≡ start + 0 = omega arith in ap (λ (b : Bool). if b then Some start else number_in (suc start) ms x) e ∙ ap Some same;
    at = refl;
    is = same_kind _ k h;
    typed = typed;
  }
  pick m ms x k false e typed h rest =
      let f = rest h in
      record {
        member = f.member;
        number = suc f.number;
        found = λ start.
            let n = f.number in
            let same : suc start + n ≡ start + suc n = omega arith in
            ap (λ (b : Bool). if b then Some start else number_in (suc start) ms x) e ∙ f.found (suc start) ∙ ap Some same;
        at = f.at;
        is = f.is;
        typed = f.typed;
      }

  numbered : (ms : List written.Member) → AreTypedMembers table ms → (x : Name) (k : Kind) → member_named (map (resolve.member names) ms) x ≡ Some k → Numbered table names ms x k
  numbered [] typed x k h = (cc)
  numbered (m ∷ ms) typed x k h = pick m ms x k (same_name x m.name.name) refl typed.0 h (numbered ms typed.1 x k)

-- ---- functions and predicates
pub record FunctionAt (p : written.Program) (x : Name) (g : Function) : Type 0 where
  pub number : ℕ
  pub place : Place
  pub function : written.Function
  pub named : number_of p x ≡ Some number
  pub at : kind_at p number ≡ Some (written.IsFunction function)
  pub is : resolve.kind (names_of p) place (written.IsFunction function) ≡ IsFunction g
  pub typed : IsTypedFunction (table_of p) function

pub record PredicateAt (p : written.Program) (x : Name) (d : Predicate) : Type 0 where
  pub number : ℕ
  pub place : Place
  pub predicate : written.Predicate
  pub named : number_of p x ≡ Some number
  pub at : kind_at p number ≡ Some (written.IsPredicate predicate)
  pub is : resolve.kind (names_of p) place (written.IsPredicate predicate) ≡ IsPredicate d
  pub typed : IsTypedPredicate (table_of p) predicate

function_kind : (o : Option Kind) (g : Function) → function_in o ≡ Some g → o ≡ Some (IsFunction g)
function_kind None g h = (cc)
function_kind (Some (IsField t)) g h = (cc)
function_kind (Some (IsPredicate d)) g h = (cc)
function_kind (Some (IsFunction f)) g h = let same : f ≡ g = cc in ap (λ (w : Function). Some (IsFunction w)) same
function_kind (Some (IsMethod m)) g h = (cc)

predicate_kind : (o : Option Kind) (d : Predicate) → predicate_in o ≡ Some d → o ≡ Some (IsPredicate d)
predicate_kind None d h = (cc)
predicate_kind (Some (IsField t)) d h = (cc)
predicate_kind (Some (IsPredicate f)) d h = let same : f ≡ d = cc in ap (λ (w : Predicate). Some (IsPredicate w)) same
predicate_kind (Some (IsFunction f)) d h = (cc)
predicate_kind (Some (IsMethod m)) d h = (cc)

module _ (p : written.Program) (typed : IsTyped p) where
  -- the number of a member
  number_found : (x : Name) (n : ℕ) → number_in 0 p x ≡ Some (0 + n) → number_of p x ≡ Some n
  number_found x n h = let same : 0 + n ≡ n = omega arith in h ∙ ap Some same

  function_of : (x : Name) (g : Function) (n : ℕ) (at : Place) (k : written.Kind) → number_of p x ≡ Some n → kind_at p n ≡ Some k → resolve.kind (names_of p) at k ≡ IsFunction g → IsTypedKind (table_of p) k → FunctionAt p x g
  function_of x g n at (written.IsField t) named is_at is h = (cc)
  function_of x g n at (written.IsPredicate d) named is_at is h = (cc)
  function_of x g n at (written.IsFunction f) named is_at is h = record { number = n; place = at; function = f; named = named; at = is_at; is = is; typed = h }
  function_of x g n at (written.IsMethod m) named is_at is h = (cc)

  predicate_of : (x : Name) (d : Predicate) (n : ℕ) (at : Place) (k : written.Kind) → number_of p x ≡ Some n → kind_at p n ≡ Some k → resolve.kind (names_of p) at k ≡ IsPredicate d → IsTypedKind (table_of p) k → PredicateAt p x d
  predicate_of x d n at (written.IsField t) named is_at is h = (cc)
  predicate_of x d n at (written.IsPredicate f) named is_at is h = record { number = n; place = at; predicate = f; named = named; at = is_at; is = is; typed = h }
  predicate_of x d n at (written.IsFunction f) named is_at is h = (cc)
  predicate_of x d n at (written.IsMethod m) named is_at is h = (cc)

  pub function_at : (x : Name) (g : Function) → function_named (program p) x ≡ Some g → FunctionAt p x g
  function_at x g h =
      let f = numbered (table_of p) (names_of p) p typed.members x (IsFunction g) (function_kind (member_named (program p) x) g h) in
      function_of x g f.number f.member.place f.member.kind (number_found x f.number (f.found 0)) f.at f.is f.typed

  pub predicate_at : (x : Name) (d : Predicate) → predicate_named (program p) x ≡ Some d → PredicateAt p x d
  predicate_at x d h =
      let f = numbered (table_of p) (names_of p) p typed.members x (IsPredicate d) (predicate_kind (member_named (program p) x) d h) in
      predicate_of x d f.number f.member.place f.member.kind (number_found x f.number (f.found 0)) f.at f.is f.typed

-- ---- what a member mentions
are : (p : written.Program) (y : Name) (b : ℕ) → number_of p y ≡ Some b → (us : List Use) → IsUsed (IsOf y) us → are_of p b us ≡ true
are p y b h [] k = absurd k
are p y b h (u ∷ us) (inl e) =
    or_left (is_number (number_of p u.name) b) (are_of p b us) (subst (λ (z : Name). is_number (number_of p z) b ≡ true) e (subst (λ (o : Option ℕ). is_number o b ≡ true) (sym h) (eq-eqb b b refl)))
are p y b h (u ∷ us) (inr k) = or_right (is_number (number_of p u.name) b) (are_of p b us) (are p y b h us k)

pub mentions_it : (p : written.Program) (a : ℕ) (k : written.Kind) → kind_at p a ≡ Some k → (y : Name) → IsUsed (IsOf y) (uses_by_kind (Some k)) → (b : ℕ) → number_of p y ≡ Some b → mentions p a b ≡ true
mentions_it p a k at y used b h = subst (λ (o : Option written.Kind). are_of p b (uses_by_kind o) ≡ true) (sym at) (are p y b h (uses_by_kind (Some k)) used)
