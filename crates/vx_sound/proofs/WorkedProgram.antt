-- The law at work over a whole program: a field, and a method that writes it.
use Rattle.std.proofs.Common.{◌≡◌, ◌⊎◌, inl, inr, ◌<◌, ℕ, zero, suc, Bool, true, false, [], Option, Some, None, slice_get, refl, sym, subst, arith}
use Rattle.vx_frac.specs.Fractions.{lowest}
use Rattle.vx_ast.specs.declared.ValueType.TheVariants.{Int}
use Rattle.vx_ast.specs.Syntax.{Name, same_name, Member, Kind, IsField, IsMethod, Predicate, Function, Method, Equal, member_named, predicate_in, function_in, method_in}
use Rattle.vx_meaning.specs.Fails.{Fails}
use Rattle.vx_types.specs.Typing.{IsTypedMethod, number, part, variable, operates, reads}
use Rattle.vx_types.specs.Premises.{IsTypedProgram}
use Rattle.vx_types.specs.Closure.{InClosure}
use Rattle.vx_types.proofs.Alone.{alone}
use Rattle.vx_sound.specs.Law.{Passes, IsFieldMember}
use Rattle.vx_sound.specs.Examples.{on_line, x, f, m, sets, writes}
use Rattle.vx_sound.proofs.Members.{members_sound}
use Rattle.vx_sound.proofs.Worked.{sets_plain}

one_positive : 0 < 1
one_positive = omega arith

sets_typed : IsTypedMethod writes sets
sets_typed = record {
  names = (refl, tt);
  requires = ((variable (on_line 2) x refl, (Int, refl), part (on_line 2) 1 1 one_positive), tt);
  ensures = tt;
  body = ((Int, refl, variable (on_line 3) x refl, number (on_line 3) 1), (operates {op = Equal} {t = Int} tt (reads f refl (variable (on_line 4) x refl)) (number (on_line 4) 1), tt));
}

-- what a name can stand for
IsOne : Option Kind → Type 0
IsOne o = (o ≡ Some (IsField Int)) ⊎ (o ≡ Some (IsMethod sets)) ⊎ (o ≡ None)

named : (y : Name) → IsOne (member_named writes y)
unfolding IsOne
named y = go (same_name y f) (same_name y m)
  where
    go : (a b : Bool) → IsOne (elim a as (λ c. Option Kind) [ true ↦ Some (IsField Int) | false ↦ elim b as (λ c. Option Kind) [ true ↦ Some (IsMethod sets) | false ↦ None ] ])
    go true b = inl refl
    go false true = inr (inl refl)
    go false false = inr (inr refl)

no_predicate : (o : Option Kind) (d : Predicate) → IsOne o → predicate_in o ≡ Some d → ⊥
unfolding IsOne
no_predicate o d (inl e) h = clash (subst (λ (o : Option Kind). predicate_in o ≡ Some d) e h)
  where
    clash : None ≡ Some d → ⊥
    clash e = cc
no_predicate o d (inr (inl e)) h = clash (subst (λ (o : Option Kind). predicate_in o ≡ Some d) e h)
  where
    clash : None ≡ Some d → ⊥
    clash e = cc
no_predicate o d (inr (inr e)) h = clash (subst (λ (o : Option Kind). predicate_in o ≡ Some d) e h)
  where
    clash : None ≡ Some d → ⊥
    clash e = cc

no_function : (o : Option Kind) (g : Function) → IsOne o → function_in o ≡ Some g → ⊥
unfolding IsOne
no_function o g (inl e) h = clash (subst (λ (o : Option Kind). function_in o ≡ Some g) e h)
  where
    clash : None ≡ Some g → ⊥
    clash e = cc
no_function o g (inr (inl e)) h = clash (subst (λ (o : Option Kind). function_in o ≡ Some g) e h)
  where
    clash : None ≡ Some g → ⊥
    clash e = cc
no_function o g (inr (inr e)) h = clash (subst (λ (o : Option Kind). function_in o ≡ Some g) e h)
  where
    clash : None ≡ Some g → ⊥
    clash e = cc

the_method : (o : Option Kind) (n : Method) → IsOne o → method_in o ≡ Some n → sets ≡ n
unfolding IsOne
the_method o n (inl e) h = clash (subst (λ (o : Option Kind). method_in o ≡ Some n) e h)
  where
    clash : None ≡ Some n → sets ≡ n
    clash e = cc
the_method o n (inr (inl e)) h = same sets n (subst (λ (o : Option Kind). method_in o ≡ Some n) e h)
  where
    same : (a b : Method) → Some a ≡ Some b → a ≡ b
    same a b e = cc
the_method o n (inr (inr e)) h = clash (subst (λ (o : Option Kind). method_in o ≡ Some n) e h)
  where
    clash : None ≡ Some n → sets ≡ n
    clash e = cc

same_member : (a b : Member) → Some a ≡ Some b → a ≡ b
same_member a b e = cc

found : (n : ℕ) (k : Member) → slice_get writes n ≡ Some k → member_named writes k.name ≡ Some k.kind
found zero k at = subst (λ (k : Member). member_named writes k.name ≡ Some k.kind) (same_member (record { name = f; kind = IsField Int }) k at) refl
found (suc zero) k at = subst (λ (k : Member). member_named writes k.name ≡ Some k.kind) (same_member (record { name = m; kind = IsMethod sets }) k at) refl
found (suc (suc n)) k at = cc

pub writes_typed : IsTypedProgram writes
writes_typed = record {
  names = found;
  predicates = λ y d e. absurd (no_predicate (member_named writes y) d (named y) e);
  functions = λ y g e. absurd (no_function (member_named writes y) g (named y) e);
  methods = λ y n e. subst (IsTypedMethod writes) (the_method (member_named writes y) n (named y) e) sets_typed;
  bodies = λ y d a e is. absurd (no_predicate (member_named writes y) d (named y) e);
  now = λ y d a e is. absurd (no_predicate (member_named writes y) d (named y) e);
  preconditions = λ y g e. absurd (no_function (member_named writes y) g (named y) e);
  functions_now = λ y g e. absurd (no_function (member_named writes y) g (named y) e);
  apart = record {
    measure = λ y g z e st. absurd (no_function (member_named writes y) g (named y) e);
    body = λ y d z e st. absurd (no_predicate (member_named writes y) d (named y) e);
    precondition = λ y g z e st r. absurd (no_function (member_named writes y) g (named y) e);
    unfolding_body = λ y d z e st r. absurd (no_predicate (member_named writes y) d (named y) e);
  };
}

pub passes : Passes writes m (IsMethod sets) []
unfolding lowest
passes = (refl, tt)

closed : (y : Name) (k : Kind) → InClosure writes m y → member_named writes y ≡ Some k → IsFieldMember k × Passes writes y k []
closed y k c e =
    let same : y ≡ m = alone writes m sets refl sets_plain y c in
    let kind : IsMethod sets ≡ k = same_kind (IsMethod sets) k (subst (λ (z : Name). member_named writes z ≡ Some k) same e) in
    subst (λ (k : Kind). IsFieldMember k × Passes writes y k []) kind (sets_plain, subst (λ (z : Name). Passes writes z (IsMethod sets) []) (sym same) passes)
  where
    same_kind : (a b : Kind) → Some a ≡ Some b → a ≡ b
    same_kind a b e = cc

pub writes_never_fail : Fails writes m (IsMethod sets) → ⊥
writes_never_fail = members_sound writes m (IsMethod sets) (λ y. []) writes_typed refl closed
