-- The law at work over a call: what the callee may change is no longer known.
use Rattle.std.proofs.Common.{◌≡◌, ◌<◌, ℕ, zero, suc, Bool, true, false, [], ◌∷◌, Option, Some, None, slice_get, refl, subst, arith}
use Rattle.std.proofs.lemmas.Option.{same_Some}
use Rattle.vx_frac.specs.Fractions.{lowest}
use Rattle.vx_ast.specs.declared.ValueType.TheVariants.{Int}
use Rattle.vx_ast.specs.Syntax.{Name, same_name, Member, Kind, IsField, IsMethod, Predicate, Function, Method, Equal, member_named, predicate_in, function_in, method_in, predicate_named, function_named, method_named}
use Rattle.vx_meaning.specs.Fails.{MethodFails}
use Rattle.vx_smt_meaning.specs.declared.reply.Reply.TheVariants.{Sat}
use Rattle.vx_rules.specs.Trees.{AssertCode, Failed, walk}
use Rattle.vx_rules.specs.Members.{rules, method_tree}
use Rattle.vx_types.specs.Typing.{IsTypedMethod, number, part, variable, operates, reads, no_more, more}
use Rattle.vx_types.specs.CallLanguage.{IsCallingMethod, IsCallingMember}
use Rattle.vx_ast.specs.Apart.{Stands}
use Rattle.vx_types.specs.Premises.{IsTypedProgram}
use Rattle.vx_types.specs.Closure.{InClosure, itself, further, mentions}
use Rattle.vx_real.specs.Law.{LastIsPossible, IsInFieldFragment}
use Rattle.vx_real.specs.Examples.{on_line, x, f, c, m, changes, hopes, calls}
use Rattle.vx_real.proofs.Real.{real}
use Rattle.vx_real.proofs.Worked.{sixes}

one_positive : 0 < 1
one_positive = omega arith

changes_typed : IsTypedMethod calls changes
changes_typed = record {
  names = (refl, tt);
  requires = ((variable (on_line 2) x refl, (Int, refl), part (on_line 2) 1 1 one_positive), tt);
  ensures = ((variable (on_line 3) x refl, (Int, refl), part (on_line 3) 1 1 one_positive), tt);
  body = tt;
}

hopes_typed : IsTypedMethod calls hopes
hopes_typed = record {
  names = (refl, tt);
  requires = ((variable (on_line 5) x refl, (Int, refl), part (on_line 5) 1 1 one_positive), tt);
  ensures = tt;
  body = (
    (Int, refl, variable (on_line 6) x refl, number (on_line 6) 1),
    ((changes, refl, more (variable (on_line 7) x refl) no_more, tt), (operates {op = Equal} {t = Int} tt (reads f refl (variable (on_line 8) x refl)) (number (on_line 8) 1), tt)),
  );
}

-- what a name can stand for
by_name : (P : Option Kind → Type 0) → P (Some (IsField Int)) → P (Some (IsMethod changes)) → P (Some (IsMethod hopes)) → P None → (y : Name) → P (member_named calls y)
by_name P at_f at_c at_m at_none y = go (same_name y f) (same_name y c) (same_name y m)
  where
    go : (a b d : Bool) → P (elim a as (λ e. Option Kind) [
      | true ↦ Some (IsField Int)
      | false ↦ elim b as (λ e. Option Kind) [ true ↦ Some (IsMethod changes) | false ↦ elim d as (λ e. Option Kind) [ true ↦ Some (IsMethod hopes) | false ↦ None ] ]
    ])
    go true b d = at_f
    go false true d = at_c
    go false false true = at_m
    go false false false = at_none

nothing : {A R : Type 0} (a : A) → (let o : Option A = None in o) ≡ Some a → R
nothing a e = cc

no_predicate : (y : Name) (d : Predicate) → predicate_named calls y ≡ Some d → ⊥
no_predicate = by_name (λ o. (d : Predicate) → predicate_in o ≡ Some d → ⊥) nothing nothing nothing nothing

no_function : (y : Name) (g : Function) → function_named calls y ≡ Some g → ⊥
no_function = by_name (λ o. (g : Function) → function_in o ≡ Some g → ⊥) nothing nothing nothing nothing

typed_method : (y : Name) (n : Method) → method_named calls y ≡ Some n → IsTypedMethod calls n
typed_method = by_name (λ o. (n : Method) → method_in o ≡ Some n → IsTypedMethod calls n) (λ n e. nothing n e)
    (λ n e. subst (IsTypedMethod calls) (same_Some changes n e) changes_typed) (λ n e. subst (IsTypedMethod calls) (same_Some hopes n e) hopes_typed) (λ n e. nothing n e)

named : (n : ℕ) (k : Member) → slice_get calls n ≡ Some k → member_named calls k.name ≡ Some k.kind
named zero k e = subst (λ (k : Member). member_named calls k.name ≡ Some k.kind) (same_Some (record { name = f; kind = IsField Int }) k e) refl
named (suc zero) k e = subst (λ (k : Member). member_named calls k.name ≡ Some k.kind) (same_Some (record { name = c; kind = IsMethod changes }) k e) refl
named (suc (suc zero)) k e = subst (λ (k : Member). member_named calls k.name ≡ Some k.kind) (same_Some (record { name = m; kind = IsMethod hopes }) k e) refl
named (suc (suc (suc n))) k e = cc

pub calls_typed : IsTypedProgram calls
calls_typed = record {
  names = named;
  predicates = λ y d e. absurd (no_predicate y d e);
  functions = λ y g e. absurd (no_function y g e);
  methods = typed_method;
  bodies = λ y d a e is. absurd (no_predicate y d e);
  now = λ y d a e is. absurd (no_predicate y d e);
  preconditions = λ y g e. absurd (no_function y g e);
  functions_now = λ y g e. absurd (no_function y g e);
  apart = record {
    measure = λ y g z e st. absurd (no_function y g e);
    body = λ y d z e st. absurd (no_predicate y d e);
    precondition = λ y g z e st r. absurd (no_function y g e);
    unfolding_body = λ y d z e st r. absurd (no_predicate y d e);
  };
}

hopes_calling : IsCallingMethod hopes
hopes_calling = record { requires = ((tt, tt), tt); ensures = tt; body = ((tt, tt), ((tt, tt), ((tt, tt), tt))) }

-- the contract that is called mentions no predicate and no function
alone : (y : Name) → InClosure calls m y → y ≡ m
alone y itself = refl
alone y (further {y = z} k h) = absurd (subst (λ (w : Name). Stands y (mentions calls w)) (alone z k) h)

closed : IsInFieldFragment calls m
closed y k h e =
    let kind : IsMethod hopes ≡ k = same_Some (IsMethod hopes) k (subst (λ (z : Name). member_named calls z ≡ Some k) (alone y h) e) in
    subst IsCallingMember kind hopes_calling

pub hopes_stop : (walk (method_tree calls hopes) (Sat ∷ [])).ending ≡ Failed (on_line 8) AssertCode Sat
unfolding lowest rules
hopes_stop = refl

-- behind the call the field has 6
pub hopes_possible : LastIsPossible (walk (method_tree calls hopes) (Sat ∷ [])).answered
unfolding lowest rules sixes
hopes_possible = (sixes, (refl, (refl, tt)))

pub hopes_fail : MethodFails calls hopes (on_line 8)
hopes_fail = real calls m hopes (Sat ∷ []) AssertCode (on_line 8) calls_typed refl closed (hopes_stop, hopes_possible)
