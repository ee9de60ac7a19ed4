-- The law at work over a call, the failing run of a caller, and a contract that the law has to leave out.
use Rattle.std.proofs.Common.{◌≡◌, ◌<◌, ℕ, zero, suc, Bool, true, false, not, [], ◌∷◌, Option, Some, None, slice_get, refl, sym, subst, true≢false, arith}
use Rattle.std.proofs.lemmas.Option.{same_Some}
use Rattle.vx_frac.specs.Fractions.{lowest}
use Rattle.vx_ast.specs.declared.ValueType.TheVariants.{Int}
use Rattle.vx_ast.specs.Syntax.{Name, same_name, Member, Kind, IsField, IsMethod, Predicate, Function, Method, Equal, NoMore, Call, Done, Then, member_named, predicate_in, function_in, method_in, predicate_named, function_named, method_named}
use Rattle.vx_meaning.specs.Values.{BoolValue}
use Rattle.vx_meaning.specs.States.{State}
use Rattle.vx_meaning.specs.Outcomes.{passes, refused, is_over}
use Rattle.vx_meaning.specs.Fails.{Fails, MethodFails, body}
use Rattle.vx_smt_meaning.specs.declared.reply.Reply.TheVariants.{Unsat, Sat}
use Rattle.vx_rules.specs.Trees.{CallCode, Passed, Failed, walk}
use Rattle.vx_rules.specs.Members.{rules, method_tree}
use Rattle.vx_types.specs.Typing.{IsTypedMethod, number, part, variable, operates, reads, no_more, more}
use Rattle.vx_ast.specs.Apart.{Stands}
use Rattle.vx_types.specs.Premises.{IsTypedProgram}
use Rattle.vx_types.specs.Closure.{InClosure, itself, further, mentions}
use Rattle.vx_types.specs.CallLanguage.{IsCallingMethod, IsCallingMember}
use Rattle.vx_sound.specs.Law.{AllRight, MethodLaw, Passes}
use Rattle.vx_sound.specs.Examples.{on_line, x, f, m, c, fills, uses, calls, trusts, forbidden, untyped}
use Rattle.vx_sound.proofs.Members.{calling_sound}

one_positive : 0 < 1
one_positive = omega arith

fills_typed : IsTypedMethod calls fills
fills_typed = record {
  names = (refl, tt);
  requires = ((variable (on_line 2) x refl, (Int, refl), part (on_line 2) 1 1 one_positive), tt);
  ensures = ((variable (on_line 3) x refl, (Int, refl), part (on_line 3) 1 1 one_positive), (operates {op = Equal} {t = Int} tt (reads f refl (variable (on_line 4) x refl)) (number (on_line 4) 1), tt));
  body = tt;
}

uses_typed : IsTypedMethod calls uses
uses_typed = record {
  names = (refl, tt);
  requires = ((variable (on_line 6) x refl, (Int, refl), part (on_line 6) 1 1 one_positive), tt);
  ensures = tt;
  body = ((fills, refl, more (variable (on_line 7) x refl) no_more, tt), (operates {op = Equal} {t = Int} tt (reads f refl (variable (on_line 8) x refl)) (number (on_line 8) 1), tt));
}

-- what a name can stand for
by_name : (P : Option Kind → Type 0) → P (Some (IsField Int)) → P (Some (IsMethod fills)) → P (Some (IsMethod uses)) → P None → (y : Name) → P (member_named calls y)
by_name P at_f at_c at_m at_none y = go (same_name y f) (same_name y c) (same_name y m)
  where
    go : (a b d : Bool) → P (elim a as (λ e. Option Kind) [
      | true ↦ Some (IsField Int)
      | false ↦ elim b as (λ e. Option Kind) [ true ↦ Some (IsMethod fills) | false ↦ elim d as (λ e. Option Kind) [ true ↦ Some (IsMethod uses) | false ↦ None ] ]
    ])
    go true b d = at_f
    go false true d = at_c
    go false false true = at_m
    go false false false = at_none

nothing : {A R : Type 0} (a : A) → (let o : Option A = None in o) ≡ Some a → R
nothing a e = cc

no_predicate : (y : Name) (d : Predicate) → predicate_named calls y ≡ Some d → ⊥
no_predicate = by_name (λ o. (d : Predicate) → predicate_in o ≡ Some d → ⊥) nothing nothing nothing nothing

no_function : (y : Name) (g : Function) → function_named calls y ≡ Some g → ⊥
no_function = by_name (λ o. (g : Function) → function_in o ≡ Some g → ⊥) nothing nothing nothing nothing

typed_method : (y : Name) (n : Method) → method_named calls y ≡ Some n → IsTypedMethod calls n
typed_method = by_name (λ o. (n : Method) → method_in o ≡ Some n → IsTypedMethod calls n) (λ n e. nothing n e)
    (λ n e. subst (IsTypedMethod calls) (same_Some fills n e) fills_typed) (λ n e. subst (IsTypedMethod calls) (same_Some uses n e) uses_typed) (λ n e. nothing n e)

named : (n : ℕ) (k : Member) → slice_get calls n ≡ Some k → member_named calls k.name ≡ Some k.kind
named zero k e = subst (λ (k : Member). member_named calls k.name ≡ Some k.kind) (same_Some (record { name = f; kind = IsField Int }) k e) refl
named (suc zero) k e = subst (λ (k : Member). member_named calls k.name ≡ Some k.kind) (same_Some (record { name = c; kind = IsMethod fills }) k e) refl
named (suc (suc zero)) k e = subst (λ (k : Member). member_named calls k.name ≡ Some k.kind) (same_Some (record { name = m; kind = IsMethod uses }) k e) refl
named (suc (suc (suc n))) k e = cc

pub calls_typed : IsTypedProgram calls
calls_typed = record {
  names = named;
  predicates = λ y d e. absurd (no_predicate y d e);
  functions = λ y g e. absurd (no_function y g e);
  methods = typed_method;
  bodies = λ y d a e is. absurd (no_predicate y d e);
  now = λ y d a e is. absurd (no_predicate y d e);
  preconditions = λ y g e. absurd (no_function y g e);
  functions_now = λ y g e. absurd (no_function y g e);
  apart = record {
    measure = λ y g z e st. absurd (no_function y g e);
    body = λ y d z e st. absurd (no_predicate y d e);
    precondition = λ y g z e st r. absurd (no_function y g e);
    unfolding_body = λ y d z e st r. absurd (no_predicate y d e);
  };
}

uses_calling : IsCallingMethod uses
uses_calling = record { requires = ((tt, tt), tt); ensures = tt; body = ((tt, tt), ((tt, tt), tt)) }

both_ways : (b : Bool) → b ≡ true → not b ≡ true → ⊥
both_ways true e f = true≢false (sym f)
both_ways false e f = true≢false (sym e)

pub uses_passes : Passes calls m (IsMethod uses) (Unsat ∷ [])
unfolding lowest rules
uses_passes = (refl, ((λ i h. both_ways _ h.1.1.0 h.0), tt))

-- neither the method nor the contract that it calls mentions a predicate or a function
alone : (y : Name) → InClosure calls m y → y ≡ m
alone y itself = refl
alone y (further {y = z} k h) = absurd (subst (λ (w : Name). Stands y (mentions calls w)) (alone z k) h)

closed : (y : Name) (k : Kind) → InClosure calls m y → member_named calls y ≡ Some k → IsCallingMember k × Passes calls y k (Unsat ∷ [])
closed y k h e =
    let same : y ≡ m = alone y h in
    let kind : IsMethod uses ≡ k = same_Some (IsMethod uses) k (subst (λ (z : Name). member_named calls z ≡ Some k) same e) in
    subst (λ (k : Kind). IsCallingMember k × Passes calls y k (Unsat ∷ [])) kind (uses_calling, subst (λ (z : Name). Passes calls z (IsMethod uses) (Unsat ∷ [])) (sym same) uses_passes)

pub uses_never_fail : Fails calls m (IsMethod uses) → ⊥
uses_never_fail = calling_sound calls m (IsMethod uses) (λ y. Unsat ∷ []) calls_typed refl closed

-- A precondition that can't be taken

empty : State
empty = record { store = []; heap = []; holdings = []; old_heap = []; old_holdings = [] }

pub forbidden_fails : MethodFails forbidden trusts (on_line 4)
unfolding empty
forbidden_fails =
    body empty (Then (Call (on_line 4) [] c NoMore) Done)
    ([], [], tt, tt, ([], empty, passes (BoolValue true) (0, λ n le. refl) refl, refl))
    refl (is_over tt (passes [] (0, λ n le. refl) (refused (on_line 4) (0, λ n le. refl) refl)))

pub forbidden_stops : (walk (method_tree forbidden trusts) (Sat ∷ [])).ending ≡ Failed (on_line 4) CallCode Sat
unfolding rules
forbidden_stops = refl

-- A contract that isn't typed: the rules take the unknown name as true, and the meaning fails.

trusts_typed : IsTypedMethod untyped trusts
trusts_typed = record { names = tt; requires = tt; ensures = tt; body = ((_, refl, no_more, tt), tt) }

trusts_calling : IsCallingMethod trusts
trusts_calling = record { requires = tt; ensures = tt; body = (tt, tt) }

untyped_passes : (walk (method_tree untyped trusts) []).ending ≡ Passed
unfolding rules
untyped_passes = refl

untyped_right : AllRight (walk (method_tree untyped trusts) []).answered
unfolding rules
untyped_right = tt

untyped_fails : MethodFails untyped trusts (on_line 4)
unfolding empty
untyped_fails =
    body empty (Then (Call (on_line 4) [] c NoMore) Done)
    ([], [], tt, tt, ([], empty, passes (BoolValue true) (0, λ n le. refl) refl, refl))
    refl (is_over tt (passes [] (0, λ n le. refl) (refused (on_line 4) (0, λ n le. refl) refl)))

pub not_each_by_itself : MethodLaw IsCallingMethod → ⊥
not_each_by_itself law = law untyped trusts [] trusts_typed trusts_calling untyped_passes untyped_right (on_line 4) untyped_fails
