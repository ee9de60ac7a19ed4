-- The program whose failure isn't real is typed.
use Rattle.std.proofs.Common.{◌≡◌, inl, ◌<◌, ℕ, zero, suc, Bool, true, false, Option, Some, None, slice_get, refl, subst, ap, ◌∙◌, arith}
use Rattle.std.proofs.lemmas.Option.{same_Some}
use Rattle.vx_frac.specs.Fractions.{over}
use Rattle.vx_ast.specs.declared.ValueType.TheVariants.{Int}
use Rattle.vx_ast.specs.declared.ValueType.TheVariants as type
use Rattle.vx_ast.specs.Syntax.{Name, same_name, Member, Predicate, Function, Method, Assertion, Kind, IsField, IsPredicate, IsMethod, Equal, Greater, Both, Pure, Points, Variable, Part, Operate, Read, Number, member_named, predicate_in, function_in, method_in, predicate_named, function_named, method_named}
use Rattle.vx_ast.specs.Apart.{Stands, entered_by_body}
use Rattle.vx_types.specs.Typing.{IsTypedPredicate, IsTypedMethod, number, part, variable, nulls, nots, operates, reads, no_more, more}
use Rattle.vx_types.specs.Now.{SaysNow}
use Rattle.vx_types.specs.Premises.{HasConstantAmounts, IsTypedProgram}
use Rattle.vx_examples.specs.Words.{at}
use Rattle.vx_examples.specs.Predicates.{f, x, m, positive, hidden, hidden_positive, hidden_m}

-- what a name can stand for
by_name : (P : Option Kind → Type 0) → P (Some (IsField Int)) → P (Some (IsPredicate hidden_positive)) → P (Some (IsMethod hidden_m)) → P None → (y : Name) → P (member_named hidden y)
by_name P at_f at_positive at_m at_none y = go (same_name y f) (same_name y positive) (same_name y m)
  where
    go : (a b d : Bool) → P (elim a as (λ e. Option Kind) [
      | true ↦ Some (IsField Int)
      | false ↦ elim b as (λ e. Option Kind) [ true ↦ Some (IsPredicate hidden_positive) | false ↦ elim d as (λ e. Option Kind) [ true ↦ Some (IsMethod hidden_m) | false ↦ None ] ]
    ])
    go true b d = at_f
    go false true d = at_positive
    go false false true = at_m
    go false false false = at_none

nothing : {A R : Type 0} (a : A) → (let o : Option A = None in o) ≡ Some a → R
nothing a e = cc

the_predicate : (y : Name) (d : Predicate) → predicate_named hidden y ≡ Some d → hidden_positive ≡ d
the_predicate = by_name (λ o. (d : Predicate) → predicate_in o ≡ Some d → hidden_positive ≡ d)
    (λ d e. nothing d e) (λ d e. same_Some hidden_positive d e) (λ d e. nothing d e) (λ d e. nothing d e)

the_method : (y : Name) (n : Method) → method_named hidden y ≡ Some n → hidden_m ≡ n
the_method = by_name (λ o. (n : Method) → method_in o ≡ Some n → hidden_m ≡ n)
    (λ n e. nothing n e) (λ n e. nothing n e) (λ n e. same_Some hidden_m n e) (λ n e. nothing n e)

no_function : (y : Name) (g : Function) → function_named hidden y ≡ Some g → ⊥
no_function = by_name (λ o. (g : Function) → function_in o ≡ Some g → ⊥) nothing nothing nothing nothing

named : (n : ℕ) (k : Member) → slice_get hidden n ≡ Some k → member_named hidden k.name ≡ Some k.kind
named zero k e = subst (λ (k : Member). member_named hidden k.name ≡ Some k.kind) (same_Some (record { name = f; kind = IsField Int }) k e) refl
named (suc zero) k e = subst (λ (k : Member). member_named hidden k.name ≡ Some k.kind) (same_Some (record { name = positive; kind = IsPredicate hidden_positive }) k e) refl
named (suc (suc zero)) k e = subst (λ (k : Member). member_named hidden k.name ≡ Some k.kind) (same_Some (record { name = m; kind = IsMethod hidden_m }) k e) refl
named (suc (suc (suc n))) k e = cc

one_positive : 0 < 1
one_positive = omega arith

positive_typed : IsTypedPredicate hidden hidden_positive
positive_typed = record {
  names = (refl, tt);
  parameters = ((λ e. cc), tt);
  body = (
    (variable (at 2 34) x refl, (Int, refl), part (at 2 30) 1 1 one_positive),
    operates {op = Greater} {t = Int} (inl refl) (reads f refl (variable (at 2 42) x refl)) (number (at 2 48) 0),
  );
}

method_typed : IsTypedMethod hidden hidden_m
method_typed = record {
  names = (refl, tt);
  requires = (((hidden_positive, refl, more (variable (at 3 36) x refl) no_more), part (at 3 27) 1 1 one_positive), tt);
  ensures = tt;
  body = (nots (operates {op = Equal} {t = type.Ref} tt (variable (at 5 8) x refl) (nulls (at 5 13))), tt);
}

abbrev content : Assertion
content = Both (Points (at 2 30) (Variable (at 2 34) x) f (Part (at 2 30) 1 1)) (Pure (Operate (at 2 42) Greater (Read (at 2 42) (Variable (at 2 42) x) f) (Number (at 2 48) 0)))

-- what holds of the one body
each_body : (Q : Assertion → Type 0) → Q content → (y : Name) (d : Predicate) (a : Assertion) → predicate_named hidden y ≡ Some d → d.body ≡ Some a → Q a
each_body Q q y d a named body = subst Q (same_Some content a (ap (λ (d : Predicate). d.body) (the_predicate y d named) ∙ body)) q

enters_nothing : (y : Name) (d : Predicate) (z : Name) → predicate_named hidden y ≡ Some d → Stands z (entered_by_body d.body) → ⊥
enters_nothing y d z e st = subst (λ (d : Predicate). Stands z (entered_by_body d.body) → ⊥) (the_predicate y d e) (λ s. s) st

pub hidden_typed : IsTypedProgram hidden
hidden_typed = record {
  names = named;
  predicates = λ y d e. subst (IsTypedPredicate hidden) (the_predicate y d e) positive_typed;
  functions = λ y g e. absurd (no_function y g e);
  methods = λ y n e. subst (IsTypedMethod hidden) (the_method y n e) method_typed;
  bodies = each_body HasConstantAmounts ((over 1 1, (λ p ap s. refl), refl), tt);
  now = each_body SaysNow ((tt, tt), (tt, tt));
  preconditions = λ y g e. absurd (no_function y g e);
  functions_now = λ y g e. absurd (no_function y g e);
  apart = record {
    measure = λ y g z e st. absurd (no_function y g e);
    body = λ y d z e st. absurd (enters_nothing y d z e st);
    precondition = λ y g z e st r. absurd (no_function y g e);
    unfolding_body = λ y d z e st r. enters_nothing y d z e st;
  };
}
