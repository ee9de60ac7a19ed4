-- The law at work: a method that relies on a function's postcondition, and the function itself.
use Rattle.std.proofs.Common.{◌≡◌, ◌⊎◌, inl, inr, cond, not, ℕ, zero, suc, Bool, true, false, List, [], ◌∷◌, Option, Some, None, slice_get, refl, sym, subst, true≢false}
use Rattle.std.proofs.lemmas.Option.{same_Some}
use Rattle.vx_frac.specs.Fractions.{lowest}
use Rattle.vx_ast.specs.declared.ValueType.TheVariants.{Int}
use Rattle.vx_ast.specs.Syntax.{Name, same_name, result_name, Member, Kind, IsFunction, IsMethod, Predicate, Function, Method, Equal, Add, member_named, predicate_in, function_in, method_in, predicate_named, function_named, method_named, joined}
use Rattle.vx_ast.specs.Apart.{Stands, entered_by, entered_by_measure}
use Rattle.vx_smt_meaning.specs.declared.reply.Reply.{Reply}
use Rattle.vx_smt_meaning.specs.declared.reply.Reply.TheVariants.{Unsat}
use Rattle.vx_meaning.specs.Fails.{Fails}
use Rattle.vx_rules.specs.Members.{rules}
use Rattle.vx_rules.proofs.Names.{same_name_is}
use Rattle.vx_terms.specs.Interpretations.{Each}
use Rattle.vx_types.specs.Typing.{IsTypedFunction, IsTypedMethod, number, variable, operates, applies, no_more, more}
use Rattle.vx_types.specs.Now.{SpeaksOfNow}
use Rattle.vx_types.specs.Premises.{HasConstantAmounts, IsTypedProgram}
use Rattle.vx_sound.specs.Examples.{on_line, x, m}
use Rattle.vx_sound.specs.Law.{Passes}
use Rattle.vx_law.specs.Examples.{next, adder, relies, counts}
use Rattle.vx_law.proofs.Members.{members_sound}

adder_passes : Passes counts next (IsFunction adder) []
unfolding lowest rules
adder_passes = (refl, tt)

both_ways : (b : Bool) → b ≡ true → not b ≡ true → ⊥
both_ways true e f = true≢false (sym f)
both_ways false e f = true≢false (sym e)

relies_passes : Passes counts m (IsMethod relies) (Unsat ∷ [])
unfolding lowest rules
relies_passes = (refl, ((λ i h. both_ways _ h.1.0 h.0), tt))

one_step : (y : Name) (k : Kind) → member_named counts y ≡ Some k → ((y ≡ next) × (k ≡ IsFunction adder)) ⊎ ((y ≡ m) × (k ≡ IsMethod relies))
one_step y k e = go (same_name y next) refl (same_name y m) refl e
  where
    go : (a : Bool) → same_name y next ≡ a → (b : Bool) → same_name y m ≡ b → elim a as (λ c. Option Kind) [ true ↦ Some (IsFunction adder) | false ↦ elim b as (λ c. Option Kind) [ true ↦ Some (IsMethod relies) | false ↦ None ] ] ≡ Some k →
        ((y ≡ next) × (k ≡ IsFunction adder)) ⊎ ((y ≡ m) × (k ≡ IsMethod relies))
    go true n b l e = inl (same_name_is y next n, same_Some k (IsFunction adder) (sym e))
    go false n true l e = inr (same_name_is y m l, same_Some k (IsMethod relies) (sym e))
    go false n false l e = cc

-- what a name can stand for
by_name : (Q : Option Kind → Type 0) → Q (Some (IsFunction adder)) → Q (Some (IsMethod relies)) → Q None → (y : Name) → Q (member_named counts y)
by_name Q at_next at_m at_none y = go (same_name y next) (same_name y m)
  where
    go : (a b : Bool) → Q (elim a as (λ c. Option Kind) [ true ↦ Some (IsFunction adder) | false ↦ elim b as (λ c. Option Kind) [ true ↦ Some (IsMethod relies) | false ↦ None ] ])
    go true b = at_next
    go false true = at_m
    go false false = at_none

nothing : {A R : Type 0} (a : A) → (let o : Option A = None in o) ≡ Some a → R
nothing a e = cc

no_predicate : (y : Name) (d : Predicate) → predicate_named counts y ≡ Some d → ⊥
no_predicate = by_name (λ o. (d : Predicate) → predicate_in o ≡ Some d → ⊥) nothing nothing nothing

each_function : (Q : Function → Type 0) → Q adder → (y : Name) (g : Function) → function_named counts y ≡ Some g → Q g
each_function Q q = by_name (λ o. (g : Function) → function_in o ≡ Some g → Q g) (λ g e. subst Q (same_Some adder g e) q) (λ g e. nothing g e) (λ g e. nothing g e)

each_method : (Q : Method → Type 0) → Q relies → (y : Name) (n : Method) → method_named counts y ≡ Some n → Q n
each_method Q q = by_name (λ o. (n : Method) → method_in o ≡ Some n → Q n) (λ n e. nothing n e) (λ n e. subst Q (same_Some relies n e) q) (λ n e. nothing n e)

names : (n : ℕ) (k : Member) → slice_get counts n ≡ Some k → member_named counts k.name ≡ Some k.kind
names zero k e = subst (λ (k : Member). member_named counts k.name ≡ Some k.kind) (same_Some (record { name = next; kind = IsFunction adder }) k e) refl
names (suc zero) k e = subst (λ (k : Member). member_named counts k.name ≡ Some k.kind) (same_Some (record { name = m; kind = IsMethod relies }) k e) refl
names (suc (suc n)) k e = cc

adder_typed : IsTypedFunction counts adder
adder_typed = record {
  names = (refl, tt);
  parameters = ((λ e. cc), tt);
  requires = tt;
  ensures = (operates {op = Equal} {t = Int} tt (variable (on_line 2) result_name refl) (operates {op = Add} {t = Int} (inl refl) (variable (on_line 2) x refl) (number (on_line 2) 1)), tt);
  measure = tt;
  body = operates {op = Add} {t = Int} (inl refl) (variable (on_line 3) x refl) (number (on_line 3) 1);
}

relies_typed : IsTypedMethod counts relies
relies_typed = record {
  names = (refl, tt);
  requires = tt;
  ensures = tt;
  body = (operates {op = Equal} {t = Int} tt (applies next adder refl (more (variable (on_line 5) x refl) no_more)) (operates {op = Add} {t = Int} (inl refl) (variable (on_line 5) x refl) (number (on_line 5) 1)), tt);
}

pub counts_typed : IsTypedProgram counts
counts_typed = record {
  names = names;
  predicates = λ y d e. absurd (no_predicate y d e);
  functions = each_function (IsTypedFunction counts) adder_typed;
  methods = each_method (IsTypedMethod counts) relies_typed;
  bodies = λ y d a e is. absurd (no_predicate y d e);
  now = λ y d a e is. absurd (no_predicate y d e);
  preconditions = each_function (λ g. Each HasConstantAmounts g.requires) tt;
  functions_now = each_function SpeaksOfNow record { requires = tt; ensures = ((tt, (tt, tt)), tt); measure = tt; body = (tt, tt) };
  apart = record {
    measure = λ y g z e st. absurd (each_function (λ g. Stands z (entered_by_measure g.decreases) → ⊥) (λ s. s) y g e st);
    body = λ y d z e st. absurd (no_predicate y d e);
    precondition = λ y g z e st r. each_function (λ g. Stands z (entered_by (joined g.place g.requires)) → ⊥) (λ s. s) y g e st;
    unfolding_body = λ y d z e st r. no_predicate y d e;
  };
}

-- an unsat answers the method's question
answers : Name → List Reply
answers y = cond (same_name y m) (Unsat ∷ []) []

all_pass : (y : Name) (l : Kind) → member_named counts y ≡ Some l → Passes counts y l (answers y)
unfolding answers
all_pass y l e = go (one_step y l e)
  where
    go : ((y ≡ next) × (l ≡ IsFunction adder)) ⊎ ((y ≡ m) × (l ≡ IsMethod relies)) → Passes counts y l (answers y)
    go (inl k) = subst (λ (l : Kind). Passes counts y l (answers y)) (sym k.1) (subst (λ (y : Name). Passes counts y (IsFunction adder) (answers y)) (sym k.0) adder_passes)
    go (inr k) = subst (λ (l : Kind). Passes counts y l (answers y)) (sym k.1) (subst (λ (y : Name). Passes counts y (IsMethod relies) (answers y)) (sym k.0) relies_passes)

pub relies_never_fails : Fails counts m (IsMethod relies) → ⊥
relies_never_fails = members_sound counts m (IsMethod relies) answers counts_typed refl (λ y l leads e. all_pass y l e)

pub adder_never_fails : Fails counts next (IsFunction adder) → ⊥
adder_never_fails = members_sound counts next (IsFunction adder) answers counts_typed refl (λ y l leads e. all_pass y l e)
