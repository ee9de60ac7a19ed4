-- The law at work over a method that unfolds an instance and folds it again.
use Rattle.std.proofs.Common.{◌≡◌, ◌<◌, ◌⊎◌, inl, inr, ℕ, zero, suc, Bool, true, false, not, List, [], ◌∷◌, Option, Some, None, slice_get, refl, sym, ◌∙◌, ap, subst, true≢false, arith}
use Rattle.std.proofs.lemmas.Option.{same_Some}
use Rattle.vx_frac.specs.Fractions.{lowest, over}
use Rattle.vx_ast.specs.declared.ValueType.TheVariants.{Int}
use Rattle.vx_ast.specs.Syntax.{Name, same_name, Member, Kind, IsField, IsPredicate, IsMethod, Predicate, Function, Method, Assertion, Equal, member_named, predicate_in, function_in, method_in, predicate_named, function_named, method_named}
use Rattle.vx_terms.specs.Interpretations.{Each}
use Rattle.vx_meaning.specs.Fails.{Fails}
use Rattle.vx_smt_meaning.specs.declared.reply.Reply.{Reply}
use Rattle.vx_smt_meaning.specs.declared.reply.Reply.TheVariants.{Unsat}
use Rattle.vx_rules.specs.Members.{rules}
use Rattle.vx_types.specs.Typing.{IsTypedPredicate, IsTypedMethod, HaveTypes, number, part, variable, operates, reads, unfoldings, no_more, more}
use Rattle.vx_ast.specs.Apart.{Stands, entered_by_body}
use Rattle.vx_types.specs.Now.{SaysNow}
use Rattle.vx_types.specs.Premises.{HasConstantAmounts, IsTypedProgram}
use Rattle.vx_types.specs.Closure.{InClosure, itself, further, mentions}
use Rattle.vx_sound.specs.Law.{Passes}
use Rattle.vx_sound.specs.Examples.{on_line}
use Rattle.vx_sound_preds.specs.Examples.{here, P, f, x, cell, cell_body}
use Rattle.vx_sound_preds.specs.FoldExamples.{m, its_x, renews, renewed}
use Rattle.vx_types.specs.InstanceLanguage.{IsInstanceMember}
use Rattle.vx_sound_preds.proofs.Soundness.{instance_members_sound}

one_positive : 0 < 1
one_positive = omega arith

nothing : {A R : Type 0} (a : A) → (let o : Option A = None in o) ≡ Some a → R
nothing a e = cc

-- what a name can stand for
by_name : (Q : Option Kind → Type 0) → Q (Some (IsField Int)) → Q (Some (IsPredicate cell)) → Q (Some (IsMethod renews)) → Q None → (y : Name) → Q (member_named renewed y)
by_name Q at_f at_p at_m at_none y = go (same_name y f) (same_name y P) (same_name y m)
  where
    go : (a b d : Bool) → Q (elim a as (λ e. Option Kind) [
      | true ↦ Some (IsField Int)
      | false ↦ elim b as (λ e. Option Kind) [ true ↦ Some (IsPredicate cell) | false ↦ elim d as (λ e. Option Kind) [ true ↦ Some (IsMethod renews) | false ↦ None ] ]
    ])
    go true b d = at_f
    go false true d = at_p
    go false false true = at_m
    go false false false = at_none

no_function : (y : Name) (g : Function) → function_named renewed y ≡ Some g → ⊥
no_function = by_name (λ o. (g : Function) → function_in o ≡ Some g → ⊥) nothing nothing nothing nothing

the_predicate : (y : Name) (d : Predicate) → predicate_named renewed y ≡ Some d → cell ≡ d
the_predicate = by_name (λ o. (d : Predicate) → predicate_in o ≡ Some d → cell ≡ d) (λ d e. nothing d e) (same_Some cell) (λ d e. nothing d e) (λ d e. nothing d e)

the_method : (y : Name) (n : Method) → method_named renewed y ≡ Some n → renews ≡ n
the_method = by_name (λ o. (n : Method) → method_in o ≡ Some n → renews ≡ n) (λ n e. nothing n e) (λ n e. nothing n e) (same_Some renews) (λ n e. nothing n e)

named : (n : ℕ) (k : Member) → slice_get renewed n ≡ Some k → member_named renewed k.name ≡ Some k.kind
named zero k e = subst (λ (k : Member). member_named renewed k.name ≡ Some k.kind) (same_Some (record { name = f; kind = IsField Int }) k e) refl
named (suc zero) k e = subst (λ (k : Member). member_named renewed k.name ≡ Some k.kind) (same_Some (record { name = P; kind = IsPredicate cell }) k e) refl
named (suc (suc zero)) k e = subst (λ (k : Member). member_named renewed k.name ≡ Some k.kind) (same_Some (record { name = m; kind = IsMethod renews }) k e) refl
named (suc (suc (suc n))) k e = cc

-- It is typed.

arguments_typed : HaveTypes renewed renews.parameters its_x cell.parameters
arguments_typed = more (variable (on_line 1) x refl) no_more

renews_typed : IsTypedMethod renewed renews
renews_typed = record {
  names = (refl, tt);
  requires = (((cell, refl, arguments_typed), part (on_line 1) 1 1 one_positive), tt);
  ensures = (((cell, refl, arguments_typed), part (on_line 1) 1 1 one_positive), tt);
  body = (
    unfoldings P cell refl arguments_typed (part (on_line 1) 1 1 one_positive) (operates {op = Equal} {t = Int} tt (reads f refl (variable (on_line 4) x refl)) (number (on_line 4) 0)),
    (
      ((cell, refl, arguments_typed), part (on_line 1) 1 1 one_positive),
      ((Int, refl, variable (on_line 6) x refl, number (on_line 6) 0), (((cell, refl, arguments_typed), part (on_line 1) 1 1 one_positive), tt)),
    ),
  );
}

cell_typed : IsTypedPredicate renewed cell
cell_typed = record {
  names = (refl, tt);
  parameters = ((λ e. cc), tt);
  body = ((variable here x refl, (Int, refl), part here 1 1 one_positive), operates {op = Equal} {t = Int} tt (reads f refl (variable here x refl)) (number here 0));
}

-- what holds of the body holds of each predicate's
each_body : (Q : Assertion → Type 0) → Q cell_body → (y : Name) (d : Predicate) (a : Assertion) → predicate_named renewed y ≡ Some d → d.body ≡ Some a → Q a
each_body Q k y d a is body = subst Q (same_Some cell_body a (ap (λ (d : Predicate). d.body) (the_predicate y d is) ∙ body)) k

enters_nothing : (y : Name) (d : Predicate) (z : Name) → predicate_named renewed y ≡ Some d → Stands z (entered_by_body d.body) → ⊥
enters_nothing y d z is st = subst (λ (d : Predicate). Stands z (entered_by_body d.body)) (sym (the_predicate y d is)) st

pub renewed_typed : IsTypedProgram renewed
renewed_typed = record {
  names = named;
  predicates = λ y d e. subst (IsTypedPredicate renewed) (the_predicate y d e) cell_typed;
  functions = λ y g e. absurd (no_function y g e);
  methods = λ y n e. subst (IsTypedMethod renewed) (the_method y n e) renews_typed;
  bodies = each_body HasConstantAmounts ((over 1 1, (λ p ap s. refl), refl), tt);
  now = each_body SaysNow ((tt, tt), (tt, tt));
  preconditions = λ y g e. absurd (no_function y g e);
  functions_now = λ y g e. absurd (no_function y g e);
  apart = record {
    measure = λ y g z e st. absurd (no_function y g e);
    body = λ y d z e st. absurd (enters_nothing y d z e st);
    precondition = λ y g z e st r. absurd (no_function y g e);
    unfolding_body = λ y d z e st r. enters_nothing y d z e st;
  };
}

-- Its walks pass.

both_ways : (b : Bool) → b ≡ true → not b ≡ true → ⊥
both_ways true e f = true≢false (sym f)
both_ways false e f = true≢false (sym e)

pub renews_passes : Passes renewed m (IsMethod renews) (Unsat ∷ [])
unfolding lowest rules
renews_passes = (refl, ((λ i h. both_ways _ h.1.1.1.1.1.0 h.0), tt))

pub cell_passes : Passes renewed P (IsPredicate cell) (Unsat ∷ [])
unfolding lowest rules
cell_passes = (refl, tt)

-- m leads to itself and to P

only : (z y : Name) (ys : List Name) → Each (λ w. w ≡ z) ys → Stands y ys → y ≡ z
only z y [] h s = absurd s
only z y (w ∷ ws) h (inl e) = e ∙ h.0
only z y (w ∷ ws) h (inr s) = only z y ws h.1 s

reached : (y : Name) → InClosure renewed m y → (y ≡ m) ⊎ (y ≡ P)
reached y itself = inl refl
reached y (further {y = z} k h) = go (reached z k)
  where
    go : (z ≡ m) ⊎ (z ≡ P) → (y ≡ m) ⊎ (y ≡ P)
    go (inl e) = inr (only P y (mentions renewed m) (refl, (refl, (refl, (refl, (refl, tt))))) (subst (λ (w : Name). Stands y (mentions renewed w)) e h))
    go (inr e) = absurd (subst (λ (w : Name). Stands y (mentions renewed w)) e h)

replies : Name → List Reply
replies y = Unsat ∷ []

closed : (y : Name) (k : Kind) → InClosure renewed m y → member_named renewed y ≡ Some k → IsInstanceMember k × Passes renewed y k (replies y)
unfolding replies
closed y k c e = go (reached y c)
  where
    at : (z : Name) (l : Kind) → y ≡ z → member_named renewed z ≡ Some l → IsInstanceMember l × Passes renewed z l (Unsat ∷ []) → IsInstanceMember k × Passes renewed y k (Unsat ∷ [])
    at z l same is h =
        let kind : l ≡ k = same_Some l k (sym is ∙ subst (λ (z : Name). member_named renewed z ≡ Some k) same e) in
        subst (λ (k : Kind). IsInstanceMember k × Passes renewed y k (Unsat ∷ [])) kind (subst (λ (z : Name). IsInstanceMember l × Passes renewed z l (Unsat ∷ [])) (sym same) h)

    go : (y ≡ m) ⊎ (y ≡ P) → IsInstanceMember k × Passes renewed y k (Unsat ∷ [])
    go (inl same) = at m (IsMethod renews) same refl (tt, renews_passes)
    go (inr same) = at P (IsPredicate cell) same refl (tt, cell_passes)

pub renews_never_fails : Fails renewed m (IsMethod renews) → ⊥
renews_never_fails = instance_members_sound renewed m (IsMethod renews) replies renewed_typed refl closed
