-- The law at work for a function that applies itself, by its measure.
use Rattle.std.proofs.Common.{◌≡◌, inl, ℕ, zero, suc, ◌-◌, le-leb, lt-ltb, nltb→le, ℤ, pos, negsuc, Bool, true, false, not, cond, [], ◌∷◌, Option, Some, None, slice_get, refl, sym, ◌∙◌, ap, subst, arith, true≢false}
use Rattle.std.specs.Prelude.{ltb, ◌-ℤ◌, int_le, int_lt}
use Rattle.std.proofs.lemmas.Float.{T_from_true}
use Rattle.std.proofs.lemmas.Option.{same_Some}
use Rattle.vx_frac.specs.Fractions.{lowest}
use Rattle.vx_ast.specs.declared.ValueType.TheVariants.{Int}
use Rattle.vx_ast.specs.Syntax.{Name, same_name, Member, Kind, IsFunction, Predicate, Function, Method, LessEqual, Subtract, member_named, predicate_in, function_in, method_in, predicate_named, function_named, method_named, joined}
use Rattle.vx_ast.specs.Apart.{Stands, entered_by, entered_by_measure}
use Rattle.vx_smt_meaning.specs.declared.reply.Reply.TheVariants.{Unsat}
use Rattle.vx_meaning.specs.Fails.{Fails}
use Rattle.vx_terms.specs.Sorts.{IntSort, Variable}
use Rattle.vx_terms.specs.Interpretations.{Interpretation, as_int, Each}
use Rattle.vx_rules.specs.Members.{rules}
use Rattle.vx_rules.proofs.Names.{same_name_is}
use Rattle.vx_types.specs.Typing.{IsTypedFunction, number, variable, operates, chooses, applies, no_more, more}
use Rattle.vx_types.specs.Now.{SpeaksOfNow}
use Rattle.vx_types.specs.Premises.{HasConstantAmounts, IsTypedProgram}
use Rattle.vx_sound.specs.Examples.{on_line, x}
use Rattle.vx_sound.specs.Law.{Passes}
use Rattle.vx_law.specs.Examples.{down, descender, descends}
use Rattle.vx_law.proofs.Members.{members_sound}

-- a number that isn't at most 0 is at least 0, and more than itself less 1

above : (v : ℤ) → not (int_le v (pos 0)) ≡ true → int_le (pos 0) v ≡ true
above (pos n) h = le-leb 0 n (omega arith)
above (negsuc n) h = absurd (true≢false (sym h))

lowers : (v : ℤ) → not (int_le v (pos 0)) ≡ true → int_lt (v -ℤ pos 1) v ≡ true
lowers (pos n) h = go (ltb n 1) refl
  where
    go : (b : Bool) → ltb n 1 ≡ b → int_lt (cond b (negsuc (1 - suc n)) (pos (n - 1))) (pos n) ≡ true
    go true e = refl
    go false e = lt-ltb (n - 1) n (omega (arith, nltb→le n 1 (T_from_true (not (ltb n 1)) (ap not e))))
lowers (negsuc n) h = absurd (true≢false (sym h))

not_both : (a b : Bool) → a ≡ true → b ≡ true → not (cond a b false) ≡ true → ⊥
not_both true b e f g = true≢false (sym g ∙ ap not f)
not_both false b e f g = true≢false (sym e)

-- the parameter, as an interpretation has it
abbrev its_x : Interpretation → ℤ
its_x i = as_int (i.functions (Variable 0) IntSort [])

descender_passes : Passes descends down (IsFunction descender) (Unsat ∷ [])
unfolding lowest rules
descender_passes = (refl, ((λ i h. not_both (int_le (pos 0) (its_x i)) (int_lt (its_x i -ℤ pos 1) (its_x i)) (above (its_x i) h.1.1.0) (lowers (its_x i) h.1.1.0) h.0), tt))

-- what a name can stand for
by_name : (Q : Option Kind → Type 0) → Q (Some (IsFunction descender)) → Q None → (y : Name) → Q (member_named descends y)
by_name Q at_zero at_none y = go (same_name y down)
  where
    go : (a : Bool) → Q (elim a as (λ c. Option Kind) [ true ↦ Some (IsFunction descender) | false ↦ None ])
    go true = at_zero
    go false = at_none

nothing : {A R : Type 0} (a : A) → (let o : Option A = None in o) ≡ Some a → R
nothing a e = cc

no_predicate : (y : Name) (d : Predicate) → predicate_named descends y ≡ Some d → ⊥
no_predicate = by_name (λ o. (d : Predicate) → predicate_in o ≡ Some d → ⊥) nothing nothing

no_method : (y : Name) (m : Method) → method_named descends y ≡ Some m → ⊥
no_method = by_name (λ o. (m : Method) → method_in o ≡ Some m → ⊥) nothing nothing

each_function : (Q : Function → Type 0) → Q descender → (y : Name) (g : Function) → function_named descends y ≡ Some g → Q g
each_function Q q = by_name (λ o. (g : Function) → function_in o ≡ Some g → Q g) (λ g e. subst Q (same_Some descender g e) q) (λ g e. nothing g e)

names : (n : ℕ) (k : Member) → slice_get descends n ≡ Some k → member_named descends k.name ≡ Some k.kind
names zero k e = subst (λ (k : Member). member_named descends k.name ≡ Some k.kind) (same_Some (record { name = down; kind = IsFunction descender }) k e) refl
names (suc n) k e = cc

descender_typed : IsTypedFunction descends descender
descender_typed = record {
  names = (refl, tt);
  parameters = ((λ e. cc), tt);
  requires = tt;
  ensures = tt;
  measure = variable (on_line 3) x refl;
  body = chooses (operates {op = LessEqual} {t = Int} (inl refl) (variable (on_line 4) x refl) (number (on_line 4) 0)) (number (on_line 4) 0)
      (applies down descender refl (more (operates {op = Subtract} {t = Int} (inl refl) (variable (on_line 4) x refl) (number (on_line 4) 1)) no_more));
}

pub descends_typed : IsTypedProgram descends
descends_typed = record {
  names = names;
  predicates = λ y d e. absurd (no_predicate y d e);
  functions = each_function (IsTypedFunction descends) descender_typed;
  methods = λ y m e. absurd (no_method y m e);
  bodies = λ y d a e is. absurd (no_predicate y d e);
  now = λ y d a e is. absurd (no_predicate y d e);
  preconditions = each_function (λ g. Each HasConstantAmounts g.requires) tt;
  functions_now = each_function SpeaksOfNow record { requires = tt; ensures = tt; measure = tt; body = ((tt, tt), tt, ((tt, tt), tt)) };
  apart = record {
    measure = λ y g z e st. absurd (each_function (λ g. Stands z (entered_by_measure g.decreases) → ⊥) (λ s. s) y g e st);
    body = λ y d z e st. absurd (no_predicate y d e);
    precondition = λ y g z e st r. each_function (λ g. Stands z (entered_by (joined g.place g.requires)) → ⊥) (λ s. s) y g e st;
    unfolding_body = λ y d z e st r. no_predicate y d e;
  };
}

one_member : (y : Name) (l : Kind) → member_named descends y ≡ Some l → (y ≡ down) × (l ≡ IsFunction descender)
one_member y l e = go (same_name y down) refl e
  where
    go : (a : Bool) → same_name y down ≡ a → elim a as (λ c. Option Kind) [ true ↦ Some (IsFunction descender) | false ↦ None ] ≡ Some l → (y ≡ down) × (l ≡ IsFunction descender)
    go true n e = (same_name_is y down n, same_Some l (IsFunction descender) (sym e))
    go false n e = cc

pub descender_never_fails : Fails descends down (IsFunction descender) → ⊥
descender_never_fails = members_sound descends down (IsFunction descender) (λ y. Unsat ∷ []) descends_typed refl
    (λ y l leads e. let k = one_member y l e in subst (λ (l : Kind). Passes descends y l (Unsat ∷ [])) (sym k.1) (subst (λ (y : Name). Passes descends y (IsFunction descender) (Unsat ∷ [])) (sym k.0) descender_passes))
