-- The law at work for functions whose preconditions apply a function.
use Rattle.std.proofs.Common.{◌≡◌, inl, inr, ℕ, zero, suc, ◌<◌, Bool, true, false, not, List, [], ◌∷◌, Option, Some, None, slice_get, refl, sym, ◌∙◌, ap, subst, arith, true≢false, pos}
use Rattle.std.specs.Ordering.{int_eq}
use Rattle.std.proofs.lemmas.Option.{same_Some}
use Rattle.vx_frac.specs.Fractions.{lowest, over}
use Rattle.vx_ast.specs.declared.ValueType.TheVariants.{Int}
use Rattle.vx_ast.specs.Syntax.{Name, same_name, Member, Kind, IsField, IsFunction, Predicate, Function, Method, Equal, member_named, predicate_in, function_in, method_in, predicate_named, function_named, method_named, joined}
use Rattle.vx_ast.specs.Apart.{Stands, entered_by, entered_by_measure, ReachesBy}
use Rattle.vx_smt_meaning.specs.declared.reply.Reply.{Reply}
use Rattle.vx_smt_meaning.specs.declared.reply.Reply.TheVariants.{Unsat}
use Rattle.vx_meaning.specs.Fails.{Fails}
use Rattle.vx_terms.specs.Sorts.{IntSort, RefSort, Variable, Function as Numbered}
use Rattle.vx_terms.specs.Interpretations.{Interpretation, Tree, TreeElement, as_int, as_tree, same_tree, Each}
use Rattle.vx_rules.specs.Members.{rules}
use Rattle.vx_rules.proofs.Names.{same_name_is}
use Rattle.vx_types.specs.Typing.{IsTypedFunction, number, variable, part as amount, operates, chooses, reads, applies, no_more, more}
use Rattle.vx_types.specs.Now.{SpeaksOfNow}
use Rattle.vx_types.specs.Premises.{HasConstantAmounts, IsTypedProgram}
use Rattle.vx_elements.proofs.Truth.{element_equal}
use Rattle.vx_sound.specs.Law.{Passes}
use Rattle.vx_sound_preds.specs.Examples.{here, x, f}
use Rattle.vx_sound_funcs.specs.Examples.{g}
use Rattle.vx_sound_funcs.specs.AskingExamples.{kind, kinds, part, parts, tagged}
use Rattle.vx_law.specs.Examples.{tags, payload, payloads}
use Rattle.vx_law.proofs.Members.{members_sound}

nothing : {A R : Type 0} (a : A) → (let o : Option A = None in o) ≡ Some a → R
nothing a e = cc

one_positive : 0 < 1
one_positive = omega arith

-- such programs, with any function beside `kind`: it asks `kind` alone, and has no measure

module _ (name : Name) (function : Function) (it_is : member_named (tags name function) name ≡ Some (IsFunction function)) where
  -- what a name can stand for
  by_name : (Q : Name → Option Kind → Type 0) → ((y : Name) → Q y (Some (IsField Int))) → Q kind (Some (IsFunction kinds)) → Q name (Some (IsFunction function)) → ((y : Name) → Q y None) → (y : Name) → Q y (member_named (tags name function) y)
  by_name Q field at_kind at_name none y = go (same_name y f) (same_name y g) (same_name y kind) refl (same_name y name) refl
    where
      go : (a b c : Bool) → same_name y kind ≡ c → (d : Bool) → same_name y name ≡ d →
          Q y (elim a as (λ z. Option Kind) [
            | true ↦ Some (IsField Int)
            | false ↦ elim b as (λ z. Option Kind) [
              | true ↦ Some (IsField Int)
              | false ↦ elim c as (λ z. Option Kind) [ true ↦ Some (IsFunction kinds) | false ↦ elim d as (λ z. Option Kind) [ true ↦ Some (IsFunction function) | false ↦ None ] ]
            ]
          ])
      go true b c e d h = field y
      go false true c e d h = field y
      go false false true e d h = subst (λ (z : Name). Q z (Some (IsFunction kinds))) (sym (same_name_is y kind e)) at_kind
      go false false false e true h = subst (λ (z : Name). Q z (Some (IsFunction function))) (sym (same_name_is y name h)) at_name
      go false false false e false h = none y

  no_predicate : (y : Name) (d : Predicate) → predicate_named (tags name function) y ≡ Some d → ⊥
  no_predicate = by_name (λ y o. (d : Predicate) → predicate_in o ≡ Some d → ⊥) (λ y. nothing) nothing nothing (λ y. nothing)

  no_method : (y : Name) (n : Method) → method_named (tags name function) y ≡ Some n → ⊥
  no_method = by_name (λ y o. (n : Method) → method_in o ≡ Some n → ⊥) (λ y. nothing) nothing nothing (λ y. nothing)

  each_function : (Q : Name → Function → Type 0) → Q kind kinds → Q name function → (y : Name) (d : Function) → function_named (tags name function) y ≡ Some d → Q y d
  each_function Q q r =
      by_name (λ y o. (d : Function) → function_in o ≡ Some d → Q y d) (λ y d e. nothing d e) (λ d e. subst (Q kind) (same_Some kinds d e) q) (λ d e. subst (Q name) (same_Some function d e) r) (λ y d e. nothing d e)

  names : (n : ℕ) (k : Member) → slice_get (tags name function) n ≡ Some k → member_named (tags name function) k.name ≡ Some k.kind
  names zero k e = subst (λ (k : Member). member_named (tags name function) k.name ≡ Some k.kind) (same_Some (record { name = f; kind = IsField Int }) k e) refl
  names (suc zero) k e = subst (λ (k : Member). member_named (tags name function) k.name ≡ Some k.kind) (same_Some (record { name = g; kind = IsField Int }) k e) refl
  names (suc (suc zero)) k e = subst (λ (k : Member). member_named (tags name function) k.name ≡ Some k.kind) (same_Some (record { name = kind; kind = IsFunction kinds }) k e) refl
  names (suc (suc (suc zero))) k e = subst (λ (k : Member). member_named (tags name function) k.name ≡ Some k.kind) (same_Some (record { name = name; kind = IsFunction function }) k e) it_is
  names (suc (suc (suc (suc n)))) k e = cc

  kinds_typed : IsTypedFunction (tags name function) kinds
  kinds_typed = record {
    names = (refl, tt);
    parameters = ((λ e. cc), tt);
    requires = ((variable here x refl, (Int, refl), amount here 1 1 one_positive), tt);
    ensures = tt;
    measure = tt;
    body = reads f refl (variable here x refl);
  }

  -- `kind` leads nowhere
  no_way : (n : ℕ) (y : Name) → ReachesBy (tags name function) n kind y → ⊥
  no_way zero y r = r
  no_way (suc n) y (inl s) = s
  no_way (suc n) y (inr (z, s, r)) = s

  module _ (typed : IsTypedFunction (tags name function) function) (amounts : Each HasConstantAmounts function.requires) (now : SpeaksOfNow function) (asks : (z : Name) → Stands z (entered_by (joined function.place function.requires)) → z ≡ kind)
      (measure : (z : Name) → Stands z (entered_by_measure function.decreases) → ⊥) where
    tags_typed : IsTypedProgram (tags name function)
    tags_typed = record {
      names = names;
      predicates = λ y d e. absurd (no_predicate y d e);
      functions = each_function (λ y d. IsTypedFunction (tags name function) d) kinds_typed typed;
      methods = λ y n e. absurd (no_method y n e);
      bodies = λ y d a e is. absurd (no_predicate y d e);
      now = λ y d a e is. absurd (no_predicate y d e);
      preconditions = each_function (λ y d. Each HasConstantAmounts d.requires) ((over 1 1, (λ p ap s. refl), refl), tt) amounts;
      functions_now = each_function (λ y d. SpeaksOfNow d) record { requires = ((tt, tt), tt); ensures = tt; measure = tt; body = tt } now;
      apart = record {
        measure = λ y d z e st. absurd (each_function (λ y d. Stands z (entered_by_measure d.decreases) → ⊥) (λ s. s) (measure z) y d e st);
        body = λ y d z e st. absurd (no_predicate y d e);
        precondition = λ y d z e st r. each_function (λ y d. Stands z (entered_by (joined d.place d.requires)) → (n : ℕ) → ReachesBy (tags name function) n z y → ⊥) (λ s n w. s)
            (λ s n w. no_way n name (subst (λ (z : Name). ReachesBy (tags name function) n z name) (asks z s) w)) y d e st r.0 r.1;
        unfolding_body = λ y d z e st r. no_predicate y d e;
      };
    }

    module _ (replies : List Reply) (its_walk : Passes (tags name function) name (IsFunction function) replies) where
      kind_passes : Passes (tags name function) kind (IsFunction kinds) replies
      unfolding lowest rules
      kind_passes = (refl, tt)

      field_passes : (y : Name) → Passes (tags name function) y (IsField Int) replies
      field_passes y = (refl, tt)

      passes : (y : Name) (l : Kind) → member_named (tags name function) y ≡ Some l → Passes (tags name function) y l replies
      passes = by_name (λ y o. (l : Kind) → o ≡ Some l → Passes (tags name function) y l replies) (λ y l e. subst (λ (l : Kind). Passes (tags name function) y l replies) (same_Some (IsField Int) l e) (field_passes y))
          (λ l e. subst (λ (l : Kind). Passes (tags name function) kind l replies) (same_Some (IsFunction kinds) l e) kind_passes) (λ l e. subst (λ (l : Kind). Passes (tags name function) name l replies) (same_Some (IsFunction function) l e) its_walk)
          (λ y l e. nothing l e)

      never : Fails (tags name function) name (IsFunction function) → ⊥
      never = members_sound (tags name function) name (IsFunction function) (λ y. replies) tags_typed it_is (λ y l leads e. passes y l e)

-- `part`: no walk asks a question, on either side of the precondition's condition

part_passes : Passes tagged part (IsFunction parts) []
unfolding lowest rules
part_passes = (refl, tt)

parts_typed : IsTypedFunction tagged parts
parts_typed = record {
  names = (refl, tt);
  parameters = ((λ e. cc), tt);
  requires = (
    (variable here x refl, (Int, refl), amount here 1 1 one_positive),
    ((operates {op = Equal} {t = Int} tt (applies kind kinds refl (more (variable here x refl) no_more)) (number here 0), (variable here x refl, (Int, refl), amount here 1 1 one_positive)), tt),
  );
  ensures = tt;
  measure = tt;
  body = number here 0;
}

parts_now : SpeaksOfNow parts
parts_now = record { requires = ((tt, tt), (((((tt, tt), tt)), (tt, tt)), tt)); ensures = tt; measure = tt; body = tt }

parts_ask : (z : Name) → Stands z (entered_by (joined parts.place parts.requires)) → z ≡ kind
parts_ask z (inl e) = e
parts_ask z (inr h) = absurd h

pub tagged_typed : IsTypedProgram tagged
tagged_typed = tags_typed part parts refl parts_typed ((over 1 1, (λ p ap s. refl), refl), ((over 1 1, (λ p ap s. refl), refl), tt)) parts_now parts_ask (λ z s. s)

pub part_never_fails : Fails tagged part (IsFunction parts) → ⊥
part_never_fails = never part parts refl parts_typed ((over 1 1, (λ p ap s. refl), refl), ((over 1 1, (λ p ap s. refl), refl), tt)) parts_now parts_ask (λ z s. s) [] part_passes

-- `payload`: where the precondition's condition is false and the body's is true x.g isn't held, which is the one question; both are of the one
-- symbol at snapshots that are equal, so that path isn't possible

same_tree_is : (t u : Tree) → same_tree t u ≡ true → t ≡ u
same_tree_is t u h = ap as_tree (element_equal (TreeElement t) (TreeElement u) h)

not_both : (F : Tree → Bool) (a b w : Tree) → same_tree a w ≡ true → not (F a) ≡ true → same_tree b w ≡ true → F b ≡ true → ⊥
not_both F a b w d e g h = true≢false (sym e ∙ ap not (ap F (same_tree_is a w d ∙ sym (same_tree_is b w g)) ∙ h))

-- whether `kind` of the parameter is 0, at a snapshot
abbrev is_its_kind_nought : Interpretation → Tree → Bool
is_its_kind_nought i t = int_eq (as_int (i.functions (Numbered 0) IntSort (TreeElement t ∷ TreeElement (as_tree (i.functions (Variable 0) RefSort [])) ∷ []))) (pos 0)

payload_passes : Passes (tags payload payloads) payload (IsFunction payloads) (Unsat ∷ [])
unfolding lowest rules
payload_passes = (refl, ((λ i h. not_both (is_its_kind_nought i) _ _ _ h.1.1.1.1.1.1.0 h.1.1.1.1.1.1.1.1.1.0 h.1.1.1.1.1.1.1.1.1.1.1.0 h.1.1.1.1.1.1.1.1.1.1.1.1.1.1.0), tt))

payloads_typed : IsTypedFunction (tags payload payloads) payloads
payloads_typed = record {
  names = (refl, tt);
  parameters = ((λ e. cc), tt);
  requires = (
    (variable here x refl, (Int, refl), amount here 1 1 one_positive),
    ((operates {op = Equal} {t = Int} tt (applies kind kinds refl (more (variable here x refl) no_more)) (number here 0), (variable here x refl, (Int, refl), amount here 1 1 one_positive)), tt),
  );
  ensures = tt;
  measure = tt;
  body = chooses (operates {op = Equal} {t = Int} tt (applies kind kinds refl (more (variable here x refl) no_more)) (number here 0)) (reads g refl (variable here x refl)) (number here 0);
}

payloads_now : SpeaksOfNow payloads
payloads_now = record { requires = ((tt, tt), (((((tt, tt), tt)), (tt, tt)), tt)); ensures = tt; measure = tt; body = (((tt, tt), tt), tt, tt) }

payloads_ask : (z : Name) → Stands z (entered_by (joined payloads.place payloads.requires)) → z ≡ kind
payloads_ask z (inl e) = e
payloads_ask z (inr h) = absurd h

pub payload_typed : IsTypedProgram (tags payload payloads)
payload_typed = tags_typed payload payloads refl payloads_typed ((over 1 1, (λ p ap s. refl), refl), ((over 1 1, (λ p ap s. refl), refl), tt)) payloads_now payloads_ask (λ z s. s)

pub payload_never_fails : Fails (tags payload payloads) payload (IsFunction payloads) → ⊥
payload_never_fails = never payload payloads refl payloads_typed ((over 1 1, (λ p ap s. refl), refl), ((over 1 1, (λ p ap s. refl), refl), tt)) payloads_now payloads_ask (λ z s. s) (Unsat ∷ []) payload_passes
