-- The law at work: a method that never fails, and the failing run of one whose assert is false.
use Rattle.std.proofs.Common.{◌≡◌, ℕ, ℤ, pos, true, false, [], ◌∷◌, inl, refl, arith}
use Rattle.std.specs.Prelude.{not, int_lt, ◌+ℤ◌}
use Rattle.std.specs.Ordering.{int_eq}
use Rattle.std.proofs.lemmas.Int.{ints}
use Rattle.vx_ast.specs.declared.Place.{Place}
use Rattle.vx_ast.specs.declared.ValueType.TheVariants.{Int}
use Rattle.vx_ast.specs.Syntax.{Program, Greater, Add, Variable, Pure, Assert, Done, Then}
use Rattle.vx_meaning.specs.Values.{BoolValue}
use Rattle.vx_meaning.specs.States.{State}
use Rattle.vx_meaning.specs.Outcomes.{passes, refused, is_over}
use Rattle.vx_meaning.specs.Fails.{MethodFails, body}
use Rattle.vx_terms.specs.Sorts.{IntSort}
use Rattle.vx_terms.specs.Sorts as sort
use Rattle.vx_terms.specs.Interpretations.{as_int, Interpretation}
use Rattle.vx_smt_meaning.specs.declared.reply.Reply.TheVariants.{Unsat}
use Rattle.vx_rules.specs.Trees.{walk}
use Rattle.vx_rules.specs.Members.{method_tree}
use Rattle.vx_types.specs.Typing.{IsTypedMethod, number, variable, operates}
use Rattle.vx_types.specs.StoreLanguage.{IsStoreMethod}
use Rattle.vx_sound.specs.Law.{AllRight}
use Rattle.vx_sound.specs.Examples.{on_line, x, y, inc, claim}
use Rattle.vx_elements.proofs.Cases.{store_method}
use Rattle.vx_sound.proofs.Passes.{cleared}
use Rattle.vx_sound.proofs.Methods.{sound}

inc_typed : (p : Program) → IsTypedMethod p inc
inc_typed p = record {
  names = (refl, (refl, tt));
  requires = tt;
  ensures = (operates {op = Greater} (inl refl) (variable (on_line 2) y refl) (variable (on_line 2) x refl), tt);
  body = ((Int, refl, operates {op = Add} (inl refl) (variable (on_line 3) x refl) (number (on_line 3) 1)), tt);
}

inc_plain : IsStoreMethod inc
inc_plain = record { parameters = (tt, tt); returns = (tt, tt); requires = tt; ensures = ((tt, tt), tt); body = ((tt, tt), tt) }

-- one more is more
one_more : (a b : ℤ) → int_eq b (a +ℤ pos 1) ≡ true → not (int_lt a b) ≡ true → ⊥
one_more a b e h = absurd (grind (arith, ints))

v : Interpretation → ℕ → ℤ
v i n = as_int (i.functions (sort.Variable n) IntSort [])

pub inc_right : (p : Program) → AllRight (walk (method_tree p inc) (Unsat ∷ [])).answered
unfolding v
inc_right p = ((λ i h. one_more (v i 0) (v i 2) h.1.0 h.0), tt)

pub inc_never_fails : (p : Program) (at : Place) → MethodFails p inc at → ⊥
inc_never_fails p at f = sound (λ g es e. ⊥) p inc (inc_typed p) (store_method inc inc_plain) (cleared (method_tree p inc) (Unsat ∷ []) refl (inc_right p)) at f

-- claim from x = false
untrue : State
untrue = record { store = (x, BoolValue false) ∷ []; heap = []; holdings = []; old_heap = []; old_holdings = [] }

pub claim_fails : (p : Program) → MethodFails p claim (on_line 3)
unfolding untrue
claim_fails p =
    body untrue (Then (Assert (on_line 2) (Pure (Variable (on_line 3) x))) Done)
    (BoolValue false ∷ [], [], (refl, tt), tt, ([], untrue, passes (BoolValue true) (0, λ m le. refl) refl, refl))
    refl (is_over tt (refused (on_line 3) (0, λ m le. refl) refl))
