-- Programs that enter a member within itself, and programs that don't.
use Rattle.std.proofs.Common.{◌≡◌, ℕ, zero, suc, Bool, true, false, [], ◌++◌, Option, Some, None, inl, inr, refl, ap, subst, arith, sym, true≢false, is_some}
use Rattle.vx_ast.specs.Syntax.{Name, same_name, Kind, IsFunction, Predicate, function_in, predicate_in}
use Rattle.vx_frac.specs.Fractions.{lowest}
use Rattle.vx_rules.specs.Trees.{Question, Open, steps_then, walk}
use Rattle.vx_rules.specs.Rules.{nowhere, outer}
use Rattle.vx_rules.specs.Members.{depth, rules, tree_over, tree}
use Rattle.vx_ast.specs.Syntax.{IsPredicate}
use Rattle.vx_depth.specs.Entering.{entered_by_function, entered_by_predicate, entered_from, IsWithin, LeadsBy, NoneWithinItself}
use Rattle.vx_ast.specs.Apart.{Stands}
use Rattle.vx_ast.specs.Apart.{KeepsApart}
use Rattle.vx_depth.specs.Worked.{f, n, P, applies_itself, applies_itself_f, unfolds_itself, unfolds_itself_P, nested, nested_P, plain, plain_f}

pub applies_itself_is_refused : NoneWithinItself applies_itself → ⊥
applies_itself_is_refused h = h 1 f (inl (inl refl))

pub unfolds_itself_is_refused : NoneWithinItself unfolds_itself → ⊥
unfolds_itself_is_refused h = h 1 P (inl (inl refl))

plain_enters : (x : Name) → entered_from plain x ≡ []
plain_enters x = go (same_name x f)
  where
    go : (b : Bool) → entered_by_function (function_in (elim b as (λ b. Option Kind) [ true ↦ Some (IsFunction plain_f) | false ↦ None ]))
        ++ entered_by_predicate (predicate_in (elim b as (λ b. Option Kind) [ true ↦ Some (IsFunction plain_f) | false ↦ None ])) ≡ []
    go true = refl
    go false = refl

plain_leads : (k : ℕ) (x y : Name) → LeadsBy plain k x y → ⊥
plain_leads zero x y h = h
plain_leads (suc k) x y (inl h) = subst (Stands y) (plain_enters x) h
plain_leads (suc k) x y (inr (z, s, l)) = subst (Stands z) (plain_enters x) s

pub plain_is_fine : NoneWithinItself plain
plain_is_fine k x h = plain_leads k x x h

pub three_within : IsWithin nested 3 n
three_within = ((tt, tt), tt)

some_is_not_none : (let o : Option Predicate = Some nested_P in o) ≡ None → ⊥
some_is_not_none e = cc

pub not_two_within : IsWithin nested 2 n → ⊥
not_two_within h = some_is_not_none h.0.0.1

pub applies_itself_asks : (q : Question) × ((walk (tree applies_itself f (IsFunction applies_itself_f)) []).ending ≡ Open q) × (q.place ≡ nowhere)
unfolding rules
applies_itself_asks = (_, refl, refl)

pub unfolds_itself_asks : (q : Question) × ((walk (tree unfolds_itself P (IsPredicate unfolds_itself_P)) []).ending ≡ Open q) × (q.place ≡ nowhere)
unfolding rules lowest
unfolds_itself_asks = (_, refl, refl)

pub applies_itself_goes_on : tree_over applies_itself (outer applies_itself (suc (depth applies_itself))) f (IsFunction applies_itself_f) ≡ tree applies_itself f (IsFunction applies_itself_f) → ⊥
unfolding rules
applies_itself_goes_on e = let m = ap (λ t. steps_then t 0) e in absurd (omega (arith, m))

nothing_named : {A : Type 0} {B : Type 0} (a : A) → (let o : Option A = None in o) ≡ Some a → B
nothing_named a e = absurd (true≢false (sym (ap is_some e)))

pub none_refused : KeepsApart []
none_refused = record {
  measure = λ f g x e s. nothing_named g e;
  body = λ i d x e s. nothing_named d e;
  precondition = λ f g x e. nothing_named g e;
  unfolding_body = λ i d x e. nothing_named d e;
}

pub applies_itself_is_not_apart : KeepsApart applies_itself → ⊥
applies_itself_is_not_apart apart = apart.precondition f applies_itself_f f refl (inl refl) (1, inl (inl refl))

pub unfolds_itself_is_not_apart : KeepsApart unfolds_itself → ⊥
unfolds_itself_is_not_apart apart = apart.unfolding_body P _ P refl (inl refl) (1, inl (inl refl))
