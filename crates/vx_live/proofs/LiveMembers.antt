-- Each member of a typed program asks well-sorted questions, over the symbols of the program's functions; one that leads to no
-- function asks them over the standard symbols alone.
use Rattle.std.proofs.Common.{◌≡◌, inl, inr, arith, ℕ, suc, ◌+◌, Bool, true, false, cond, List, [], ◌∷◌, Option, Some, ◌∙◌, ap, subst}
use Rattle.std.proofs.lemmas.Option.{same_Some}
use Rattle.vx_ast.specs.Syntax.{Name, same_name, Program, Kind, IsField, IsPredicate, IsFunction, IsMethod, Predicate, Function, Method, member_named, predicate_in, predicate_named, function_in, function_named, method_in}
use Rattle.vx_terms.specs.Interpretations.{Each}
use Rattle.vx_smt_meaning.specs.Commands.{Declared}
use Rattle.vx_smt_meaning.specs.Symbols.{Declares}
use Rattle.vx_rules.specs.Groups.{is_function, function_number}
use Rattle.vx_rules.specs.Rules.{outer}
use Rattle.vx_rules.specs.Members.{depth, rules as member_rules, tree, method_tree}
use Rattle.vx_types.specs.Typing.{IsTypedContent, IsTypedMethod}
use Rattle.vx_types.specs.FieldLanguage.{IsFieldMethod}
use Rattle.vx_types.specs.StoreLanguage.{IsStoreMethod}
use Rattle.vx_types.specs.CallLanguage.{IsCallingMember}
use Rattle.vx_types.specs.InstanceLanguage.{IsInstanceMember}
use Rattle.vx_types.specs.Premises.{IsTypedProgram}
use Rattle.vx_types.specs.Closure.{InClosure, itself}
use Rattle.vx_elements.proofs.Cases.{store_method}
use Rattle.vx_sound.proofs.Says.{method_says as fields_say}
use Rattle.vx_sound.proofs.Contracts.{field_method_speaks}
use Rattle.vx_sound.proofs.Fields.{fields_world}
use Rattle.vx_sound_preds.proofs.Holding.{nothing_applied, instances_world}
use Rattle.vx_sound_preds.proofs.Speaking.{good, no_perm, speak}
use Rattle.vx_sound_preds.proofs.Mentioning.{function_member, NoFunction, method_says}
use Rattle.vx_live.specs.Functions.{function_symbol, symbols_from, with_kind, function_symbols}
use Rattle.vx_live.specs.Live.{AllLive, LiveLaw, LiveClosureLaw, LiveProgramLaw}
use Rattle.vx_live.proofs.Over.{IsOfFunction, built_type}
use Rattle.vx_live.proofs.Speaks.{MethodSays, Spoken}
use Rattle.vx_live.proofs.Mentions.{assertion, method, Any, any_expression, any_assertion, any_assertions, any_each, any_measure, any_method}
use Rattle.vx_live.proofs.LiveSteps.{anything, all_live}
use Rattle.vx_live.proofs.LiveEvaluate.{PartsLive}
use Rattle.vx_live.proofs.LiveParts.{folded_live, called_live}
use Rattle.vx_live.proofs.LiveApplied.{outer_live, all_parts_live}
use Rattle.vx_live.proofs.LiveMethods.{over_live, predicate_live}
use Rattle.vx_live.proofs.LiveFunctions.{function_live}

module _ {fs : List Declared} (functions : Each IsOfFunction fs) (p : Program) (Held : Name → Type 0) (spoken : Spoken Held p fs) where
  parts : PartsLive fs anything p Held (outer p (depth p))
  parts = all_parts_live p Held spoken (depth p) anything

  method_live : (m : Method) → IsTypedMethod p m → MethodSays Held p m → AllLive fs (method_tree p m)
  unfolding member_rules
  method_live m t k =
      let o = outer p (depth p) in
      let below = outer_live p Held spoken (depth p) anything in
      all_live fs (method_tree p m) (over_live functions anything p Held o parts (folded_live anything p Held spoken o below) (called_live anything p Held spoken o below) m t k)

  instance_live : (x i : Name) (d : Predicate) → Held i → predicate_named p i ≡ Some d → AllLive fs (tree p x (IsPredicate d))
  unfolding member_rules
  instance_live x i d held named = all_live fs (tree p x (IsPredicate d)) (predicate_live functions anything p Held (outer p (depth p)) parts spoken i d held named)

  value_live : (f : Name) (g : Function) → Held f → function_named p f ≡ Some g → AllLive fs (tree p f (IsFunction g))
  unfolding member_rules
  value_live f g held named = all_live fs (tree p f (IsFunction g)) (function_live functions anything p Held (outer p (depth p)) parts f g (spoken.functions f g held named))

-- Members that lead to no function

pub instances_live : LiveClosureLaw IsInstanceMember
instances_live p x k typed named all = go k named
  where
    none : NoFunction p x
    none f g c e = all f (IsFunction g) c (function_member (member_named p f) g e)

    spoken : Spoken (InClosure p x) p []
    spoken = record { bodies = λ i d e held is body. let b = speak p x typed i d e held is body in (b.0, assertion (InClosure p x) (λ f. ⊥) (λ f k. absurd k) e b.1); functions = λ f g c e. absurd (none f g c e) }

    go : (k : Kind) → member_named p x ≡ Some k → AllLive [] (tree p x k)
    go (IsField t) named = tt
    go (IsFunction g) named = absurd (all x (IsFunction g) itself named)
    go (IsPredicate d) named = instance_live tt p (InClosure p x) spoken x x d itself (ap predicate_in named)
    go (IsMethod m) named =
        let gb = good p x typed in
        let np = no_perm p x typed in
        let t = typed.methods x m (ap method_in named) in
        method_live tt p (InClosure p x) spoken m t (method (instances_world p gb (InClosure p x) np true) (λ f k. absurd k) m (method_says p x nothing_applied none typed gb np m named t))

is_instance : (k : Kind) → IsCallingMember k → IsInstanceMember k
is_instance (IsField t) c = tt
is_instance (IsPredicate d) c = tt
is_instance (IsFunction g) c = absurd c
is_instance (IsMethod m) c = tt

pub calling_live : LiveClosureLaw IsCallingMember
calling_live p x k typed named all = instances_live p x k typed named (λ y l c e. is_instance l (all y l c e))

pub methods_live : LiveLaw IsFieldMethod
methods_live p m t k = method_live tt p none spoken m t (method (fields_world p) (λ f k. absurd k) m (fields_say (fields_world p) m (field_method_speaks p m k)))
  where
    none : Name → Type 0
    none x = ⊥

    spoken : Spoken none p []
    spoken = record { bodies = λ i d e held is body. absurd held; functions = λ f g held is. absurd held }

pub store_methods_live : LiveLaw IsStoreMethod
store_methods_live p m t k = methods_live p m t (store_method m k)

-- Typed programs

with_functions : (ms : Program) (n : ℕ) → Each IsOfFunction (symbols_from ms n)
with_functions [] n = tt
with_functions (m ∷ ms) n = go m.kind (with_functions ms)
  where
    go : (k : Kind) → ((n : ℕ) → Each IsOfFunction (symbols_from ms n)) → Each IsOfFunction (with_kind n k (symbols_from ms))
    go (IsField t) rest = rest n
    go (IsPredicate d) rest = rest n
    go (IsMethod m) rest = rest n
    go (IsFunction g) rest = (record { symbol = tt; gives = built_type g.of }, rest (suc n))

pub functions_only : (p : Program) → Each IsOfFunction (function_symbols p)
unfolding function_symbols
functions_only p = with_functions p 0

-- a function's symbol is among them, by its number
symbol_among : (ms : Program) (n : ℕ) (f : Name) (g : Function) → function_named ms f ≡ Some g → Declares (symbols_from ms n) (function_symbol (n + function_number ms f) g)
symbol_among [] n f g e = cc
symbol_among (m ∷ ms) n f g e = step m.kind (same_name f m.name) e (λ k h. symbol_among ms k f g h)
  where
    among : ℕ → List Declared → Type 0
    among k ds = Declares ds (function_symbol k g)

    step : (k : Kind) (b : Bool) → function_in (elim b as (λ b. Option Kind) [ true ↦ Some k | false ↦ member_named ms f ]) ≡ Some g → ((i : ℕ) → function_named ms f ≡ Some g → among (i + function_number ms f) (symbols_from ms i)) →
        among (n + cond b 0 (cond (is_function k) (suc (function_number ms f)) (function_number ms f))) (with_kind n k (symbols_from ms))
    step (IsFunction h) true e rest = inl (ap (function_symbol n) (same_Some h g e) ∙ ap (λ i. function_symbol i g) (omega arith))
    step (IsFunction h) false e rest = inr (subst (λ i. among i (symbols_from ms (suc n))) (omega arith) (rest (suc n) e))
    step (IsField t) true e rest = cc
    step (IsField t) false e rest = rest n e
    step (IsPredicate d) true e rest = cc
    step (IsPredicate d) false e rest = rest n e
    step (IsMethod d) true e rest = cc
    step (IsMethod d) false e rest = rest n e

pub symbol_stands : (p : Program) (f : Name) (g : Function) → function_named p f ≡ Some g → Declares (function_symbols p) (function_symbol (function_number p f) g)
unfolding function_symbols
symbol_stands p f g e = subst (λ i. Declares (symbols_from p 0) (function_symbol i g)) (omega arith) (symbol_among p 0 f g e)

any_spoken : (p : Program) → IsTypedProgram p → Spoken Any p (function_symbols p)
any_spoken p typed = record {
  bodies = λ i d e held is body. (subst (IsTypedContent p d.parameters) body (typed.predicates i d is).body, any_assertion e);
  functions = λ f g held is. record {
    typed = typed.functions f g is;
    requires = any_assertions g.requires;
    ensures = any_each g.ensures;
    measure = any_measure g.decreases;
    body = any_expression g.body;
    symbol = symbol_stands p f g is;
  };
}

pub members_live : LiveProgramLaw
members_live p x (IsField t) typed named = tt
members_live p x (IsPredicate d) typed named = instance_live (functions_only p) p Any (any_spoken p typed) x x d tt (ap predicate_in named)
members_live p x (IsFunction g) typed named = value_live (functions_only p) p Any (any_spoken p typed) x g tt (ap function_in named)
members_live p x (IsMethod m) typed named = method_live (functions_only p) p Any (any_spoken p typed) m (typed.methods x m (ap method_in named)) (any_method p typed m)
