-- Lists that are gone through side by side, as long as there are both, and values that are looked up.
use Rattle.std.proofs.Common.{◌≡◌, ◌⊎◌, inl, inr, refl, sym, ap, ◌∙◌, ℕ, List, [], ◌∷◌, ◌++◌, append_assoc, map, length, Option, Some, None, option_map, arith}
use Rattle.std.specs.declared.alloc.Global.{Global}
use Rattle.std.specs.declared.rc.Rc.{Rc}
use Rattle.std.specs.declared.string.String.{String}
use Rattle.vx_ast.specs.Syntax.{Declaration}
use Rattle.vx_meaning.specs.Values.{Value}
use Rattle.vx_meaning.specs.States.{Store, bind, assign_all, lookup}
use Rattle.vx_resolved.specs.declared.Declaration as declaration'
use Rattle.vx_resolved.specs.Resolved.{declaration, names_of}
use Rattle.vx_run.specs.Views.{value}
use Rattle.vx_run.specs.Whole.{values_of}
use Rattle.vx_run.specs.declared.values.Value.{Value as Value'}

empty : {X : Type 0} (xs : List X) → length xs ≡ 0 → xs ≡ []
empty [] h = refl
empty (x ∷ xs) h = absurd (omega arith)

-- what a step past the last pair tells
pub one_is_over : {A B : Type 0} {P : A → Type 0} {Q : B → Type 0} (m n : ℕ) → ((x : A) × ((m ≡ 0) × P x)) ⊎ ((x : B) × ((n ≡ 0) × Q x)) → (m ≡ 0) ⊎ (n ≡ 0)
one_is_over m n (inl x) = inl x.1.0
one_is_over m n (inr x) = inr x.1.0

bound_to_none : (ds : List declaration'.Declaration) → bind (map declaration ds) [] ≡ []
bound_to_none [] = refl
bound_to_none (d ∷ ds) = refl

pub bound_over : (ds : List declaration'.Declaration) (vs : List Value') → (length ds ≡ 0) ⊎ (length vs ≡ 0) → bind (map declaration ds) (map value vs) ≡ []
bound_over ds vs (inl h) = ap (λ l. bind (map declaration l) (map value vs)) (empty ds h)
bound_over ds vs (inr h) = ap (λ l. bind (map declaration ds) (map value l)) (empty vs h) ∙ bound_to_none ds

assigned_none : (xs : List (Rc (String Global) Global)) (s : Store) → assign_all (names_of xs) [] s ≡ s
assigned_none [] s = refl
assigned_none (x ∷ xs) s = refl

pub assigned_over : (xs : List (Rc (String Global) Global)) (vs : List Value') (s : Store) → (length xs ≡ 0) ⊎ (length vs ≡ 0) → assign_all (names_of xs) (map value vs) s ≡ s
assigned_over xs vs s (inl h) = ap (λ l. assign_all (names_of l) (map value vs) s) (empty xs h)
assigned_over xs vs s (inr h) = ap (λ l. assign_all (names_of xs) (map value l) s) (empty vs h) ∙ assigned_none xs s

-- these values stand in front of those that are found
abbrev pub in_front : List Value → Option (List Value) → Option (List Value)
in_front us o = option_map (λ vs. us ++ vs) o

found_more : (us : List Value) (v : Value) (o : Option (List Value)) → in_front us (option_map (λ vs. v ∷ vs) o) ≡ in_front (us ++ v ∷ []) o
found_more us v None = refl
found_more us v (Some vs) = ap Some (sym (append_assoc us (v ∷ []) vs))
