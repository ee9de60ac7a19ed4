-- Lists that are gone through side by side, as long as there are both; and the values of a store.
use Rattle.std.proofs.Common.{◌≡◌, ◌⊎◌, inl, inr, refl, ap, ◌∙◌, ℕ, zero, suc, ◌≤◌, List, [], ◌∷◌, map, drop, length, arith}
use Rattle.std.specs.declared.alloc.Global.{Global}
use Rattle.std.specs.declared.rc.Rc.{Rc}
use Rattle.std.specs.declared.string.String.{String}
use Rattle.std.proofs.lemmas.List.{nil_from_length}
use Rattle.vx_heap.specs.Views.{terms_of}
use Rattle.vx_resolved.specs.declared.Declaration as declaration'
use Rattle.vx_resolved.specs.Resolved.{declaration, names_of}
use Rattle.vx_rules.specs.States.{Store, bind, assign_all, terms_in}
use Rattle.vx_states.specs.declared.state.Binding.{Binding}
use Rattle.vx_states.specs.SymStates.{binding}
use Rattle.vx_terms.specs.declared.term.Term.{Term as Term'}

-- what a step past the last pair tells
pub one_is_over : {A B : Type 0} {P : A → Type 0} {Q : B → Type 0} (m n : ℕ) → ((x : A) × ((m ≡ 0) × P x)) ⊎ ((x : B) × ((n ≡ 0) × Q x)) → (m ≡ 0) ⊎ (n ≡ 0)
one_is_over m n (inl x) = inl x.1.0
one_is_over m n (inr x) = inr x.1.0

bound_to_none : (ds : List declaration'.Declaration) → bind (map declaration ds) [] ≡ []
bound_to_none [] = refl
bound_to_none (d ∷ ds) = refl

pub bound_over : (ds : List declaration'.Declaration) (ts : List (Rc Term' Global)) → (length ds ≡ 0) ⊎ (length ts ≡ 0) → bind (map declaration ds) (terms_of ts) ≡ []
bound_over ds ts (inl h) = ap (λ l. bind (map declaration l) (terms_of ts)) (nil_from_length ds h)
bound_over ds ts (inr h) = ap (λ l. bind (map declaration ds) (terms_of l)) (nil_from_length ts h) ∙ bound_to_none ds

assigned_none : (xs : List (Rc (String Global) Global)) (s : Store) → assign_all (names_of xs) [] s ≡ s
assigned_none [] s = refl
assigned_none (x ∷ xs) s = refl

pub assigned_over : (xs : List (Rc (String Global) Global)) (ts : List (Rc Term' Global)) (s : Store) → (length xs ≡ 0) ⊎ (length ts ≡ 0) → assign_all (names_of xs) (terms_of ts) s ≡ s
assigned_over xs ts s (inl h) = ap (λ l. assign_all (names_of l) (terms_of ts) s) (nil_from_length xs h)
assigned_over xs ts s (inr h) = ap (λ l. assign_all (names_of xs) (terms_of l) s) (nil_from_length ts h) ∙ assigned_none xs s

pub values_dropped : (n : ℕ) (s : List Binding) → terms_in (map binding (drop n s)) ≡ drop n (terms_in (map binding s))
values_dropped zero [] = refl
values_dropped zero (b ∷ s) = refl
values_dropped (suc n) [] = refl
values_dropped (suc n) (b ∷ s) = values_dropped n s

pub no_values : (n : ℕ) (s : List Binding) → length s ≤ n → drop n (terms_in (map binding s)) ≡ []
no_values zero [] h = refl
no_values zero (b ∷ s) h = absurd (omega (arith, h))
no_values (suc n) [] h = refl
no_values (suc n) (b ∷ s) h = no_values n s (omega (arith, h))
