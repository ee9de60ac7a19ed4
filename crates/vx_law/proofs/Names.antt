-- The names of a program, and lists of names that are left.
use Rattle.std.proofs.Common.{◌≡◌, ◌⊎◌, inl, inr, ℕ, zero, suc, ◌≤◌, Bool, true, false, cond, List, [], ◌∷◌, length, Option, Some, refl, sym, ◌∙◌, ap, arith, true≢false}
use Rattle.vx_ast.specs.Syntax.{Name, same_name, Kind, Program, Function, function_in, member_named, function_named}
use Rattle.vx_ast.specs.Apart.{Stands}
use Rattle.vx_rules.proofs.Names.{same_name_is}
use Rattle.vx_elements.proofs.Lists.{name_same}
use Rattle.vx_sound_funcs.proofs.Steps.{nothing_some}

abbrev pub names_of : Program → List Name
names_of [] = []
names_of (m ∷ ms) = m.name ∷ names_of ms

pub named_stands : (p : Program) (y : Name) (g : Function) → function_named p y ≡ Some g → Stands y (names_of p)
named_stands [] y g e = nothing_some g e
named_stands (m ∷ ms) y g e = go (same_name y m.name) refl e (named_stands ms y g)
  where
    go : (b : Bool) → same_name y m.name ≡ b → function_in (elim b as (λ b. Option Kind) [ true ↦ Some m.kind | false ↦ member_named ms y ]) ≡ Some g → (function_named ms y ≡ Some g → Stands y (names_of ms)) → Stands y (m.name ∷ names_of ms)
    go true is e f = inl (same_name_is y m.name is)
    go false is e f = inr (f e)

abbrev pub without : Name → List Name → List Name
without f [] = []
without f (y ∷ ys) = cond (same_name f y) (without f ys) (y ∷ without f ys)

pub stays_in : (f y : Name) (ys : List Name) → Stands y ys → (y ≡ f → ⊥) → Stands y (without f ys)
stays_in f y [] s n = absurd s
stays_in f y (z ∷ ys) s n = go (same_name f z) refl s (λ t. stays_in f y ys t n)
  where
    go : (b : Bool) → same_name f z ≡ b → (y ≡ z) ⊎ Stands y ys → (Stands y ys → Stands y (without f ys)) → Stands y (cond b (without f ys) (z ∷ without f ys))
    go true is (inl e) h = absurd (n (e ∙ sym (same_name_is f z is)))
    go true is (inr t) h = h t
    go false is (inl e) h = inl e
    go false is (inr t) h = inr (h t)

no_more_names : (f : Name) (ys : List Name) → length (without f ys) ≤ length ys
no_more_names f [] = omega arith
no_more_names f (y ∷ ys) = go (same_name f y) (no_more_names f ys)
  where
    go : (b : Bool) → length (without f ys) ≤ length ys → length (cond b (without f ys) (y ∷ without f ys)) ≤ suc (length ys)
    go true h = omega (arith, h)
    go false h = omega (arith, h)

pub fewer_names : (f : Name) (ys : List Name) (n : ℕ) → Stands f ys → length ys ≤ suc n → length (without f ys) ≤ n
fewer_names f [] n s l = absurd s
fewer_names f (y ∷ ys) n s l = go n l (same_name f y) refl s (fewer_names f ys)
  where
    go : (n : ℕ) → suc (length ys) ≤ suc n → (b : Bool) → same_name f y ≡ b → (f ≡ y) ⊎ Stands f ys → ((m : ℕ) → Stands f ys → length ys ≤ suc m → length (without f ys) ≤ m) → length (cond b (without f ys) (y ∷ without f ys)) ≤ n
    go n l true is s h = let k = no_more_names f ys in omega (arith, k, l)
    go n l false is (inl e) h = absurd (true≢false (sym (name_same y) ∙ ap (λ z. same_name z y) (sym e) ∙ is))
    go zero l false is (inr t) h = absurd (none_left ys t l)
      where
        none_left : (ys : List Name) → Stands f ys → suc (length ys) ≤ 1 → ⊥
        none_left [] t l = t
        none_left (z ∷ zs) t l = omega (arith, l)
    go (suc n) l false is (inr t) h =
        let k : length ys ≤ suc n = omega (arith, l) in
        let m = h n t k in
        omega (arith, m)
