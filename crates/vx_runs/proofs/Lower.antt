-- What is entered from a predicate's body doesn't lead back to it: what holds of a predicate where it holds of these holds of all.
use Rattle.std.proofs.Common.{◌≡◌, ◌⊎◌, inl, inr, ℕ, zero, suc, ◌≤◌, Bool, true, false, cond, List, [], ◌∷◌, length, Option, Some, None, refl, sym, ◌∙◌, ap, subst, arith, true≢false}
use Rattle.vx_ast.specs.Syntax.{Name, same_name, Kind, Program, Predicate, predicate_in, member_named, predicate_named}
use Rattle.vx_ast.specs.Mentions as mentions
use Rattle.vx_ast.specs.Apart.{Stands, Reaches}
use Rattle.vx_elements.proofs.Lists.{name_is, name_same}

abbrev names_of : Program → List Name
names_of [] = []
names_of (m ∷ ms) = m.name ∷ names_of ms

named_stands : (p : Program) (y : Name) (d : Predicate) → predicate_named p y ≡ Some d → Stands y (names_of p)
named_stands [] y d e = absurd (nothing e)
  where
    nothing : ◌≡◌ {A = Option Predicate} None (Some d) → ⊥
    nothing e = cc
named_stands (m ∷ ms) y d e = go (same_name y m.name) refl e (named_stands ms y d)
  where
    go : (b : Bool) → same_name y m.name ≡ b → predicate_in (elim b as (λ b. Option Kind) [ true ↦ Some m.kind | false ↦ member_named ms y ]) ≡ Some d → (predicate_named ms y ≡ Some d → Stands y (names_of ms)) → Stands y (m.name ∷ names_of ms)
    go true is e f = inl (name_is y m.name is)
    go false is e f = inr (f e)

abbrev without : Name → List Name → List Name
without f [] = []
without f (y ∷ ys) = cond (same_name f y) (without f ys) (y ∷ without f ys)

stays_in : (f y : Name) (ys : List Name) → Stands y ys → (y ≡ f → ⊥) → Stands y (without f ys)
stays_in f y [] s n = absurd s
stays_in f y (z ∷ ys) s n = go (same_name f z) refl s (λ t. stays_in f y ys t n)
  where
    go : (b : Bool) → same_name f z ≡ b → (y ≡ z) ⊎ Stands y ys → (Stands y ys → Stands y (without f ys)) → Stands y (cond b (without f ys) (z ∷ without f ys))
    go true is (inl e) h = absurd (n (e ∙ sym (name_is f z is)))
    go true is (inr t) h = h t
    go false is (inl e) h = inl e
    go false is (inr t) h = inr (h t)

no_more_names : (f : Name) (ys : List Name) → length (without f ys) ≤ length ys
no_more_names f [] = omega arith
no_more_names f (y ∷ ys) = go (same_name f y) (no_more_names f ys)
  where
    go : (b : Bool) → length (without f ys) ≤ length ys → length (cond b (without f ys) (y ∷ without f ys)) ≤ suc (length ys)
    go true h = omega (arith, h)
    go false h = omega (arith, h)

fewer_names : (f : Name) (ys : List Name) (n : ℕ) → Stands f ys → length ys ≤ suc n → length (without f ys) ≤ n
fewer_names f [] n s l = absurd s
fewer_names f (y ∷ ys) n s l = go n l (same_name f y) refl s (fewer_names f ys)
  where
    go : (n : ℕ) → suc (length ys) ≤ suc n → (b : Bool) → same_name f y ≡ b → (f ≡ y) ⊎ Stands f ys → ((m : ℕ) → Stands f ys → length ys ≤ suc m → length (without f ys) ≤ m) → length (cond b (without f ys) (y ∷ without f ys)) ≤ n
    go n l true is s h = let k = no_more_names f ys in omega (arith, k, l)
    go n l false is (inl e) h = absurd (true≢false (sym (name_same y) ∙ ap (λ z. same_name z y) (sym e) ∙ is))
    go zero l false is (inr t) h = absurd (none_left ys t l)
      where
        none_left : (ys : List Name) → Stands f ys → suc (length ys) ≤ 1 → ⊥
        none_left [] t l = t
        none_left (z ∷ zs) t l = omega (arith, l)
    go (suc n) l false is (inr t) h =
        let k : length ys ≤ suc n = omega (arith, l) in
        let m = h n t k in
        omega (arith, m)

reached : {Step : Name → Name → Type 0} (n : ℕ) (x y z : Name) → mentions.ReachesBy Step n x y → mentions.Reaches Step y z → mentions.Reaches Step x z
reached zero x y z r s = absurd r
reached (suc n) x y z (inl e) s = (suc s.0, inr (y, e, s.1))
reached (suc n) x y z (inr (w, e, r)) s = let k = reached n w y z r s in (suc k.0, inr (w, e, k.1))

nothing_left : (f : Name) (ys : List Name) → Stands f ys → length ys ≤ zero → ⊥
nothing_left f [] s l = s
nothing_left f (y ∷ ys) s l = omega (arith, l)

module _ (p : Program) where
  -- the predicates that f leads to, and f, are among these
  abbrev Known : List Name → Name → Type 0
  Known left f = (y : Name) (d : Predicate) → predicate_named p y ≡ Some d → (y ≡ f) ⊎ Reaches p f y → Stands y left

  -- without f, where f' doesn't lead back
  known_below : (left : List Name) (f f' : Name) → Known left f → Reaches p f f' → (Reaches p f' f → ⊥) → Known (without f left) f'
  known_below left f f' k r apart y d named w = stays_in f y left (on w) (differs w)
    where
      on : (y ≡ f') ⊎ Reaches p f' y → Stands y left
      on (inl e) = k y d named (inr (subst (Reaches p f) (sym e) r))
      on (inr s) = k y d named (inr (reached r.0 f f' y r.1 s))

      differs : (y ≡ f') ⊎ Reaches p f' y → y ≡ f → ⊥
      differs (inl e) is = apart (subst (λ (z : Name). Reaches p z f) (sym is ∙ e) (subst (Reaches p f) (sym e ∙ is) r))
      differs (inr s) is = apart (subst (Reaches p f') is s)

  module _ (C : Name → Type 0) (from_lower : (f : Name) (g : Predicate) → predicate_named p f ≡ Some g → ((f' : Name) (g' : Predicate) → predicate_named p f' ≡ Some g' → Reaches p f f' → (Reaches p f' f → ⊥) → C f') → C f) where
    with_names : (n : ℕ) (left : List Name) → length left ≤ n → (f : Name) (g : Predicate) → predicate_named p f ≡ Some g → Known left f → C f
    with_names zero left l f g named known = absurd (nothing_left f left (known f g named (inl refl)) l)
    with_names (suc n) left l f g named known =
        from_lower f g named (λ f' g' named' r apart. with_names n (without f left) (fewer_names f left n (known f g named (inl refl)) l) f' g' named' (known_below left f f' known r apart))

    pub predicates_induce : (f : Name) (g : Predicate) → predicate_named p f ≡ Some g → C f
    predicates_induce f g named = with_names (length (names_of p)) (names_of p) (self (length (names_of p))) f g named (λ y d is w. named_stands p y d is)
      where
        self : (n : ℕ) → n ≤ n
        self n = omega arith
