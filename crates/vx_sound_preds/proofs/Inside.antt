-- What a body that is inside an instance gives is inside that instance too.
use Rattle.std.proofs.Common.{◌≡◌, ℕ, zero, suc, Bool, true, false, cond, ◌⊎◌, inl, inr, List, [], ◌∷◌, ◌++◌, Option, Some, None, refl, sym, ◌∙◌, ap, subst}
use Rattle.std.specs.Prelude.{option_and_then}
use Rattle.std.proofs.lemmas.Option.{same_Some}
use Rattle.std.proofs.lemmas.Bool.{and_parts}
use Rattle.vx_frac.specs.Fractions.{Fraction, none, sum}
use Rattle.vx_ast.specs.Syntax.{Program, Predicate, Assertion, predicate_named}
use Rattle.vx_meaning.specs.Values.{Value, IntValue, BoolValue, RefValue, PermValue, same_value, same_values}
use Rattle.vx_meaning.specs.States.{Heap, Holdings, Instance, Resource, At, Folded, same_resource, amount, scaled, bind}
use Rattle.vx_meaning.specs.Flatten.{bare, entries, body_entries, within, with_inner, flat, IsInside}
use Rattle.vx_amounts.proofs.Amounts.{Le, Positive, le-refl, none-none, positive-le, not-positive, above-add}
use Rattle.vx_amounts.proofs.Products.{product_positive, positive_le}
use Rattle.vx_sound.proofs.Marks.{Marks, Unmarked, Rooted, Unsaid, InnerAt, LeadsAt}
use Rattle.vx_sound.proofs.Chunks.{resource_same}
use Rattle.vx_sound_preds.specs.Bodies.{IsRigid, AreRigid, GoodBodies}
use Rattle.vx_sound_preds.proofs.Flats.{came, flat_single}
use Rattle.vx_sound_preds.proofs.Grouped.{resource_is}
use Rattle.vx_sound_preds.proofs.Frames.{AllPositive, entries_positive}

-- an entry of this resource
abbrev pub Has : Resource → Holdings → Type 0
Has r [] = ⊥
Has r (x ∷ xs) = (same_resource r x.0 ≡ true) ⊎ Has r xs

has_left : (r : Resource) (xs ys : Holdings) → Has r xs → Has r (xs ++ ys)
has_left r [] ys h = absurd h
has_left r (x ∷ xs) ys (inl e) = inl e
has_left r (x ∷ xs) ys (inr h) = inr (has_left r xs ys h)

has_right : (r : Resource) (xs ys : Holdings) → Has r ys → Has r (xs ++ ys)
has_right r [] ys h = h
has_right r (x ∷ xs) ys h = inr (has_right r xs ys h)

has_either : (r : Resource) (xs ys : Holdings) → Has r (xs ++ ys) → Has r xs ⊎ Has r ys
has_either r [] ys h = inr h
has_either r (x ∷ xs) ys (inl e) = inl (inl e)
has_either r (x ∷ xs) ys (inr h) = elim (has_either r xs ys h) [ inl k ↦ inl (inr k) | inr k ↦ inr k ]

has_scaled : (r : Resource) (q : Fraction) (xs : Holdings) → Has r xs → Has r (scaled q xs)
has_scaled r q [] h = h
has_scaled r q (x ∷ xs) (inl e) = inl e
has_scaled r q (x ∷ xs) (inr h) = inr (has_scaled r q xs h)

scaled_has : (r : Resource) (q : Fraction) (xs : Holdings) → Has r (scaled q xs) → Has r xs
scaled_has r q [] h = h
scaled_has r q (x ∷ xs) (inl e) = inl e
scaled_has r q (x ∷ xs) (inr h) = inr (scaled_has r q xs h)

-- Amounts

positive_has : (r : Resource) (xs : Holdings) → Positive (amount xs r) → Has r xs
positive_has r [] k = absurd (not-positive k (le-refl none))
positive_has r (x ∷ xs) k = go (same_resource r x.0) refl (positive_has r xs) k
  where
    go : (b : Bool) → same_resource r x.0 ≡ b → (Positive (amount xs r) → Has r xs) → Positive (cond b (sum x.1 (amount xs r)) (amount xs r)) → Has r (x ∷ xs)
    go true e f k = inl e
    go false e f k = inr (f k)

amount_least : (r : Resource) (xs : Holdings) → AllPositive xs → Le none (amount xs r)
amount_least r [] k = le-refl none
amount_least r (x ∷ xs) k = go (same_resource r x.0) (amount_least r xs k.1)
  where
    go : (b : Bool) → Le none (amount xs r) → Le none (cond b (sum x.1 (amount xs r)) (amount xs r))
    go true h = none-none (positive_le k.0) h
    go false h = h

has_positive : (r : Resource) (xs : Holdings) → AllPositive xs → Has r xs → Positive (amount xs r)
has_positive r [] k h = absurd h
has_positive r (x ∷ xs) k h = go (same_resource r x.0) refl h (has_positive r xs k.1)
  where
    clash : same_resource r x.0 ≡ false → same_resource r x.0 ≡ true → ⊥
    clash e f = let z : false ≡ true = sym e ∙ f in cc

    go : (b : Bool) → same_resource r x.0 ≡ b → (same_resource r x.0 ≡ true) ⊎ Has r xs → (Has r xs → Positive (amount xs r)) → Positive (cond b (sum x.1 (amount xs r)) (amount xs r))
    go true e h f = positive-le k.0 (above-add x.1 (amount xs r) (amount_least r xs k.1))
    go false e (inl g) f = absurd (clash e g)
    go false e (inr g) f = f g

append_positive : (xs ys : Holdings) → AllPositive xs → AllPositive ys → AllPositive (xs ++ ys)
append_positive [] ys a b = b
append_positive (x ∷ xs) ys a b = (a.0, append_positive xs ys a.1 b)

scaled_positive : (q : Fraction) (xs : Holdings) → Positive q → AllPositive xs → AllPositive (scaled q xs)
scaled_positive q [] k h = tt
scaled_positive q (x ∷ xs) k h = (product_positive k h.0, scaled_positive q xs k h.1)

-- An instance whose arguments are no amounts is the same as itself alone, on this side too.

value_rigid : (v w : Value) → IsRigid v → same_value v w ≡ true → IsRigid w
value_rigid v (IntValue b) h e = tt
value_rigid v (BoolValue b) h e = tt
value_rigid v (RefValue b) h e = tt
value_rigid (IntValue a) (PermValue b) h e = cc
value_rigid (BoolValue a) (PermValue b) h e = cc
value_rigid (RefValue a) (PermValue b) h e = cc
value_rigid (PermValue a) (PermValue b) h e = absurd h

values_rigid : (vs ws : List Value) → AreRigid vs → same_values vs ws ≡ true → AreRigid ws
values_rigid vs [] h e = tt
values_rigid [] (w ∷ ws) h e = cc
values_rigid (v ∷ vs) (w ∷ ws) h e = let q = and_parts _ _ e in (value_rigid v w h.0 q.0, values_rigid vs ws h.1 q.1)

rigid_is : (k : Instance) (c : Resource) → AreRigid k.arguments → same_resource (Folded k) c ≡ true → Folded k ≡ c
rigid_is k (At l) h e = cc
rigid_is k (Folded j) h e = let q = and_parts _ _ e in resource_is (Folded k) (Folded j) (values_rigid k.arguments j.arguments h q.1) e

module _ (p : Program) (good : GoodBodies p) (h : Heap) where
  nothing : (x : Holdings) → None ≡ Some x → ⊥
  nothing x e = cc

  -- What is inside is positive

  body_positive : (i : Instance) (d : Predicate) → predicate_named p i.predicate ≡ Some d → (es : Holdings) → body_entries p h i.arguments d ≡ Some es → AllPositive es
  body_positive i d is es e = go d.body refl e
    where
      side : Option Assertion → Option Holdings
      side None = Some []
      side (Some a) = entries p (bare (bind d.parameters i.arguments) h) a

      go : (b : Option Assertion) → d.body ≡ b → side b ≡ Some es → AllPositive es
      go None body f = subst AllPositive (same_Some [] es f) tt
      go (Some a) body f = entries_positive p (bare (bind d.parameters i.arguments) h) a es (good.plain i.predicate d a is body) f

  within_positive : (n : ℕ) → ((i : Instance) (x : Holdings) → flat p n h i ≡ Some x → AllPositive x) → (r : Resource) (q : Fraction) (x : Holdings) → Positive q → within (flat p n h) r q ≡ Some x → AllPositive x
  within_positive n ih (At l) q x k e = subst AllPositive (same_Some [] x e) tt
  within_positive n ih (Folded i) q x k e =
      let y = came (flat p n h i) (λ inner. Some (scaled q inner)) x e in
      subst AllPositive (same_Some (scaled q y.it) x y.then) (scaled_positive q y.it k (ih i y.it y.is))

  inner_positive : (n : ℕ) → ((i : Instance) (x : Holdings) → flat p n h i ≡ Some x → AllPositive x) → (es x : Holdings) → AllPositive es → with_inner (flat p n h) es ≡ Some x → AllPositive x
  inner_positive n ih [] x k e = subst AllPositive (same_Some [] x e) tt
  inner_positive n ih (a ∷ rest) x k e =
      let y = came (within (flat p n h) a.0 a.1) (λ inner. option_and_then (λ more. Some (a ∷ (inner ++ more))) (with_inner (flat p n h) rest)) x e in
      let z = came (with_inner (flat p n h) rest) (λ more. Some (a ∷ (y.it ++ more))) x y.then in
      subst AllPositive (same_Some (a ∷ (y.it ++ z.it)) x z.then) (k.0, append_positive y.it z.it (within_positive n ih a.0 a.1 y.it k.0 y.is) (inner_positive n ih rest z.it k.1 z.is))

  flat_positive : (n : ℕ) (i : Instance) (x : Holdings) → flat p n h i ≡ Some x → AllPositive x
  flat_positive zero i x e = absurd (nothing x e)
  flat_positive (suc n) i x e =
      let y = came (predicate_named p i.predicate) (λ d. option_and_then (with_inner (flat p n h)) (body_entries p h i.arguments d)) x e in
      let z = came (body_entries p h i.arguments y.it) (with_inner (flat p n h)) x y.then in
      inner_positive n (flat_positive n) z.it x (body_positive i y.it y.is z.it z.is) z.then

  -- the entries of a body are inside
  has_entries : (n : ℕ) (r : Resource) (es x : Holdings) → with_inner (flat p n h) es ≡ Some x → Has r es → Has r x
  has_entries n r [] x e k = absurd k
  has_entries n r (a ∷ rest) x e k =
      let y = came (within (flat p n h) a.0 a.1) (λ inner. option_and_then (λ more. Some (a ∷ (inner ++ more))) (with_inner (flat p n h) rest)) x e in
      let z = came (with_inner (flat p n h) rest) (λ more. Some (a ∷ (y.it ++ more))) x y.then in
      subst (Has r) (same_Some (a ∷ (y.it ++ z.it)) x z.then) (elim k [ inl s ↦ inl s | inr m ↦ inr (has_right r y.it z.it (has_entries n r rest z.it z.is m)) ])

  -- What is inside one that is inside an instance is inside that instance.
  module _ (k : Instance) (rigid : AreRigid k.arguments) (m : ℕ) (y : Holdings) (all : flat p m h k ≡ Some y) (r : Resource) (has : Has r y) where
    of_it : (n : ℕ) (q : Fraction) (x : Holdings) → within (flat p n h) (Folded k) q ≡ Some x → Has r x
    of_it n q x e =
        let z = came (flat p n h k) (λ inner. Some (scaled q inner)) x e in
        subst (Has r) (same_Some (scaled q z.it) x z.then) (has_scaled r q z.it (subst (Has r) (flat_single p m n h k y z.it all z.is) has))

    within_it : (n : ℕ) → ((i : Instance) (x : Holdings) → flat p n h i ≡ Some x → Has (Folded k) x → Has r x) → (c : Resource) (q : Fraction) (x : Holdings) → within (flat p n h) c q ≡ Some x → Has (Folded k) x → Has r x
    within_it n ih (At l) q x e g = absurd (subst (Has (Folded k)) (sym (same_Some [] x e)) g)
    within_it n ih (Folded i) q x e g =
        let z = came (flat p n h i) (λ inner. Some (scaled q inner)) x e in
        let is = same_Some (scaled q z.it) x z.then in
        subst (Has r) is (has_scaled r q z.it (ih i z.it z.is (scaled_has (Folded k) q z.it (subst (Has (Folded k)) (sym is) g))))

    joined : (a : Resource × Fraction) (inner more : Holdings) → (same_resource (Folded k) a.0 ≡ true → Has r inner) → (Has (Folded k) inner → Has r inner) → (Has (Folded k) more → Has r more) → Has (Folded k) (a ∷ (inner ++ more)) → Has r (a ∷ (inner ++ more))
    joined a inner more f g w (inl e) = inr (has_left r inner more (f e))
    joined a inner more f g w (inr e) = inr (elim (has_either (Folded k) inner more e) [ inl z ↦ has_left r inner more (g z) | inr z ↦ has_right r inner more (w z) ])

    inner_through : (n : ℕ) → ((i : Instance) (x : Holdings) → flat p n h i ≡ Some x → Has (Folded k) x → Has r x) → (es x : Holdings) → with_inner (flat p n h) es ≡ Some x → Has (Folded k) x → Has r x
    inner_through n ih [] x e g = absurd (subst (Has (Folded k)) (sym (same_Some [] x e)) g)
    inner_through n ih (a ∷ rest) x e g =
        let y = came (within (flat p n h) a.0 a.1) (λ inner. option_and_then (λ more. Some (a ∷ (inner ++ more))) (with_inner (flat p n h) rest)) x e in
        let z = came (with_inner (flat p n h) rest) (λ more. Some (a ∷ (y.it ++ more))) x y.then in
        let is = same_Some (a ∷ (y.it ++ z.it)) x z.then in
        subst (Has r) is (joined a y.it z.it (λ s. of_it n a.1 y.it (subst (λ c. within (flat p n h) c a.1 ≡ Some y.it) (sym (rigid_is k a.0 rigid s)) y.is))
        (within_it n ih a.0 a.1 y.it y.is) (inner_through n ih rest z.it z.is) (subst (Has (Folded k)) (sym is) g))

    through : (n : ℕ) (i : Instance) (x : Holdings) → flat p n h i ≡ Some x → Has (Folded k) x → Has r x
    through zero i x e g = absurd (nothing x e)
    through (suc n) i x e g =
        let w = came (predicate_named p i.predicate) (λ d. option_and_then (with_inner (flat p n h)) (body_entries p h i.arguments d)) x e in
        let z = came (body_entries p h i.arguments w.it) (with_inner (flat p n h)) x w.then in
        inner_through n (through n) z.it x z.then g

  -- what is inside the root, or inside one from inside it, is inside the root
  pub inside_root : (root k : Instance) → AreRigid k.arguments → (k ≡ root) ⊎ IsInside p h k root → (m : ℕ) (y : Holdings) → flat p m h k ≡ Some y → (j : Instance) → Has (Folded j) y → IsInside p h j root
  inside_root root k rigid (inl e) m y f j g = subst (IsInside p h j) e (m, y, f, (has_positive (Folded j) y (flat_positive m k y f) g).holds)
  inside_root root k rigid (inr (n, x, f', pos)) m y f j g =
      (n, x, f', (has_positive (Folded j) x (flat_positive n root x f') (through k rigid m y f (Folded j) g n root x f' (positive_has (Folded k) x (record { holds = pos })))).holds)

  -- The entries of a body are inner where what is unfolded leads inside.

  abbrev pub AllInner : Marks → Holdings → Type 0
  AllInner marks [] = Unit {0}
  AllInner marks (x ∷ xs) = InnerAt p marks h x.0 × AllInner marks xs

  pub inner_parts : (marks : Marks) (xs ys : Holdings) → AllInner marks (xs ++ ys) → AllInner marks xs × AllInner marks ys
  inner_parts marks [] ys k = (tt, k)
  inner_parts marks (x ∷ xs) ys k = let z = inner_parts marks xs ys k.1 in ((k.0, z.0), z.1)

  pub entries_inner : (marks : Marks) (k : Instance) → AreRigid k.arguments → LeadsAt p marks h (Folded k) → (fuel : ℕ) (y : Holdings) → flat p fuel h k ≡ Some y →
      (es : Holdings) → option_and_then (λ d. body_entries p h k.arguments d) (predicate_named p k.predicate) ≡ Some es → AllInner marks es
  entries_inner marks k rigid leads zero y f es body = absurd (nothing y f)
  entries_inner marks k rigid leads (suc n) y f es body =
      let w = came (predicate_named p k.predicate) (λ d. option_and_then (with_inner (flat p n h)) (body_entries p h k.arguments d)) y f in
      let z = came (body_entries p h k.arguments w.it) (with_inner (flat p n h)) y w.then in
      let v = came (predicate_named p k.predicate) (λ d. body_entries p h k.arguments d) es body in
      let same : z.it ≡ es = same_Some z.it es (sym z.is ∙ ap (body_entries p h k.arguments) (same_Some w.it v.it (sym w.is ∙ v.is)) ∙ v.then) in
      all es (λ r g. has_entries n r es y (subst (λ es. with_inner (flat p n h) es ≡ Some y) same z.then) g)
    where
      one : (marks : Marks) → LeadsAt p marks h (Folded k) → (r : Resource) → Has r y → InnerAt p marks h r
      one marks leads (At l) g = tt
      one Unmarked (inl l) (Folded j) g = absurd l
      one Unmarked (inr l) (Folded j) g = absurd l
      one (Rooted root) leads (Folded j) g = inside_root root k rigid leads (suc n) y f j g
      one Unsaid leads (Folded j) g = tt

      all : (xs : Holdings) → ((r : Resource) → Has r xs → Has r y) → AllInner marks xs
      all [] f = tt
      all (x ∷ xs) f = (one marks leads x.0 (f x.0 (inl (resource_same x.0))), all xs (λ r g. f r (inr g)))
