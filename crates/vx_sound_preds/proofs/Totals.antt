-- A total is a sum over what is held, each by its weight: what one whole of it holds of the location.
use Rattle.std.proofs.Common.{◌≡◌, ℕ, zero, suc, Bool, true, false, cond, [], ◌∷◌, ◌++◌, Option, Some, None, refl, sym, ◌∙◌, ap, subst}
use Rattle.std.specs.Prelude.{option_and_then, unwrap_or}
use Rattle.std.proofs.lemmas.Option.{same_Some}
use Rattle.vx_frac.specs.Fractions.{Fraction, none, full, sum, product}
use Rattle.vx_ast.specs.Syntax.{Program, predicate_named}
use Rattle.vx_meaning.specs.States.{Heap, Holdings, Location, Instance, Resource, At, Folded, same_location, same_resource, amount, scaled}
use Rattle.vx_meaning.specs.Flatten.{body_entries, within, with_inner, flat}
use Rattle.vx_meaning.specs.Consistent.{spread, total}
use Rattle.vx_amounts.proofs.Amounts.{Le, Same, same-refl, same-sym, same-trans, le-refl, le-trans, le-is, sum_same, none-sum, sum_comm, sum_assoc, none-none}
use Rattle.vx_amounts.proofs.Products.{product-full, product-none, product_assoc, product_sum, product_sign}
use Rattle.vx_sound_preds.proofs.Fitting.{step}
use Rattle.vx_sound_preds.proofs.Flats.{came, flat_more}

pub same_is : {a b : Fraction} → a ≡ b → Same a b
same_is {a = a} e = subst (Same a) e (same-refl a)

-- Amounts of lists

pub amount_append : (xs ys : Holdings) (r : Resource) → Same (amount (xs ++ ys) r) (sum (amount xs r) (amount ys r))
amount_append [] ys r = same-sym (none-sum (amount ys r))
amount_append (x ∷ xs) ys r = go (same_resource r x.0) (amount_append xs ys r)
  where
    go : (b : Bool) → Same (amount (xs ++ ys) r) (sum (amount xs r) (amount ys r)) →
        Same (cond b (sum x.1 (amount (xs ++ ys) r)) (amount (xs ++ ys) r)) (sum (cond b (sum x.1 (amount xs r)) (amount xs r)) (amount ys r))
    go true h = same-trans (sum_same (same-refl x.1) h) (same-sym (sum_assoc x.1 (amount xs r) (amount ys r)))
    go false h = h

pub amount_scaled : (q : Fraction) (xs : Holdings) (r : Resource) → Same (amount (scaled q xs) r) (product q (amount xs r))
amount_scaled q [] r = same-sym (product-none q)
amount_scaled q (x ∷ xs) r = go (same_resource r x.0) (amount_scaled q xs r)
  where
    go : (b : Bool) → Same (amount (scaled q xs) r) (product q (amount xs r)) →
        Same (cond b (sum (product q x.1) (amount (scaled q xs) r)) (amount (scaled q xs) r)) (product q (cond b (sum x.1 (amount xs r)) (amount xs r)))
    go true h = same-trans (sum_same (same-refl (product q x.1)) h) (same-sym (product_sum q x.1 (amount xs r)))
    go false h = h

-- a sum by weights
unfoldable pub weigh : (Resource → Fraction) → Holdings → Fraction
weigh w [] = none
weigh w (x ∷ xs) = sum (product x.1 (w x.0)) (weigh w xs)

pub weigh_none : (w : Resource → Fraction) → weigh w [] ≡ none
unfolding weigh
weigh_none w = refl

pub weigh_more : (w : Resource → Fraction) (x : Resource × Fraction) (xs : Holdings) → weigh w (x ∷ xs) ≡ sum (product x.1 (w x.0)) (weigh w xs)
unfolding weigh
weigh_more w x xs = refl

pub weigh_append : (w : Resource → Fraction) (xs ys : Holdings) → Same (weigh w (xs ++ ys)) (sum (weigh w xs) (weigh w ys))
unfolding weigh
weigh_append w [] ys = same-sym (none-sum (weigh w ys))
weigh_append w (x ∷ xs) ys =
    same-trans (sum_same (same-refl (product x.1 (w x.0))) (weigh_append w xs ys)) (same-sym (sum_assoc (product x.1 (w x.0)) (weigh w xs) (weigh w ys)))

pub weigh_scaled : (w : Resource → Fraction) (q : Fraction) (xs : Holdings) → Same (weigh w (scaled q xs)) (product q (weigh w xs))
unfolding weigh
weigh_scaled w q [] = same-sym (product-none q)
weigh_scaled w q (x ∷ xs) =
    same-trans (sum_same (same_is (product_assoc q x.1 (w x.0))) (weigh_scaled w q xs)) (same-sym (product_sum q (product x.1 (w x.0)) (weigh w xs)))

module _ (p : Program) (h : Heap) (l : Location) where
  -- what one whole of it holds of l, by n
  abbrev pub own_weight : Resource → Fraction
  own_weight r = cond (same_resource (At l) r) full none

  abbrev pub weight : ℕ → Resource → Fraction
  weight n (At k) = own_weight (At k)
  weight n (Folded i) = amount (unwrap_or (flat p n h i) []) (At l)

  -- an entry and what is inside it
  entry_weight : (n : ℕ) (r : Resource) (q : Fraction) → Same (amount ((r, q) ∷ unwrap_or (within (flat p n h) r q) []) (At l)) (product q (weight n r))
  entry_weight n (At k) q = go (same_location l k)
    where
      go : (b : Bool) → Same (cond b (sum q none) none) (product q (cond b full none))
      go true = same-trans (sum_comm q none) (same-trans (none-sum q) (same-sym (product-full q)))
      go false = same-sym (product-none q)
  entry_weight n (Folded i) q = go (flat p n h i)
    where
      go : (o : Option Holdings) → Same (amount (unwrap_or (option_and_then (λ inner. Some (scaled q inner)) o) []) (At l)) (product q (amount (unwrap_or o []) (At l)))
      go None = same-sym (product-none q)
      go (Some inner) = amount_scaled q inner (At l)

  pub total_weighs : (n : ℕ) (held : Holdings) → Same (total p n h held l) (weigh (weight n) held)
  unfolding weigh
  total_weighs n [] = same-refl none
  total_weighs n (x ∷ xs) =
      same-trans (amount_append (x ∷ unwrap_or (within (flat p n h) x.0 x.1) []) (spread p n h xs) (At l))
      (sum_same (entry_weight n x.0 x.1) (total_weighs n xs))

  -- what is inside, by the weights of the entries
  pub inner_weighs : (n : ℕ) (es x : Holdings) → with_inner (flat p n h) es ≡ Some x → Same (amount x (At l)) (weigh (weight n) es)
  unfolding weigh
  inner_weighs n [] x e = same_is (ap (λ (y : Holdings). amount y (At l)) (sym (same_Some [] x e)))
  inner_weighs n (a ∷ rest) x e =
      let y = came (within (flat p n h) a.0 a.1) (λ inner. option_and_then (λ more. Some (a ∷ (inner ++ more))) (with_inner (flat p n h) rest)) x e in
      let z = came (with_inner (flat p n h) rest) (λ more. Some (a ∷ (y.it ++ more))) x y.then in
      let w = entry_weight n a.0 a.1 in
      let same : Same (amount (a ∷ y.it) (At l)) (product a.1 (weight n a.0)) = subst (λ (o : Option Holdings). Same (amount (a ∷ unwrap_or o []) (At l)) (product a.1 (weight n a.0))) y.is w in
      same-trans (same_is (ap (λ (y : Holdings). amount y (At l)) (sym (same_Some (a ∷ (y.it ++ z.it)) x z.then))))
      (same-trans (amount_append (a ∷ y.it) z.it (At l)) (sum_same same (inner_weighs n rest z.it z.is)))

  -- the weight of an instance is that of its body's entries
  pub weight_of_body : (n : ℕ) (i : Instance) (x : Holdings) → flat p (suc n) h i ≡ Some x →
      (es : Holdings) → option_and_then (λ d. body_entries p h i.arguments d) (predicate_named p i.predicate) ≡ Some es →
      Same (weight (suc n) (Folded i)) (weigh (weight n) es)
  weight_of_body n i x e es f =
      let y = came (predicate_named p i.predicate) (λ d. option_and_then (with_inner (flat p n h)) (body_entries p h i.arguments d)) x e in
      let z = came (body_entries p h i.arguments y.it) (with_inner (flat p n h)) x y.then in
      let same : z.it ≡ es = same_Some z.it es (sym z.is ∙ sym (step (λ d. body_entries p h i.arguments d) y.it y.is) ∙ f) in
      subst (λ (es : Holdings). Same (weight (suc n) (Folded i)) (weigh (weight n) es)) same
      (same-trans (same_is (ap (λ (o : Option Holdings). amount (unwrap_or o []) (At l)) e)) (inner_weighs n z.it x z.then))

  -- Weights are at least none, and grow with the fuel, where no body has a negative entry.
  abbrev pub AtLeastNone : Holdings → Type 0
  AtLeastNone [] = Unit {0}
  AtLeastNone (x ∷ xs) = Le none x.1 × AtLeastNone xs

  pub weigh_sign : (w : Resource → Fraction) → ((r : Resource) → Le none (w r)) → (xs : Holdings) → AtLeastNone xs → Le none (weigh w xs)
  unfolding weigh
  weigh_sign w k [] h = le-refl none
  weigh_sign w k (x ∷ xs) h = none-none (product_sign h.0 (k x.0)) (weigh_sign w k xs h.1)

  abbrev pub NoNegatives : Type 0
  NoNegatives = (i : Instance) (es : Holdings) → option_and_then (λ d. body_entries p h i.arguments d) (predicate_named p i.predicate) ≡ Some es → AtLeastNone es

  own_sign : (r : Resource) → Le none (own_weight r)
  own_sign r = go (same_resource (At l) r)
    where
      go : (b : Bool) → Le none (cond b full none)
      go true = record { holds = refl }
      go false = le-refl none

  pub weight_sign : NoNegatives → (n : ℕ) (r : Resource) → Le none (weight n r)
  weight_sign k n (At m) = own_sign (At m)
  weight_sign k zero (Folded i) = le-refl none
  weight_sign k (suc n) (Folded i) = go (weight_sign k n) (flat p (suc n) h i) refl
    where
      go : ((r : Resource) → Le none (weight n r)) → (o : Option Holdings) → flat p (suc n) h i ≡ o → Le none (amount (unwrap_or (flat p (suc n) h i) []) (At l))
      go below None e = le-is (ap (λ (o : Option Holdings). amount (unwrap_or o []) (At l)) (sym e))
      go below (Some x) e =
          let y = came (predicate_named p i.predicate) (λ d. option_and_then (with_inner (flat p n h)) (body_entries p h i.arguments d)) x e in
          let z = came (body_entries p h i.arguments y.it) (with_inner (flat p n h)) x y.then in
          let f = step (λ d. body_entries p h i.arguments d) y.it y.is ∙ z.is in
          le-trans (weigh_sign (weight n) below z.it (k i z.it f)) (weight_of_body n i x e z.it f).back

  pub weight_grows : NoNegatives → (n : ℕ) (r : Resource) → Le (weight n r) (weight (suc n) r)
  weight_grows k n (At m) = le-refl (own_weight (At m))
  weight_grows k n (Folded i) = go (flat p n h i) refl
    where
      go : (o : Option Holdings) → flat p n h i ≡ o → Le (amount (unwrap_or (flat p n h i) []) (At l)) (amount (unwrap_or (flat p (suc n) h i) []) (At l))
      go None e = subst (λ (o : Option Holdings). Le (amount (unwrap_or o []) (At l)) (amount (unwrap_or (flat p (suc n) h i) []) (At l))) (sym e) (weight_sign k (suc n) (Folded i))
      go (Some x) e = le-is (ap (λ (o : Option Holdings). amount (unwrap_or o []) (At l)) (e ∙ sym (flat_more p n h i x e)))
