-- Frames of instances: what is inside, and the tree, look only where something is held.
use Rattle.std.proofs.Common.{◌≡◌, ℕ, zero, suc, ◌+◌, Bool, true, false, cond, [], ◌∷◌, ◌++◌, Option, Some, None, refl, sym, ◌∙◌, ap, ap₂, subst, arith}
use Rattle.std.specs.Prelude.{option_and_then}
use Rattle.std.proofs.lemmas.Option.{same_Some}
use Rattle.vx_frac.specs.Fractions.{Fraction, none, full, at_most, sum, product}
use Rattle.vx_ast.specs.Syntax.{Name, Program, Predicate, Assertion, Pure, Points, Both, Implied, Chosen, predicate_named}
use Rattle.vx_ast.specs.Syntax as syntax
use Rattle.vx_meaning.specs.Values.{Value, IntValue, BoolValue, RefValue, PermValue, is_true}
use Rattle.vx_meaning.specs.States.{State, Heap, Holdings, Location, Instance, Resource, At, Folded, same_resource, amount, gained, scaled, bind, value_at}
use Rattle.vx_meaning.specs.Evaluate as plain
use Rattle.vx_meaning.specs.Evaluate.{value, values}
use Rattle.vx_meaning.specs.Flatten.{no_applications, bare, entries, location_entry, instance_entry, body_entries, with_inner, flat}
use Rattle.vx_meaning.specs.Consistent.{total, IsHeld}
use Rattle.vx_meaning.specs.Fits.{deeper}
use Rattle.vx_terms.specs.Interpretations.{Tree, Empty}
use Rattle.vx_amounts.proofs.Amounts.{Le, Positive, Same, same-trans, le-refl, le-trans, sum_same, none-sum, sum_comm, none-none, positive-le, not-positive, above-add, below-add, full-positive, none-full}
use Rattle.vx_sound.proofs.Chunks.{location_same, held_directly}
use Rattle.vx_sound_preds.specs.Covered.{AllGood, Covered}
use Rattle.vx_sound_preds.specs.Bodies.{AreRigid, Rigid, IsPlainBody, GoodBodies}
use Rattle.vx_sound.specs.Snapshots.{assertion_tree, body_tree, tree_by}
use Rattle.vx_amounts.proofs.Products.{product-full, product_comm, product_sign, product_positive, positive_le}
use Rattle.vx_sound_preds.proofs.Fitting.{step, Agrees}
use Rattle.vx_sound_preds.proofs.Flats.{came, flat_later, inner_more}
use Rattle.vx_sound_preds.proofs.Totals.{weigh, weigh_none, same_is, weight, total_weighs, inner_weighs, weight_of_body, weight_sign, weigh_sign, AtLeastNone}
use Rattle.vx_sound_preds.proofs.Grouped.{IsSingle, AreSingle, NoDebts, resource_is, resource_self}
use Rattle.vx_sound_preds.proofs.Framing.{above_none, Gains, framed}
use Rattle.vx_sound_preds.proofs.Adding.{Sound, Grounded, Fine, AreEntries, added, weigh_added, add_adds}
use Rattle.vx_sound_preds.proofs.Exchanging.{no_negatives, opened, held_grows, bound_rigid, all_open}

-- what an amount that is gained does
module _ (p : Program) (good : GoodBodies p) (q : Fraction) (scale : Positive q) where
  held_more : (s : State) (r : Resource) (x : Fraction) → Le none x → (l : Location) → IsHeld p s.heap s.holdings l → IsHeld p s.heap (gained r x s.holdings) l
  unfolding weigh
  held_more s r x sign l (n, h) =
      let w = weight p s.heap l n in
      let more : Le (weigh w s.holdings) (sum (product x (w r)) (weigh w s.holdings)) = below-add (weigh w s.holdings) (product_sign sign (weight_sign p s.heap l (no_negatives p s.heap l good) n r)) in
      let z = positive-le (record { holds = h }) (le-trans (total_weighs p s.heap l n s.holdings).there (le-trans more (total_weighs p s.heap l n (gained r x s.holdings)).back)) in
      (n, z.holds)

  pub gains_fine : Gains p Rigid Sound (Grounded p) q
  gains_fine = record {
    later = λ s r a sr sign t f. record {
      store = refl;
      heap = refl;
      held = held_more s r (product q a) (amount_sign a sign);
      folded = λ i k. folded s r a sign i k;
      typed = t;
      forth = ((λ c sc. debts s r a sign c sc f.0), (sr, f.1));
    };
    earlier = λ s r a sign b i k. b i (folded s r a sign i k);
    at = λ s l a f k. held_directly p s.heap (gained (At l) (product q a) s.holdings) l (here s (At l) a (location_same l) (f.0 (At l) tt) k);
    in_it = λ s i a f ri k. here s (Folded i) a (resource_self (Folded i) ri) (f.0 (Folded i) ri) k;
  }
    where
      amount_sign : (a : Fraction) → at_most none a ≡ true → Le none (product q a)
      amount_sign a h = product_sign (positive_le scale) (record { holds = h })

      folded : (s : State) (r : Resource) (a : Fraction) → at_most none a ≡ true → (i : Instance) → Positive (amount s.holdings (Folded i)) → Positive (amount (gained r (product q a) s.holdings) (Folded i))
      folded s r a sign i k = go (same_resource (Folded i) r)
        where
          go : (b : Bool) → Positive (cond b (sum (product q a) (amount s.holdings (Folded i))) (amount s.holdings (Folded i)))
          go true = positive-le k (below-add (amount s.holdings (Folded i)) (amount_sign a sign))
          go false = k

      debts : (s : State) (r : Resource) (a : Fraction) → at_most none a ≡ true → (c : Resource) → IsSingle c → NoDebts s.holdings → Le none (amount (gained r (product q a) s.holdings) c)
      debts s r a sign c sc n = go (same_resource c r)
        where
          go : (b : Bool) → Le none (cond b (sum (product q a) (amount s.holdings c)) (amount s.holdings c))
          go true = none-none (amount_sign a sign) (n c sc)
          go false = n c sc

      here : (s : State) (r : Resource) (a : Fraction) → same_resource r r ≡ true → Le none (amount s.holdings r) → Positive a → Positive (amount (gained r (product q a) s.holdings) r)
      here s r a e n k = subst (λ (b : Bool). Positive (cond b (sum (product q a) (amount s.holdings r)) (amount s.holdings r))) (sym e) (positive-le (product_positive scale k) (above-add (product q a) (amount s.holdings r) n))

-- the amounts of a body's entries are above none
abbrev pub AllPositive : Holdings → Type 0
AllPositive [] = Unit {0}
AllPositive (x ∷ xs) = Positive x.1 × AllPositive xs

pub positive_least : (p : Program) (h : Heap) (l : Location) (xs : Holdings) → AllPositive xs → AtLeastNone p h l xs
positive_least p h l [] k = tt
positive_least p h l (x ∷ xs) k = (positive_le k.0, positive_least p h l xs k.1)

module _ (p : Program) where
  pub location_positive : (f : Name) (r : Value) (a : Fraction) (es : Holdings) → Positive a → location_entry f r (PermValue a) ≡ Some es → AllPositive es
  location_positive f (RefValue r) a es k e = subst (AllPositive) (same_Some ((At record { receiver = r; field = f }, a) ∷ []) es e) (k, tt)
  location_positive f (IntValue r) a es k e = cc
  location_positive f (BoolValue r) a es k e = cc
  location_positive f (PermValue r) a es k e = cc

  pub append_positive : (xs ys : Holdings) → AllPositive xs → AllPositive ys → AllPositive (xs ++ ys)
  append_positive [] ys a b = b
  append_positive (x ∷ xs) ys a b = (a.0, append_positive xs ys a.1 b)

  pub chosen_positive : (v : Value) (x y : Option Holdings) (es : Holdings) → (x ≡ Some es → AllPositive es) → (y ≡ Some es → AllPositive es) → plain.choose v x y ≡ Some es → AllPositive es
  chosen_positive (BoolValue true) x y es a b e = a e
  chosen_positive (BoolValue false) x y es a b e = b e
  chosen_positive (IntValue z) x y es a b e = cc
  chosen_positive (RefValue z) x y es a b e = cc
  chosen_positive (PermValue z) x y es a b e = cc

  pub empty_positive : (es : Holdings) → Some [] ≡ Some es → AllPositive es
  empty_positive es e = subst (AllPositive) (same_Some [] es e) tt

  pub truth_positive : (b : Bool) (es : Holdings) → cond b (Some []) None ≡ Some es → AllPositive es
  truth_positive true es e = empty_positive es e
  truth_positive false es e = cc

  pub entries_positive : (s : State) (a : Assertion) (es : Holdings) → IsPlainBody p Rigid a → entries p s a ≡ Some es → AllPositive es
  entries_positive s (Pure e) es k eq =
      let y = came (value p no_applications s e) (λ v. cond (is_true v) (Some []) None) es eq in
      truth_positive (is_true y.it) es y.then
  entries_positive s (Points at e f share) es k eq =
      let y = came (value p no_applications s e) (λ r. option_and_then (location_entry f r) (value p no_applications s share)) es eq in
      location_positive f y.it k.1.amount es (above_none k.1) (sym (step (location_entry f y.it) (PermValue k.1.amount) (k.1.value_is s)) ∙ y.then)
  entries_positive s (syntax.Instance at i xs share) es k eq =
      let y = came (values p no_applications s xs) (λ vs. option_and_then (instance_entry i vs) (value p no_applications s share)) es eq in
      let e = sym (step (instance_entry i y.it) (PermValue k.1.amount) (k.1.value_is s)) ∙ y.then in
      subst (AllPositive) (same_Some ((Folded record { predicate = i; arguments = y.it }, k.1.amount) ∷ []) es e) ((above_none k.1), tt)
  entries_positive s (Both a b) es k eq =
      let y = came (entries p s a) (λ xs. option_and_then (λ ys. Some (xs ++ ys)) (entries p s b)) es eq in
      let z = came (entries p s b) (λ ys. Some (y.it ++ ys)) es y.then in
      subst (AllPositive) (same_Some (y.it ++ z.it) es z.then) (append_positive y.it z.it (entries_positive s a y.it k.0 y.is) (entries_positive s b z.it k.1 z.is))
  entries_positive s (Implied c a) es k eq =
      let y = came (value p no_applications s c) (λ v. plain.choose v (entries p s a) (Some [])) es eq in
      chosen_positive y.it (entries p s a) (Some []) es (entries_positive s a es k.1) (empty_positive es) y.then
  entries_positive s (Chosen c a b) es k eq =
      let y = came (value p no_applications s c) (λ v. plain.choose v (entries p s a) (entries p s b)) es eq in
      chosen_positive y.it (entries p s a) (entries p s b) es (entries_positive s a es k.1) (entries_positive s b es k.2) y.then

added_single : (q : Fraction) (es h : Holdings) → AreSingle (added q es h) → AreSingle es × AreSingle h
unfolding added
added_single q [] h k = (tt, k)
added_single q (x ∷ xs) h k = let r = added_single q xs (gained x.0 (product q x.1) h) k in ((r.1.0, r.0), r.1.1)

pub full-product : (a : Fraction) → Same (product full a) a
full-product a = subst (λ (x : Fraction). Same x a) (product_comm a full) (product-full a)

pub sum-none : (a : Fraction) → Same (sum a none) a
sum-none a = same-trans (sum_comm a none) (none-sum a)

-- the same is inside, and the tree is the same
pub record SameAt (p : Program) (n : ℕ) (h g : Heap) (i : Instance) : Type 0 where
  pub inside : flat p n g i ≡ flat p n h i
  pub tree : tree_by p n g i ≡ tree_by p n h i

abbrev pub InnerSame : Program → ℕ → Heap → Heap → Holdings → Type 0
InnerSame p n h g [] = Unit {0}
InnerSame p n h g ((At l, a) ∷ xs) = InnerSame p n h g xs
InnerSame p n h g ((Folded j, a) ∷ xs) = SameAt p n h g j × InnerSame p n h g xs

inner_is_same : (p : Program) (n : ℕ) (h g : Heap) (es : Holdings) → InnerSame p n h g es → with_inner (flat p n g) es ≡ with_inner (flat p n h) es
inner_is_same p n h g [] k = refl
inner_is_same p n h g ((At l, a) ∷ xs) k = ap (λ (o : Option Holdings). option_and_then (λ more. Some ((At l, a) ∷ more)) o) (inner_is_same p n h g xs k)
inner_is_same p n h g ((Folded j, a) ∷ xs) k =
    ap₂ (λ (o m : Option Holdings). option_and_then (λ inner. option_and_then (λ more. Some ((Folded j, a) ∷ (inner ++ more))) m) (option_and_then (λ inner. Some (scaled a inner)) o)) k.0.inside (inner_is_same p n h g xs k.1)

-- an instance that was added is among the entries
found_in : (p : Program) (n : ℕ) (h g : Heap) (q : Fraction) (j : Instance) (es hs : Holdings) → AreSingle es → InnerSame p n h g es →
    (Positive (amount hs (Folded j)) → SameAt p n h g j) → Positive (amount (added q es hs) (Folded j)) → SameAt p n h g j
unfolding added
found_in p n h g q j [] hs si k f e = f e
found_in p n h g q j ((At l, a) ∷ xs) hs si k f e = found_in p n h g q j xs (gained (At l) (product q a) hs) si.1 k f e
found_in p n h g q j ((Folded c, a) ∷ xs) hs si k f e = found_in p n h g q j xs (gained (Folded c) (product q a) hs) si.1 k.1 (go (same_resource (Folded j) (Folded c)) refl) e
  where
    is : (c j : Instance) → ◌≡◌ {A = Resource} (Folded j) (Folded c) → j ≡ c
    is c j e = cc

    go : (b : Bool) → same_resource (Folded j) (Folded c) ≡ b → Positive (cond b (sum (product q a) (amount hs (Folded j))) (amount hs (Folded j))) → SameAt p n h g j
    go true e z = subst (SameAt p n h g) (sym (is c j (resource_is (Folded j) (Folded c) si.0 e))) k.0
    go false e z = f z

module _ (p : Program) (good : GoodBodies p) (Good : Heap → Instance → Type 0) (covered : Covered p Good) (h g : Heap) where
  inner_framed : (n : ℕ) → ((i : Instance) (x : Holdings) → Good h i → AreRigid i.arguments → flat p n h i ≡ Some x → ((l : Location) → Positive (weight p h l n (Folded i)) → value_at p g l ≡ value_at p h l) → SameAt p n h g i) →
      (es y : Holdings) → AllGood Good h es → AreSingle es → AllPositive es → with_inner (flat p n h) es ≡ Some y →
      ((l : Location) → Positive (weigh (weight p h l n) es) → value_at p g l ≡ value_at p h l) → InnerSame p n h g es
  unfolding weigh
  inner_framed n ih [] y gd si po e ag = tt
  inner_framed n ih ((At k, a) ∷ xs) y gd si po e ag =
      let m = came (with_inner (flat p n h) xs) (λ more. Some ((At k, a) ∷ more)) y e in
      inner_framed n ih xs m.it gd si.1 po.1 m.is (λ l z. ag l (positive-le z (below-add (weigh (weight p h l n) xs) (product_sign (positive_le po.0) (weight_sign p h l (no_negatives p h l good) n (At k))))))
  inner_framed n ih ((Folded j, a) ∷ xs) y gd si po e ag =
      let x = came (option_and_then (λ inner. Some (scaled a inner)) (flat p n h j)) (λ inner. option_and_then (λ more. Some ((Folded j, a) ∷ (inner ++ more))) (with_inner (flat p n h) xs)) y e in
      let f = came (flat p n h j) (λ inner. Some (scaled a inner)) x.it x.is in
      let m = came (with_inner (flat p n h) xs) (λ more. Some ((Folded j, a) ∷ (x.it ++ more))) y x.then in (
        ih j f.it gd.0 si.0 f.is (λ l z. ag l (positive-le (product_positive po.0 z) (above-add (product a (weight p h l n (Folded j))) (weigh (weight p h l n) xs)
            (weigh_sign p h l (weight p h l n) (weight_sign p h l (no_negatives p h l good) n) xs (positive_least p h l xs po.1))))),
        inner_framed n ih xs m.it gd.1 si.1 po.1 m.is (λ l z. ag l (positive-le z (below-add (weigh (weight p h l n) xs) (product_sign (positive_le po.0) (weight_sign p h l (no_negatives p h l good) n (Folded j)))))),
      )

  -- what is held after a body was added to nothing weighs in its entries
  held_weighs : (n : ℕ) (es y : Holdings) (l : Location) → with_inner (flat p n h) es ≡ Some y → AreSingle (added full es []) → NoDebts (added full es []) → IsHeld p h (added full es []) l → Positive (weigh (weight p h l n) es)
  held_weighs n es y l e si nd (k, z) =
      let hs = added full es [] in
      let o : k + n ≡ n + k = omega arith in
      let more : Positive (total p (n + k) h hs l) = held_grows p h l (no_negatives p h l good) hs si nd n k (record { holds = z }) in
      let w = weight p h l (n + k) in
      let inner : with_inner (flat p (n + k) h) es ≡ Some y = subst (λ (m : ℕ). with_inner (flat p m h) es ≡ Some y) o (inner_more (flat p n h) (flat p (k + n) h) (flat_later p k n h) es y e) in
      let whole : Same (weigh w hs) (weigh w es) = same-trans (weigh_added w full es []) (same-trans (sum_same (full-product (weigh w es)) (same_is (weigh_none w))) (sum-none (weigh w es))) in
      positive-le more (le-trans (total_weighs p h l (n + k) hs).there (le-trans whole.there (le-trans (inner_weighs p h l (n + k) es y inner).back (inner_weighs p h l n es y e).there)))

  -- Flat and the tree of a grounded instance look at no location of which nothing is inside it.
  pub framed_at : (n : ℕ) (i : Instance) (x : Holdings) → Good h i → AreRigid i.arguments → flat p n h i ≡ Some x → ((l : Location) → Positive (weight p h l n (Folded i)) → value_at p g l ≡ value_at p h l) → SameAt p n h g i
  framed_at zero i x gd ri e ag = absurd (nothing x e)
    where
      nothing : (x : Holdings) → None ≡ Some x → ⊥
      nothing x e = cc
  framed_at (suc n) i x gd ri e ag =
      let y = came (predicate_named p i.predicate) (λ d. option_and_then (with_inner (flat p n h)) (body_entries p h i.arguments d)) x e in
      let z = came (body_entries p h i.arguments y.it) (with_inner (flat p n h)) x y.then in
      let r = go (framed_at n) y.it y.is y.it.body refl z.it z.is z.then in
      record {
        inside = step (λ d. option_and_then (with_inner (flat p n g)) (body_entries p g i.arguments d)) y.it y.is ∙ r.0 ∙ sym (step (λ d. option_and_then (with_inner (flat p n h)) (body_entries p h i.arguments d)) y.it y.is);
        tree = step (λ d. body_tree p (tree_by p n g) g i.arguments d) y.it y.is ∙ r.1 ∙ sym (step (λ d. body_tree p (tree_by p n h) h i.arguments d) y.it y.is);
      }
    where
      side : Heap → Predicate → Option Assertion → Option Holdings
      side k d None = Some []
      side k d (Some a) = entries p (bare (bind d.parameters i.arguments) k) a

      tree_side : Heap → Predicate → Option Assertion → Option Tree
      tree_side k d None = Some Empty
      tree_side k d (Some a) = assertion_tree p (tree_by p n k) (bare (bind d.parameters i.arguments) k) a

      some_body : ((i : Instance) (x : Holdings) → Good h i → AreRigid i.arguments → flat p n h i ≡ Some x → ((l : Location) → Positive (weight p h l n (Folded i)) → value_at p g l ≡ value_at p h l) → SameAt p n h g i) →
          (d : Predicate) → predicate_named p i.predicate ≡ Some d → (a : Assertion) → d.body ≡ Some a → (es : Holdings) → body_entries p h i.arguments d ≡ Some es → with_inner (flat p n h) es ≡ Some x →
          (option_and_then (with_inner (flat p n g)) (entries p (bare (bind d.parameters i.arguments) g) a) ≡ option_and_then (with_inner (flat p n h)) (entries p (bare (bind d.parameters i.arguments) h) a))
          × (assertion_tree p (tree_by p n g) (bare (bind d.parameters i.arguments) g) a ≡ assertion_tree p (tree_by p n h) (bare (bind d.parameters i.arguments) h) a)
      some_body ih d is a body es en inn =
          let s = bare (bind d.parameters i.arguments) h in
          let t = bare (bind d.parameters i.arguments) g in
          let fine : Fine p s = record { typed = bound_rigid d.parameters i.arguments ri; forth = ((λ r sc. le-refl none), tt); back = λ j k. absurd (not-positive k (le-refl none)) } in
          let c = covered.fits h i d a is body gd (suc n, x, e) in
          let of : entries p s a ≡ Some es = sym (ap (side h d) body) ∙ en in
          let o = opened p h i d a is body (suc n, x, e) in
          let one : o.entries_of ≡ es = same_Some o.entries_of es (sym o.entries_are ∙ of) in
          let adds = add_adds p full none-full (deeper p c.0) (all_open p good c.0) a s c.1 es (good.plain i.predicate d a is body) fine of (subst (AreEntries p h) one o.can) c.2 in
          let forth = subst (λ (hs : Holdings). NoDebts hs × AreSingle hs) adds.holdings adds.fine.forth in
          let singles = added_single full es [] forth.1 in
          let positives = entries_positive p s a es (good.plain i.predicate d a is body) of in
          let whole = step (λ d. body_entries p h i.arguments d) d is ∙ en in
          let agree = λ (l : Location) (z : Positive (weigh (weight p h l n) es)). ag l (positive-le z (weight_of_body p h l n i x e es whole).back) in
          let inner = inner_framed n ih es x (covered.inside h i es gd whole) singles.0 positives inn agree in
          let ags : Agrees p c.1 t = record {
            store = sym adds.store;
            heap = λ l k.
                let there : IsHeld p h (added full es []) l = subst (λ (q : Heap). IsHeld p q (added full es []) l) adds.heap (subst (λ (hs : Holdings). IsHeld p c.1.heap hs l) adds.holdings k) in
                agree l (held_weighs n es x l inn forth.1 forth.0 there) ∙ ap (λ (q : Heap). value_at p q l) (sym adds.heap);
          } in
          let alike = λ (j : Instance) (k : Positive (amount c.1.holdings (Folded j))).
          (found_in p n h g full j es [] singles.0 inner (λ k. absurd (not-positive k (le-refl none))) (subst (λ (hs : Holdings). Positive (amount hs (Folded j))) adds.holdings k)).tree in
          let f = framed p Rigid Sound (Grounded p) (deeper p c.0) (all_open p good c.0) full (gains_fine p good full full-positive) (tree_by p n h) (tree_by p n g) a s c.1 t (good.plain i.predicate d a is body) fine adds.fine.back c.2 ags alike in (
            ap (option_and_then (with_inner (flat p n g))) (f.entries_same ∙ of) ∙ inner_is_same p n h g es inner ∙ ap (option_and_then (with_inner (flat p n h))) (sym of),
            f.tree_same,
          )

      go : ((i : Instance) (x : Holdings) → Good h i → AreRigid i.arguments → flat p n h i ≡ Some x → ((l : Location) → Positive (weight p h l n (Folded i)) → value_at p g l ≡ value_at p h l) → SameAt p n h g i) →
          (d : Predicate) → predicate_named p i.predicate ≡ Some d → (b : Option Assertion) → d.body ≡ b → (es : Holdings) → body_entries p h i.arguments d ≡ Some es → with_inner (flat p n h) es ≡ Some x →
          (option_and_then (with_inner (flat p n g)) (side g d d.body) ≡ option_and_then (with_inner (flat p n h)) (side h d d.body)) × (tree_side g d d.body ≡ tree_side h d d.body)
      go ih d is None body es en inn = (
        ap (λ (b : Option Assertion). option_and_then (with_inner (flat p n g)) (side g d b)) body ∙ sym (ap (λ (b : Option Assertion). option_and_then (with_inner (flat p n h)) (side h d b)) body),
        ap (tree_side g d) body ∙ sym (ap (tree_side h d) body),
      )
      go ih d is (Some a) body es en inn =
          let r = some_body ih d is a body es en inn in (
            ap (λ (b : Option Assertion). option_and_then (with_inner (flat p n g)) (side g d b)) body ∙ r.0 ∙ sym (ap (λ (b : Option Assertion). option_and_then (with_inner (flat p n h)) (side h d b)) body),
            ap (tree_side g d) body ∙ r.1 ∙ sym (ap (tree_side h d) body),
          )
