-- A fold leaves a state that can be; the new instance's tree is that of the body that was taken; an unfold gives back what it took.
use Rattle.std.proofs.Common.{◌≡◌, ℕ, zero, suc, ◌+◌, Bool, true, false, cond, List, [], ◌∷◌, ◌++◌, Option, Some, None, refl, sym, ◌∙◌, ap, ap₂, subst, arith}
use Rattle.std.specs.Prelude.{Ok, option_and_then, unwrap_or}
use Rattle.std.proofs.lemmas.Option.{same_Some}
use Rattle.vx_frac.specs.Fractions.{Fraction, none, full, sum}
use Rattle.vx_ast.specs.Syntax.{Name, Program, Predicate, Assertion, Pure, Points, Both, Implied, Chosen, predicate_named}
use Rattle.vx_ast.specs.Syntax as syntax
use Rattle.vx_meaning.specs.Values.{Value, IntValue, BoolValue, RefValue, PermValue, is_true}
use Rattle.vx_meaning.specs.States.{State, Store, Heap, Holdings, Location, Instance, Resource, At, Folded, same_resource, amount, gained, scaled, bind, value_at, with_holdings, with_store}
use Rattle.vx_meaning.specs.Evaluate as plain
use Rattle.vx_meaning.specs.Evaluate.{value, values}
use Rattle.vx_meaning.specs.Flatten.{no_applications, bare, entries, location_entry, instance_entry, body_entries, with_inner, flat, IsGrounded}
use Rattle.vx_meaning.specs.Consistent.{total, IsConsistent}
use Rattle.vx_meaning.specs.Fits.{take, deeper}
use Rattle.vx_terms.specs.Interpretations.{Tree, Empty, Pair}
use Rattle.vx_amounts.proofs.Amounts.{Le, Positive, Same, same-refl, same-trans, le-trans, le-is, sum_same, product_same, none-none}
use Rattle.vx_sound_preds.specs.Bodies.{AreRigid, Rigid, GoodBodies}
use Rattle.vx_sound.specs.Snapshots.{leaf, location_leaf, truth_leaf, assertion_tree, body_tree, tree_by}
use Rattle.vx_amounts.proofs.Products.{positive_le}
use Rattle.vx_sound_preds.proofs.Fitting.{step}
use Rattle.vx_sound_preds.proofs.Flats.{came, flat_more, flat_later, inner_more}
use Rattle.vx_sound_preds.proofs.Totals.{weigh, weigh_more, same_is, weight, total_weighs, weight_of_body}
use Rattle.vx_sound_preds.proofs.Grouped.{IsSingle, resource_is}
use Rattle.vx_sound_preds.proofs.Framing.{entries_seen}
use Rattle.vx_sound_preds.proofs.Adding.{Fine, AreEntries}
use Rattle.vx_sound_preds.proofs.Exchanging.{no_negatives, grown, entered_fine, all_open}
use Rattle.vx_sound_preds.proofs.Folding.{Stock}
use Rattle.vx_sound_preds.proofs.Taking.{taken, weigh_taken, take_takes}

-- entries that can be have one fuel that suffices for all of them
pub record Inner (p : Program) (h : Heap) (es : Holdings) : Type 0 where
  pub fuel : ℕ
  pub all : Holdings
  pub is : with_inner (flat p fuel h) es ≡ Some all

pub one_fuel : (p : Program) (h : Heap) (es : Holdings) → AreEntries p h es → Inner p h es
one_fuel p h [] k = record { fuel = 0; all = []; is = refl }
one_fuel p h ((At l, a) ∷ xs) k =
    let r = one_fuel p h xs k.1 in
    record { fuel = r.fuel; all = (At l, a) ∷ r.all; is = ap (option_and_then (λ more. Some ((At l, a) ∷ more))) r.is }
one_fuel p h ((Folded i, a) ∷ xs) k =
    let r = one_fuel p h xs k.1 in
    let g = k.0 in
    let z : g.0 + r.fuel ≡ r.fuel + g.0 = omega arith in
    let here : flat p (g.0 + r.fuel) h i ≡ Some g.1 = ap (λ (m : ℕ). flat p m h i) z ∙ flat_later p r.fuel g.0 h i g.1 g.2 in
    let rest = inner_more (flat p r.fuel h) (flat p (g.0 + r.fuel) h) (flat_later p g.0 r.fuel h) xs r.all r.is in
    record {
      fuel = g.0 + r.fuel;
      all = (Folded i, a) ∷ (scaled a g.1 ++ r.all);
      is =
          ap₂ (λ (o m : Option Holdings). option_and_then (λ inner. option_and_then (λ more. Some ((Folded i, a) ∷ (inner ++ more))) m) (option_and_then (λ inner. Some (scaled a inner)) o)) here rest;
    }

-- An instance whose body's entries can be is grounded.
pub record Opened (p : Program) (h : Heap) (i : Instance) (es : Holdings) : Type 0 where
  pub fuel : ℕ
  pub inner : Holdings
  pub flat_is : flat p fuel h i ≡ Some inner
  pub body_is : option_and_then (λ d. body_entries p h i.arguments d) (predicate_named p i.predicate) ≡ Some es

pub opens_again : (p : Program) (h : Heap) (i : Instance) (d : Predicate) (e : Assertion) → predicate_named p i.predicate ≡ Some d → d.body ≡ Some e → (es : Holdings) → entries p (bare (bind d.parameters i.arguments) h) e ≡ Some es → AreEntries p h es → Opened p h i es
opens_again p h i d e is body es en can =
    let r = one_fuel p h es can in
    let of : body_entries p h i.arguments d ≡ Some es = ap side body ∙ en in
    record {
      fuel = suc r.fuel;
      inner = r.all;
      flat_is = step (λ d. option_and_then (with_inner (flat p r.fuel h)) (body_entries p h i.arguments d)) d is ∙ step (with_inner (flat p r.fuel h)) es of ∙ r.is;
      body_is = step (λ d. body_entries p h i.arguments d) d is ∙ of;
    }
  where
    side : Option Assertion → Option Holdings
    side None = Some []
    side (Some e) = entries p (bare (bind d.parameters i.arguments) h) e

-- A whole fold

pub record IsFolded (p : Program) (s : State) (i : Instance) (q : Fraction) (rest : Holdings) : Type 0 where
  pub consistent : IsConsistent p (with_holdings (gained (Folded i) q rest) s)
  pub stock : Stock p s.heap (gained (Folded i) q rest)
  pub grounded : IsGrounded p s.heap i

module _ (p : Program) (good : GoodBodies p) where
  -- at a fuel that suffices for the instance the total is as it was
  total_folded : (h : Heap) (l : Location) (k : ℕ) (i : Instance) (x es hs : Holdings) (q : Fraction) → flat p k h i ≡ Some x → option_and_then (λ d. body_entries p h i.arguments d) (predicate_named p i.predicate) ≡ Some es →
      Same (weigh (weight p h l k) (gained (Folded i) q (taken q es hs))) (weigh (weight p h l k) hs)
  total_folded h l k i x es hs q e f =
      let w = weight p h l k in
      let more = flat_more p k h i x e in
      let same : Same (w (Folded i)) (weigh w es) =
      same-trans (same_is (ap (λ (o : Option Holdings). amount (unwrap_or o []) (At l)) (e ∙ sym more))) (weight_of_body p h l k i x more es f) in
      same-trans (same_is (weigh_more w (Folded i, q) (taken q es hs)))
      (same-trans (sum_same (product_same (same-refl q) same) (same-refl (weigh w (taken q es hs)))) (weigh_taken w q es hs))

  folded_stock : (h : Heap) (hs : Holdings) (i : Instance) (q : Fraction) → AreRigid i.arguments → Le none q → IsGrounded p h i → Stock p h hs → Stock p h (gained (Folded i) q hs)
  folded_stock h hs i q ri sign gr st = record { debts = debts; single = (ri, st.single); grounded = grounded }
    where
      debts : (c : Resource) → IsSingle c → Le none (amount (gained (Folded i) q hs) c)
      debts c sc = go (same_resource c (Folded i))
        where
          go : (b : Bool) → Le none (cond b (sum q (amount hs c)) (amount hs c))
          go true = none-none sign (st.debts c sc)
          go false = st.debts c sc

      is : (j : Instance) → ◌≡◌ {A = Resource} (Folded j) (Folded i) → j ≡ i
      is j e = cc

      grounded : (j : Instance) → Positive (amount (gained (Folded i) q hs) (Folded j)) → IsGrounded p h j
      grounded j = go (same_resource (Folded j) (Folded i)) refl
        where
          go : (b : Bool) → same_resource (Folded j) (Folded i) ≡ b → Positive (cond b (sum q (amount hs (Folded j))) (amount hs (Folded j))) → IsGrounded p h j
          go true e k = subst (IsGrounded p h) (sym (is j (resource_is (Folded j) (Folded i) ri e))) gr
          go false e k = st.grounded j k

  pub fold_keeps : (s : State) (i : Instance) (q : Fraction) (d : Predicate) (e : Assertion) (m : ℕ) (rest : Holdings) → predicate_named p i.predicate ≡ Some d → d.body ≡ Some e →
      AreRigid i.arguments → Positive q → Stock p s.heap s.holdings → IsConsistent p s →
      take p (deeper p m) (with_store (bind d.parameters i.arguments) s) q e s.holdings ≡ Ok rest → IsFolded p s i q rest
  fold_keeps s i q d e m rest is body ri positive st co eq =
      let inside : State = with_store (bind d.parameters i.arguments) s in
      let k = good.plain i.predicate d e is body in
      let fine : Fine p inside = entered_fine p d.parameters i.arguments s ri (st.debts, st.single) st.grounded in
      let t = take_takes p q positive (deeper p m) (all_open p good m) inside fine e s.holdings rest k st eq in
      let seen = entries_seen p Rigid inside (bare (bind d.parameters i.arguments) s.heap) (record { store = refl; heap = refl }) e k in
      let o = opens_again p s.heap i d e is body t.entries_of (seen ∙ t.entries_are) t.can in
      let gr : IsGrounded p s.heap i = (o.fuel, o.inner, o.flat_is) in
      let stock = folded_stock s.heap rest i q ri (positive_le positive) gr t.stock in
      let less = λ (n : ℕ) (l : Location). below t.rest_is o.fuel o.inner o.flat_is o.body_is stock n l in
      record {
        consistent = record {
          supported = record {
            grounded = λ j z. stock.grounded j (record { holds = z });
            null = λ n f. (le-trans {c = none} (less n record { receiver = 0; field = f }) (record { holds = co.supported.null (o.fuel + n) f })).holds;
          };
          bounded = λ n l. (le-trans {c = full} (less n l) (record { holds = co.bounded (o.fuel + n) l })).holds;
        };
        stock = stock;
        grounded = gr;
      }
    where
      below : {es : Holdings} → rest ≡ taken q es s.holdings → (f : ℕ) (x : Holdings) → flat p f s.heap i ≡ Some x → option_and_then (λ d. body_entries p s.heap i.arguments d) (predicate_named p i.predicate) ≡ Some es →
          Stock p s.heap (gained (Folded i) q rest) → (n : ℕ) (l : Location) → Le (total p n s.heap (gained (Folded i) q rest) l) (total p (f + n) s.heap s.holdings l)
      below {es = es} r f x fl bo st n l =
          let hs = gained (Folded i) q rest in
          let z : f + n ≡ n + f = omega arith in
          let at : flat p (f + n) s.heap i ≡ Some x = ap (λ (m : ℕ). flat p m s.heap i) z ∙ flat_later p n f s.heap i x fl in
          let w = weight p s.heap l (f + n) in
          le-trans (total_weighs p s.heap l n hs).there
          (le-trans (grown p s.heap l (no_negatives p s.heap l good) hs st.single st.debts f n)
          (le-trans (le-is (ap (λ (y : Holdings). weigh w (gained (Folded i) q y)) r))
          (le-trans (total_folded s.heap l (f + n) i x es s.holdings q at bo).there
          (total_weighs p s.heap l (f + n) s.holdings).back)))

-- The tree of an instance is that of its body, by the trees of the instances in it: what a consume of the body builds.
pub tree_of_body : (p : Program) (h : Heap) (i : Instance) (d : Predicate) (e : Assertion) (n : ℕ) → predicate_named p i.predicate ≡ Some d → d.body ≡ Some e →
    tree_by p (suc n) h i ≡ assertion_tree p (tree_by p n h) (bare (bind d.parameters i.arguments) h) e
tree_of_body p h i d e n is body = step (λ d. body_tree p (tree_by p n h) h i.arguments d) d is ∙ ap side body
  where
    side : Option Assertion → Option Tree
    side None = Some Empty
    side (Some e) = assertion_tree p (tree_by p n h) (bare (bind d.parameters i.arguments) h) e

-- A grounded instance has a tree, by the same fuel: so a fresh snapshot can stand for it.
module _ (p : Program) (h : Heap) (n : ℕ) where
  abbrev HaveTrees : Holdings → Type 0
  HaveTrees [] = Unit {0}
  HaveTrees ((At l, a) ∷ xs) = HaveTrees xs
  HaveTrees ((Folded j, a) ∷ xs) = ((t : Tree) × (tree_by p n h j ≡ Some t)) × HaveTrees xs

  trees_left : (xs ys : Holdings) → HaveTrees (xs ++ ys) → HaveTrees xs
  trees_left [] ys k = tt
  trees_left ((At l, a) ∷ xs) ys k = trees_left xs ys k
  trees_left ((Folded j, a) ∷ xs) ys k = (k.0, trees_left xs ys k.1)

  trees_right : (xs ys : Holdings) → HaveTrees (xs ++ ys) → HaveTrees ys
  trees_right [] ys k = k
  trees_right ((At l, a) ∷ xs) ys k = trees_right xs ys k
  trees_right ((Folded j, a) ∷ xs) ys k = trees_right xs ys k.1

  abbrev HasTree : Option Tree → Type 0
  HasTree o = (t : Tree) × (o ≡ Some t)

  truth_tree : (v : Value) (b : Bool) → is_true v ≡ b → (es : Holdings) → cond b (Some []) None ≡ Some es → HasTree (truth_leaf v)
  truth_tree v true e es f = (Empty, ap (λ (b : Bool). cond b (Some Empty) None) e)
  truth_tree v false e es f = cc

  location_tree : (f : Name) (r v : Value) (es : Holdings) → location_entry f r v ≡ Some es → HasTree (location_leaf p h f r)
  location_tree f (RefValue r) v es e = (leaf (value_at p h record { receiver = r; field = f }), refl)
  location_tree f (IntValue r) v es e = cc
  location_tree f (BoolValue r) v es e = cc
  location_tree f (PermValue r) v es e = cc

  instance_tree : (i : Name) (vs : List Value) (v : Value) (es : Holdings) → instance_entry i vs v ≡ Some es → HaveTrees es → HasTree (tree_by p n h record { predicate = i; arguments = vs })
  instance_tree i vs (PermValue a) es e k = (subst HaveTrees (sym (same_Some ((Folded record { predicate = i; arguments = vs }, a) ∷ []) es e)) k).0
  instance_tree i vs (IntValue a) es e k = cc
  instance_tree i vs (BoolValue a) es e k = cc
  instance_tree i vs (RefValue a) es e k = cc

  side_tree : (v : Value) (x y : Option Holdings) (z w : Option Tree) (es : Holdings) → (x ≡ Some es → HasTree z) → (y ≡ Some es → HasTree w) → plain.choose v x y ≡ Some es → HasTree (plain.choose v z w)
  side_tree (BoolValue true) x y z w es a b e = a e
  side_tree (BoolValue false) x y z w es a b e = b e
  side_tree (IntValue a) x y z w es f g e = cc
  side_tree (RefValue a) x y z w es f g e = cc
  side_tree (PermValue a) x y z w es f g e = cc

  pub has_tree : (x : Store) (a : Assertion) (es : Holdings) → entries p (bare x h) a ≡ Some es → HaveTrees es → HasTree (assertion_tree p (tree_by p n h) (bare x h) a)
  has_tree x (Pure e) es eq k =
      let y = came (value p no_applications (bare x h) e) (λ v. cond (is_true v) (Some []) None) es eq in
      let r = truth_tree y.it (is_true y.it) refl es y.then in
      (r.0, step truth_leaf y.it y.is ∙ r.1)
  has_tree x (Points at e f share) es eq k =
      let y = came (value p no_applications (bare x h) e) (λ r. option_and_then (location_entry f r) (value p no_applications (bare x h) share)) es eq in
      let z = came (value p no_applications (bare x h) share) (location_entry f y.it) es y.then in
      let r = location_tree f y.it z.it es z.then in
      (r.0, step (location_leaf p h f) y.it y.is ∙ r.1)
  has_tree x (syntax.Instance at i xs share) es eq k =
      let y = came (values p no_applications (bare x h) xs) (λ vs. option_and_then (instance_entry i vs) (value p no_applications (bare x h) share)) es eq in
      let z = came (value p no_applications (bare x h) share) (instance_entry i y.it) es y.then in
      let r = instance_tree i y.it z.it es z.then k in
      (r.0, step (λ vs. tree_by p n h record { predicate = i; arguments = vs }) y.it y.is ∙ r.1)
  has_tree x (Both a b) es eq k =
      let y = came (entries p (bare x h) a) (λ xs. option_and_then (λ ys. Some (xs ++ ys)) (entries p (bare x h) b)) es eq in
      let z = came (entries p (bare x h) b) (λ ys. Some (y.it ++ ys)) es y.then in
      let all = subst HaveTrees (sym (same_Some (y.it ++ z.it) es z.then)) k in
      let t = has_tree x a y.it y.is (trees_left y.it z.it all) in
      let u = has_tree x b z.it z.is (trees_right y.it z.it all) in
      (Pair t.0 u.0, ap₂ (λ (o m : Option Tree). option_and_then (λ t. option_and_then (λ u. Some (Pair t u)) m) o) t.1 u.1)
  has_tree x (Implied c a) es eq k =
      let y = came (value p no_applications (bare x h) c) (λ v. plain.choose v (entries p (bare x h) a) (Some [])) es eq in
      let r = side_tree y.it (entries p (bare x h) a) (Some []) (assertion_tree p (tree_by p n h) (bare x h) a) (Some Empty) es (λ e. has_tree x a es e k) (λ e. (Empty, refl)) y.then in
      (r.0, step (λ v. plain.choose v (assertion_tree p (tree_by p n h) (bare x h) a) (Some Empty)) y.it y.is ∙ r.1)
  has_tree x (Chosen c a b) es eq k =
      let y = came (value p no_applications (bare x h) c) (λ v. plain.choose v (entries p (bare x h) a) (entries p (bare x h) b)) es eq in
      let r = side_tree y.it (entries p (bare x h) a) (entries p (bare x h) b) (assertion_tree p (tree_by p n h) (bare x h) a) (assertion_tree p (tree_by p n h) (bare x h) b) es (λ e. has_tree x a es e k) (λ e. has_tree x b es e k) y.then in
      (r.0, step (λ v. plain.choose v (assertion_tree p (tree_by p n h) (bare x h) a) (assertion_tree p (tree_by p n h) (bare x h) b)) y.it y.is ∙ r.1)

  inner_trees : ((i : Instance) (x : Holdings) → flat p n h i ≡ Some x → HasTree (tree_by p n h i)) → (es y : Holdings) → with_inner (flat p n h) es ≡ Some y → HaveTrees es
  inner_trees ih [] y e = tt
  inner_trees ih ((At l, a) ∷ xs) y e =
      let m = came (with_inner (flat p n h) xs) (λ more. Some ((At l, a) ∷ more)) y e in
      inner_trees ih xs m.it m.is
  inner_trees ih ((Folded j, a) ∷ xs) y e =
      let x = came (option_and_then (λ inner. Some (scaled a inner)) (flat p n h j)) (λ inner. option_and_then (λ more. Some ((Folded j, a) ∷ (inner ++ more))) (with_inner (flat p n h) xs)) y e in
      let f = came (flat p n h j) (λ inner. Some (scaled a inner)) x.it x.is in
      let m = came (with_inner (flat p n h) xs) (λ more. Some ((Folded j, a) ∷ (x.it ++ more))) y x.then in
      (ih j f.it f.is, inner_trees ih xs m.it m.is)

pub flat_has_tree : (p : Program) (h : Heap) (n : ℕ) (i : Instance) (x : Holdings) → flat p n h i ≡ Some x → (t : Tree) × (tree_by p n h i ≡ Some t)
flat_has_tree p h zero i x e = absurd (nothing x e)
  where
    nothing : (x : Holdings) → None ≡ Some x → ⊥
    nothing x e = cc
flat_has_tree p h (suc n) i x e =
    let y = came (predicate_named p i.predicate) (λ d. option_and_then (with_inner (flat p n h)) (body_entries p h i.arguments d)) x e in
    let z = came (body_entries p h i.arguments y.it) (with_inner (flat p n h)) x y.then in
    let r = go (flat_has_tree p h n) y.it y.it.body refl z.it z.is z.then in
    (r.0, step (λ d. body_tree p (tree_by p n h) h i.arguments d) y.it y.is ∙ r.1)
  where
    side : Predicate → Option Assertion → Option Holdings
    side d None = Some []
    side d (Some a) = entries p (bare (bind d.parameters i.arguments) h) a

    tree_side : Predicate → Option Assertion → Option Tree
    tree_side d None = Some Empty
    tree_side d (Some a) = assertion_tree p (tree_by p n h) (bare (bind d.parameters i.arguments) h) a

    go : ((i : Instance) (x : Holdings) → flat p n h i ≡ Some x → (t : Tree) × (tree_by p n h i ≡ Some t)) → (d : Predicate) (b : Option Assertion) → d.body ≡ b → (es : Holdings) → side d d.body ≡ Some es → with_inner (flat p n h) es ≡ Some x → (t : Tree) × (tree_side d d.body ≡ Some t)
    go ih d None body es en inn = (Empty, ap (tree_side d) body)
    go ih d (Some a) body es en inn =
        let r = has_tree p h n (bind d.parameters i.arguments) a es (ap (side d) (sym body) ∙ en) (inner_trees p h n ih es x inn) in
        (r.0, ap (tree_side d) body ∙ r.1)
