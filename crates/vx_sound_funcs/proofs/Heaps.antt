-- Two heaps that give an instance the same tree have like values where something is inside it, and the same inside it.
use Rattle.std.proofs.Common.{◌≡◌, ℕ, zero, suc, ◌+◌, Bool, true, false, cond, [], ◌∷◌, ◌++◌, Option, Some, None, refl, sym, ◌∙◌, ap, subst, arith}
use Rattle.std.specs.Prelude.{option_and_then, unwrap_or}
use Rattle.std.proofs.lemmas.Option.{same_Some}
use Rattle.vx_frac.specs.Fractions.{Fraction, none, full, is_positive, sum, product}
use Rattle.vx_ast.specs.Syntax.{Program, Predicate, Assertion, predicate_named}
use Rattle.vx_meaning.specs.States.{Heap, Holdings, Location, Instance, Resource, At, Folded, same_resource, amount, gained, scaled, bind, value_at}
use Rattle.vx_meaning.specs.Flatten.{bare, entries, body_entries, with_inner, flat}
use Rattle.vx_meaning.specs.Consistent.{total, IsHeld}
use Rattle.vx_meaning.specs.Fits.{deeper}
use Rattle.vx_terms.specs.Interpretations.{Tree, Empty}
use Rattle.vx_amounts.proofs.Amounts.{Positive, Same, same-trans, le-refl, le-trans, sum_same, positive-le, not-positive, none-full}
use Rattle.vx_sound.specs.Snapshots.{assertion_tree, body_tree, tree_by, IsTree}
use Rattle.vx_sound_preds.specs.Bodies.{AreRigid, GoodBodies}
use Rattle.vx_sound_preds.specs.Covered.{AllGood, Covered}
use Rattle.vx_sound_preds.proofs.Fitting.{step}
use Rattle.vx_sound_preds.proofs.Flats.{came, flat_single, tree_later}
use Rattle.vx_sound_preds.proofs.Totals.{weigh, weigh_none, same_is, weight, total_weighs, weight_of_body}
use Rattle.vx_sound_preds.proofs.Grouped.{AreSingle, resource_is}
use Rattle.vx_sound_preds.proofs.Adding.{Fine, AreEntries, added, weigh_added, add_adds}
use Rattle.vx_sound_preds.proofs.Exchanging.{opened, bound_rigid, all_open}
use Rattle.vx_sound_preds.proofs.Frames.{full-product, sum-none}
use Rattle.vx_sound_funcs.specs.Told.{LooksLike}
use Rattle.vx_sound_funcs.proofs.Likes.{Likes, looks_like}
use Rattle.vx_sound_funcs.proofs.Sees.{Matches}
use Rattle.vx_sound_funcs.proofs.Bodies.{EachFolded, SameTrees, TreesTell, told}

nothing : {R : Type 0} {A : Type 0} (a : A) → ◌≡◌ {A = Option A} None (Some a) → R
nothing a e = cc

-- Instances among entries

pub single_entries : (q : Fraction) (es h : Holdings) → AreSingle (added q es h) → AreSingle es × AreSingle h
unfolding added
single_entries q [] h k = (tt, k)
single_entries q (x ∷ xs) h k = let r = single_entries q xs (gained x.0 (product q x.1) h) k in ((r.1.0, r.0), r.1.1)

-- what is held of an instance after entries were added was held before, or is among them
pub among : (Q : Instance → Type 0) (q : Fraction) (j : Instance) (es hs : Holdings) → AreSingle es → EachFolded Q es → (Positive (amount hs (Folded j)) → Q j) → Positive (amount (added q es hs) (Folded j)) → Q j
unfolding added
among Q q j [] hs si k f z = f z
among Q q j ((At l, a) ∷ xs) hs si k f z = among Q q j xs (gained (At l) (product q a) hs) si.1 k f z
among Q q j ((Folded c, a) ∷ xs) hs si k f z = among Q q j xs (gained (Folded c) (product q a) hs) si.1 k.1 (go (same_resource (Folded j) (Folded c)) refl) z
  where
    is : (c j : Instance) → ◌≡◌ {A = Resource} (Folded j) (Folded c) → c ≡ j
    is c j e = cc

    go : (b : Bool) → same_resource (Folded j) (Folded c) ≡ b → Positive (cond b (sum (product q a) (amount hs (Folded j))) (amount hs (Folded j))) → Q j
    go true e z = subst Q (is c j (resource_is (Folded j) (Folded c) si.0 e)) k.0
    go false e z = f z

-- what lies under an instance, and where it does the values are alike
pub record ToldOf (p : Program) (h g : Heap) (n : ℕ) (i : Instance) (x : Holdings) : Type 0 where
  pub inside : flat p n g i ≡ Some x
  pub heap : (m : ℕ) (l : Location) → Positive (weight p h l m (Folded i)) → Likes (value_at p h l) (value_at p g l)

-- what holds some of a location, by the entries that were added to nothing
pub weighs_held : (p : Program) (h : Heap) (l : Location) (n : ℕ) (es : Holdings) → Positive (weigh (weight p h l n) es) → IsHeld p h (added full es []) l
weighs_held p h l n es z =
    let w = weight p h l n in
    let whole : Same (weigh w (added full es [])) (weigh w es) = same-trans (weigh_added w full es []) (same-trans (sum_same (full-product (weigh w es)) (same_is (weigh_none w))) (sum-none (weigh w es))) in
    let r : Positive (total p n h (added full es []) l) = positive-le z (le-trans whole.back (total_weighs p h l n (added full es [])).back) in
    (n, r.holds)

-- where an instance weighs something by any fuel, its entries do
pub heavy_entries : (p : Program) (h : Heap) (l : Location) (m n : ℕ) (i : Instance) (x es : Holdings) → flat p (suc n) h i ≡ Some x → option_and_then (λ d. body_entries p h i.arguments d) (predicate_named p i.predicate) ≡ Some es →
    Positive (weight p h l m (Folded i)) → Positive (weigh (weight p h l n) es)
heavy_entries p h l m n i x es e f z = go (flat p m h i) refl z
  where
    go : (o : Option Holdings) → flat p m h i ≡ o → Positive (amount (unwrap_or o []) (At l)) → Positive (weigh (weight p h l n) es)
    go None e' z = absurd (not-positive z (le-refl none))
    go (Some y) e' z =
        let whole : ◌≡◌ {A = Option Holdings} (Some y) (flat p (suc n) h i) = ap Some (flat_single p m (suc n) h i y x e' e) ∙ sym e in
        let at : Positive (weight p h l (suc n) (Folded i)) = subst (λ (o : Option Holdings). Positive (amount (unwrap_or o []) (At l))) whole z in
        positive-le at (weight_of_body p h l n i x e es f).there

module _ (p : Program) (good : GoodBodies p) (Good : Heap → Instance → Type 0) (covered : Covered p Good) (h g : Heap) where
  -- what is known of an instance among the entries of a body
  abbrev pub IsKnown : ℕ → Instance → Type 0
  IsKnown n j = Good h j × AreRigid j.arguments × ((y : Holdings) × (flat p n h j ≡ Some y))

  pub known_entries : (n : ℕ) (es y : Holdings) → AllGood Good h es → AreSingle es → with_inner (flat p n h) es ≡ Some y → EachFolded (IsKnown n) es
  known_entries n [] y gd si e = tt
  known_entries n ((At l, a) ∷ xs) y gd si e =
      let m = came (with_inner (flat p n h) xs) (λ more. Some ((At l, a) ∷ more)) y e in
      known_entries n xs m.it gd si.1 m.is
  known_entries n ((Folded j, a) ∷ xs) y gd si e =
      let x = came (option_and_then (λ inner. Some (scaled a inner)) (flat p n h j)) (λ inner. option_and_then (λ more. Some ((Folded j, a) ∷ (inner ++ more))) (with_inner (flat p n h) xs)) y e in
      let f = came (flat p n h j) (λ inner. Some (scaled a inner)) x.it x.is in
      let m = came (with_inner (flat p n h) xs) (λ more. Some ((Folded j, a) ∷ (x.it ++ more))) y x.then in
      ((gd.0, si.0, (f.it, f.is)), known_entries n xs m.it gd.1 si.1 m.is)

  -- what lies under the entries in the one heap lies there in the other
  pub inner_there : (n : ℕ) (es y : Holdings) → EachFolded (λ j. (z : Holdings) → flat p n h j ≡ Some z → flat p n g j ≡ Some z) es → with_inner (flat p n h) es ≡ Some y → with_inner (flat p n g) es ≡ Some y
  inner_there n [] y k e = e
  inner_there n ((At l, a) ∷ xs) y k e =
      let m = came (with_inner (flat p n h) xs) (λ more. Some ((At l, a) ∷ more)) y e in
      step (λ more. Some ((At l, a) ∷ more)) m.it (inner_there n xs m.it k m.is) ∙ m.then
  inner_there n ((Folded j, a) ∷ xs) y k e =
      let x = came (option_and_then (λ inner. Some (scaled a inner)) (flat p n h j)) (λ inner. option_and_then (λ more. Some ((Folded j, a) ∷ (inner ++ more))) (with_inner (flat p n h) xs)) y e in
      let f = came (flat p n h j) (λ inner. Some (scaled a inner)) x.it x.is in
      let m = came (with_inner (flat p n h) xs) (λ more. Some ((Folded j, a) ∷ (x.it ++ more))) y x.then in
      step (λ inner. option_and_then (λ more. Some ((Folded j, a) ∷ (inner ++ more))) (with_inner (flat p n g) xs)) x.it (step (λ inner. Some (scaled a inner)) f.it (k.0 f.it f.is) ∙ f.then)
      ∙ step (λ more. Some ((Folded j, a) ∷ (x.it ++ more))) m.it (inner_there n xs m.it k.1 m.is)
      ∙ m.then

  -- of instances that are known and have the same trees
  pub inner_told : (n : ℕ) (f f' : Instance → Option Tree) → ((j : Instance) (y : Holdings) (t : Tree) → Good h j → AreRigid j.arguments → flat p n h j ≡ Some y → f j ≡ Some t → f' j ≡ Some t → ToldOf p h g n j y) →
      (es : Holdings) → EachFolded (IsKnown n) es → SameTrees f f' es → EachFolded (λ j. (z : Holdings) → flat p n h j ≡ Some z → flat p n g j ≡ Some z) es
  inner_told n f f' ih [] k s = tt
  inner_told n f f' ih ((At l, a) ∷ xs) k s = inner_told n f f' ih xs k s
  inner_told n f f' ih ((Folded j, a) ∷ xs) k s = (λ z e. (ih j z s.0.0 k.0.0 k.0.1 e s.0.1 s.0.2).inside, inner_told n f f' ih xs k.1 s.1)

  -- what is told by less fuel
  abbrev Below : ℕ → ℕ → Type 0
  Below n m = (j : Instance) (y : Holdings) (t : Tree) → Good h j → AreRigid j.arguments → flat p n h j ≡ Some y → tree_by p m h j ≡ Some t → tree_by p m g j ≡ Some t → ToldOf p h g n j y

  abbrev body_side : Instance → Heap → Predicate → Option Assertion → Option Holdings
  body_side i k d None = Some []
  body_side i k d (Some a) = entries p (bare (bind d.parameters i.arguments) k) a

  -- what is told of an instance by the entries of its body
  abbrev BodyTold : ℕ → Instance → Holdings → Predicate → Holdings → Type 0
  BodyTold n i x d es = (option_and_then (with_inner (flat p n g)) (body_side i g d d.body) ≡ Some x) × ((l : Location) → Positive (weigh (weight p h l n) es) → Likes (value_at p h l) (value_at p g l))

  pub tell_at : (n m : ℕ) (i : Instance) (x : Holdings) (t : Tree) → Good h i → AreRigid i.arguments → flat p n h i ≡ Some x → tree_by p m h i ≡ Some t → tree_by p m g i ≡ Some t → ToldOf p h g n i x
  tell_at zero m i x t gd ri e here there = nothing x e
  tell_at (suc n) zero i x t gd ri e here there = nothing t here
  tell_at (suc n) (suc m) i x t gd ri e here there =
      let y = came (predicate_named p i.predicate) (λ d. option_and_then (with_inner (flat p n h)) (body_entries p h i.arguments d)) x e in
      let z = came (body_entries p h i.arguments y.it) (with_inner (flat p n h)) x y.then in
      let r = go (tell_at n m) y.it y.is y.it.body refl z.it z.is z.then
      (sym (step (λ d. body_tree p (tree_by p m h) h i.arguments d) y.it y.is) ∙ here)
      (sym (step (λ d. body_tree p (tree_by p m g) g i.arguments d) y.it y.is) ∙ there) in
      record {
        inside = step (λ d. option_and_then (with_inner (flat p n g)) (body_entries p g i.arguments d)) y.it y.is ∙ r.0;
        heap = λ k l w. r.1 l (heavy_entries p h l k n i x z.it e (step (λ d. body_entries p h i.arguments d) y.it y.is ∙ z.is) w);
      }
    where
      tree_side : Heap → Predicate → Option Assertion → Option Tree
      tree_side k d None = Some Empty
      tree_side k d (Some a) = assertion_tree p (tree_by p m k) (bare (bind d.parameters i.arguments) k) a

      some_body : Below n m → (d : Predicate) → predicate_named p i.predicate ≡ Some d → (a : Assertion) → d.body ≡ Some a → (es : Holdings) → body_entries p h i.arguments d ≡ Some es → with_inner (flat p n h) es ≡ Some x →
          tree_side h d d.body ≡ Some t → tree_side g d d.body ≡ Some t → BodyTold n i x d es
      some_body ih d is a body es en inn tr tr' =
          let s = bare (bind d.parameters i.arguments) h in
          let t' = bare (bind d.parameters i.arguments) g in
          let fine : Fine p s = record { typed = bound_rigid d.parameters i.arguments ri; forth = ((λ r sc. le-refl none), tt); back = λ j k. absurd (not-positive k (le-refl none)) } in
          let c = covered.fits h i d a is body gd (suc n, x, e) in
          let of : entries p s a ≡ Some es = sym (ap (body_side i h d) body) ∙ en in
          let o = opened p h i d a is body (suc n, x, e) in
          let one : o.entries_of ≡ es = same_Some o.entries_of es (sym o.entries_are ∙ of) in
          let adds = add_adds p full none-full (deeper p c.0) (all_open p good c.0) a s c.1 es (good.plain i.predicate d a is body) fine of (subst (AreEntries p h) one o.can) c.2 in
          let singles = single_entries full es [] (subst AreSingle adds.holdings adds.fine.forth.1) in
          let whole = step (λ d. body_entries p h i.arguments d) d is ∙ en in
          let known = known_entries n es x (covered.inside h i es gd whole) singles.0 inn in
          let tell : TreesTell p good c.0 (tree_by p m h) (tree_by p m g) c.1 t' = λ j z tree e1 e2 k l w.
          let q = among (IsKnown n) full j es [] singles.0 known (λ z. absurd (not-positive z (le-refl none))) (subst (λ (hs : Holdings). Positive (amount hs (Folded j))) adds.holdings z) in
          subst (λ (k : Heap). Likes (value_at p k l) (value_at p g l)) (sym adds.heap) ((ih j q.2.0 tree q.0 q.1 q.2.1 e1 e2).heap k l (subst (λ (q : Heap). Positive (weight p q l k (Folded j))) adds.heap w)) in
          let start : Matches p s t' = record { store = refl; heap = λ l k. absurd (not-positive (record { holds = k.1 }) (le-refl none)) } in
          let r = told p good c.0 (tree_by p m h) (tree_by p m g) a s c.1 t' t es (good.plain i.predicate d a is body) fine adds.fine.back c.2 start tell
          (sym (ap (tree_side h d) body) ∙ tr) (sym (ap (tree_side g d) body) ∙ tr') of in (
            ap (λ (b : Option Assertion). option_and_then (with_inner (flat p n g)) (body_side i g d b)) body ∙ ap (option_and_then (with_inner (flat p n g))) r.0
                ∙ inner_there n es x (inner_told n (tree_by p m h) (tree_by p m g) ih es known r.1.1) inn,
            λ l w.
                let held : IsHeld p c.1.heap c.1.holdings l = subst (λ (k : Heap). IsHeld p k c.1.holdings l) (sym adds.heap) (subst (λ (hs : Holdings). IsHeld p h hs l) (sym adds.holdings) (weighs_held p h l n es w)) in
                subst (λ (k : Heap). Likes (value_at p k l) (value_at p g l)) adds.heap (r.1.0.heap l held),
          )

      no_body : (d : Predicate) → d.body ≡ None → (es : Holdings) → body_entries p h i.arguments d ≡ Some es → with_inner (flat p n h) es ≡ Some x → BodyTold n i x d es
      no_body d body es en inn =
          let none_there : [] ≡ es = same_Some [] es (sym (ap (body_side i h d) body) ∙ en) in (
            ap (λ (b : Option Assertion). option_and_then (with_inner (flat p n g)) (body_side i g d b)) body ∙ subst (λ (es : Holdings). with_inner (flat p n h) es ≡ Some x) (sym none_there) inn,
            λ l w. absurd (not-positive (subst Positive (weigh_none (weight p h l n)) (subst (λ (es : Holdings). Positive (weigh (weight p h l n) es)) (sym none_there) w)) (le-refl none)),
          )

      go : Below n m → (d : Predicate) → predicate_named p i.predicate ≡ Some d → (b : Option Assertion) → d.body ≡ b → (es : Holdings) → body_entries p h i.arguments d ≡ Some es → with_inner (flat p n h) es ≡ Some x →
          tree_side h d d.body ≡ Some t → tree_side g d d.body ≡ Some t → BodyTold n i x d es
      go ih d is None body es en inn tr tr' = no_body d body es en inn
      go ih d is (Some a) body es en inn tr tr' = some_body ih d is a body es en inn tr tr'

  pub tell : (n : ℕ) (i : Instance) (x : Holdings) (t : Tree) → Good h i → AreRigid i.arguments → flat p n h i ≡ Some x → IsTree p h i t → IsTree p g i t → ToldOf p h g n i x
  tell n i x t gd ri e a b =
      let z : b.0 + a.0 ≡ a.0 + b.0 = omega arith in
      tell_at n (a.0 + b.0) i x t gd ri e (subst (λ (k : ℕ). tree_by p k h i ≡ Some t) z (tree_later p b.0 a.0 h i t a.1)) (tree_later p a.0 b.0 g i t b.1)

  -- as what lies under the instance lists it
  pub tell_listed : (n : ℕ) (i : Instance) (x : Holdings) (t : Tree) → Good h i → AreRigid i.arguments → flat p n h i ≡ Some x → IsTree p h i t → IsTree p g i t →
      (flat p n g i ≡ Some x) × ((l : Location) → is_positive (amount x (At l)) ≡ true → LooksLike (value_at p h l) (value_at p g l))
  tell_listed n i x t gd ri e a b =
      let r = tell n i x t gd ri e a b in (
        r.inside,
        λ l z. looks_like (r.heap n l (subst (λ (o : Option Holdings). Positive (amount (unwrap_or o []) (At l))) (sym e) (record { holds = z }))),
      )
