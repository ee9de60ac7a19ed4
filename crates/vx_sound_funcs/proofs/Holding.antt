-- States with the same asking tree of what one of them holds are alike there.
use Rattle.std.proofs.Common.{◌≡◌, ℕ, ◌+◌, ◌≤◌, Bool, true, false, cond, [], ◌++◌, Option, Some, None, refl, sym, ◌∙◌, ap, subst, arith}
use Rattle.std.specs.Prelude.{option_and_then}
use Rattle.vx_frac.specs.Fractions.{Fraction, none, full, is_positive}
use Rattle.vx_ast.specs.Syntax.{Name, Program, Assertion, Pure, Points, Both, Implied, Chosen}
use Rattle.vx_ast.specs.Syntax as syntax
use Rattle.vx_meaning.specs.Values.{Value, IntValue, BoolValue, RefValue, PermValue, is_true}
use Rattle.vx_meaning.specs.States.{State, Heap, Holdings, Instance, Folded, amount, value_at}
use Rattle.vx_meaning.specs.Evaluate as plain
use Rattle.vx_meaning.specs.Evaluate.{value, values, applications, Applications}
use Rattle.vx_meaning.specs.Flatten.{no_applications, bare, location_entry, instance_entry, flat, IsGrounded}
use Rattle.vx_meaning.specs.Consistent.{IsHeld}
use Rattle.vx_terms.specs.Interpretations.{Tree, Empty, Pair}
use Rattle.vx_amounts.proofs.Amounts.{Positive, le-refl, not-positive}
use Rattle.vx_sound.specs.Snapshots.{location_leaf, truth_leaf, tree_by}
use Rattle.vx_sound_preds.specs.Bodies.{Rigid, GoodBodies}
use Rattle.vx_sound_preds.specs.Covered.{Covered}
use Rattle.vx_sound_preds.proofs.Fitting.{step}
use Rattle.vx_sound_preds.proofs.Flats.{came}
use Rattle.vx_sound_preds.proofs.Looks.{Sees}
use Rattle.vx_sound_preds.proofs.Totals.{weight}
use Rattle.vx_sound_preds.proofs.Framing.{Later}
use Rattle.vx_sound_preds.proofs.Grouped.{NoDebts, AreSingle}
use Rattle.vx_sound_preds.proofs.Adding.{Sound, Grounded, Fine, added}
use Rattle.vx_sound_preds.proofs.Exchanging.{held_rigid}
use Rattle.vx_sound_funcs.specs.Told.{IsLike}
use Rattle.vx_sound_funcs.specs.Firm.{firmly}
use Rattle.vx_sound_funcs.proofs.Likes.{Likes, looks_like}
use Rattle.vx_sound_funcs.proofs.Sees.{Matches}
use Rattle.vx_sound_funcs.proofs.Bodies.{HasOneTree}
use Rattle.vx_sound_funcs.proofs.Heaps.{single_entries, among, ToldOf, tell}
use Rattle.vx_sound_funcs.proofs.Fits.{Stays, add_stays}
use Rattle.vx_sound_funcs.specs.Firm.{GoodFunctions, HoldsFirmly}
use Rattle.vx_sound_preds.specs.Asking.{asking_tree, asking_entries, IsAskingTreeOf, IsAsking}
use Rattle.vx_sound_preds.proofs.Same.{asking_later, one_named}
use Rattle.vx_sound_funcs.proofs.Taking.{add_later_asks}
use Rattle.vx_sound_funcs.proofs.Firm.{Alike, alike, speak_now}
use Rattle.vx_sound_funcs.proofs.Told.{TreesTell, Told, told}

-- What has a tree names something.

pub record Named (o : Option Holdings) : Type 0 where
  pub entries_of : Holdings
  pub are : o ≡ Some entries_of

truth_named : (v : Value) (t : Tree) → truth_leaf v ≡ Some t → Named (cond (is_true v) (Some []) None)
truth_named v t e = go (is_true v) e
  where
    go : (b : Bool) → cond b (Some Empty) None ≡ Some t → Named (cond b (Some []) None)
    go true e = record { entries_of = []; are = refl }
    go false e = cc

side_named : (v : Value) (x y : Option Tree) (z w : Option Holdings) (t : Tree) → (x ≡ Some t → Named z) → (y ≡ Some t → Named w) → plain.choose v x y ≡ Some t → Named (plain.choose v z w)
side_named (BoolValue true) x y z w t h k e = h e
side_named (BoolValue false) x y z w t h k e = k e
side_named (IntValue n) x y z w t h k e = cc
side_named (RefValue n) x y z w t h k e = cc
side_named (PermValue n) x y z w t h k e = cc

module _ (p : Program) (ap' : Applications) (f : Instance → Option Tree) (s : State) where
  location_named : (x : Name) (r : Value) (q : Fraction) (t : Tree) → location_leaf p s.heap x r ≡ Some t → Named (location_entry x r (PermValue q))
  location_named x (RefValue r) q t e = record { entries_of = _; are = refl }
  location_named x (IntValue r) q t e = cc
  location_named x (BoolValue r) q t e = cc
  location_named x (PermValue r) q t e = cc

  named_by : {o o' : Option Holdings} → o ≡ o' → Named o' → Named o
  named_by e k = record { entries_of = k.entries_of; are = e ∙ k.are }

  pub tree_names : (a : Assertion) (t : Tree) → IsAsking p a → asking_tree p ap' f s a ≡ Some t → Named (asking_entries p ap' s a)
  tree_names (Pure e) t k eq =
      let v = came (value p ap' s e) truth_leaf t eq in
      named_by (step (λ v. cond (is_true v) (Some []) None) v.it v.is) (truth_named v.it t v.then)
  tree_names (Points at e x share) t k eq =
      let v = came (value p ap' s e) (location_leaf p s.heap x) t eq in
      named_by (step (λ r. option_and_then (location_entry x r) (value p no_applications s share)) v.it v.is ∙ step (location_entry x v.it) (PermValue k.1.amount) (k.1.value_is no_applications s))
      (location_named x v.it k.1.amount t v.then)
  tree_names (syntax.Instance at i es share) t k eq =
      let vs = came (values p ap' s es) (λ vs. f record { predicate = i; arguments = vs }) t eq in
      record {
        entries_of = _;
        are = step (λ vs. option_and_then (instance_entry i vs) (value p no_applications s share)) vs.it vs.is ∙ step (instance_entry i vs.it) (PermValue k.1.amount) (k.1.value_is no_applications s);
      }
  tree_names (Both a b) t k eq =
      let x = came (asking_tree p ap' f s a) (λ q. option_and_then (λ z. Some (Pair q z)) (asking_tree p ap' f s b)) t eq in
      let y = came (asking_tree p ap' f s b) (λ z. Some (Pair x.it z)) t x.then in
      let l = tree_names a x.it k.0 x.is in
      let r = tree_names b y.it k.1 y.is in
      record {
        entries_of = l.entries_of ++ r.entries_of;
        are = step (λ xs. option_and_then (λ ys. Some (xs ++ ys)) (asking_entries p ap' s b)) l.entries_of l.are ∙ step (λ ys. Some (l.entries_of ++ ys)) r.entries_of r.are;
      }
  tree_names (Implied c a) t k eq =
      let v = came (value p ap' s c) (λ v. plain.choose v (asking_tree p ap' f s a) (Some Empty)) t eq in
      named_by (step (λ v. plain.choose v (asking_entries p ap' s a) (Some [])) v.it v.is)
      (side_named v.it (asking_tree p ap' f s a) (Some Empty) (asking_entries p ap' s a) (Some []) t (tree_names a t k.1) (λ e. record { entries_of = []; are = refl }) v.then)
  tree_names (Chosen c a b) t k eq =
      let v = came (value p ap' s c) (λ v. plain.choose v (asking_tree p ap' f s a) (asking_tree p ap' f s b)) t eq in
      named_by (step (λ v. plain.choose v (asking_entries p ap' s a) (asking_entries p ap' s b)) v.it v.is)
      (side_named v.it (asking_tree p ap' f s a) (asking_tree p ap' f s b) (asking_entries p ap' s a) (asking_entries p ap' s b) t (tree_names a t k.1) (tree_names b t k.2) v.then)

first_last : (a b c : ℕ) → (a + c) + b ≡ a + (b + c)
first_last a b c = omega arith

second_last : (a b c : ℕ) → (a + b) + c ≡ a + (b + c)
second_last a b c = omega arith

enough : (a b c : ℕ) → a ≤ a + (b + c)
enough a b c = omega arith

-- the first tree is that in a state with the same variables and heap
module _ (p : Program) (good : GoodBodies p) (functions : GoodFunctions p) (Good : Heap → Instance → Type 0) (covered : Covered p Good) (a : Assertion) (body : IsAsking p a) (s : State) (k : HoldsFirmly p Good a s) where
  grounded : Grounded p s
  grounded i z = (k.good i z.holds).1

  fine_before : Fine p (bare s.store s.heap)
  fine_before = record { typed = k.rigid; forth = ((λ r sc. le-refl none), tt); back = λ i z. absurd (not-positive z (le-refl none)) }

  stays : Stays (bare s.store s.heap) k.given.1
  stays = add_stays p (firmly p k.given.0) full a (bare s.store s.heap) k.given.1 k.given.2

  grounded_end : Grounded p k.given.1
  grounded_end i z = subst (λ (h : Heap). IsGrounded p h i) (sym stays.heap) (grounded i (subst (λ (hs : Holdings). Positive (amount hs (Folded i))) k.given.3 z))

  self : (n : ℕ) → n ≤ n
  self n = omega arith

  later : Later p Rigid Sound (bare s.store s.heap) k.given.1
  later = add_later_asks p good (speak_now p functions) k.given.0 k.given.0 (alike p good functions k.given.0 k.given.0 (self k.given.0)) a (bare s.store s.heap) k.given.1 body fine_before grounded_end k.given.2

  sound : NoDebts s.holdings × AreSingle s.holdings
  sound = subst (λ (hs : Holdings). NoDebts hs × AreSingle hs) k.given.3 later.forth

  pub fine : Fine p s
  fine = record { typed = k.rigid; forth = sound; back = grounded }

  module _ (o : State) (sees : Sees s o) (t : State) (store : t.store ≡ s.store) (tree : Tree) (here : IsAskingTreeOf p o a tree) (there : IsAskingTreeOf p t a tree) where
    -- fuel that suffices for all
    abbrev pub all : ℕ
    all = k.given.0 + (here.0 + there.0)

    here_by : asking_tree p (applications p all) (tree_by p all o.heap) o a ≡ Some tree
    here_by =
        subst (λ (n : ℕ). asking_tree p (applications p n) (tree_by p n o.heap) o a ≡ Some tree) (first_last k.given.0 here.0 there.0) (asking_later p (k.given.0 + there.0) here.0 o a tree here.1)

    there_by : asking_tree p (applications p all) (tree_by p all t.heap) t a ≡ Some tree
    there_by =
        subst (λ (n : ℕ). asking_tree p (applications p n) (tree_by p n t.heap) t a ≡ Some tree) (second_last k.given.0 here.0 there.0) (asking_later p (k.given.0 + here.0) there.0 t a tree there.1)

    pub names : Named (asking_entries p (applications p all) o a)
    names = tree_names p (applications p all) (tree_by p all o.heap) o a tree body here_by

    pub alike_all : Alike p k.given.0 all
    alike_all = alike p good functions k.given.0 all (enough k.given.0 here.0 there.0)

    told_of : (i : Instance) → Positive (amount s.holdings (Folded i)) → (tree : Tree) → tree_by p all o.heap i ≡ Some tree → tree_by p all t.heap i ≡ Some tree →
        (n : ℕ) (x : Holdings) → flat p n s.heap i ≡ Some x → ToldOf p s.heap t.heap n i x
    told_of i z tree e e' n x fl =
        let e'' = subst (λ (h : Heap). tree_by p all h i ≡ Some tree) sees.heap e in
        tell p good Good covered s.heap t.heap n i x tree (k.good i z.holds).0 (held_rigid i s.holdings sound.1 z) fl (all, e'') (all, e')

    trees_tell : TreesTell p good (speak_now p functions) k.given.0 all alike_all (tree_by p all o.heap) (tree_by p all t.heap) o t k.given.1
    trees_tell j z tree e e' n l w =
        let z' : Positive (amount s.holdings (Folded j)) = subst (λ (hs : Holdings). Positive (amount hs (Folded j))) k.given.3 z in
        let g = grounded j z' in
        subst (λ (h : Heap). Likes (value_at p h l) (value_at p t.heap l)) (sym stays.heap)
        ((told_of j z' tree e e' g.0 g.1 g.2).heap n l (subst (λ (h : Heap). Positive (weight p h l n (Folded j))) stays.heap w))

    pub told_all : Told p good (speak_now p functions) k.given.0 all alike_all (tree_by p all o.heap) (tree_by p all t.heap) o t (bare s.store s.heap) k.given.1 names.entries_of a
    told_all =
        let start : Matches p (bare s.store s.heap) t = record { store = store; heap = λ l z. absurd (not-positive (record { holds = z.1 }) (le-refl none)) } in
        told p good (speak_now p functions) k.given.0 all alike_all (tree_by p all o.heap) (tree_by p all t.heap) o t a (bare s.store s.heap) k.given.1 tree names.entries_of body fine_before grounded_end k.given.2
        (record { store = sees.store; heap = sees.heap }) start trees_tell here_by there_by names.are

    pub matches : Matches p s t
    matches = record {
      store = store;
      heap = λ l h. subst (λ (g : Heap). Likes (value_at p g l) (value_at p t.heap l)) stays.heap
          (told_all.1.0.heap l (subst (λ (g : Heap). IsHeld p g k.given.1.holdings l) (sym stays.heap) (subst (λ (hs : Holdings). IsHeld p s.heap hs l) (sym k.given.3) h)));
    }

    pub held_is : s.holdings ≡ added full names.entries_of []
    held_is = sym k.given.3 ∙ told_all.1.2

    -- what lies under an instance that s holds lies there in t
    like_folded : (i : Instance) (n : ℕ) (x : Holdings) → is_positive (amount s.holdings (Folded i)) ≡ true → flat p n s.heap i ≡ Some x → flat p n t.heap i ≡ Some x
    like_folded i n x z fl =
        let pos : Positive (amount s.holdings (Folded i)) = record { holds = z } in
        let singles = single_entries full names.entries_of [] (subst AreSingle held_is sound.1) in
        let q = among (HasOneTree (tree_by p all o.heap) (tree_by p all t.heap)) full i names.entries_of [] singles.0 told_all.1.1 (λ z. absurd (not-positive z (le-refl none)))
        (subst (λ (hs : Holdings). Positive (amount hs (Folded i))) held_is pos) in
        (told_of i pos q.0 q.1 q.2 n x fl).inside

    pub like : IsLike p s t
    like = record { store = store; heap = λ l h. looks_like (matches.heap l h); folded = like_folded }

-- two states that hold just the same hold the same
pub same_holdings : (p : Program) (good : GoodBodies p) (functions : GoodFunctions p) (Good : Heap → Instance → Type 0) (covered : Covered p Good) (a : Assertion) (body : IsAsking p a) (s t : State) (k : HoldsFirmly p Good a s) (l : HoldsFirmly p Good a t) →
    t.store ≡ s.store → (tree : Tree) → IsAskingTreeOf p s a tree → IsAskingTreeOf p t a tree → t.holdings ≡ s.holdings
same_holdings p good functions Good covered a body s t k l store tree here there =
    let sees : (s : State) → Sees s s = λ s. record { store = refl; heap = refl } in
    let e = names p good functions Good covered a body t l t (sees t) s (sym store) tree there here in
    let f = names p good functions Good covered a body s k s (sees s) t store tree here there in
    let i = all p good functions Good covered a body t l t (sees t) s (sym store) tree there here in
    let j = all p good functions Good covered a body s k s (sees s) t store tree here there in
    let both : e.entries_of ≡ f.entries_of = one_named p i j t a e.entries_of f.entries_of e.are (told_all p good functions Good covered a body s k s (sees s) t store tree here there).0 in
    held_is p good functions Good covered a body t l t (sees t) s (sym store) tree there here ∙ ap (λ (es : Holdings). added full es []) both ∙ sym (held_is p good functions Good covered a body s k s (sees s) t store tree here there)
