-- An assertion whose entries are grounded has an asking tree.
use Rattle.std.proofs.Common.{◌≡◌, ℕ, ◌+◌, Bool, true, false, cond, List, [], ◌∷◌, ◌++◌, Some, None, refl, sym, ◌∙◌, subst, arith}
use Rattle.std.specs.Prelude.{option_and_then}
use Rattle.std.proofs.lemmas.Option.{same_Some}
use Rattle.vx_ast.specs.declared.Place.{Place}
use Rattle.vx_ast.specs.Syntax.{Name, Program, Expr, Exprs, Assertion, Pure, Points, Both, Implied, Chosen}
use Rattle.vx_ast.specs.Syntax as syntax
use Rattle.vx_meaning.specs.Values.{Value, IntValue, BoolValue, RefValue, PermValue, is_true}
use Rattle.vx_meaning.specs.States.{State, Heap, Holdings, Instance, Folded, value_at}
use Rattle.vx_meaning.specs.Evaluate.{choose, applications, value, values}
use Rattle.vx_meaning.specs.Flatten.{no_applications, location_entry, instance_entry, IsGrounded}
use Rattle.vx_terms.specs.Interpretations.{Tree, Empty, Pair}
use Rattle.vx_sound.specs.Snapshots.{leaf, truth_leaf, location_leaf, tree_by}
use Rattle.vx_sound.proofs.Fuel.{values_more, applications_later}
use Rattle.vx_sound_preds.specs.Asking.{asking_tree, asking_entries, IsAskingTreeOf}
use Rattle.vx_sound_preds.proofs.Asked.{both_trees, condition_tree}
use Rattle.vx_sound_preds.proofs.Fitting.{step}
use Rattle.vx_sound_preds.proofs.Flats.{came, tree_later}
use Rattle.vx_sound_preds.proofs.Folds.{flat_has_tree}
use Rattle.vx_sound_preds.proofs.Adding.{AreEntries}
use Rattle.vx_sound_funcs.proofs.Steps.{nothing_some}

entries_left : (p : Program) (h : Heap) (xs ys : Holdings) → AreEntries p h (xs ++ ys) → AreEntries p h xs
entries_left p h [] ys k = tt
entries_left p h (x ∷ xs) ys k = (k.0, entries_left p h xs ys k.1)

entries_right : (p : Program) (h : Heap) (xs ys : Holdings) → AreEntries p h (xs ++ ys) → AreEntries p h ys
entries_right p h [] ys k = k
entries_right p h (x ∷ xs) ys k = entries_right p h xs ys k.1

swap : (a b : ℕ) → b + a ≡ a + b
swap a b = omega arith

module _ (p : Program) (s : State) where
  -- an instance's tree, by fuel that suffices for its arguments too
  pub instance_tree : (at : Place) (x : Name) (xs : Exprs) (share : Expr) (vs : List Value) (a b : ℕ) (u : Tree) → values p (applications p a) s xs ≡ Some vs → tree_by p b s.heap record { predicate = x; arguments = vs } ≡ Some u → IsAskingTreeOf p s (syntax.Instance at x xs share) u
  instance_tree at x xs share vs a b u are is =
      let more = subst (λ (m : ℕ). values p (applications p m) s xs ≡ Some vs) (swap a b) (values_more p (applications p a) (applications p (b + a)) (applications_later p b a) s xs vs are) in
      let inst : Instance = record { predicate = x; arguments = vs } in
      (a + b, step (λ vs. tree_by p (a + b) s.heap record { predicate = x; arguments = vs }) vs more ∙ tree_later p a b s.heap inst u is)

  pub record HasTree (a : Assertion) : Type 0 where
    pub tree : Tree
    pub is : IsAskingTreeOf p s a tree

  truth_there : (b : Bool) (es : Holdings) → cond b (Some []) None ≡ Some es → cond b (Some Empty) None ≡ Some Empty
  truth_there true es e = refl
  truth_there false es e = nothing_some es e

  location_there : (f : Name) (r w : Value) (es : Holdings) → location_entry f r w ≡ Some es → (t : Tree) × (location_leaf p s.heap f r ≡ Some t)
  location_there f (RefValue r) w es e = (leaf (value_at p s.heap record { receiver = r; field = f }), refl)
  location_there f (IntValue r) w es e = nothing_some es e
  location_there f (BoolValue r) w es e = nothing_some es e
  location_there f (PermValue r) w es e = nothing_some es e

  grounded_there : (i : Name) (vs : List Value) (w : Value) (es : Holdings) → instance_entry i vs w ≡ Some es → AreEntries p s.heap es → IsGrounded p s.heap record { predicate = i; arguments = vs }
  grounded_there i vs (PermValue a) es e k = (subst (AreEntries p s.heap) (sym (same_Some ((Folded record { predicate = i; arguments = vs }, a) ∷ []) es e)) k).0
  grounded_there i vs (IntValue a) es e k = nothing_some es e
  grounded_there i vs (BoolValue a) es e k = nothing_some es e
  grounded_there i vs (RefValue a) es e k = nothing_some es e

  module _ (n : ℕ) where
    pub has_tree : (a : Assertion) (es : Holdings) → asking_entries p (applications p n) s a ≡ Some es → AreEntries p s.heap es → HasTree a
    has_tree (Pure e) es eq k =
        let x = came (value p (applications p n) s e) (λ v. cond (is_true v) (Some []) None) es eq in
        record { tree = Empty; is = (n, step truth_leaf x.it x.is ∙ truth_there (is_true x.it) es x.then) }
    has_tree (Points at e f share) es eq k =
        let x = came (value p (applications p n) s e) (λ r. option_and_then (location_entry f r) (value p no_applications s share)) es eq in
        let y = came (value p no_applications s share) (location_entry f x.it) es x.then in
        let t = location_there f x.it y.it es y.then in
        record { tree = t.0; is = (n, step (location_leaf p s.heap f) x.it x.is ∙ t.1) }
    has_tree (syntax.Instance at i xs share) es eq k =
        let x = came (values p (applications p n) s xs) (λ vs. option_and_then (instance_entry i vs) (value p no_applications s share)) es eq in
        let y = came (value p no_applications s share) (instance_entry i x.it) es x.then in
        let g = grounded_there i x.it y.it es y.then k in
        let t = flat_has_tree p s.heap g.0 record { predicate = i; arguments = x.it } g.1 g.2 in
        record { tree = t.0; is = instance_tree at i xs share x.it n g.0 t.0 x.is t.1 }
    has_tree (Both a b) es eq k =
        let x = came (asking_entries p (applications p n) s a) (λ xs. option_and_then (λ ys. Some (xs ++ ys)) (asking_entries p (applications p n) s b)) es eq in
        let y = came (asking_entries p (applications p n) s b) (λ ys. Some (x.it ++ ys)) es x.then in
        let all = subst (AreEntries p s.heap) (sym (same_Some (x.it ++ y.it) es y.then)) k in
        let one = has_tree a x.it x.is (entries_left p s.heap x.it y.it all) in
        let two = has_tree b y.it y.is (entries_right p s.heap x.it y.it all) in
        record { tree = Pair one.tree two.tree; is = both_trees p s a b one.tree two.tree one.is two.is }
    has_tree (Implied c a) es eq k =
        let x = came (value p (applications p n) s c) (λ v. choose v (asking_entries p (applications p n) s a) (Some [])) es eq in
        go x.it x.is x.then (λ e. has_tree a es e k)
      where
        go : (v : Value) → value p (applications p n) s c ≡ Some v → choose v (asking_entries p (applications p n) s a) (Some []) ≡ Some es → (asking_entries p (applications p n) s a ≡ Some es → HasTree a) → HasTree (Implied c a)
        go (BoolValue true) v e f =
            let r = f e in
            record { tree = r.tree; is = condition_tree p s a (Implied c a) c (BoolValue true) n r.tree v (λ m is. step (λ v. choose v (asking_tree p (applications p m) (tree_by p m s.heap) s a) (Some Empty)) (BoolValue true) is) r.is }
        go (BoolValue false) v e f = record { tree = Empty; is = (n, step (λ v. choose v (asking_tree p (applications p n) (tree_by p n s.heap) s a) (Some Empty)) (BoolValue false) v) }
        go (IntValue z) v e f = nothing_some es e
        go (RefValue z) v e f = nothing_some es e
        go (PermValue z) v e f = nothing_some es e
    has_tree (Chosen c a b) es eq k =
        let x = came (value p (applications p n) s c) (λ v. choose v (asking_entries p (applications p n) s a) (asking_entries p (applications p n) s b)) es eq in
        go x.it x.is x.then (λ e. has_tree a es e k) (λ e. has_tree b es e k)
      where
        go : (v : Value) → value p (applications p n) s c ≡ Some v → choose v (asking_entries p (applications p n) s a) (asking_entries p (applications p n) s b) ≡ Some es → (asking_entries p (applications p n) s a ≡ Some es → HasTree a) → (asking_entries p (applications p n) s b ≡ Some es → HasTree b) → HasTree (Chosen c a b)
        go (BoolValue true) v e f g =
            let r = f e in
            record { tree = r.tree; is = condition_tree p s a (Chosen c a b) c (BoolValue true) n r.tree v (λ m is. step (λ v. choose v (asking_tree p (applications p m) (tree_by p m s.heap) s a) (asking_tree p (applications p m) (tree_by p m s.heap) s b)) (BoolValue true) is) r.is }
        go (BoolValue false) v e f g =
            let r = g e in
            record { tree = r.tree; is = condition_tree p s b (Chosen c a b) c (BoolValue false) n r.tree v (λ m is. step (λ v. choose v (asking_tree p (applications p m) (tree_by p m s.heap) s a) (asking_tree p (applications p m) (tree_by p m s.heap) s b)) (BoolValue false) is) r.is }
        go (IntValue z) v e f g = nothing_some es e
        go (RefValue z) v e f g = nothing_some es e
        go (PermValue z) v e f g = nothing_some es e
