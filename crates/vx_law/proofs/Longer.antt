-- With further variables what has a value has the same, and a snapshot that is worth a tree is worth it still; and what a snapshot
-- is worth is the asking tree of the assertion.
use Rattle.std.proofs.Common.{◌≡◌, ℕ, Bool, true, false, cond, List, [], ◌∷◌, ◌++◌, Option, Some, None, refl, sym, ◌∙◌, ap, subst}
use Rattle.std.specs.Prelude.{option_and_then}
use Rattle.vx_ast.specs.Syntax.{Name, same_name, Program, Connective, Expr, Number, Truth, Null, Part, Variable, Not, Operate, Divide, Connect, Choose, Read, Old, Apply, Unfolding, Exprs, NoMore, More, Assertion, Pure, Points, Both, Implied, Chosen}
use Rattle.vx_ast.specs.Syntax as syntax
use Rattle.vx_meaning.specs.Values.{Value, IntValue, BoolValue, RefValue, PermValue, is_true, negated, operated, divided, needs_right, without_right}
use Rattle.vx_meaning.specs.States as run
use Rattle.vx_meaning.specs.States.{lookup}
use Rattle.vx_meaning.specs.Evaluate.{HasValue, choose, connected, read, applications, value, values}
use Rattle.vx_meaning.specs.Flatten.{no_applications, location_entry, instance_entry}
use Rattle.vx_terms.specs.Terms.{Term}
use Rattle.vx_terms.specs.Build.{first, second, unwrap}
use Rattle.vx_terms.specs.Interpretations as terms
use Rattle.vx_terms.specs.Interpretations.{Interpretation, Tree, Empty}
use Rattle.vx_rules.specs.Rules.{field_sort}
use Rattle.vx_elements.proofs.Settled.{Meaning}
use Rattle.vx_elements.proofs.Elements.{element}
use Rattle.vx_sound.specs.Snapshots.{leaf, truth_leaf, location_leaf, tree_by, IsTree}
use Rattle.vx_sound.proofs.Fuel.{one_value}
use Rattle.vx_sound.proofs.World.{at_field}
use Rattle.vx_sound_preds.specs.Asking.{Says, AllSay, HasRigidArguments, asking_tree, asking_entries, IsAskingTreeOf, IsAsking}
use Rattle.vx_sound_preds.proofs.Asked.{both_trees, condition_tree}
use Rattle.vx_sound_preds.proofs.Fitting.{step}
use Rattle.vx_sound_preds.proofs.Flats.{came}
use Rattle.vx_sound_funcs.specs.Firm.{GoodFunctions}
use Rattle.vx_sound_funcs.proofs.Seen.{application_same}
use Rattle.vx_law.proofs.Trees.{instance_tree}
use Rattle.vx_law.proofs.Worth.{OnSide, Snap, Worth}

-- d has the variables of c and perhaps more, over the same heap
pub record Longer (c d : run.State) : Type 0 where
  pub variables : (x : Name) (v : Value) → lookup x c.store ≡ Some v → lookup x d.store ≡ Some v
  pub heap : d.heap ≡ c.heap

pub found_longer : (xs ys : run.Store) (x : Name) (v : Value) → lookup x xs ≡ Some v → lookup x (xs ++ ys) ≡ Some v
found_longer [] ys x v e = cc
found_longer (a ∷ xs) ys x v e = go (same_name x a.0) e (found_longer xs ys x v)
  where
    go : (b : Bool) → cond b (Some a.1) (lookup x xs) ≡ Some v → (lookup x xs ≡ Some v → lookup x (xs ++ ys) ≡ Some v) → cond b (Some a.1) (lookup x (xs ++ ys)) ≡ Some v
    go true e f = e
    go false e f = f e

chosen_more : {A : Type 0} (v : Value) (x y z w : Option A) (a : A) → (x ≡ Some a → z ≡ Some a) → (y ≡ Some a → w ≡ Some a) → choose v x y ≡ Some a → choose v z w ≡ Some a
chosen_more (BoolValue true) x y z w a h k e = h e
chosen_more (BoolValue false) x y z w a h k e = k e
chosen_more (IntValue n) x y z w a h k e = e
chosen_more (RefValue r) x y z w a h k e = e
chosen_more (PermValue q) x y z w a h k e = e

connected_more : (k : Connective) (v : Value) (x y : Option Value) (a : Value) → (x ≡ Some a → y ≡ Some a) → connected k v x ≡ Some a → connected k v y ≡ Some a
connected_more k (BoolValue b) x y a h e = go (needs_right k b) e
  where
    go : (n : Bool) → cond n x (Some (BoolValue (without_right k))) ≡ Some a → cond n y (Some (BoolValue (without_right k))) ≡ Some a
    go true e = h e
    go false e = e
connected_more k (IntValue b) x y a h e = e
connected_more k (RefValue b) x y a h e = e
connected_more k (PermValue b) x y a h e = e

module _ (p : Program) (functions : GoodFunctions p) (c d : run.State) (l : Longer c d) where
  read_same : (f : Name) (r : Value) → read p d f r ≡ read p c f r
  read_same f (RefValue r) = ap (λ (h : run.Heap). Some (run.value_at p h record { receiver = r; field = f })) l.heap
  read_same f (IntValue r) = refl
  read_same f (BoolValue r) = refl
  read_same f (PermValue r) = refl

  module _ (n : ℕ) where
    abbrev At_c : Expr → Option Value
    At_c e = value p (applications p n) c e

    abbrev At_d : Expr → Option Value
    At_d e = value p (applications p n) d e

    mutual
      pub value_longer : (e : Expr) → Says (HasRigidArguments p) e → (v : Value) → value p (applications p n) c e ≡ Some v → value p (applications p n) d e ≡ Some v
      value_longer (Number at m) k v e = e
      value_longer (Truth at b) k v e = e
      value_longer (Null at) k v e = e
      value_longer (Part at m q) k v e = e
      value_longer (Variable at x) k v e = l.variables x v e
      value_longer (Not at a) k v e =
          let x = came (At_c a) negated v e in
          step negated x.it (value_longer a k x.it x.is) ∙ x.then
      value_longer (Operate at op a b) k v e =
          let x = came (At_c a) (λ v. option_and_then (λ w. operated op v w) (At_c b)) v e in
          let y = came (At_c b) (λ w. operated op x.it w) v x.then in
          step (λ v. option_and_then (λ w. operated op v w) (At_d b)) x.it (value_longer a k.0 x.it x.is) ∙ step (λ w. operated op x.it w) y.it (value_longer b k.1 y.it y.is) ∙ y.then
      value_longer (Divide at op a b) k v e =
          let x = came (At_c a) (λ v. option_and_then (λ w. divided op v w) (At_c b)) v e in
          let y = came (At_c b) (λ w. divided op x.it w) v x.then in
          step (λ v. option_and_then (λ w. divided op v w) (At_d b)) x.it (value_longer a k.0 x.it x.is) ∙ step (λ w. divided op x.it w) y.it (value_longer b k.1 y.it y.is) ∙ y.then
      value_longer (Connect at o a b) k v e =
          let x = came (At_c a) (λ v. connected o v (At_c b)) v e in
          step (λ v. connected o v (At_d b)) x.it (value_longer a k.0 x.it x.is) ∙ connected_more o x.it (At_c b) (At_d b) v (value_longer b k.1 v) x.then
      value_longer (Choose at o a b) k v e =
          let x = came (At_c o) (λ v. choose v (At_c a) (At_c b)) v e in
          step (λ v. choose v (At_d a) (At_d b)) x.it (value_longer o k.0 x.it x.is) ∙ chosen_more x.it (At_c a) (At_c b) (At_d a) (At_d b) v (value_longer a k.1 v) (value_longer b k.2 v) x.then
      value_longer (Read at a f) k v e =
          let x = came (At_c a) (read p c f) v e in
          step (read p d f) x.it (value_longer a k x.it x.is) ∙ read_same f x.it ∙ x.then
      value_longer (Old at a) k v e = absurd k
      value_longer (Apply at f es) k v e =
          let x = came (values p (applications p n) c es) (λ vs. applications p n f vs c) v e in
          step (λ vs. applications p n f vs d) x.it (values_longer es k.1 x.it x.is) ∙ application_same p functions n f x.it c d l.heap ∙ x.then
      value_longer (Unfolding at x es share a) k v e = value_longer a k.2 v e

      pub values_longer : (es : Exprs) → AllSay (HasRigidArguments p) es → (vs : List Value) → values p (applications p n) c es ≡ Some vs → values p (applications p n) d es ≡ Some vs
      values_longer NoMore k vs e = e
      values_longer (More a es) k vs e =
          let x = came (At_c a) (λ v. option_and_then (λ vs. Some (v ∷ vs)) (values p (applications p n) c es)) vs e in
          let y = came (values p (applications p n) c es) (λ vs. Some (x.it ∷ vs)) vs x.then in
          step (λ v. option_and_then (λ vs. Some (v ∷ vs)) (values p (applications p n) d es)) x.it (value_longer a k.0 x.it x.is) ∙ step (λ vs. Some (x.it ∷ vs)) y.it (values_longer es k.1 y.it y.is) ∙ y.then

    pub entries_longer : (a : Assertion) → IsAsking p a → (es : run.Holdings) → asking_entries p (applications p n) c a ≡ Some es → asking_entries p (applications p n) d a ≡ Some es
    entries_longer (Pure e) k es eq =
        let x = came (At_c e) (λ v. cond (is_true v) (Some []) None) es eq in
        step (λ v. cond (is_true v) (Some []) None) x.it (value_longer e k x.it x.is) ∙ x.then
    entries_longer (Points at e f share) k es eq =
        let x = came (At_c e) (λ r. option_and_then (location_entry f r) (value p no_applications c share)) es eq in
        step (λ r. option_and_then (location_entry f r) (value p no_applications d share)) x.it (value_longer e k.0 x.it x.is)
        ∙ ap (option_and_then (location_entry f x.it)) (k.1.value_is no_applications d ∙ sym (k.1.value_is no_applications c)) ∙ x.then
    entries_longer (syntax.Instance at i xs share) k es eq =
        let x = came (values p (applications p n) c xs) (λ vs. option_and_then (instance_entry i vs) (value p no_applications c share)) es eq in
        step (λ vs. option_and_then (instance_entry i vs) (value p no_applications d share)) x.it (values_longer xs k.0 x.it x.is)
        ∙ ap (option_and_then (instance_entry i x.it)) (k.1.value_is no_applications d ∙ sym (k.1.value_is no_applications c)) ∙ x.then
    entries_longer (Both a b) k es eq =
        let x = came (asking_entries p (applications p n) c a) (λ xs. option_and_then (λ ys. Some (xs ++ ys)) (asking_entries p (applications p n) c b)) es eq in
        let y = came (asking_entries p (applications p n) c b) (λ ys. Some (x.it ++ ys)) es x.then in
        step (λ xs. option_and_then (λ ys. Some (xs ++ ys)) (asking_entries p (applications p n) d b)) x.it (entries_longer a k.0 x.it x.is) ∙ step (λ ys. Some (x.it ++ ys)) y.it (entries_longer b k.1 y.it y.is) ∙ y.then
    entries_longer (Implied e a) k es eq =
        let x = came (At_c e) (λ v. choose v (asking_entries p (applications p n) c a) (Some [])) es eq in
        step (λ v. choose v (asking_entries p (applications p n) d a) (Some [])) x.it (value_longer e k.0 x.it x.is)
        ∙ chosen_more x.it (asking_entries p (applications p n) c a) (Some []) (asking_entries p (applications p n) d a) (Some []) es (entries_longer a k.1 es) (λ z. z) x.then
    entries_longer (Chosen e a b) k es eq =
        let x = came (At_c e) (λ v. choose v (asking_entries p (applications p n) c a) (asking_entries p (applications p n) c b)) es eq in
        step (λ v. choose v (asking_entries p (applications p n) d a) (asking_entries p (applications p n) d b)) x.it (value_longer e k.0 x.it x.is)
        ∙ chosen_more x.it (asking_entries p (applications p n) c a) (asking_entries p (applications p n) c b) (asking_entries p (applications p n) d a) (asking_entries p (applications p n) d b) es (entries_longer a k.1 es) (entries_longer b k.2 es) x.then

  module _ (means : Meaning) (n : ℕ) (i : Interpretation) where
    on_side : (b : Bool) {A B C D : Type 0} → (A → C) → (B → D) → OnSide b A B → OnSide b C D
    on_side true f g h = f h
    on_side false f g h = g h

    has_longer : (e : Expr) → Says (HasRigidArguments p) e → (v : Value) → HasValue p c e v → HasValue p d e v
    has_longer e k v h = (h.0, value_longer h.0 e k v h.1)

    pub worth_longer : (a : Assertion) → IsAsking p a → (u : Tree) (t : Term) → Worth means p n i c a u t → Worth means p n i d a u t
    worth_longer (Pure e) k u t w = w
    worth_longer (Points at e f share) k u t w = record {
      reference = w.reference;
      receiver = has_longer e k.0 (RefValue w.reference) w.receiver;
      tree = subst (λ (h : run.Heap). u ≡ leaf (run.value_at p h (at_field w.reference f))) (sym l.heap) w.tree;
      snap = w.snap;
      good = w.good;
      is = subst (λ (h : run.Heap). terms.value i (unwrap (field_sort p f) t) ≡ element (run.value_at p h (at_field w.reference f))) (sym l.heap) w.is;
    }
    worth_longer (syntax.Instance at x es share) k u t w = record {
      arguments = w.arguments;
      arguments_are = (w.arguments_are.0, values_longer w.arguments_are.0 es k.0 w.arguments w.arguments_are.1);
      tree = subst (λ (h : run.Heap). IsTree p h record { predicate = x; arguments = w.arguments } u) (sym l.heap) w.tree;
      snap = w.snap;
      written = w.written;
    }
    worth_longer (Both a b) k u t w = (w.0, w.1, w.2, w.3, worth_longer a k.0 w.0 (first t) w.4, worth_longer b k.1 w.1 (second t) w.5)
    worth_longer (Implied e a) k u t w = (w.0, has_longer e k.0 (BoolValue w.0) w.1, on_side w.0 (worth_longer a k.1 u t) (λ z. z) w.2)
    worth_longer (Chosen e a b) k u t w = (w.0, has_longer e k.0 (BoolValue w.0) w.1, on_side w.0 (worth_longer a k.1 u t) (worth_longer b k.2 u t) w.2)

-- What holds is given, so what a snapshot is worth is an asking tree of the assertion.
module _ (means : Meaning) (p : Program) (n : ℕ) (i : Interpretation) (c : run.State) where
  truth_told : (b : Bool) (v : Value) → is_true v ≡ b → (es : run.Holdings) → cond b (Some []) None ≡ Some es → (u : Tree) → u ≡ Empty → truth_leaf v ≡ Some u
  truth_told true v is es e u f = go (is_true v) is ∙ ap Some (sym f)
    where
      go : (b : Bool) → b ≡ true → cond b (Some Empty) None ≡ Some Empty
      go true e = refl
      go false e = cc
  truth_told false v is es e u f = cc

  -- what follows a condition follows the value that it has
  entry_of : (k : ℕ) (es : run.Holdings) (e : Expr) (v : Value) (f : Value → Option run.Holdings) → HasValue p c e v → option_and_then f (value p (applications p k) c e) ≡ Some es → f v ≡ Some es
  entry_of k es e v f h eq =
      let x = came (value p (applications p k) c e) f es eq in
      ap f (one_value p c e v x.it h (k, x.is)) ∙ x.then

  pub worth_tree : (a : Assertion) (u : Tree) (t : Term) (k : ℕ) (es : run.Holdings) → asking_entries p (applications p k) c a ≡ Some es → Worth means p n i c a u t → IsAskingTreeOf p c a u
  worth_tree (Pure e) u t k es eq w =
      let x = came (value p (applications p k) c e) (λ v. cond (is_true v) (Some []) None) es eq in
      (k, step truth_leaf x.it x.is ∙ truth_told (is_true x.it) x.it refl es x.then u w.1)
  worth_tree (Points at e f share) u t k es eq w = (w.receiver.0, step (location_leaf p c.heap f) (RefValue w.reference) w.receiver.1 ∙ ap Some (sym w.tree))
  worth_tree (syntax.Instance at x xs share) u t k es eq w = instance_tree p c at x xs share w.arguments w.arguments_are.0 w.tree.0 u w.arguments_are.1 w.tree.1
  worth_tree (Both a b) u t k es eq w =
      let x = came (asking_entries p (applications p k) c a) (λ xs. option_and_then (λ ys. Some (xs ++ ys)) (asking_entries p (applications p k) c b)) es eq in
      let y = came (asking_entries p (applications p k) c b) (λ ys. Some (x.it ++ ys)) es x.then in
      let one = worth_tree a w.0 (first t) k x.it x.is w.4 in
      let two = worth_tree b w.1 (second t) k y.it y.is w.5 in
      subst (IsAskingTreeOf p c (Both a b)) (sym w.2) (both_trees p c a b w.0 w.1 one two)
  worth_tree (Implied e a) u t k es eq w = go w.0 w.1 w.2 (λ eq h. worth_tree a u t k es eq h)
    where
      go : (b : Bool) → HasValue p c e (BoolValue b) → OnSide b (Worth means p n i c a u t) (Snap means p n i u t × (u ≡ Empty)) → (asking_entries p (applications p k) c a ≡ Some es → Worth means p n i c a u t → IsAskingTreeOf p c a u) → IsAskingTreeOf p c (Implied e a) u
      go true v h f =
          let eq' = entry_of k es e (BoolValue true) (λ v. choose v (asking_entries p (applications p k) c a) (Some [])) v eq in
          condition_tree p c a (Implied e a) e (BoolValue true) v.0 u v.1 (λ m is. step (λ v. choose v (asking_tree p (applications p m) (tree_by p m c.heap) c a) (Some Empty)) (BoolValue true) is) (f eq' h)
      go false v h f = (v.0, step (λ v'. choose v' (asking_tree p (applications p v.0) (tree_by p v.0 c.heap) c a) (Some Empty)) (BoolValue false) v.1 ∙ ap Some (sym h.1))
  worth_tree (Chosen e a b) u t k es eq w = go w.0 w.1 w.2 (λ eq h. worth_tree a u t k es eq h) (λ eq h. worth_tree b u t k es eq h)
    where
      go : (x : Bool) → HasValue p c e (BoolValue x) → OnSide x (Worth means p n i c a u t) (Worth means p n i c b u t) →
          (asking_entries p (applications p k) c a ≡ Some es → Worth means p n i c a u t → IsAskingTreeOf p c a u) → (asking_entries p (applications p k) c b ≡ Some es → Worth means p n i c b u t → IsAskingTreeOf p c b u) → IsAskingTreeOf p c (Chosen e a b) u
      go true v h f g =
          let eq' = entry_of k es e (BoolValue true) (λ v. choose v (asking_entries p (applications p k) c a) (asking_entries p (applications p k) c b)) v eq in
          condition_tree p c a (Chosen e a b) e (BoolValue true) v.0 u v.1 (λ m is. step (λ v. choose v (asking_tree p (applications p m) (tree_by p m c.heap) c a) (asking_tree p (applications p m) (tree_by p m c.heap) c b)) (BoolValue true) is) (f eq' h)
      go false v h f g =
          let eq' = entry_of k es e (BoolValue false) (λ v. choose v (asking_entries p (applications p k) c a) (asking_entries p (applications p k) c b)) v eq in
          condition_tree p c b (Chosen e a b) e (BoolValue false) v.0 u v.1 (λ m is. step (λ v. choose v (asking_tree p (applications p m) (tree_by p m c.heap) c a) (asking_tree p (applications p m) (tree_by p m c.heap) c b)) (BoolValue false) is) (g eq' h)
