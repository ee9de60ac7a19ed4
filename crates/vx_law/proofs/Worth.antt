-- A snapshot term that is worth the asking tree of an assertion, also where it is built of parts: each part of it, as the rules take it
-- apart, is worth its part of the tree.
use Rattle.std.proofs.Common.{◌≡◌, ℕ, Bool, true, false, cond, List, Option, Some, None, refl, sym, ◌∙◌, ap, subst, le_refl}
use Rattle.std.specs.Prelude.{option_and_then}
use Rattle.std.proofs.lemmas.Option.{same_Some}
use Rattle.vx_ast.specs.declared.ValueType.{ValueType}
use Rattle.vx_ast.specs.Syntax.{Name, Program, Expr, Exprs, Assertion, Pure, Points, Both, Implied, Chosen}
use Rattle.vx_ast.specs.Syntax as syntax
use Rattle.vx_meaning.specs.Values.{Value, IntValue, BoolValue, RefValue, PermValue, is_true}
use Rattle.vx_meaning.specs.States as run
use Rattle.vx_meaning.specs.Evaluate as plain
use Rattle.vx_meaning.specs.Evaluate.{HasValue, applications}
use Rattle.vx_terms.specs.Sorts.{SnapSort}
use Rattle.vx_terms.specs.Terms.{Term}
use Rattle.vx_terms.specs.Build.{first, second, unwrap}
use Rattle.vx_terms.specs.Interpretations.{Interpretation, TreeElement, Tree, Empty, Pair, IsOf, value}
use Rattle.vx_rules.specs.States.{sort_of_type}
use Rattle.vx_rules.specs.Rules.{field_sort}
use Rattle.vx_elements.proofs.Settled.{Meaning, Extends, value_kept}
use Rattle.vx_elements.proofs.Built.{Good, good_later}
use Rattle.vx_elements.proofs.Elements.{element, element_is}
use Rattle.vx_elements.proofs.Values.{value_typed, sort_of_field}
use Rattle.vx_sound.specs.Snapshots.{leaf, location_leaf, truth_leaf, tree_by, IsTree}
use Rattle.vx_sound.proofs.World.{at_field}
use Rattle.vx_sound.proofs.Standard.{IsStandard, IsWritten, leaf_of, leaf_is, first_value, second_value, unwrap_value, first_written, second_written, good_first, good_second, good_unwrap}
use Rattle.vx_sound_preds.specs.Asking.{asking_tree, IsAsking}
use Rattle.vx_sound_preds.proofs.Asked.{held_value, held_values}
use Rattle.vx_sound_preds.proofs.Flats.{came}
use Rattle.vx_sound_preds.proofs.Looks.{Sees}
use Rattle.vx_sound_funcs.specs.Firm.{GoodFunctions}
use Rattle.vx_sound_funcs.proofs.Seen.{value_seen, values_seen}
use Rattle.vx_law.proofs.Values.{HaveValues}

-- what stands on the side that a condition picks
abbrev pub OnSide : Bool → Type 0 → Type 0 → Type 0
OnSide true A B = A
OnSide false A B = B

module _ (means : Meaning) (p : Program) (n : ℕ) where
  pub record Snap (i : Interpretation) (u : Tree) (t : Term) : Type 0 where
    pub good : Good means n i t SnapSort
    pub is : value i t ≡ TreeElement u

  -- of a location: what is unwrapped is the value there
  pub record OfField (i : Interpretation) (c : run.State) (e : Expr) (f : Name) (u : Tree) (t : Term) : Type 0 where
    pub reference : ℕ
    pub receiver : HasValue p c e (RefValue reference)
    pub tree : u ≡ leaf (run.value_at p c.heap (at_field reference f))
    pub snap : Snap i u t
    pub good : Good means n i (unwrap (field_sort p f) t) (field_sort p f)
    pub is : value i (unwrap (field_sort p f) t) ≡ element (run.value_at p c.heap (at_field reference f))

  pub record OfInstance (i : Interpretation) (c : run.State) (x : Name) (es : Exprs) (u : Tree) (t : Term) : Type 0 where
    pub arguments : List Value
    pub arguments_are : HaveValues p c es arguments
    pub tree : IsTree p c.heap record { predicate = x; arguments = arguments } u
    pub snap : Snap i u t
    pub written : IsWritten t

  abbrev pub Worth : Interpretation → run.State → Assertion → Tree → Term → Type 0
  Worth i c (Pure e) u t = Snap i u t × (u ≡ Empty)
  Worth i c (Points at e f share) u t = OfField i c e f u t
  Worth i c (syntax.Instance at x es share) u t = OfInstance i c x es u t
  Worth i c (Both a b) u t = (x y : Tree) × (u ≡ Pair x y) × Snap i u t × Worth i c a x (first t) × Worth i c b y (second t)
  Worth i c (Implied d a) u t = (b : Bool) × HasValue p c d (BoolValue b) × OnSide b (Worth i c a u t) (Snap i u t × (u ≡ Empty))
  Worth i c (Chosen d a b) u t = (x : Bool) × HasValue p c d (BoolValue x) × OnSide x (Worth i c a u t) (Worth i c b u t)

  pub snap_later : {i j : Interpretation} {u : Tree} {t : Term} → Extends means n i j → Snap i u t → Snap j u t
  snap_later {t = t} x k = record { good = good_later means (le_refl n) x k.good; is = value_kept means t k.good.settled x ∙ k.is }

  on_side : (b : Bool) {A B C D : Type 0} → (A → C) → (B → D) → OnSide b A B → OnSide b C D
  on_side true f g h = f h
  on_side false f g h = g h

  pub worth_later : {i j : Interpretation} → Extends means n i j → (c : run.State) (a : Assertion) (u : Tree) (t : Term) → Worth i c a u t → Worth j c a u t
  worth_later x c (Pure e) u t k = (snap_later x k.0, k.1)
  worth_later x c (Points at e f share) u t k = record {
    reference = k.reference;
    receiver = k.receiver;
    tree = k.tree;
    snap = snap_later x k.snap;
    good = good_later means (le_refl n) x k.good;
    is = value_kept means (unwrap (field_sort p f) t) k.good.settled x ∙ k.is;
  }
  worth_later x c (syntax.Instance at y es share) u t k = record { arguments = k.arguments; arguments_are = k.arguments_are; tree = k.tree; snap = snap_later x k.snap; written = k.written }
  worth_later x c (Both a b) u t k = (k.0, k.1, k.2, snap_later x k.3, worth_later x c a k.0 (first t) k.4, worth_later x c b k.1 (second t) k.5)
  worth_later x c (Implied d a) u t k = (k.0, k.1, on_side k.0 (worth_later x c a u t) (λ z. (snap_later x z.0, z.1)) k.2)
  worth_later x c (Chosen d a b) u t k = (k.0, k.1, on_side k.0 (worth_later x c a u t) (worth_later x c b u t) k.2)

  -- what is held isn't looked at
  pub worth_held : (i : Interpretation) (c : run.State) (hs : run.Holdings) (a : Assertion) (u : Tree) (t : Term) → Worth i c a u t → Worth i (run.with_holdings hs c) a u t
  worth_held i c hs (Pure e) u t k = k
  worth_held i c hs (Points at e f share) u t k = record { reference = k.reference; receiver = (k.receiver.0, held_value p k.receiver.0 hs c e ∙ k.receiver.1); tree = k.tree; snap = k.snap; good = k.good; is = k.is }
  worth_held i c hs (syntax.Instance at y es share) u t k =
      record { arguments = k.arguments; arguments_are = (k.arguments_are.0, held_values p k.arguments_are.0 hs c es ∙ k.arguments_are.1); tree = k.tree; snap = k.snap; written = k.written }
  worth_held i c hs (Both a b) u t k = (k.0, k.1, k.2, k.3, worth_held i c hs a k.0 (first t) k.4, worth_held i c hs b k.1 (second t) k.5)
  worth_held i c hs (Implied e a) u t k = (k.0, (k.1.0, held_value p k.1.0 hs c e ∙ k.1.1), on_side k.0 (worth_held i c hs a u t) (λ z. z) k.2)
  worth_held i c hs (Chosen e a b) u t k = (k.0, (k.1.0, held_value p k.1.0 hs c e ∙ k.1.1), on_side k.0 (worth_held i c hs a u t) (worth_held i c hs b u t) k.2)

  -- in a state with the same variables and the same heap
  pub worth_seen : GoodFunctions p → (i : Interpretation) (c d : run.State) → Sees c d → (a : Assertion) → IsAsking p a → (u : Tree) (t : Term) → Worth i c a u t → Worth i d a u t
  worth_seen fs i c d s (Pure e) pl u t k = k
  worth_seen fs i c d s (Points at e f share) pl u t k = record {
    reference = k.reference;
    receiver = (k.receiver.0, value_seen p fs k.receiver.0 c d s e pl.0 ∙ k.receiver.1);
    tree = k.tree ∙ ap (λ (h : run.Heap). leaf (run.value_at p h (at_field k.reference f))) (sym s.heap);
    snap = k.snap;
    good = k.good;
    is = k.is ∙ ap (λ (h : run.Heap). element (run.value_at p h (at_field k.reference f))) (sym s.heap);
  }
  worth_seen fs i c d s (syntax.Instance at y es share) pl u t k = record {
    arguments = k.arguments;
    arguments_are = (k.arguments_are.0, values_seen p fs k.arguments_are.0 c d s es pl.0 ∙ k.arguments_are.1);
    tree = subst (λ (h : run.Heap). IsTree p h record { predicate = y; arguments = k.arguments } u) (sym s.heap) k.tree;
    snap = k.snap;
    written = k.written;
  }
  worth_seen fs i c d s (Both a b) pl u t k = (k.0, k.1, k.2, k.3, worth_seen fs i c d s a pl.0 k.0 (first t) k.4, worth_seen fs i c d s b pl.1 k.1 (second t) k.5)
  worth_seen fs i c d s (Implied e a) pl u t k = (k.0, (k.1.0, value_seen p fs k.1.0 c d s e pl.0 ∙ k.1.1), on_side k.0 (worth_seen fs i c d s a pl.1 u t) (λ z. z) k.2)
  worth_seen fs i c d s (Chosen e a b) pl u t k = (k.0, (k.1.0, value_seen p fs k.1.0 c d s e pl.0 ∙ k.1.1), on_side k.0 (worth_seen fs i c d s a pl.1 u t) (worth_seen fs i c d s b pl.2 u t) k.2)

  either : (b : Bool) {A B C : Type 0} → (A → C) → (B → C) → OnSide b A B → C
  either true f g h = f h
  either false f g h = g h

  -- whatever the assertion
  pub worth_snap : (i : Interpretation) (c : run.State) (a : Assertion) (u : Tree) (t : Term) → Worth i c a u t → Snap i u t
  worth_snap i c (Pure e) u t k = k.0
  worth_snap i c (Points at e f share) u t k = k.snap
  worth_snap i c (syntax.Instance at x es share) u t k = k.snap
  worth_snap i c (Both a b) u t k = k.3
  worth_snap i c (Implied d a) u t k = either k.0 (worth_snap i c a u t) (λ z. z.0) k.2
  worth_snap i c (Chosen d a b) u t k = either k.0 (worth_snap i c a u t) (worth_snap i c b u t) k.2

  -- A term that is no pair and no wrap, worth the tree of an assertion: what is taken of it is written out.
  module _ (i : Interpretation) (st : IsStandard i) where
    unwrapped : (c : run.State) (e : Expr) (f : Name) (r : ℕ) (u : Tree) (t : Term) → HasValue p c e (RefValue r) → u ≡ leaf (run.value_at p c.heap (at_field r f)) → Snap i u t → IsWritten t → OfField i c e f u t
    unwrapped c e f r u t at tree k written = record { reference = r; receiver = at; tree = tree; snap = k; good = good_part; is = part_is }
      where
        ft : ValueType
        ft = run.field_type p f

        v : Value
        v = run.value_at p c.heap (at_field r f)

        sort_is : field_sort p f ≡ sort_of_type (run.field_type p f)
        sort_is = sort_of_field p f

        of_sort : IsOf (sort_of_type (run.field_type p f)) (element (run.value_at p c.heap (at_field r f)))
        of_sort = subst (λ y. IsOf (sort_of_type y) (element (run.value_at p c.heap (at_field r f)))) (value_typed p c.heap (at_field r f)) (element_is (run.value_at p c.heap (at_field r f)))

        leaf_element : value i t ≡ TreeElement (leaf_of (element (run.value_at p c.heap (at_field r f))))
        leaf_element = k.is ∙ ap TreeElement (tree ∙ sym (leaf_is v))

        good_part : Good means n i (unwrap (field_sort p f) t) (field_sort p f)
        good_part = subst (λ z. Good means n i (unwrap z t) z) (sym sort_is) (subst (λ u. Good means n i u (sort_of_type ft)) (sym (written.unwrap_is ft)) (good_unwrap means (sort_of_type ft) k.good))

        part_is : value i (unwrap (field_sort p f) t) ≡ element (run.value_at p c.heap (at_field r f))
        part_is = subst (λ z. value i (unwrap z t) ≡ element v) (sym sort_is) (ap (value i) (written.unwrap_is ft) ∙ unwrap_value i st ft t (element v) of_sort leaf_element)

    located : (c : run.State) (e : Expr) (f : Name) (r : Value) (u : Tree) (t : Term) → HasValue p c e r → location_leaf p c.heap f r ≡ Some u → Snap i u t → IsWritten t → OfField i c e f u t
    located c e f (RefValue r) u t at tree k written = unwrapped c e f r u t at (sym (same_Some _ u tree)) k written
    located c e f (IntValue r) u t at tree k written = cc
    located c e f (BoolValue r) u t at tree k written = cc
    located c e f (PermValue r) u t at tree k written = cc

    truth_is : (v : Value) (u : Tree) → truth_leaf v ≡ Some u → u ≡ Empty
    truth_is v u e = go (is_true v) e
      where
        go : (b : Bool) → cond b (Some Empty) None ≡ Some u → u ≡ Empty
        go true e = sym (same_Some Empty u e)
        go false e = cc

    chosen : {R : Type 0} (v : Value) (x y : Option Tree) (u : Tree) → plain.choose v x y ≡ Some u → ((b : Bool) → v ≡ BoolValue b → OnSide b (x ≡ Some u) (y ≡ Some u) → R) → R
    chosen (BoolValue true) x y u e h = h true refl e
    chosen (BoolValue false) x y u e h = h false refl e
    chosen (IntValue z) x y u e h = cc
    chosen (RefValue z) x y u e h = cc
    chosen (PermValue z) x y u e h = cc

    pub written_worth : (m : ℕ) (c : run.State) (a : Assertion) (u : Tree) (t : Term) → asking_tree p (applications p m) (tree_by p m c.heap) c a ≡ Some u → Snap i u t → IsWritten t → Worth i c a u t
    written_worth m c (Pure e) u t eq k w = let v = came (plain.value p (applications p m) c e) truth_leaf u eq in (k, truth_is v.it u v.then)
    written_worth m c (Points at e f share) u t eq k w = let v = came (plain.value p (applications p m) c e) (location_leaf p c.heap f) u eq in located c e f v.it u t (m, v.is) v.then k w
    written_worth m c (syntax.Instance at x es share) u t eq k w =
        let vs = came (plain.values p (applications p m) c es) (λ vs. tree_by p m c.heap record { predicate = x; arguments = vs }) u eq in
        record { arguments = vs.it; arguments_are = (m, vs.is); tree = (m, vs.then); snap = k; written = w }
    written_worth m c (Both a b) u t eq k w =
        let x = came (asking_tree p (applications p m) (tree_by p m c.heap) c a) (λ t. option_and_then (λ u. Some (Pair t u)) (asking_tree p (applications p m) (tree_by p m c.heap) c b)) u eq in
        let y = came (asking_tree p (applications p m) (tree_by p m c.heap) c b) (λ u. Some (Pair x.it u)) u x.then in
        let both : u ≡ Pair x.it y.it = sym (same_Some (Pair x.it y.it) u y.then) in
        let whole : value i t ≡ TreeElement (Pair x.it y.it) = k.is ∙ ap TreeElement both in
        let one : Snap i x.it (first t) = record { good = subst (λ u. Good means n i u SnapSort) (sym w.first_is) (good_first means k.good); is = ap (value i) w.first_is ∙ first_value i st t x.it y.it whole } in
        let two : Snap i y.it (second t) = record { good = subst (λ u. Good means n i u SnapSort) (sym w.second_is) (good_second means k.good); is = ap (value i) w.second_is ∙ second_value i st t x.it y.it whole } in
        (x.it, y.it, both, k, written_worth m c a x.it (first t) x.is one (subst IsWritten (sym w.first_is) (first_written t)), written_worth m c b y.it (second t) y.is two (subst IsWritten (sym w.second_is) (second_written t)))
    written_worth m c (Implied d a) u t eq k w =
        let v = came (plain.value p (applications p m) c d) (λ v. plain.choose v (asking_tree p (applications p m) (tree_by p m c.heap) c a) (Some Empty)) u eq in
        chosen v.it (asking_tree p (applications p m) (tree_by p m c.heap) c a) (Some Empty) u v.then (λ b e s. (b, (m, v.is ∙ ap Some e), on_side b (λ f. written_worth m c a u t f k w) (λ f. (k, sym (same_Some Empty u f))) s))
    written_worth m c (Chosen d a b) u t eq k w =
        let v = came (plain.value p (applications p m) c d) (λ v. plain.choose v (asking_tree p (applications p m) (tree_by p m c.heap) c a) (asking_tree p (applications p m) (tree_by p m c.heap) c b)) u eq in
        chosen v.it (asking_tree p (applications p m) (tree_by p m c.heap) c a) (asking_tree p (applications p m) (tree_by p m c.heap) c b) u v.then (λ x e s. (x, (m, v.is ∙ ap Some e), on_side x (λ f. written_worth m c a u t f k w) (λ f. written_worth m c b u t f k w) s))
