-- Of what applies no function the asking tree is the tree; and more fuel leaves it as it is.
use Rattle.std.proofs.Common.{◌≡◌, ℕ, ◌+◌, true, false, cond, List, [], ◌++◌, Option, Some, None, refl, sym, ◌∙◌, ap, ap₂, arith}
use Rattle.std.specs.Prelude.{option_and_then}
use Rattle.std.proofs.lemmas.Option.{same_Some}
use Rattle.vx_ast.specs.Syntax.{Name, Program, Assertion, Pure, Points, Both, Implied, Chosen}
use Rattle.vx_ast.specs.Syntax as syntax
use Rattle.vx_terms.specs.Interpretations.{Tree, Empty, Pair}
use Rattle.vx_meaning.specs.Values.{Value, IntValue, BoolValue, RefValue, PermValue, is_true}
use Rattle.vx_meaning.specs.States.{State, Holdings, Instance}
use Rattle.vx_meaning.specs.Evaluate.{Applications, choose, value, values, applications}
use Rattle.vx_meaning.specs.Flatten.{no_applications, entries, location_entry, instance_entry}
use Rattle.vx_sound.specs.Snapshots.{location_leaf, truth_leaf, assertion_tree, tree_by}
use Rattle.vx_sound.proofs.Fuel.{value_more, values_more, applications_later}
use Rattle.vx_sound.proofs.Fuel as fuel
use Rattle.vx_sound_preds.specs.Bodies.{AreRigid, Rigid, IsPlain, ArePlain, IsAmount, IsPlainBody}
use Rattle.vx_sound_preds.specs.Asking.{Says, AllSay, HasRigidArguments, asking_tree, asking_entries, IsAskingTreeOf, IsAskingAmount, IsAsking}
use Rattle.vx_sound_preds.proofs.Fitting.{step}
use Rattle.vx_sound_preds.proofs.Flats.{Covers, came, tree_later}
use Rattle.vx_sound_preds.proofs.Looks.{Sees, plain_value, plain_values}

itself : (s : State) → Sees s s
itself s = record { store = refl; heap = refl }

module _ (p : Program) (ap' : Applications) (f : Instance → Option Tree) (s : State) where
  pub same_tree : (a : Assertion) → IsPlainBody p Rigid a → asking_tree p ap' f s a ≡ assertion_tree p f s a
  same_tree (Pure e) k = ap (option_and_then truth_leaf) (plain_value p ap' no_applications s s (itself s) e k)
  same_tree (Points at e x share) k = ap (option_and_then (location_leaf p s.heap x)) (plain_value p ap' no_applications s s (itself s) e k.0)
  same_tree (syntax.Instance at i es share) k = ap (option_and_then (λ vs. f record { predicate = i; arguments = vs })) (plain_values p ap' no_applications s s (itself s) es k.0)
  same_tree (Both a b) k = ap₂ (λ (o m : Option Tree). option_and_then (λ t. option_and_then (λ u. Some (Pair t u)) m) o) (same_tree a k.0) (same_tree b k.1)
  same_tree (Implied c a) k = ap₂ (λ (o : Option Value) (m : Option Tree). option_and_then (λ v. choose v m (Some Empty)) o) (plain_value p ap' no_applications s s (itself s) c k.0) (same_tree a k.1)
  same_tree (Chosen c a b) k =
      ap₂ (λ (o : Option Value) (m : Option Tree). option_and_then (λ v. choose v m (asking_tree p ap' f s b)) o) (plain_value p ap' no_applications s s (itself s) c k.0) (same_tree a k.1)
      ∙ ap (λ (m : Option Tree). option_and_then (λ v. choose v (assertion_tree p f s a) m) (value p no_applications s c)) (same_tree b k.2)

module _ (p : Program) (ap' : Applications) (s : State) where
  pub same_entries : (a : Assertion) → IsPlainBody p Rigid a → asking_entries p ap' s a ≡ entries p s a
  same_entries (Pure e) k = ap (option_and_then (λ v. cond (is_true v) (Some []) None)) (plain_value p ap' no_applications s s (itself s) e k)
  same_entries (Points at e x share) k = ap (option_and_then (λ r. option_and_then (location_entry x r) (value p no_applications s share))) (plain_value p ap' no_applications s s (itself s) e k.0)
  same_entries (syntax.Instance at i es share) k = ap (option_and_then (λ vs. option_and_then (instance_entry i vs) (value p no_applications s share))) (plain_values p ap' no_applications s s (itself s) es k.0)
  same_entries (Both a b) k = ap₂ (λ (o m : Option Holdings). option_and_then (λ xs. option_and_then (λ ys. Some (xs ++ ys)) m) o) (same_entries a k.0) (same_entries b k.1)
  same_entries (Implied c a) k = ap₂ (λ (o : Option Value) (m : Option Holdings). option_and_then (λ v. choose v m (Some [])) o) (plain_value p ap' no_applications s s (itself s) c k.0) (same_entries a k.1)
  same_entries (Chosen c a b) k =
      ap₂ (λ (o : Option Value) (m : Option Holdings). option_and_then (λ v. choose v m (asking_entries p ap' s b)) o) (plain_value p ap' no_applications s s (itself s) c k.0) (same_entries a k.1)
      ∙ ap (λ (m : Option Holdings). option_and_then (λ v. choose v (entries p s a) m) (value p no_applications s c)) (same_entries b k.2)

-- What applies nothing says whatever may be said.

module _ (May : Name → syntax.Exprs → Type 0) where
  mutual
    pub plain_says : (e : syntax.Expr) → IsPlain e → Says May e
    plain_says (syntax.Number at n) k = tt
    plain_says (syntax.Truth at b) k = tt
    plain_says (syntax.Null at) k = tt
    plain_says (syntax.Part at n m) k = tt
    plain_says (syntax.Variable at x) k = tt
    plain_says (syntax.Not at e) k = plain_says e k
    plain_says (syntax.Operate at op a b) k = (plain_says a k.0, plain_says b k.1)
    plain_says (syntax.Divide at op a b) k = (plain_says a k.0, plain_says b k.1)
    plain_says (syntax.Connect at c a b) k = (plain_says a k.0, plain_says b k.1)
    plain_says (syntax.Choose at c a b) k = (plain_says c k.0, plain_says a k.1, plain_says b k.2)
    plain_says (syntax.Read at e f) k = plain_says e k
    plain_says (syntax.Old at e) k = absurd k
    plain_says (syntax.Apply at f es) k = absurd k
    plain_says (syntax.Unfolding at i es share e) k = (all_plain_say es k.0, plain_says share k.1, plain_says e k.2)

    pub all_plain_say : (es : syntax.Exprs) → ArePlain es → AllSay May es
    all_plain_say syntax.NoMore k = tt
    all_plain_say (syntax.More e es) k = (plain_says e k.0, all_plain_say es k.1)

module _ (p : Program) where
  plain_rigid : (i : Name) (es : syntax.Exprs) → ArePlain es → ((s : State) (vs : List Value) → Rigid s → values p no_applications s es ≡ Some vs → AreRigid vs) → HasRigidArguments p i es
  plain_rigid i es k h n s vs rigid e = h s vs rigid (sym (plain_values p (applications p n) no_applications s s (itself s) es k) ∙ e)

  plain_amount : (share : syntax.Expr) → IsAmount p share → IsAskingAmount p share
  plain_amount share k = record {
    says = plain_says (HasRigidArguments p) share k.plain;
    amount = k.amount;
    above = k.above;
    value_is = λ ap' s. plain_value p ap' no_applications s s (itself s) share k.plain ∙ k.value_is s;
  }

  pub plain_asks : (a : Assertion) → IsPlainBody p Rigid a → IsAsking p a
  plain_asks (Pure e) k = plain_says (HasRigidArguments p) e k
  plain_asks (Points at e x share) k = (plain_says (HasRigidArguments p) e k.0, plain_amount share k.1)
  plain_asks (syntax.Instance at i es share) k = (all_plain_say (HasRigidArguments p) es k.0, plain_amount share k.1, plain_rigid i es k.0 k.2)
  plain_asks (Both a b) k = (plain_asks a k.0, plain_asks b k.1)
  plain_asks (Implied c a) k = (plain_says (HasRigidArguments p) c k.0, plain_asks a k.1)
  plain_asks (Chosen c a b) k = (plain_says (HasRigidArguments p) c k.0, plain_asks a k.1, plain_asks b k.2)

-- More is defined

chosen_more : {A : Type 0} (v : Value) (x y z w : Option A) (a : A) → (x ≡ Some a → z ≡ Some a) → (y ≡ Some a → w ≡ Some a) → choose v x y ≡ Some a → choose v z w ≡ Some a
chosen_more (BoolValue true) x y z w a h k e = h e
chosen_more (BoolValue false) x y z w a h k e = k e
chosen_more (IntValue n) x y z w a h k e = e
chosen_more (RefValue r) x y z w a h k e = e
chosen_more (PermValue q) x y z w a h k e = e

module _ (p : Program) (ap' more : Applications) (covers : fuel.Covers ap' more) (f g : Instance → Option Tree) (h : Covers f g) (s : State) where
  pub asking_more : (a : Assertion) (t : Tree) → asking_tree p ap' f s a ≡ Some t → asking_tree p more g s a ≡ Some t
  asking_more (Pure e) t eq =
      let y = came (value p ap' s e) truth_leaf t eq in
      step truth_leaf y.it (value_more p ap' more covers s e y.it y.is) ∙ y.then
  asking_more (Points at e x share) t eq =
      let y = came (value p ap' s e) (location_leaf p s.heap x) t eq in
      step (location_leaf p s.heap x) y.it (value_more p ap' more covers s e y.it y.is) ∙ y.then
  asking_more (syntax.Instance at i es share) t eq =
      let y = came (values p ap' s es) (λ vs. f record { predicate = i; arguments = vs }) t eq in
      step (λ vs. g record { predicate = i; arguments = vs }) y.it (values_more p ap' more covers s es y.it y.is) ∙ h record { predicate = i; arguments = y.it } t y.then
  asking_more (Both a b) t eq =
      let y = came (asking_tree p ap' f s a) (λ t. option_and_then (λ u. Some (Pair t u)) (asking_tree p ap' f s b)) t eq in
      let z = came (asking_tree p ap' f s b) (λ u. Some (Pair y.it u)) t y.then in
      step (λ t. option_and_then (λ u. Some (Pair t u)) (asking_tree p more g s b)) y.it (asking_more a y.it y.is)
      ∙ step (λ u. Some (Pair y.it u)) z.it (asking_more b z.it z.is)
      ∙ z.then
  asking_more (Implied c a) t eq =
      let y = came (value p ap' s c) (λ v. choose v (asking_tree p ap' f s a) (Some Empty)) t eq in
      step (λ v. choose v (asking_tree p more g s a) (Some Empty)) y.it (value_more p ap' more covers s c y.it y.is)
      ∙ chosen_more y.it (asking_tree p ap' f s a) (Some Empty) (asking_tree p more g s a) (Some Empty) t (asking_more a t) (λ e. e) y.then
  asking_more (Chosen c a b) t eq =
      let y = came (value p ap' s c) (λ v. choose v (asking_tree p ap' f s a) (asking_tree p ap' f s b)) t eq in
      step (λ v. choose v (asking_tree p more g s a) (asking_tree p more g s b)) y.it (value_more p ap' more covers s c y.it y.is)
      ∙ chosen_more y.it (asking_tree p ap' f s a) (asking_tree p ap' f s b) (asking_tree p more g s a) (asking_tree p more g s b) t (asking_more a t) (asking_more b t) y.then

  pub entries_more : (a : Assertion) (es : Holdings) → asking_entries p ap' s a ≡ Some es → asking_entries p more s a ≡ Some es
  entries_more (Pure e) es eq =
      let on = λ (v : Value). cond (is_true v) (Some []) None in
      let y = came (value p ap' s e) on es eq in
      step on y.it (value_more p ap' more covers s e y.it y.is) ∙ y.then
  entries_more (Points at e x share) es eq =
      let on = λ (r : Value). option_and_then (location_entry x r) (value p no_applications s share) in
      let y = came (value p ap' s e) on es eq in
      step on y.it (value_more p ap' more covers s e y.it y.is) ∙ y.then
  entries_more (syntax.Instance at i xs share) es eq =
      let on = λ (vs : List Value). option_and_then (instance_entry i vs) (value p no_applications s share) in
      let y = came (values p ap' s xs) on es eq in
      step on y.it (values_more p ap' more covers s xs y.it y.is) ∙ y.then
  entries_more (Both a b) es eq =
      let y = came (asking_entries p ap' s a) (λ xs. option_and_then (λ ys. Some (xs ++ ys)) (asking_entries p ap' s b)) es eq in
      let z = came (asking_entries p ap' s b) (λ ys. Some (y.it ++ ys)) es y.then in
      step (λ xs. option_and_then (λ ys. Some (xs ++ ys)) (asking_entries p more s b)) y.it (entries_more a y.it y.is)
      ∙ step (λ ys. Some (y.it ++ ys)) z.it (entries_more b z.it z.is)
      ∙ z.then
  entries_more (Implied c a) es eq =
      let y = came (value p ap' s c) (λ v. choose v (asking_entries p ap' s a) (Some [])) es eq in
      step (λ v. choose v (asking_entries p more s a) (Some [])) y.it (value_more p ap' more covers s c y.it y.is)
      ∙ chosen_more y.it (asking_entries p ap' s a) (Some []) (asking_entries p more s a) (Some []) es (entries_more a es) (λ e. e) y.then
  entries_more (Chosen c a b) es eq =
      let y = came (value p ap' s c) (λ v. choose v (asking_entries p ap' s a) (asking_entries p ap' s b)) es eq in
      step (λ v. choose v (asking_entries p more s a) (asking_entries p more s b)) y.it (value_more p ap' more covers s c y.it y.is)
      ∙ chosen_more y.it (asking_entries p ap' s a) (asking_entries p ap' s b) (asking_entries p more s a) (asking_entries p more s b) es (entries_more a es) (entries_more b es) y.then

module _ (p : Program) where
  pub entries_later : (k n : ℕ) (s : State) (a : Assertion) (es : Holdings) → asking_entries p (applications p n) s a ≡ Some es → asking_entries p (applications p (k + n)) s a ≡ Some es
  entries_later k n s a es e = entries_more p (applications p n) (applications p (k + n)) (applications_later p k n) (λ i. None) (λ i. None) (λ i t e. e) s a es e

  -- two amounts of fuel that suffice give the same entries
  pub one_named : (n m : ℕ) (s : State) (a : Assertion) (xs ys : Holdings) → asking_entries p (applications p n) s a ≡ Some xs → asking_entries p (applications p m) s a ≡ Some ys → xs ≡ ys
  one_named n m s a xs ys e f =
      let z : m + n ≡ n + m = omega arith in
      same_Some xs ys (sym (entries_later m n s a xs e) ∙ ap (λ (k : ℕ). asking_entries p (applications p k) s a) z ∙ entries_later n m s a ys f)

  pub asking_later : (k n : ℕ) (s : State) (a : Assertion) (t : Tree) → asking_tree p (applications p n) (tree_by p n s.heap) s a ≡ Some t → asking_tree p (applications p (k + n)) (tree_by p (k + n) s.heap) s a ≡ Some t
  asking_later k n s a t e = asking_more p (applications p n) (applications p (k + n)) (applications_later p k n) (tree_by p n s.heap) (tree_by p (k + n) s.heap) (tree_later p k n s.heap) s a t e

  pub asking_single : (a : Assertion) (s : State) (t u : Tree) → IsAskingTreeOf p s a t → IsAskingTreeOf p s a u → t ≡ u
  asking_single a s t u x y =
      let z : y.0 + x.0 ≡ x.0 + y.0 = omega arith in
      same_Some t u (sym (asking_later y.0 x.0 s a t x.1) ∙ ap (λ (k : ℕ). asking_tree p (applications p k) (tree_by p k s.heap) s a) z ∙ asking_later x.0 y.0 s a u y.1)
