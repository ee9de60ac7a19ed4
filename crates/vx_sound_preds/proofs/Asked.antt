-- What is read of an assertion that may apply functions: it doesn't look at what is held, its entries are above none, and a condition
-- that has its value by some fuel has it by more.
use Rattle.std.proofs.Common.{◌≡◌, ℕ, ◌+◌, cond, List, [], ◌∷◌, ◌++◌, Option, Some, None, sym, ◌∙◌, ap, ap₂, subst, le_refl, arith}
use Rattle.std.specs.Prelude.{Ok, option_and_then}
use Rattle.std.proofs.lemmas.Option.{same_Some}
use Rattle.vx_ast.specs.declared.Place.{Place}
use Rattle.vx_ast.specs.Syntax.{Name, Program, Expr, Exprs, Assertion, Pure, Points, Both, Implied, Chosen}
use Rattle.vx_ast.specs.Syntax as syntax
use Rattle.vx_terms.specs.Interpretations.{Tree, Empty, Pair}
use Rattle.vx_meaning.specs.Values.{Value, PermValue, is_true}
use Rattle.vx_meaning.specs.States.{State, Holdings, Instance, Folded, with_holdings}
use Rattle.vx_meaning.specs.Evaluate.{Applications, choose, applications, value, values}
use Rattle.vx_meaning.specs.Flatten.{no_applications, location_entry, instance_entry}
use Rattle.vx_meaning.specs.Fits.{Eventually, Fits, fit_all, deeper}
use Rattle.vx_amounts.proofs.Amounts.{Positive}
use Rattle.vx_sound.specs.Snapshots.{location_leaf, truth_leaf, tree_by, IsTree}
use Rattle.vx_sound.proofs.Fuel.{value_more, values_more, applications_later}
use Rattle.vx_sound.proofs.Stripped.{value_stripped, values_stripped, applies_stripped, fit_worth}
use Rattle.vx_sound.proofs.Evaluated.{known, all_known}
use Rattle.vx_sound.proofs.Speaks.{SpeaksOf}
use Rattle.vx_sound_preds.specs.Asking.{asking_tree, asking_entries, IsAskingTreeOf, IsAskingAmount, IsAsking}
use Rattle.vx_sound_preds.proofs.Fitting.{step}
use Rattle.vx_sound_preds.proofs.Flats.{came, tree_later}
use Rattle.vx_sound_preds.proofs.Frames.{AllPositive, location_positive, append_positive, chosen_positive, empty_positive, truth_positive}
use Rattle.vx_sound_preds.proofs.Same.{entries_later, asking_later}

-- the instances that an assertion names are of these predicates
abbrev pub AsksFor : (Name → Type 0) → Assertion → Type 0
AsksFor Held (Pure e) = Unit {0}
AsksFor Held (Points at e f share) = Unit {0}
AsksFor Held (syntax.Instance at i es share) = Held i
AsksFor Held (Both a b) = AsksFor Held a × AsksFor Held b
AsksFor Held (Implied c a) = AsksFor Held a
AsksFor Held (Chosen c a b) = AsksFor Held a × AsksFor Held b

pub speaks_for : (Held Applied : Name → Type 0) (a : Assertion) → SpeaksOf Held Applied a → AsksFor Held a
speaks_for Held Applied (Pure e) k = tt
speaks_for Held Applied (Points at e f share) k = tt
speaks_for Held Applied (syntax.Instance at i es share) k = k.0
speaks_for Held Applied (Both a b) k = (speaks_for Held Applied a k.0, speaks_for Held Applied b k.1)
speaks_for Held Applied (Implied c a) k = speaks_for Held Applied a k.1
speaks_for Held Applied (Chosen c a b) k = (speaks_for Held Applied a k.1, speaks_for Held Applied b k.2)

-- an asking amount is above none
pub above : {p : Program} {share : Expr} (k : IsAskingAmount p share) → Positive k.amount
above k = record { holds = k.above }

-- What is read by way of the value of an expression that fits is read by way of this value, whatever the fuel.

module _ (p : Program) (c : State) where
  pub read_of : {B : Type 0} (e : Expr) (v : Value) → Fits p c e v → (m : ℕ) (f : Value → Option B) (b : B) → option_and_then f (value p (applications p m) c e) ≡ Some b → f v ≡ Some b
  read_of e v fits m f b eq =
      let y = came (value p (applications p m) c e) f b eq in
      subst (λ (w : Value). f w ≡ Some b) (known p c e v fits m y.it y.is) y.then

  pub read_all : {B : Type 0} (es : Exprs) (vs : List Value) → Eventually (λ n. fit_all p (deeper p n) c es ≡ Ok vs) → (m : ℕ) (f : List Value → Option B) (b : B) → option_and_then f (values p (applications p m) c es) ≡ Some b → f vs ≡ Some b
  read_all es vs fits m f b eq =
      let y = came (values p (applications p m) c es) f b eq in
      subst (λ (ws : List Value). f ws ≡ Some b) (all_known p c es vs fits m y.it y.is) y.then

  -- an amount that fits is the one fraction that it is, also where nothing is applied
  pub share_worth : (share : Expr) (v : Value) → IsAskingAmount p share → Fits p c share v → value p no_applications c share ≡ Some v
  share_worth share v k f = k.value_is no_applications c ∙ sym (k.value_is (applications p f.0) c) ∙ fit_worth p f.0 c share v (f.1 f.0 (le_refl f.0))

-- Values, trees and entries don't look at what is held.

module _ (p : Program) (n : ℕ) (hs : Holdings) (s : State) where
  pub held_value : (e : Expr) → value p (applications p n) (with_holdings hs s) e ≡ value p (applications p n) s e
  held_value e = value_stripped p n (applies_stripped p n) (with_holdings hs s) e ∙ sym (value_stripped p n (applies_stripped p n) s e)

  pub held_values : (es : Exprs) → values p (applications p n) (with_holdings hs s) es ≡ values p (applications p n) s es
  held_values es = values_stripped p n (applies_stripped p n) (with_holdings hs s) es ∙ sym (values_stripped p n (applies_stripped p n) s es)

  pub held_tree : (f : Instance → Option Tree) (a : Assertion) → asking_tree p (applications p n) f (with_holdings hs s) a ≡ asking_tree p (applications p n) f s a
  held_tree f (Pure e) = ap (option_and_then truth_leaf) (held_value e)
  held_tree f (Points at e x share) = ap (option_and_then (location_leaf p s.heap x)) (held_value e)
  held_tree f (syntax.Instance at i es share) = ap (option_and_then (λ vs. f record { predicate = i; arguments = vs })) (held_values es)
  held_tree f (Both a b) = ap₂ (λ (o m : Option Tree). option_and_then (λ t. option_and_then (λ u. Some (Pair t u)) m) o) (held_tree f a) (held_tree f b)
  held_tree f (Implied c a) = ap₂ (λ (o : Option Value) (m : Option Tree). option_and_then (λ v. choose v m (Some Empty)) o) (held_value c) (held_tree f a)
  held_tree f (Chosen c a b) =
      ap₂ (λ (o : Option Value) (m : Option Tree). option_and_then (λ v. choose v m (asking_tree p (applications p n) f (with_holdings hs s) b)) o) (held_value c) (held_tree f a)
      ∙ ap (λ (m : Option Tree). option_and_then (λ v. choose v (asking_tree p (applications p n) f s a) m) (value p (applications p n) s c)) (held_tree f b)

  -- an amount is one fraction in every state
  share_held : (share : Expr) → IsAskingAmount p share → value p no_applications (with_holdings hs s) share ≡ value p no_applications s share
  share_held share k = k.value_is no_applications (with_holdings hs s) ∙ sym (k.value_is no_applications s)

  pub held_entries : (a : Assertion) → IsAsking p a → asking_entries p (applications p n) (with_holdings hs s) a ≡ asking_entries p (applications p n) s a
  held_entries (Pure e) k = ap (option_and_then (λ v. cond (is_true v) (Some []) None)) (held_value e)
  held_entries (Points at e f share) k = ap₂ (λ (o m : Option Value). option_and_then (λ r. option_and_then (location_entry f r) m) o) (held_value e) (share_held share k.1)
  held_entries (syntax.Instance at i es share) k = ap₂ (λ (o : Option (List Value)) (m : Option Value). option_and_then (λ vs. option_and_then (instance_entry i vs) m) o) (held_values es) (share_held share k.1)
  held_entries (Both a b) k = ap₂ (λ (o m : Option Holdings). option_and_then (λ xs. option_and_then (λ ys. Some (xs ++ ys)) m) o) (held_entries a k.0) (held_entries b k.1)
  held_entries (Implied c a) k = ap₂ (λ (o : Option Value) (m : Option Holdings). option_and_then (λ v. choose v m (Some [])) o) (held_value c) (held_entries a k.1)
  held_entries (Chosen c a b) k =
      ap₂ (λ (o : Option Value) (m : Option Holdings). option_and_then (λ v. choose v m (asking_entries p (applications p n) (with_holdings hs s) b)) o) (held_value c) (held_entries a k.1)
      ∙ ap (λ (m : Option Holdings). option_and_then (λ v. choose v (asking_entries p (applications p n) s a) m) (value p (applications p n) s c)) (held_entries b k.2)

-- Entries are above none.

module _ (p : Program) (ap' : Applications) (s : State) where
  pub asking_positive : (a : Assertion) (es : Holdings) → IsAsking p a → asking_entries p ap' s a ≡ Some es → AllPositive es
  asking_positive (Pure e) es k eq =
      let y = came (value p ap' s e) (λ v. cond (is_true v) (Some []) None) es eq in
      truth_positive p (is_true y.it) es y.then
  asking_positive (Points at e f share) es k eq =
      let y = came (value p ap' s e) (λ r. option_and_then (location_entry f r) (value p no_applications s share)) es eq in
      location_positive p f y.it k.1.amount es (above k.1) (sym (step (location_entry f y.it) (PermValue k.1.amount) (k.1.value_is no_applications s)) ∙ y.then)
  asking_positive (syntax.Instance at i xs share) es k eq =
      let y = came (values p ap' s xs) (λ vs. option_and_then (instance_entry i vs) (value p no_applications s share)) es eq in
      let e = sym (step (instance_entry i y.it) (PermValue k.1.amount) (k.1.value_is no_applications s)) ∙ y.then in
      subst AllPositive (same_Some ((Folded record { predicate = i; arguments = y.it }, k.1.amount) ∷ []) es e) (above k.1, tt)
  asking_positive (Both a b) es k eq =
      let y = came (asking_entries p ap' s a) (λ xs. option_and_then (λ ys. Some (xs ++ ys)) (asking_entries p ap' s b)) es eq in
      let z = came (asking_entries p ap' s b) (λ ys. Some (y.it ++ ys)) es y.then in
      subst AllPositive (same_Some (y.it ++ z.it) es z.then) (append_positive p y.it z.it (asking_positive a y.it k.0 y.is) (asking_positive b z.it k.1 z.is))
  asking_positive (Implied c a) es k eq =
      let y = came (value p ap' s c) (λ v. choose v (asking_entries p ap' s a) (Some [])) es eq in
      chosen_positive p y.it (asking_entries p ap' s a) (Some []) es (asking_positive a es k.1) (empty_positive p es) y.then
  asking_positive (Chosen c a b) es k eq =
      let y = came (value p ap' s c) (λ v. choose v (asking_entries p ap' s a) (asking_entries p ap' s b)) es eq in
      chosen_positive p y.it (asking_entries p ap' s a) (asking_entries p ap' s b) es (asking_positive a es k.1) (asking_positive b es k.2) y.then

-- The asking tree of a pair, and of a side

swap : (a b : ℕ) → b + a ≡ a + b
swap a b = omega arith

module _ (p : Program) (c : State) where
  pub both_trees : (a b : Assertion) (t u : Tree) → IsAskingTreeOf p c a t → IsAskingTreeOf p c b u → IsAskingTreeOf p c (Both a b) (Pair t u)
  both_trees a b t u x y =
      let left : asking_tree p (applications p (x.0 + y.0)) (tree_by p (x.0 + y.0) c.heap) c a ≡ Some t = subst (λ (m : ℕ). asking_tree p (applications p m) (tree_by p m c.heap) c a ≡ Some t) (swap x.0 y.0) (asking_later p y.0 x.0 c a t x.1) in
      let right = asking_later p x.0 y.0 c b u y.1 in (
        x.0 + y.0,
        step (λ t. option_and_then (λ u. Some (Pair t u)) (asking_tree p (applications p (x.0 + y.0)) (tree_by p (x.0 + y.0) c.heap) c b)) t left ∙ step (λ u. Some (Pair t u)) u right,
      )

  -- a condition that has its value by n has it by more
  pub by_more : (n k : ℕ) (e : Expr) (v : Value) → value p (applications p n) c e ≡ Some v → value p (applications p (n + k)) c e ≡ Some v
  by_more n k e v h = subst (λ (m : ℕ). value p (applications p m) c e ≡ Some v) (swap n k) (value_more p (applications p n) (applications p (k + n)) (applications_later p k n) c e v h)

  pub condition_tree : (a b : Assertion) (e : Expr) (v : Value) (n : ℕ) (t : Tree) → value p (applications p n) c e ≡ Some v →
      ((m : ℕ) → value p (applications p m) c e ≡ Some v → asking_tree p (applications p m) (tree_by p m c.heap) c b ≡ asking_tree p (applications p m) (tree_by p m c.heap) c a) → IsAskingTreeOf p c a t → IsAskingTreeOf p c b t
  condition_tree a b e v n t h same x = (n + x.0, same (n + x.0) (by_more n x.0 e v h) ∙ asking_later p n x.0 c a t x.1)

  pub all_by_more : (n k : ℕ) (es : Exprs) (vs : List Value) → values p (applications p n) c es ≡ Some vs → values p (applications p (n + k)) c es ≡ Some vs
  all_by_more n k es vs h = subst (λ (m : ℕ). values p (applications p m) c es ≡ Some vs) (swap n k) (values_more p (applications p n) (applications p (k + n)) (applications_later p k n) c es vs h)

  -- the asking tree of an instance is that of what is inside it
  pub instance_tree : (at : Place) (i : Name) (es : Exprs) (share : Expr) (vs : List Value) (n : ℕ) (t : Tree) → values p (applications p n) c es ≡ Some vs → IsTree p c.heap (record { predicate = i; arguments = vs }) t → IsAskingTreeOf p c (syntax.Instance at i es share) t
  instance_tree at i es share vs n t h (m, is) = (
    n + m,
    step (λ vs. tree_by p (n + m) c.heap record { predicate = i; arguments = vs }) vs (all_by_more n m es vs h) ∙ tree_later p n m c.heap record { predicate = i; arguments = vs } t is,
  )

  -- and the entries
  pub both_entries : (a b : Assertion) (n m : ℕ) (xs ys : Holdings) → asking_entries p (applications p n) c a ≡ Some xs → asking_entries p (applications p m) c b ≡ Some ys → asking_entries p (applications p (n + m)) c (Both a b) ≡ Some (xs ++ ys)
  both_entries a b n m xs ys x y =
      let left : asking_entries p (applications p (n + m)) c a ≡ Some xs = subst (λ (k : ℕ). asking_entries p (applications p k) c a ≡ Some xs) (swap n m) (entries_later p m n c a xs x) in
      step (λ xs. option_and_then (λ ys. Some (xs ++ ys)) (asking_entries p (applications p (n + m)) c b)) xs left ∙ step (λ ys. Some (xs ++ ys)) ys (entries_later p n m c b ys y)

  pub condition_entries : (a b : Assertion) (e : Expr) (v : Value) (n m : ℕ) (es : Holdings) → value p (applications p n) c e ≡ Some v →
      ((k : ℕ) → value p (applications p k) c e ≡ Some v → asking_entries p (applications p k) c b ≡ asking_entries p (applications p k) c a) → asking_entries p (applications p m) c a ≡ Some es → asking_entries p (applications p (n + m)) c b ≡ Some es
  condition_entries a b e v n m es h same x = same (n + m) (by_more n m e v h) ∙ entries_later p n m c a es x
