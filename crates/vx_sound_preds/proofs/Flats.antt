-- What lies inside an instance, and the tree of its values, are the same for all fuel that suffices.
use Rattle.std.proofs.Common.{◌≡◌, ℕ, zero, suc, ◌+◌, true, false, List, [], ◌∷◌, ◌++◌, Option, Some, None, refl, sym, ◌∙◌, ap, subst, arith}
use Rattle.std.specs.Prelude.{option_and_then}
use Rattle.std.proofs.lemmas.Option.{same_Some}
use Rattle.vx_ast.specs.Syntax.{Program, Predicate, Assertion, Pure, Points, Both, Implied, Chosen, predicate_named}
use Rattle.vx_ast.specs.Syntax as syntax
use Rattle.vx_frac.specs.Fractions.{Fraction}
use Rattle.vx_meaning.specs.Values.{Value, IntValue, BoolValue, RefValue, PermValue}
use Rattle.vx_meaning.specs.States.{State, Heap, Holdings, Instance, Resource, At, Folded, scaled, bind}
use Rattle.vx_meaning.specs.Evaluate.{choose, value, values}
use Rattle.vx_meaning.specs.Flatten.{no_applications, bare, body_entries, within, with_inner, flat}
use Rattle.vx_terms.specs.Interpretations.{Tree, Empty, Pair}
use Rattle.vx_sound.specs.Snapshots.{assertion_tree, body_tree, tree_by, IsTree}
use Rattle.vx_sound_preds.proofs.Fitting.{step}

-- Undoing options

pub record After {A B : Type 0} (o : Option A) (f : A → Option B) (b : B) : Type 0 where
  pub it : A
  pub is : o ≡ Some it
  pub then : f it ≡ Some b

nothing : {A : Type 0} (a : A) → ◌≡◌ {A = Option A} None (Some a) → ⊥
nothing a e = cc

pub came : {A B : Type 0} (o : Option A) (f : A → Option B) (b : B) → option_and_then f o ≡ Some b → After o f b
came (Some a) f b e = record { it = a; is = refl; then = e }
came None f b e = absurd (nothing b e)

-- More is defined

abbrev pub Covers : {A : Type 0} → (f g : Instance → Option A) → Type 0
Covers {A = A} f g = (i : Instance) (a : A) → f i ≡ Some a → g i ≡ Some a

pub within_more : (f g : Instance → Option Holdings) → Covers f g → (r : Resource) (q : Fraction) (x : Holdings) → within f r q ≡ Some x → within g r q ≡ Some x
within_more f g h (At l) q x e = e
within_more f g h (Folded i) q x e =
    let y = came (f i) (λ inner. Some (scaled q inner)) x e in
    step (λ inner. Some (scaled q inner)) y.it (h i y.it y.is) ∙ y.then

pub inner_more : (f g : Instance → Option Holdings) → Covers f g → (es x : Holdings) → with_inner f es ≡ Some x → with_inner g es ≡ Some x
inner_more f g h [] x e = e
inner_more f g h (a ∷ rest) x e =
    let y = came (within f a.0 a.1) (λ inner. option_and_then (λ more. Some (a ∷ (inner ++ more))) (with_inner f rest)) x e in
    let z = came (with_inner f rest) (λ more. Some (a ∷ (y.it ++ more))) x y.then in
    step (λ inner. option_and_then (λ more. Some (a ∷ (inner ++ more))) (with_inner g rest)) y.it (within_more f g h a.0 a.1 y.it y.is)
    ∙ step (λ more. Some (a ∷ (y.it ++ more))) z.it (inner_more f g h rest z.it z.is)
    ∙ z.then

pub flat_more : (p : Program) (n : ℕ) (h : Heap) → Covers (flat p n h) (flat p (suc n) h)
flat_more p zero h i x e = absurd (nothing x e)
flat_more p (suc n) h i x e =
    let y = came (predicate_named p i.predicate) (λ d. option_and_then (with_inner (flat p n h)) (body_entries p h i.arguments d)) x e in
    let z = came (body_entries p h i.arguments y.it) (with_inner (flat p n h)) x y.then in
    step (λ d. option_and_then (with_inner (flat p (suc n) h)) (body_entries p h i.arguments d)) y.it y.is
    ∙ step (with_inner (flat p (suc n) h)) z.it z.is
    ∙ inner_more (flat p n h) (flat p (suc n) h) (flat_more p n h) z.it x z.then

pub flat_later : (p : Program) (k n : ℕ) (h : Heap) → Covers (flat p n h) (flat p (k + n) h)
flat_later p zero n h i x e = let z : n ≡ zero + n = omega arith in subst (λ m. flat p m h i ≡ Some x) z e
flat_later p (suc k) n h i x e = let z : suc (k + n) ≡ suc k + n = omega arith in subst (λ m. flat p m h i ≡ Some x) z (flat_more p (k + n) h i x (flat_later p k n h i x e))

-- two amounts of fuel that suffice give the same
pub flat_single : (p : Program) (m n : ℕ) (h : Heap) (i : Instance) (x y : Holdings) → flat p m h i ≡ Some x → flat p n h i ≡ Some y → x ≡ y
flat_single p m n h i x y e f =
    let z : n + m ≡ m + n = omega arith in same_Some x y (sym (flat_later p n m h i x e) ∙ ap (λ k. flat p k h i) z ∙ flat_later p m n h i y f)

-- The same of trees

chosen_more : {A : Type 0} (v : Value) (x y z w : Option A) (a : A) → (x ≡ Some a → z ≡ Some a) → (y ≡ Some a → w ≡ Some a) → choose v x y ≡ Some a → choose v z w ≡ Some a
chosen_more (BoolValue true) x y z w a h k e = h e
chosen_more (BoolValue false) x y z w a h k e = k e
chosen_more (IntValue n) x y z w a h k e = e
chosen_more (RefValue r) x y z w a h k e = e
chosen_more (PermValue q) x y z w a h k e = e

pub assertion_more : (p : Program) (f g : Instance → Option Tree) → Covers f g → (s : State) (a : Assertion) (t : Tree) → assertion_tree p f s a ≡ Some t → assertion_tree p g s a ≡ Some t
assertion_more p f g h s (Pure e) t eq = eq
assertion_more p f g h s (Points at e x share) t eq = eq
assertion_more p f g h s (syntax.Instance at i es share) t eq =
    let y = came (values p no_applications s es) (λ vs. f record { predicate = i; arguments = vs }) t eq in
    step (λ vs. g record { predicate = i; arguments = vs }) y.it y.is ∙ h record { predicate = i; arguments = y.it } t y.then
assertion_more p f g h s (Both a b) t eq =
    let y = came (assertion_tree p f s a) (λ t. option_and_then (λ u. Some (Pair t u)) (assertion_tree p f s b)) t eq in
    let z = came (assertion_tree p f s b) (λ u. Some (Pair y.it u)) t y.then in
    step (λ t. option_and_then (λ u. Some (Pair t u)) (assertion_tree p g s b)) y.it (assertion_more p f g h s a y.it y.is)
    ∙ step (λ u. Some (Pair y.it u)) z.it (assertion_more p f g h s b z.it z.is)
    ∙ z.then
assertion_more p f g h s (Implied c a) t eq =
    let y = came (value p no_applications s c) (λ v. choose v (assertion_tree p f s a) (Some Empty)) t eq in
    step (λ v. choose v (assertion_tree p g s a) (Some Empty)) y.it y.is
    ∙ chosen_more y.it (assertion_tree p f s a) (Some Empty) (assertion_tree p g s a) (Some Empty) t (assertion_more p f g h s a t) (λ e. e) y.then
assertion_more p f g h s (Chosen c a b) t eq =
    let y = came (value p no_applications s c) (λ v. choose v (assertion_tree p f s a) (assertion_tree p f s b)) t eq in
    step (λ v. choose v (assertion_tree p g s a) (assertion_tree p g s b)) y.it y.is
    ∙ chosen_more y.it (assertion_tree p f s a) (assertion_tree p f s b) (assertion_tree p g s a) (assertion_tree p g s b) t (assertion_more p f g h s a t) (assertion_more p f g h s b t) y.then

pub body_more : (p : Program) (f g : Instance → Option Tree) → Covers f g → (h : Heap) (vs : List Value) (d : Predicate) (b : Option Assertion) → d.body ≡ b → (t : Tree) → body_tree p f h vs d ≡ Some t → body_tree p g h vs d ≡ Some t
body_more p f g c h vs d b is t e = go d.body e
  where
    side : (Instance → Option Tree) → Option Assertion → Option Tree
    side f None = Some Empty
    side f (Some a) = assertion_tree p f (bare (bind d.parameters vs) h) a

    go : (b : Option Assertion) → side f b ≡ Some t → side g b ≡ Some t
    go None e = e
    go (Some a) e = assertion_more p f g c (bare (bind d.parameters vs) h) a t e

pub tree_more : (p : Program) (n : ℕ) (h : Heap) → Covers (tree_by p n h) (tree_by p (suc n) h)
tree_more p zero h i x e = absurd (nothing x e)
tree_more p (suc n) h i x e =
    let y = came (predicate_named p i.predicate) (λ d. body_tree p (tree_by p n h) h i.arguments d) x e in
    step (λ d. body_tree p (tree_by p (suc n) h) h i.arguments d) y.it y.is
    ∙ body_more p (tree_by p n h) (tree_by p (suc n) h) (tree_more p n h) h i.arguments y.it y.it.body refl x y.then

pub tree_later : (p : Program) (k n : ℕ) (h : Heap) → Covers (tree_by p n h) (tree_by p (k + n) h)
tree_later p zero n h i x e = let z : n ≡ zero + n = omega arith in subst (λ m. tree_by p m h i ≡ Some x) z e
tree_later p (suc k) n h i x e = let z : suc (k + n) ≡ suc k + n = omega arith in subst (λ m. tree_by p m h i ≡ Some x) z (tree_more p (k + n) h i x (tree_later p k n h i x e))

-- an instance has one tree at most; so snapshots of one instance agree
pub tree_single : (p : Program) (h : Heap) (i : Instance) (t u : Tree) → IsTree p h i t → IsTree p h i u → t ≡ u
tree_single p h i t u a b =
    let z : b.0 + a.0 ≡ a.0 + b.0 = omega arith in same_Some t u (sym (tree_later p b.0 a.0 h i t a.1) ∙ ap (λ k. tree_by p k h i) z ∙ tree_later p a.0 b.0 h i u b.1)
