-- What a consume builds of an assertion stands for the tree of the assertion's values.
use Rattle.std.proofs.Common.{◌≡◌, ℕ, true, false, Some, sym, ◌∙◌, ap, subst, le_refl}
use Rattle.std.proofs.lemmas.Option.{same_Some}
use Rattle.vx_frac.specs.Fractions.{Fraction}
use Rattle.vx_ast.specs.Syntax.{Name, Program, Predicate, predicate_named, Expr, Assertion, Pure, Points, Both, Implied, Chosen}
use Rattle.vx_ast.specs.Syntax as syntax
use Rattle.vx_meaning.specs.Values.{Value, BoolValue, RefValue, PermValue}
use Rattle.vx_meaning.specs.States as run
use Rattle.vx_meaning.specs.Evaluate as plain
use Rattle.vx_meaning.specs.Evaluate.{applications}
use Rattle.vx_meaning.specs.Fits.{Fits}
use Rattle.vx_terms.specs.Terms.{Term}
use Rattle.vx_terms.specs.Build.{wrap}
use Rattle.vx_terms.specs.Interpretations.{Interpretation, TreeElement, Tree, Empty, Pair, IsOf, value}
use Rattle.vx_rules.specs.States.{sort_of_type}
use Rattle.vx_rules.specs.Rules.{Outer}
use Rattle.vx_types.specs.Typing.{HaveNoPerm}
use Rattle.vx_elements.proofs.Settled.{Meaning}
use Rattle.vx_elements.proofs.Elements.{element, element_is}
use Rattle.vx_elements.proofs.Values.{value_typed, sort_of_field}
use Rattle.vx_amounts.proofs.Amounts.{Positive}
use Rattle.vx_sound.specs.Snapshots.{leaf, location_leaf, truth_leaf, tree_by}
use Rattle.vx_sound.proofs.World.{at_field, World}
use Rattle.vx_sound.proofs.Standard.{IsStandard, leaf_of, leaf_is, unit_value, pair_value, wrap_value}
use Rattle.vx_sound.proofs.Stripped.{fit_worth, all_fit_worth}
use Rattle.vx_sound.proofs.Evaluate.{PartsGo}
use Rattle.vx_sound.proofs.Assertions.{Builds, built_pure, built_field, built_instance, built_both, built_implied, built_nothing, built_left, built_right}
use Rattle.vx_sound_preds.specs.Bodies.{GoodBodies}
use Rattle.vx_sound_preds.specs.Asking.{asking_tree, IsAskingTreeOf, IsAskingAmount, IsAsking}
use Rattle.vx_sound_preds.proofs.Fitting.{step}
use Rattle.vx_sound_preds.proofs.Holding.{Applying, functions_world}
use Rattle.vx_sound_preds.proofs.Asked.{above, both_trees, condition_tree, instance_tree}

module _ (means : Meaning) (p : Program) (good : GoodBodies p) (Held : Name → Type 0) (no_perm : (x : Name) (d : Predicate) → predicate_named p x ≡ Some d → HaveNoPerm d.parameters) (applying : Applying) where
  abbrev world : World
  world = functions_world p good Held no_perm true applying

  -- a term that stands for the tree of an assertion's values
  pub record TreeOf (i : Interpretation) (c : run.State) (a : Assertion) (t : Term) : Type 0 where
    pub tree : Tree
    pub is : IsAskingTreeOf p c a tree
    pub value_is : value i t ≡ TreeElement tree

  worth : (c : run.State) (e : Expr) (v : Value) (f : Fits p c e v) → plain.value p (applications p f.0) c e ≡ Some v
  worth c e v f = fit_worth p f.0 c e v (f.1 f.0 (le_refl _))

  amounts : (a b : Fraction) → PermValue a ≡ PermValue b → a ≡ b
  amounts a b e = cc

  amount_positive : (c : run.State) (share : Expr) (a : Fraction) (k : IsAskingAmount p share) → Fits p c share (PermValue a) → Positive a
  amount_positive c share a k f = subst Positive (sym (amounts a k.amount (same_Some (PermValue a) (PermValue k.amount) (sym (worth c share (PermValue a) f) ∙ k.value_is (applications p f.0) c)))) (above k)

  module _ (o : Outer) (parts : PartsGo means world o) (n : ℕ) (i : Interpretation) (st : IsStandard i) (c : run.State) where
    pub builds_tree : (a : Assertion) (t : Term) → IsAsking p a → Builds means world o parts n i c a t → TreeOf i c a t
    builds_tree (Pure e) t k (built_pure f) = record { tree = Empty; is = (f.0, step truth_leaf (BoolValue true) (worth c e (BoolValue true) f)); value_is = unit_value i st }
    builds_tree (Points at e f share) t k (built_field g r a u fe fs gu there) =
        let pos = amount_positive c share a k.1 fs in
        let v = run.value_at p c.heap (at_field r f) in
        let is : value i u ≡ element v = there pos in
        let of_sort : IsOf (sort_of_type (run.field_type p f)) (element v) = subst (λ y. IsOf (sort_of_type y) (element v)) (value_typed p c.heap (at_field r f)) (element_is v) in
        record {
          tree = leaf v;
          is = (fe.0, step (location_leaf p c.heap f) (RefValue r) (worth c e (RefValue r) fe));
          value_is = subst (λ z. value i (wrap z u) ≡ TreeElement (leaf v)) (sym (sort_of_field p f))
              (wrap_value i st (run.field_type p f) u (subst (IsOf (sort_of_type (run.field_type p f))) (sym is) of_sort) ∙ ap (λ e. TreeElement (leaf_of e)) is ∙ ap TreeElement (leaf_is v));
        }
    builds_tree (syntax.Instance at x es share) t k (built_instance y vs a u fe fs gu there) =
        let pos = amount_positive c share a k.1 fs in
        let is = there pos in
        record { tree = is.0; is = instance_tree p c at x es share vs fe.0 is.0 (all_fit_worth p fe.0 c es vs (fe.1 fe.0 (le_refl _))) is.1; value_is = is.2 }
    builds_tree (Both a b) t k (built_both {t = u} {u = v} l r) =
        let x = builds_tree a u k.0 l in
        let y = builds_tree b v k.1 r in
        record { tree = Pair x.tree y.tree; is = both_trees p c a b x.tree y.tree x.is y.is; value_is = pair_value i st u v x.tree y.tree x.value_is y.value_is }
    builds_tree (Implied d a) t k (built_implied f l) =
        let x = builds_tree a t k.1 l in
        record { tree = x.tree; is = condition_tree p c a (Implied d a) d (BoolValue true) f.0 x.tree (worth c d (BoolValue true) f) (λ m h. step (λ v. plain.choose v (asking_tree p (applications p m) (tree_by p m c.heap) c a) (Some Empty)) (BoolValue true) h) x.is; value_is = x.value_is }
    builds_tree (Implied d a) t k (built_nothing f) = record {
      tree = Empty;
      is = (f.0, step (λ v. plain.choose v (asking_tree p (applications p f.0) (tree_by p f.0 c.heap) c a) (Some Empty)) (BoolValue false) (worth c d (BoolValue false) f));
      value_is = unit_value i st;
    }
    builds_tree (Chosen d a b) t k (built_left f l) =
        let x = builds_tree a t k.1 l in
        record { tree = x.tree; is = condition_tree p c a (Chosen d a b) d (BoolValue true) f.0 x.tree (worth c d (BoolValue true) f) (λ m h. step (λ v. plain.choose v (asking_tree p (applications p m) (tree_by p m c.heap) c a) (asking_tree p (applications p m) (tree_by p m c.heap) c b)) (BoolValue true) h) x.is; value_is = x.value_is }
    builds_tree (Chosen d a b) t k (built_right f l) =
        let x = builds_tree b t k.2 l in
        record { tree = x.tree; is = condition_tree p c b (Chosen d a b) d (BoolValue false) f.0 x.tree (worth c d (BoolValue false) f) (λ m h. step (λ v. plain.choose v (asking_tree p (applications p m) (tree_by p m c.heap) c a) (asking_tree p (applications p m) (tree_by p m c.heap) c b)) (BoolValue false) h) x.is; value_is = x.value_is }
