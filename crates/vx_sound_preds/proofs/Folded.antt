-- A fold: the body is taken, and the instance's chunk has a snapshot that stands for the tree of its values.
use Rattle.std.proofs.Common.{◌≡◌, ℕ, zero, suc, true, false, List, Option, Some, None, refl, sym, ◌∙◌, ap, subst, le_refl, le_trans, true≢false}
use Rattle.std.specs.Prelude.{Ok}
use Rattle.vx_frac.specs.Fractions.{Fraction}
use Rattle.vx_ast.specs.declared.Place.{Place}
use Rattle.vx_ast.specs.Syntax.{Name, Program, Predicate, predicate_named, Assertion}
use Rattle.vx_meaning.specs.Values.{Value}
use Rattle.vx_meaning.specs.States as run
use Rattle.vx_meaning.specs.States.{bind}
use Rattle.vx_meaning.specs.Evaluate.{applications}
use Rattle.vx_meaning.specs.Flatten.{bare}
use Rattle.vx_meaning.specs.Fits.{placed, Eventually, take_by}
use Rattle.vx_meaning.specs.Outcomes.{Outcome, Outcomes, ends, checked, passes, refused}
use Rattle.vx_meaning.specs.Run as meaning
use Rattle.vx_terms.specs.Sorts.{RealSort, SnapSort}
use Rattle.vx_terms.specs.Terms.{Term}
use Rattle.vx_terms.specs.Interpretations.{Interpretation, as_fraction, value}
use Rattle.vx_rules.specs.States as rules
use Rattle.vx_rules.specs.Trees.{FoldCode, AssertCode, Step, Tree as Questions}
use Rattle.vx_rules.specs.Chunks.{instance_key, put}
use Rattle.vx_rules.specs.Rules.{Giving, Going, Context, Outer, outer, nowhere, never, entered, back}
use Rattle.vx_rules.specs.Members.{folded}
use Rattle.vx_types.specs.Typing.{Scope, HaveNoPerm, IsTyped}
use Rattle.vx_elements.proofs.Settled.{Meaning, extends-trans, value_kept}
use Rattle.vx_elements.proofs.Built.{Good, good_later}
use Rattle.vx_elements.proofs.Eventually.{eventually, one_answer}
use Rattle.vx_amounts.proofs.Amounts.{Le, Positive, Same, le-trans}
use Rattle.vx_amounts.proofs.Products.{positive_le}
use Rattle.vx_sound.specs.Snapshots.{tree_by, IsTree}
use Rattle.vx_sound.proofs.World.{World}
use Rattle.vx_sound.proofs.Standard.{name_written}
use Rattle.vx_sound.proofs.Speaks.{SpeaksOf, body_speaks}
use Rattle.vx_sound.proofs.Passes.{Cleared}
use Rattle.vx_sound.proofs.Stands.{Stands, store_later}
use Rattle.vx_sound.proofs.Candidates.{InstanceTerms, instance_terms_later, of_instance, keys_typed}
use Rattle.vx_sound.proofs.Goes.{Goes, stuck, Named, named}
use Rattle.vx_sound.proofs.Arguments.{bound}
use Rattle.vx_sound.proofs.Evaluate.{PartsGo}
use Rattle.vx_sound.proofs.Assertions.{Leaves, ends_leaves, refused_leaves, Consumes, consumed}
use Rattle.vx_sound.proofs.Steps.{FoldsGo}
use Rattle.vx_sound_preds.specs.Bodies.{Rigid, IsPlainBody, GoodBodies}
use Rattle.vx_sound_preds.proofs.Looks.{Sees}
use Rattle.vx_sound_preds.proofs.Framing.{tree_seen}
use Rattle.vx_sound_preds.proofs.Folds.{IsFolded, fold_keeps, tree_of_body}
use Rattle.vx_sound_preds.proofs.Holding.{HoldsInstances, instance_rigid, stock, consistent, of_possible, Applying, functions_world}
use Rattle.vx_sound_preds.proofs.Produced.{put_known}
use Rattle.vx_sound_preds.proofs.Same.{same_tree, plain_asks}
use Rattle.vx_sound_preds.proofs.Unfolds.{BodiesSpeak}
use Rattle.vx_sound_preds.proofs.Trees.{TreeOf, builds_tree}

module _ (means : Meaning) (p : Program) (good : GoodBodies p) (Held : Name → Type 0) (no_perm : (x : Name) (d : Predicate) → predicate_named p x ≡ Some d → HaveNoPerm d.parameters) (applying : Applying) (speak : BodiesSpeak p Held) where
  abbrev world : World
  world = functions_world p good Held no_perm true applying

  module _ (parts_at : (n : ℕ) → PartsGo means world (outer p n)) (m : ℕ) (scope : Scope) (i : Interpretation) (s : rules.State) (c : run.State) (at : Place) (x : Name) (ts : List Term) (vs : List Value) (a : Term) (q : Fraction) (on : Going)
      (keys : InstanceTerms means world s.next i x ts vs) (ga : Good means s.next i a RealSort) (same : Same (as_fraction (value i a)) q) (pos : Positive q) (st : Stands means world scope i s c) where
    abbrev k : run.Instance
    k = record { predicate = x; arguments = vs }

    abbrev inside : run.State
    inside = run.with_store (bind keys.predicate.parameters vs) c

    abbrev after : Giving
    after snapshot s1 = Step (on (put (record (instance_key x ts) { amount = a; value = rules.name_of snapshot (back s s1) }) (rules.after_name snapshot (back s s1))))

    abbrev context : Context
    context = record { pure = FoldCode; permission = FoldCode; builds = true }

    inner_stands : Stands means world keys.predicate.parameters i (entered (rules.bind keys.predicate.parameters ts) at s) (run.with_store (bind keys.predicate.parameters vs) c)
    inner_stands = record {
      store = bound means world s.next i keys.predicate.parameters ts vs keys.each;
      path = st.path;
      heap = st.heap;
      old = st.old;
      awake = st.awake;
      bounded = st.bounded;
      null = st.null;
      standard = st.standard;
      owned = st.owned;
      marked = st.marked;
      holds = st.holds;
      old_holds = st.old_holds;
    }

    -- once the body was taken
    folded_by : (o : Outer) (parts : PartsGo means world o) (e : Assertion) → keys.predicate.body ≡ Some e → (r : Consumes means world o parts keys.predicate.parameters i s.next after inside e q c.holdings) →
        Goes means world scope i s.next on (run.with_holdings (run.gained (run.Folded k) q r.left) c)
    folded_by o parts e body r = record {
      interp = g.interp;
      state = g.state;
      extends = extends-trans means (le_trans r.goes.later n.later) (extends-trans means r.goes.later r.goes.extends n.extends) g.extends;
      later = le_trans (le_trans r.goes.later n.later) g.later;
      stands = g.stands;
      cleared = g.cleared;
    }
      where
        d : Predicate
        d = keys.predicate

        plain_body : IsPlainBody p Rigid e
        plain_body = good.plain x keys.predicate e keys.named body

        back_stands : Stands means world scope r.goes.interp (back s r.goes.state) (run.with_holdings r.left c)
        back_stands = record {
          store = store_later means world r.goes.later r.goes.extends scope s.store c.store st.store;
          path = r.goes.stands.path;
          heap = r.goes.stands.heap;
          old = r.goes.stands.old;
          awake = r.goes.stands.awake;
          bounded = r.goes.stands.bounded;
          null = r.goes.stands.null;
          standard = r.goes.stands.standard;
          owned = r.goes.stands.owned;
          marked = st.marked;
          holds = r.goes.stands.holds;
          old_holds = r.goes.stands.old_holds;
        }

        n : Named means world scope r.goes.interp r.goes.state.next (run.with_holdings r.left c) SnapSort (value r.goes.interp r.snapshot) (rules.name_of r.snapshot (back s r.goes.state)) (rules.after_name r.snapshot (back s r.goes.state))
        n = named means world r.snapshot SnapSort back_stands r.good

        tree : TreeOf means p good Held no_perm applying r.goes.interp inside e r.snapshot
        tree = builds_tree means p good Held no_perm applying o parts r.goes.state.next r.goes.interp r.goes.stands.standard inside e r.snapshot (plain_asks p e plain_body) r.built

        seen : Sees (bare (bind keys.predicate.parameters vs) c.heap) inside
        seen = record { store = refl; heap = refl }

        is_tree : IsTree p c.heap k tree.tree
        is_tree = (
          suc tree.is.0,
          tree_of_body p c.heap k d e tree.is.0 keys.named body ∙ sym (tree_seen p Rigid (bare (bind d.parameters vs) c.heap) inside seen (tree_by p tree.is.0 c.heap) e plain_body)
              ∙ sym (same_tree p (applications p tree.is.0) (tree_by p tree.is.0 c.heap) inside e plain_body) ∙ tree.is.1,
        )

        folds : IsFolded p c k q r.left
        folds = fold_keeps p good c k q d e r.takes.0 r.left keys.named body (instance_rigid p Held k (keys_typed means world (of_instance x ts vs keys))) pos (stock p good Held true c.heap c.holdings st.holds) (consistent p good Held true c refl st.holds)
            (r.takes.1 r.takes.0 (le_refl _))

        holds : HoldsInstances p Held true c.heap (run.gained (run.Folded k) q r.left)
        holds = of_possible p good Held true (run.with_holdings (run.gained (run.Folded k) q r.left) c) folds.consistent (keys_typed means world (of_instance x ts vs keys), r.goes.stands.holds.typed) folds.stock.debts

        a_kept : value n.interp a ≡ value i a
        a_kept = value_kept means a (good_later means r.goes.later r.goes.extends ga).settled n.extends ∙ value_kept means a ga.settled r.goes.extends

        g : Goes means world scope n.interp (rules.after_name r.snapshot (back s r.goes.state)).next on (run.with_holdings (run.gained (run.Folded k) q r.left) c)
        g = put_known means p good Held no_perm true applying (of_instance x ts vs later_keys) a (rules.name_of r.snapshot (back s r.goes.state)) q false on n.stands
            (good_later means n.later n.extends (good_later means r.goes.later r.goes.extends ga)) (subst (λ z. Same (as_fraction z) q) (sym a_kept) same) (le-trans (positive_le pos) (subst (λ z. Le q (as_fraction z)) (sym a_kept) same.back))
            n.good (λ e. name_written r.snapshot (back s r.goes.state) back_stands.awake) (tree.tree, is_tree, n.value_is ∙ tree.value_is) holds (λ e. absurd (true≢false (sym e))) r.goes.cleared
          where
            later_keys : InstanceTerms means world (rules.after_name r.snapshot (back s r.goes.state)).next n.interp x ts vs
            later_keys = instance_terms_later means world n.later n.extends (instance_terms_later means world r.goes.later r.goes.extends keys)

    body_run : Predicate → Assertion → Outcomes
    body_run d e = checked (λ n. placed at (take_by p n (run.with_store (bind d.parameters vs) c) q e c.holdings)) (λ h. ends (run.with_holdings (run.gained (run.Folded k) q h) c))

    of_body : Predicate → Option Assertion → Outcomes
    of_body d None o = ⊥
    of_body d (Some e) o = body_run d e o

    of_predicate : Option Predicate → Outcomes
    of_predicate None o = ⊥
    of_predicate (Some d) o = of_body d d.body o

    tree_of_option : rules.State → Predicate → Option Assertion → Questions
    tree_of_option s d b = elim b as (λ b. Questions) [
      | None ↦ never at FoldCode s
      | Some body ↦ Step ((outer p m).consume body (record { pure = FoldCode; permission = FoldCode; builds = true }) a s.heap (entered (rules.bind d.parameters ts) at s) after)
    ]

    body_goes : (e : Assertion) → keys.predicate.body ≡ Some e → (j : ℕ) → m ≡ j → Cleared ((outer p j).consume e context a s.heap (entered (rules.bind keys.predicate.parameters ts) at s) after) → (outcome : Outcome) → body_run keys.predicate e outcome → Leaves means world scope i s.next on outcome
    unfolding body_run
    body_goes e body zero is h outcome ran = stuck means world nowhere AssertCode inner_stands h
    body_goes e body (suc n) is h outcome ran = go ran
      where
        both : IsTyped p keys.predicate.parameters e × SpeaksOf Held (λ f. ⊥) e
        both = speak x keys.predicate e keys.held keys.named body

        r : Consumes means world (outer p n) (parts_at n) keys.predicate.parameters i s.next after inside e q c.holdings
        r = consumed means world (outer p n) (parts_at n) e q both.0 (body_speaks Held applying.Applied e both.1) context a after (record { good = ga; is = same; positive = pos }) inner_stands h

        takes : Eventually (λ n. placed at (take_by p n inside q e c.holdings) ≡ Ok r.left)
        takes = eventually r.takes (λ n u. ap (placed at) u)

        go : body_run keys.predicate e outcome → Leaves means world scope i s.next on outcome
        go (passes left f rest) = ends_leaves means world scope i s.next on (run.with_holdings (run.gained (run.Folded k) q r.left) c) outcome (subst (λ z. ends (run.with_holdings (run.gained (run.Folded k) q z) c) outcome) (one_answer left r.left f takes) rest)
            (folded_by (outer p n) (parts_at n) e body r)
        go (refused place f z) = refused_leaves means world scope i s.next on outcome r.left place takes f

    fold_by : (b : Option Assertion) → keys.predicate.body ≡ b → Cleared (tree_of_option s keys.predicate b) → (outcome : Outcome) → of_body keys.predicate b outcome → Leaves means world scope i s.next on outcome
    unfolding tree_of_option of_body
    fold_by None body h outcome ran = absurd ran
    fold_by (Some e) body h outcome ran = body_goes e body m refl h outcome ran

    fold_all : Cleared (folded p (outer p m) at x ts a s on) → (outcome : Outcome) → meaning.fold p c at (k, q) outcome → Leaves means world scope i s.next on outcome
    unfolding tree_of_option of_body of_predicate body_run
    fold_all h outcome ran =
        fold_by keys.predicate.body refl
        (subst (λ o. Cleared (elim o as (λ d. Questions) [
          | None ↦ never at FoldCode s
          | Some d ↦ tree_of_option s d d.body
        ])) keys.named h) outcome (subst (λ z. of_predicate z outcome) keys.named ran)

  pub folds_go : ((n : ℕ) → PartsGo means world (outer p n)) → (m : ℕ) → FoldsGo means world (outer p m)
  folds_go parts_at m scope i s c at x ts vs a q on keys ga same pos st w outcome ran = fold_all parts_at m scope i s c at x ts vs a q on keys ga same pos st w outcome ran
