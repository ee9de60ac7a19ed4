-- An instance that is exchanged for its body leads on along the way of a quiet walk.
use Rattle.std.proofs.Common.{◌≡◌, ℕ, zero, suc, true, ◌&&◌, List, [], ◌∷◌, ◌++◌, Option, Some, None, refl, sym, ◌∙◌, ap, subst, le_refl}
use Rattle.std.specs.Prelude.{Ok, Err}
use Rattle.std.proofs.lemmas.Option.{none-some, same_Some}
use Rattle.std.proofs.lemmas.Bool.{and_parts}
use Rattle.vx_frac.specs.Fractions.{Fraction, is_positive, at_most}
use Rattle.vx_ast.specs.declared.Place.{Place}
use Rattle.vx_ast.specs.Syntax.{Name, Program, Predicate, predicate_named, Assertion}
use Rattle.vx_meaning.specs.Values.{Value}
use Rattle.vx_meaning.specs.States as run
use Rattle.vx_meaning.specs.States.{bind}
use Rattle.vx_meaning.specs.Evaluate.{applications}
use Rattle.vx_meaning.specs.Flatten.{bare, entries, IsGrounded}
use Rattle.vx_meaning.specs.Fits.{Checked, ◌>>=◌, to_option, Deeper, has_instance, add, exchange}
use Rattle.vx_terms.specs.Sorts.{RealSort, SnapSort}
use Rattle.vx_terms.specs.Terms.{Term}
use Rattle.vx_terms.specs.Interpretations.{Interpretation, TreeElement, Tree, as_fraction, value}
use Rattle.vx_rules.specs.States as rules
use Rattle.vx_rules.specs.States.{State}
use Rattle.vx_rules.specs.Trees.{UnfoldCode, Tree as Questions}
use Rattle.vx_rules.specs.Chunks.{instance_key}
use Rattle.vx_rules.specs.Rules.{Going, Outer, never, entered, back, leads_inside, unfolded}
use Rattle.vx_types.specs.Typing.{Scope, HaveNoPerm, IsTyped}
use Rattle.vx_amounts.proofs.Amounts.{Le, Positive, Same, le-trans, positive-le}
use Rattle.vx_amounts.proofs.Products.{positive_le}
use Rattle.vx_elements.proofs.Settled.{Meaning}
use Rattle.vx_elements.proofs.Built.{Good}
use Rattle.vx_sound.specs.Snapshots.{tree_by, IsTree}
use Rattle.vx_sound.proofs.World.{World}
use Rattle.vx_sound.proofs.Standard.{IsWritten}
use Rattle.vx_sound.proofs.Stands.{Stands, store_later}
use Rattle.vx_sound.proofs.Candidates.{InstanceTerms, Keys, of_instance, values_typed}
use Rattle.vx_sound.proofs.Arguments.{bound}
use Rattle.vx_sound.proofs.Giving.{ScaleStands}
use Rattle.vx_sound_preds.specs.Asking.{asking_entries, IsAsking}
use Rattle.vx_sound_preds.specs.Bodies.{Rigid, IsPlainBody, GoodBodies}
use Rattle.vx_sound_preds.proofs.Fitting.{undo}
use Rattle.vx_sound_preds.proofs.Looks.{Sees}
use Rattle.vx_sound_preds.proofs.Framing.{ok_same, entries_seen, tree_seen}
use Rattle.vx_sound_preds.proofs.Adding.{added}
use Rattle.vx_sound_preds.proofs.Exchanging.{IsOpen, opened}
use Rattle.vx_sound_preds.proofs.Frames.{entries_positive}
use Rattle.vx_sound_preds.proofs.Folds.{tree_of_body}
use Rattle.vx_sound_preds.proofs.Holding.{HoldsInstances, exchanged, quiet_world}
use Rattle.vx_sound_preds.proofs.Entries.{entries_typed}
use Rattle.vx_sound_preds.proofs.Same.{same_tree, same_entries, plain_asks}
use Rattle.vx_sound.proofs.Speaks as instances
use Rattle.vx_live.proofs.Speaks.{SpeaksOf}
use Rattle.vx_law.proofs.Woken.{woken}
use Rattle.vx_law.proofs.Told.{Walk, On, Told, Follows, OffGoing, off_still}
use Rattle.vx_law.proofs.ToldChunks.{TakenOf, take_told}
use Rattle.vx_law.proofs.Values.{FitsWorth, added_is}
use Rattle.vx_law.proofs.Worth.{Worth, written_worth}

append_nil : {A : Type 0} (xs : List A) → xs ≡ xs ++ []
append_nil [] = refl
append_nil (x ∷ xs) = ap (λ ys. x ∷ ys) (append_nil xs)

some_of : {A : Type 0} (x : Checked A) (a : A) → to_option x ≡ Some a → x ≡ Ok a
some_of (Ok b) a e = ap Ok (same_Some b a e)
some_of (Err at) a e = cc

module _ (means : Meaning) (p : Program) (good : GoodBodies p) (Held : Name → Type 0) (no_perm : (x : Name) (d : Predicate) → predicate_named p x ≡ Some d → HaveNoPerm d.parameters) (n : ℕ) (w : Walk means n) where
  abbrev pub world : World
  world = quiet_world p good Held no_perm true

  -- what is shown of what an assertion gives, by rules for the parts of others
  abbrev pub GivesTold : Outer → Deeper → Type 0
  GivesTold o d =
      (q : Fraction) (a : Assertion) (scope : Scope) (c u : run.State) (k : ℕ) (es : run.Holdings) → IsTyped p scope a → SpeaksOf Held a → IsAsking p a → asking_entries p (applications p k) c a ≡ Some es → HoldsInstances p Held true c.heap (added q es c.holdings) → add p d q a c ≡ Ok u →
      (i : Interpretation) (s : State) (scale t : Term) (tree : Tree) (on : Going) → Worth means p n i c a tree t → ScaleStands means world n i scale q → On means world n w scope i s c →
      Follows means world n w scope i (run.with_holdings (added q es c.holdings) c) on → OffGoing means world n w on → Told means world n w i (o.produce a scale (Some t) s on)

  -- the bodies of what can be held
  abbrev pub Bodies : Type 0
  Bodies = (x : Name) (d : Predicate) (e : Assertion) → Held x → predicate_named p x ≡ Some d → d.body ≡ Some e → IsTyped p d.parameters e × SpeaksOf Held e × instances.SpeaksOf Held (λ f. ⊥) e

  -- an instance that was taken, and the state in which its body is given
  abbrev start : run.State → run.Instance → Predicate → Fraction → run.State
  start c k d q = run.with_store (bind d.parameters k.arguments) (run.with_holdings (run.lost (run.Folded k) q c.holdings) c)

  -- the steps of an exchange
  record Exchanged (d : Deeper) (k : run.Instance) (q : Fraction) (c u : run.State) (pd : Predicate) : Type 0 where
    pub body : Assertion
    pub body_is : pd.body ≡ Some body
    pub given : run.State
    pub adds : add p d q body (start c k pd q) ≡ Ok given
    pub u_is : run.with_store c.store given ≡ u

  exchange_steps : (d : Deeper) (k : run.Instance) (q : Fraction) (c u : run.State) (pd : Predicate) → predicate_named p k.predicate ≡ Some pd → exchange p d k q c ≡ Some u → Exchanged d k q c u pd
  exchange_steps d k q c u pd named e = by_body pd.body refl (sym (ap of_predicate named) ∙ e)
    where
      of_body : Predicate → Option Assertion → Option run.State
      of_body b None = None
      of_body b (Some a) = to_option (add p d q a (start c k b q) >>= λ v. Ok (run.with_store c.store v))

      of_predicate : Option Predicate → Option run.State
      of_predicate None = None
      of_predicate (Some b) = of_body b b.body

      by_body : (o : Option Assertion) → pd.body ≡ o → of_body pd pd.body ≡ Some u → Exchanged d k q c u pd
      by_body None is e = absurd (none-some u (sym (ap (of_body pd) is) ∙ e))
      by_body (Some a) is e =
          let x = undo (add p d q a (start c k pd q)) (λ v. Ok (run.with_store c.store v)) u (some_of _ u (sym (ap (of_body pd) is) ∙ e)) in
          record { body = a; body_is = is; given = x.it; adds = x.is; u_is = ok_same (run.with_store c.store x.it) u x.then }

  module _ (o : Outer) (d : Deeper) (gives : GivesTold o d) (worths : FitsWorth p d) (bodies : Bodies) where
    pub unfolded_told : (scope : Scope) (i : Interpretation) (s : State) (c u : run.State) (at : Place) (x : Name) (ts : List Term) (vs : List Value) (a : Term) (q : Fraction) (on : Going) → InstanceTerms means world n i x ts vs →
        Good means n i a RealSort → Same (as_fraction (value i a)) q → Positive q → On means world n w scope i s c → has_instance c record { predicate = x; arguments = vs } q ≡ true → exchange p d record { predicate = x; arguments = vs } q c ≡ Some u →
        Follows means world n w scope i u on → OffGoing means world n w on → Told means world n w i (unfolded p o at x ts a s on)
    unfolded_told scope i s c u at x ts vs a q on keys ga same pos here has ex h off =
        take_told means world n w (let z : Keys means world n i (instance_key x ts) (run.Folded k) SnapSort = of_instance x ts vs keys in z) a q at UnfoldCode (λ ch s1. of_predicate ch s1 (predicate_named p x)) here ga same (le-trans (positive_le pos) same.back)
        (λ ch s1 t. subst (λ z. Told means world n w i (of_predicate ch s1 z)) (sym keys.named) (subst (λ b. Told means world n w i (of_body ch s1 keys.predicate b)) (sym steps.body_is) (inside ch s1 t)))
      where
        k : run.Instance
        k = record { predicate = x; arguments = vs }

        pd : Predicate
        pd = keys.predicate

        of_body : rules.Chunk → State → Predicate → Option Assertion → Questions
        of_body ch s1 b None = never at UnfoldCode s1
        of_body ch s1 b (Some e) = o.produce e a (Some ch.value) (record (entered (rules.bind b.parameters ts) at s1) { inner = leads_inside ch }) (λ s2. on (back s s2))

        of_predicate : rules.Chunk → State → Option Predicate → Questions
        of_predicate ch s1 None = never at UnfoldCode s1
        of_predicate ch s1 (Some b) = of_body ch s1 b b.body

        steps : Exchanged d record { predicate = x; arguments = vs } q c u keys.predicate
        steps = exchange_steps d k q c u pd keys.named ex

        e : Assertion
        e = steps.body

        parts : IsTyped p keys.predicate.parameters steps.body × SpeaksOf Held steps.body × instances.SpeaksOf Held (λ f. ⊥) steps.body
        parts = bodies x pd steps.body keys.held keys.named steps.body_is

        plain : IsPlainBody p Rigid steps.body
        plain = good.plain x pd steps.body keys.named steps.body_is

        enough : Le q (run.amount c.holdings (run.Folded record { predicate = x; arguments = vs }))
        enough = record { holds = (and_parts (is_positive q) (at_most q (run.amount c.holdings (run.Folded k))) has).1 }

        grounded : IsGrounded p c.heap record { predicate = x; arguments = vs }
        grounded = here.quietly.stands.holds.grounded k (positive-le pos enough)

        opening : IsOpen p c.heap record { predicate = x; arguments = vs } keys.predicate steps.body
        opening = opened p c.heap k pd steps.body keys.named steps.body_is grounded

        inner : run.State
        inner = start c record { predicate = x; arguments = vs } keys.predicate q

        seen : Sees (bare (bind keys.predicate.parameters vs) c.heap) (start c record { predicate = x; arguments = vs } keys.predicate q)
        seen = record { store = refl; heap = refl }

        listed : entries p (start c record { predicate = x; arguments = vs } keys.predicate q) steps.body ≡ Some opening.entries_of
        listed = entries_seen p Rigid (bare (bind pd.parameters vs) c.heap) inner seen steps.body plain ∙ opening.entries_are

        named_there : asking_entries p (applications p 0) (start c record { predicate = x; arguments = vs } keys.predicate q) steps.body ≡ Some opening.entries_of
        named_there = same_entries p (applications p 0) inner steps.body plain ∙ listed

        holds : HoldsInstances p Held true c.heap (run.lost (run.Folded record { predicate = x; arguments = vs }) q c.holdings) → HoldsInstances p Held true c.heap (added q opening.entries_of (run.lost (run.Folded record { predicate = x; arguments = vs }) q c.holdings))
        holds less = exchanged p good Held true c.heap c.holdings k q opening.fuel opening.inner opening.entries_of here.quietly.stands.holds less pos opening.flat_is opening.body_is
            (entries_typed p Held no_perm pd.parameters vs (values_typed means world n i pd.parameters ts vs keys.each) c.heap steps.body opening.entries_of parts.0 plain parts.2 opening.entries_are) opening.can
            (entries_positive p (bare (bind pd.parameters vs) c.heap) steps.body opening.entries_of plain opening.entries_are)

        -- its snapshot is worth the tree of the body
        worth : (t : Term) → Good means n i t SnapSort → IsWritten t → (z : Tree) × IsTree p c.heap record { predicate = x; arguments = vs } z × (value i t ≡ TreeElement z) → (z : Tree) × Worth means p n i (start c record { predicate = x; arguments = vs } keys.predicate q) steps.body z t
        worth t g written (z, (m, f), is) = (z, by_fuel m f)
          where
            by_fuel : (m : ℕ) → tree_by p m c.heap record { predicate = x; arguments = vs } ≡ Some z → Worth means p n i (start c record { predicate = x; arguments = vs } keys.predicate q) steps.body z t
            by_fuel zero f = absurd (none-some z f)
            by_fuel (suc m) f =
                written_worth means p n i here.quietly.stands.standard m inner steps.body z t
                (same_tree p (applications p m) (tree_by p m c.heap) inner steps.body plain ∙ tree_seen p Rigid (bare (bind pd.parameters vs) c.heap) inner seen (tree_by p m c.heap) steps.body plain ∙ sym (tree_of_body p c.heap k pd steps.body m keys.named steps.body_is) ∙ f)
                (record { good = g; is = is }) written

        given_is : HoldsInstances p Held true c.heap (run.lost (run.Folded record { predicate = x; arguments = vs }) q c.holdings) →
            run.with_holdings (added q opening.entries_of (run.lost (run.Folded record { predicate = x; arguments = vs }) q c.holdings)) c ≡ u
        given_is less = ap (run.with_store c.store) (sym (added_is p d worths q pos steps.body inner steps.given 0 opening.entries_of (plain_asks p steps.body plain) named_there steps.adds)) ∙ steps.u_is

        inside : (ch : rules.Chunk) (s1 : State) → TakenOf means world n w scope i c (run.Folded record { predicate = x; arguments = vs }) SnapSort q ch s1 →
            Told means world n w i (o.produce steps.body a (Some ch.value) (record (entered (rules.bind keys.predicate.parameters ts) at s1) { inner = leads_inside ch }) (λ s2. on (back s s2)))
        inside ch s1 t =
            let wo = worth ch.value t.good (t.written tt) (t.there pos) in
            let st = t.on.quietly.stands in
            let on1 : On means world n w keys.predicate.parameters i (record (entered (rules.bind keys.predicate.parameters ts) at s1) { inner = leads_inside ch }) (start c record { predicate = x; arguments = vs } keys.predicate q) = record {
              still = (let z = t.on.still in record { next = z.next; level = z.level; path = z.path });
              quietly = record { stands = record { store = bound means world n i pd.parameters ts vs keys.each; path = st.path; heap = st.heap; old = st.old; awake = st.awake; bounded = st.bounded; null = st.null; standard = st.standard; owned = st.owned; marked = λ e. tt; holds = st.holds; old_holds = st.old_holds } };
            } in
            gives q steps.body pd.parameters inner steps.given 0 opening.entries_of parts.0 parts.1 (plain_asks p steps.body plain) named_there (holds st.holds) steps.adds i (record (entered (rules.bind pd.parameters ts) at s1) { inner = leads_inside ch }) a ch.value wo.0 (λ s2. on (back s s2)) wo.1
            (record { good = ga; is = same; positive = pos }) on1
            (λ j s2 ext on2.
            let z = on2.quietly.stands in
            h j (back s s2) ext (record {
              still = (let y = on2.still in record { next = y.next; level = y.level; path = y.path });
              quietly = record {
                stands = subst (λ c'. Stands means world scope j (woken n (back s s2)) c') (given_is st.holds)
                    (record { store = store_later means world (le_refl n) ext scope s.store c.store here.quietly.stands.store; path = z.path; heap = z.heap; old = z.old; awake = z.awake; bounded = z.bounded; null = z.null; standard = z.standard; owned = z.owned; marked = λ e. tt; holds = z.holds; old_holds = z.old_holds });
              };
            }))
            (λ j s2 f. off j (back s s2) (off_still means world n w f (record { next = refl; level = refl; path = ([], append_nil s2.path) })))
