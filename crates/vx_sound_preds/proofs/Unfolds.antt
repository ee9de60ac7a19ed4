-- An instance that is exchanged for its body: at every depth an `unfolding` goes, and so does an unfold.
use Rattle.std.proofs.Common.{◌≡◌, ℕ, zero, suc, ◌≤◌, Bool, true, false, ◌&&◌, List, Option, Some, None, refl, sym, ◌∙◌, ap, subst, arith, le_trans}
use Rattle.std.specs.Prelude.{Ok}
use Rattle.std.proofs.lemmas.Bool.{and_from}
use Rattle.vx_frac.specs.Fractions.{Fraction}
use Rattle.vx_ast.specs.declared.Place.{Place}
use Rattle.vx_ast.specs.Syntax.{Name, Program, Predicate, predicate_named, Assertion}
use Rattle.vx_meaning.specs.Values.{Value}
use Rattle.vx_meaning.specs.States as run
use Rattle.vx_meaning.specs.States.{bind}
use Rattle.vx_meaning.specs.Evaluate.{applications}
use Rattle.vx_meaning.specs.Flatten.{bare, IsGrounded}
use Rattle.vx_meaning.specs.Consistent.{IsConsistent}
use Rattle.vx_meaning.specs.Fits.{◌>>=◌, guard, to_option, has_instance, Eventually, exchange, add, deeper}
use Rattle.vx_meaning.specs.Outcomes.{Outcome, Ends, FailsAt, Stops, Outcomes, ends, checked, passes, refused, IsOver, and_then, goes_on, is_over, failing_at}
use Rattle.vx_meaning.specs.Give.{give}
use Rattle.vx_meaning.specs.Run as meaning
use Rattle.vx_terms.specs.Sorts.{RealSort, SnapSort}
use Rattle.vx_terms.specs.Terms.{Term}
use Rattle.vx_terms.specs.Interpretations.{Interpretation, TreeElement, Tree, as_fraction, value}
use Rattle.vx_rules.specs.States as rules
use Rattle.vx_rules.specs.Trees.{UnfoldCode, AssertCode, Tree as Questions}
use Rattle.vx_rules.specs.Rules.{Going, outer, nowhere, never, entered, back, leads_inside, unfolded, produce}
use Rattle.vx_types.specs.Typing.{Scope, HaveNoPerm, IsTyped}
use Rattle.vx_elements.proofs.Settled.{Meaning, extends-trans, value_kept}
use Rattle.vx_elements.proofs.Built.{Good, good_later}
use Rattle.vx_elements.proofs.Eventually.{always, no_refusal}
use Rattle.vx_amounts.proofs.Amounts.{Le, Positive, Same, le-trans, positive-le}
use Rattle.vx_amounts.proofs.Products.{positive_le}
use Rattle.vx_sound.specs.Snapshots.{tree_by, IsTree}
use Rattle.vx_sound.proofs.Marks.{MayMark, leads_marks}
use Rattle.vx_sound.proofs.World.{World}
use Rattle.vx_sound.proofs.Standard.{IsWritten}
use Rattle.vx_sound.proofs.Speaks.{SpeaksOf, body_speaks}
use Rattle.vx_sound.proofs.Passes.{Cleared}
use Rattle.vx_sound.proofs.Stands.{Stands, store_later, terms_later}
use Rattle.vx_sound.proofs.Candidates.{InstanceTerms, of_instance, values_typed}
use Rattle.vx_sound.proofs.Goes.{Goes, stuck}
use Rattle.vx_sound.proofs.Arguments.{bound}
use Rattle.vx_sound.proofs.Evaluate.{UnfoldsGo, AppliesGo, PartsGo}
use Rattle.vx_sound.proofs.Giving.{ScaleStands, Taken, take_one}
use Rattle.vx_sound.proofs.Assertions.{Leaves, ends_leaves}
use Rattle.vx_sound.proofs.Steps.{UnfoldGo}
use Rattle.vx_sound_preds.specs.Bodies.{AreRigid, Rigid, GoodBodies}
use Rattle.vx_sound_preds.proofs.Looks.{Sees}
use Rattle.vx_sound_preds.proofs.Framing.{entries_seen, tree_seen}
use Rattle.vx_sound_preds.proofs.Adding.{added}
use Rattle.vx_sound_preds.proofs.Exchanging.{IsOpen, opened}
use Rattle.vx_sound_preds.proofs.Frames.{entries_positive}
use Rattle.vx_sound_preds.proofs.Folds.{tree_of_body}
use Rattle.vx_sound_preds.proofs.Holding.{typed_rigid, HoldsInstances, exchanged, Applying, nothing_applied, functions_world, instances_world}
use Rattle.vx_sound_preds.proofs.Inside.{AllInner, entries_inner}
use Rattle.vx_sound_preds.proofs.Marking.{bodies_keep}
use Rattle.vx_sound_preds.proofs.Entries.{entries_typed}
use Rattle.vx_sound_preds.proofs.Produced.{EndsAt, SnapshotOf, Produced, plain_produced}
use Rattle.vx_sound_preds.proofs.Same.{same_tree}

-- bodies of what can be held are typed, and speak of what can be held
abbrev pub BodiesSpeak : Program → (Name → Type 0) → Type 0
BodiesSpeak p Held = (x : Name) (d : Predicate) (e : Assertion) → Held x → predicate_named p x ≡ Some d → d.body ≡ Some e → IsTyped p d.parameters e × SpeaksOf Held (λ f. ⊥) e

module _ (means : Meaning) (p : Program) (good : GoodBodies p) (Held : Name → Type 0) (no_perm : (x : Name) (d : Predicate) → predicate_named p x ≡ Some d → HaveNoPerm d.parameters) (bounded : Bool) (applying : Applying) (speak : BodiesSpeak p Held) where
  abbrev world : World
  world = functions_world p good Held no_perm bounded applying

  -- an instance that was taken, and the state in which its body is given
  abbrev start : run.State → run.Instance → Predicate → Fraction → run.State
  start c k d q = run.with_store (bind d.parameters k.arguments) (run.with_holdings (run.lost (run.Folded k) q c.holdings) c)

  -- what is held once the body was given in its place
  pub record Exchange (scope : Scope) (i : Interpretation) (n : ℕ) (on : Going) (c : run.State) (k : run.Instance) (d : Predicate) (q : Fraction) (Possible : run.State → Type 0) : Type 0 where
    pub body : Assertion
    pub body_is : d.body ≡ Some body
    pub more : run.Holdings
    pub enough : Le q (run.amount c.holdings (run.Folded k))
    pub adds : Eventually (λ n. add p (deeper p n) q body (start c k d q) ≡ Ok (run.with_holdings more (start c k d q)))
    pub gives : (outcome : Outcome) → give p Possible q body (start c k d q) outcome → EndsAt (run.with_holdings more (start c k d q)) outcome
    pub goes : Goes means world scope i n on (run.with_holdings more c)

  -- in the body of what was taken, with its parameters
  entered_stands : {scope : Scope} {i : Interpretation} {n : ℕ} {c : run.State} {after : rules.Chunk → Going} {q : Fraction} (at : Place) (x : Name) (ts : List Term) (vs : List Value) → (keys : InstanceTerms means world n i x ts vs) →
      (t : Taken means world scope i n after c (run.Folded record { predicate = x; arguments = vs }) SnapSort q) → (inner : Bool) → (inner ≡ true → MayMark applying.marks) →
      Stands means world keys.predicate.parameters t.interp (record (entered (rules.bind keys.predicate.parameters ts) at t.state) { inner = inner }) (start c (record { predicate = x; arguments = vs }) keys.predicate q)
  entered_stands at x ts vs keys t inner marked =
      let d = keys.predicate in
      record {
        store = bound means world t.state.next t.interp d.parameters ts vs (terms_later means world t.later t.extends d.parameters ts vs keys.each);
        path = t.stands.path;
        heap = t.stands.heap;
        old = t.stands.old;
        awake = t.stands.awake;
        bounded = t.stands.bounded;
        null = t.stands.null;
        standard = t.stands.standard;
        owned = t.stands.owned;
        marked = marked;
        holds = t.stands.holds;
        old_holds = t.stands.old_holds;
      }

  module _ (n : ℕ) (parts : PartsGo means world (outer p n)) (Possible : run.State → Type 0) where
    body_exchanged : {scope : Scope} {i : Interpretation} {s : rules.State} {c : run.State} (at : Place) (x : Name) (ts : List Term) (vs : List Value) (a : Term) (q : Fraction) (after : rules.Chunk → Going) (on : Going) →
        Stands means world scope i s c → (keys : InstanceTerms means world s.next i x ts vs) → Good means s.next i a RealSort → Same (as_fraction (value i a)) q → Positive q →
        (t : Taken means world scope i s.next after c (run.Folded record { predicate = x; arguments = vs }) SnapSort q) → IsWritten t.chunk.value → (e : Assertion) → keys.predicate.body ≡ Some e →
        Cleared (produce p (outer p n) e a (Some t.chunk.value) (record (entered (rules.bind keys.predicate.parameters ts) at t.state) { inner = leads_inside t.chunk }) (λ s2. on (back s s2))) →
        Exchange scope i s.next on c (record { predicate = x; arguments = vs }) keys.predicate q Possible
    body_exchanged {scope = scope} {i = i} {s = s} {c = c} at x ts vs a q after on st keys ga same pos t written e body h = record {
      body = e;
      body_is = body;
      more = added q opening.entries_of (run.lost (run.Folded k) q c.holdings);
      enough = t.enough;
      adds = r.adds;
      gives = r.gives;
      goes = record {
        interp = r.goes.interp;
        state = back s r.goes.state;
        extends = extends-trans means t.later t.extends r.goes.extends;
        later = le_trans t.later r.goes.later;
        stands = record {
          store = store_later means world (le_trans t.later r.goes.later) (extends-trans means t.later t.extends r.goes.extends) scope s.store c.store st.store;
          path = r.goes.stands.path;
          heap = r.goes.stands.heap;
          old = r.goes.stands.old;
          awake = r.goes.stands.awake;
          bounded = r.goes.stands.bounded;
          null = r.goes.stands.null;
          standard = r.goes.stands.standard;
          owned = r.goes.stands.owned;
          marked = st.marked;
          holds = r.goes.stands.holds;
          old_holds = r.goes.stands.old_holds;
        };
        cleared = r.goes.cleared;
      };
    }
      where
        k : run.Instance
        k = record { predicate = x; arguments = vs }

        d : Predicate
        d = keys.predicate

        grounded : IsGrounded p c.heap (record { predicate = x; arguments = vs })
        grounded = st.holds.grounded k (positive-le pos t.enough)

        opening : IsOpen p c.heap (record { predicate = x; arguments = vs }) keys.predicate e
        opening = opened p c.heap k d e keys.named body grounded

        speaks : IsTyped p d.parameters e × SpeaksOf Held (λ f. ⊥) e
        speaks = speak x d e keys.held keys.named body

        inside : run.State
        inside = start c (record { predicate = x; arguments = vs }) keys.predicate q

        seen : Sees (bare (bind keys.predicate.parameters vs) c.heap) (start c (record { predicate = x; arguments = vs }) keys.predicate q)
        seen = record { store = refl; heap = refl }

        entered_state : rules.State
        entered_state = record (entered (rules.bind keys.predicate.parameters ts) at t.state) { inner = leads_inside t.chunk }

        inner_stands : Stands means world keys.predicate.parameters t.interp (record (entered (rules.bind keys.predicate.parameters ts) at t.state) { inner = leads_inside t.chunk }) (start c (record { predicate = x; arguments = vs }) keys.predicate q)
        inner_stands = entered_stands at x ts vs keys t (leads_inside t.chunk) (λ e. leads_marks p applying.marks c.heap k (t.leads e))

        there : (u : Tree) × IsTree p c.heap (record { predicate = x; arguments = vs }) u × (value t.interp t.chunk.value ≡ TreeElement u)
        there = t.there pos

        snapshot : SnapshotOf means p good Held no_perm bounded applying t.state.next t.interp (start c (record { predicate = x; arguments = vs }) keys.predicate q) e t.chunk.value
        snapshot = by_fuel there.1.0 there.1.1
          where
            nothing : None ≡ Some there.0 → ⊥
            nothing e = cc

            by_fuel : (m : ℕ) → tree_by p m c.heap (record { predicate = x; arguments = vs }) ≡ Some there.0 →
                SnapshotOf means p good Held no_perm bounded applying t.state.next t.interp (start c (record { predicate = x; arguments = vs }) keys.predicate q) e t.chunk.value
            by_fuel zero f = absurd (nothing f)
            by_fuel (suc m) f = record {
              good_term = t.good;
              written = written;
              fuel = m;
              tree = there.0;
              is = same_tree p (applications p m) (tree_by p m c.heap) inside e (good.plain x d e keys.named body)
                  ∙ tree_seen p Rigid (bare (bind d.parameters vs) c.heap) inside seen (tree_by p m c.heap) e (good.plain x d e keys.named body) ∙ sym (tree_of_body p c.heap k d e m keys.named body) ∙ f;
              value_is = there.2;
            }

        holds : HoldsInstances p Held bounded c.heap (added q opening.entries_of (run.lost (run.Folded k) q c.holdings))
        holds = exchanged p good Held bounded c.heap c.holdings k q opening.fuel opening.inner opening.entries_of st.holds t.stands.holds pos opening.flat_is opening.body_is
            (entries_typed p Held no_perm d.parameters vs (values_typed means world s.next i d.parameters ts vs keys.each) c.heap e opening.entries_of speaks.0 (good.plain x d e keys.named body) speaks.1 opening.entries_are) opening.can
            (entries_positive p (bare (bind d.parameters vs) c.heap) e opening.entries_of (good.plain x d e keys.named body) opening.entries_are)

        rigid : AreRigid vs
        rigid = typed_rigid d.parameters vs keys.no_perm (values_typed means world s.next i d.parameters ts vs keys.each)

        inner : leads_inside t.chunk ≡ true → AllInner p good c.heap applying.marks opening.entries_of
        inner e = entries_inner p good c.heap applying.marks k rigid (t.leads e) opening.fuel opening.inner opening.flat_is opening.entries_of opening.body_is

        scale : ScaleStands means world t.state.next t.interp a q
        scale = record { good = good_later means t.later t.extends ga; is = subst (λ z. Same (as_fraction z) q) (sym (value_kept means a ga.settled t.extends)) same; positive = pos }

        r : Produced means p good Held no_perm bounded applying (outer p n) parts Possible keys.predicate.parameters t.interp t.state.next (λ s2. on (back s s2)) (start c (record { predicate = x; arguments = vs }) keys.predicate q) e q opening.entries_of
        r = plain_produced means p good Held no_perm bounded applying (outer p n) parts Possible (bodies_keep p good n) q e d.parameters inside opening.entries_of speaks.0 (body_speaks Held applying.Applied e speaks.1) (good.plain x d e keys.named body)
            (entries_seen p Rigid (bare (bind d.parameters vs) c.heap) inside seen e (good.plain x d e keys.named body) ∙ opening.entries_are) holds t.interp entered_state a (Some t.chunk.value) (λ s2. on (back s s2)) snapshot scale inner_stands inner h

  -- at every depth, by what holds one depth below
  exchange_at : (m : ℕ) → ((n : ℕ) → m ≡ suc n → PartsGo means world (outer p n)) → (Possible : run.State → Type 0) → {scope : Scope} {i : Interpretation} {s : rules.State} {c : run.State} (at : Place) (x : Name) (ts : List Term) (vs : List Value) (a : Term) (q : Fraction) (on : Going) →
      (keys : InstanceTerms means world s.next i x ts vs) → Good means s.next i a RealSort → Same (as_fraction (value i a)) q → Positive q → Stands means world scope i s c → Cleared (unfolded p (outer p m) at x ts a s on) →
      Exchange scope i s.next on c (record { predicate = x; arguments = vs }) keys.predicate q Possible
  exchange_at m parts Possible {scope = scope} {i = i} {s = s} {c = c} at x ts vs a q on keys ga same pos st w = by_body keys.predicate.body refl with_predicate
    where
      of_body : Predicate → rules.Chunk → rules.State → Option Assertion → Questions
      of_body d c s1 b = elim b as (λ b. Questions) [
        | None ↦ never at UnfoldCode s1
        | Some body ↦ (outer p m).produce body a (Some c.value) (record (entered (rules.bind d.parameters ts) at s1) { inner = leads_inside c }) (λ s2. on (back s s2))
      ]

      after : rules.Chunk → Going
      after c s1 = elim (predicate_named p x) as (λ d. Questions) [
        | None ↦ never at UnfoldCode s1
        | Some d ↦ elim d.body as (λ b. Questions) [
          | None ↦ never at UnfoldCode s1
          | Some body ↦ (outer p m).produce body a (Some c.value) (record (entered (rules.bind d.parameters ts) at s1) { inner = leads_inside c }) (λ s2. on (back s s2))
        ]
      ]

      t : Taken means world scope i s.next after c (run.Folded record { predicate = x; arguments = vs }) SnapSort q
      t = take_one means world (of_instance x ts vs keys) a q at UnfoldCode after st ga same (le-trans (positive_le pos) same.back) w

      with_predicate : Cleared (of_body keys.predicate t.chunk t.state keys.predicate.body)
      with_predicate = subst (λ o. Cleared (elim o as (λ d. Questions) [
        | None ↦ never at UnfoldCode t.state
        | Some d ↦ of_body d t.chunk t.state d.body
      ])) keys.named t.cleared

      -- no rule leads on past the depth
      by_depth : (e : Assertion) → keys.predicate.body ≡ Some e → (j : ℕ) → m ≡ j → Cleared ((outer p j).produce e a (Some t.chunk.value) (record (entered (rules.bind keys.predicate.parameters ts) at t.state) { inner = leads_inside t.chunk }) (λ s2. on (back s s2))) →
          Exchange scope i s.next on c (record { predicate = x; arguments = vs }) keys.predicate q Possible
      by_depth e body zero is h = stuck means world nowhere AssertCode (entered_stands at x ts vs keys t (leads_inside t.chunk) (λ e. leads_marks p applying.marks c.heap (record { predicate = x; arguments = vs }) (t.leads e))) h
      by_depth e body (suc n) is h = body_exchanged n (parts n is) Possible at x ts vs a q after on st keys ga same pos t (t.written tt) e body h

      by_body : (b : Option Assertion) → keys.predicate.body ≡ b → Cleared (of_body keys.predicate t.chunk t.state keys.predicate.body) → Exchange scope i s.next on c (record { predicate = x; arguments = vs }) keys.predicate q Possible
      by_body None body h = stuck means world at UnfoldCode t.stands (subst (λ b. Cleared (of_body keys.predicate t.chunk t.state b)) body h)
      by_body (Some e) body h = by_depth e body m refl (subst (λ b. Cleared (of_body keys.predicate t.chunk t.state b)) body h)

  -- Unfolding

  pub unfolds_by : (m : ℕ) → ((n : ℕ) → m ≡ suc n → PartsGo means world (outer p n)) → UnfoldsGo means world (outer p m)
  unfolds_by m below scope i s c at x ts vs a q on keys ga same pos st w =
      let e = exchange_at m below (λ (u : run.State). Unit {0}) at x ts vs a q on keys ga same pos st w in
      record {
        more = e.more;
        held = has pos.holds e.enough.holds;
        opened = later e.adds (λ n f. exchange_is n keys.named e.body_is f);
        goes = e.goes;
      }
    where
      has : {b d : Bool} → b ≡ true → d ≡ true → (b && d) ≡ true
      has {b = true} f g = g
      has {b = false} f g = f

      -- by one unit of fuel more
      later : {P : ℕ → Type 0} {Q : ℕ → Type 0} → Eventually P → ((n : ℕ) → P n → Q (suc n)) → Eventually Q
      later {P = P} {Q = Q} (n, h) f = (suc n, go)
        where
          below_one : (n m : ℕ) → suc n ≤ suc m → n ≤ m
          below_one n m le = omega arith

          none_below : (n : ℕ) → suc n ≤ zero → ⊥
          none_below n le = omega arith

          go : (m : ℕ) → suc n ≤ m → Q m
          go zero le = absurd (none_below n le)
          go (suc m) le = f m (h m (below_one n m le))

      exchange_is : (n : ℕ) {d : Predicate} {body : Assertion} {more : run.Holdings} → predicate_named p x ≡ Some d → d.body ≡ Some body →
          add p (deeper p n) q body (start c (record { predicate = x; arguments = vs }) d q) ≡ Ok (run.with_holdings more (start c (record { predicate = x; arguments = vs }) d q)) →
          exchange p (deeper p n) (record { predicate = x; arguments = vs }) q c ≡ Some (run.with_holdings more c)
      exchange_is n {d = d} {body = body} {more = more} named body_is f = ap of_predicate named ∙ ap (of_body d) body_is ∙ ap (λ y. to_option (y >>= λ u. Ok (run.with_store c.store u))) f
        where
          of_body : Predicate → Option Assertion → Option run.State
          of_body d None = None
          of_body d (Some e) = to_option (add p (deeper p n) q e (start c (record { predicate = x; arguments = vs }) d q) >>= λ u. Ok (run.with_store c.store u))

          of_predicate : Option Predicate → Option run.State
          of_predicate None = None
          of_predicate (Some d) = of_body d d.body

  -- what is shown of an application at a depth, by what holds one depth below
  abbrev pub AppliesBy : Type 0
  AppliesBy = (m : ℕ) → ((n : ℕ) → m ≡ suc n → PartsGo means world (outer p n)) → AppliesGo means world (outer p m)

  below_one : (m : ℕ) → PartsGo means world (outer p m) → (n : ℕ) → suc m ≡ suc n → PartsGo means world (outer p n)
  below_one m k n e = subst (λ n. PartsGo means world (outer p n)) (one m n e) k
    where
      one : (m n : ℕ) → suc m ≡ suc n → m ≡ n
      one m n e = cc

  none_below : (n : ℕ) → zero ≡ suc n → PartsGo means world (outer p n)
  none_below n e = absurd (nothing e)
    where
      nothing : zero ≡ suc n → ⊥
      nothing e = cc

  -- so the parts go at every depth
  pub parts_go : AppliesBy → (m : ℕ) → PartsGo means world (outer p m)
  parts_go applies zero = record { unfolds = unfolds_by zero none_below; applies = applies zero none_below }
  parts_go applies (suc m) =
      let below = below_one m (parts_go applies m) in
      record { unfolds = unfolds_by (suc m) below; applies = applies (suc m) below }

  -- An unfold: what is given in the place of the instance ends here

  pub unfold_goes : ((n : ℕ) → PartsGo means world (outer p n)) → (m : ℕ) → UnfoldGo means world (outer p m)
  unfold_goes parts m scope i s c at x ts vs a q on keys ga same pos st w outcome ran = by_check (rw_body ran)
    where
      k : run.Instance
      k = record { predicate = x; arguments = vs }

      e : Exchange scope i s.next on c (record { predicate = x; arguments = vs }) keys.predicate q (IsConsistent p)
      e = exchange_at m (λ n is. parts n) (IsConsistent p) at x ts vs a q on keys ga same pos st w

      body_run : Predicate → Assertion → Outcomes
      body_run d b = checked (λ n. guard at (has_instance c (record { predicate = x; arguments = vs }) q)) (λ _.
          and_then (failing_at at (give p (IsConsistent p) q b (start c (record { predicate = x; arguments = vs }) d q)))
          (λ t. ends (run.with_store c.store t)))

      of_body : Predicate → Option Assertion → Outcomes
      of_body d None o = ⊥
      of_body d (Some b) o = body_run d b o

      of_predicate : Option Predicate → Outcomes
      of_predicate None o = ⊥
      of_predicate (Some d) o = of_body d d.body o

      rw_body : meaning.unfold_it p c at (record { predicate = x; arguments = vs }, q) outcome → body_run keys.predicate e.body outcome
      rw_body h = subst (λ z. of_body keys.predicate z outcome) e.body_is (subst (λ z. of_predicate z outcome) keys.named h)

      has : has_instance c (record { predicate = x; arguments = vs }) q ≡ true
      has = and_from _ _ pos.holds e.enough.holds

      allowed : Eventually (λ (n : ℕ). guard at (has_instance c (record { predicate = x; arguments = vs }) q) ≡ Ok tt)
      allowed = always (λ n. ap (guard at) has)

      first : (other : Outcome) → failing_at at (give p (IsConsistent p) q e.body (start c (record { predicate = x; arguments = vs }) keys.predicate q)) other → EndsAt (run.with_holdings e.more (start c (record { predicate = x; arguments = vs }) keys.predicate q)) other
      first (Ends t) h = e.gives (Ends t) h
      first (FailsAt other) h = e.gives (FailsAt h.0.0) h.0.1
      first Stops h = tt

      leaves : and_then (failing_at at (give p (IsConsistent p) q e.body (start c (record { predicate = x; arguments = vs }) keys.predicate q))) (λ t. ends (run.with_store c.store t)) outcome → Leaves means world scope i s.next on outcome
      leaves (goes_on t h r) = ends_leaves means world scope i s.next on (run.with_holdings e.more c) outcome (subst (λ z. ends (run.with_store c.store z) outcome) (first (Ends t) h) r) e.goes
      leaves (is_over over h) = over_leaves outcome over (first outcome h)
        where
          over_leaves : (other : Outcome) → IsOver other → EndsAt (run.with_holdings e.more (start c (record { predicate = x; arguments = vs }) keys.predicate q)) other → Leaves means world scope i s.next on other
          over_leaves (Ends t) over z = absurd over
          over_leaves (FailsAt other) over z = absurd z
          over_leaves Stops over z = tt

      by_check : body_run keys.predicate e.body outcome → Leaves means world scope i s.next on outcome
      by_check (passes u h rest) = leaves rest
      by_check (refused place h f) = no_refusal tt place allowed h

-- Where no function may be applied
module _ (means : Meaning) (p : Program) (good : GoodBodies p) (Held : Name → Type 0) (no_perm : (x : Name) (d : Predicate) → predicate_named p x ≡ Some d → HaveNoPerm d.parameters) (bounded : Bool) (speak : BodiesSpeak p Held) where
  pub instances_go : (m : ℕ) → PartsGo means (instances_world p good Held no_perm bounded) (outer p m)
  instances_go = parts_go means p good Held no_perm bounded nothing_applied speak (λ m below scope i s c at f g ts vs on allowed named each st h. absurd allowed)
