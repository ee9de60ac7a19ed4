-- Where giving an assertion fails, no walk that produces it is cleared, also with a snapshot: its term may be worth a tree that
-- is right up to the part that fails.
use Rattle.std.proofs.Common.{◌≡◌, inl, inr, Bool, true, false, cond, List, Some, refl, sym, ◌∙◌, ap, subst}
use Rattle.vx_frac.specs.Fractions.{full}
use Rattle.vx_ast.specs.declared.Place.{Place}
use Rattle.vx_ast.specs.Syntax.{Name, Declaration, Program, Predicate, Function, predicate_named, function_named, Assertion, Pure, Points, Both, Implied, Chosen}
use Rattle.vx_ast.specs.Syntax as syntax
use Rattle.vx_meaning.specs.Values.{Value, BoolValue, is_true}
use Rattle.vx_meaning.specs.States as run
use Rattle.vx_meaning.specs.States.{Heap, Holdings, At, Folded}
use Rattle.vx_meaning.specs.Consistent.{IsConsistent}
use Rattle.vx_meaning.specs.Outcomes.{FailsAt, passes, refused, goes_on, is_over, ends, stops}
use Rattle.vx_meaning.specs.Give.{give, when}
use Rattle.vx_terms.specs.Sorts.{SnapSort}
use Rattle.vx_terms.specs.Terms.{Term}
use Rattle.vx_terms.specs.Build.{first, second}
use Rattle.vx_terms.specs.Interpretations.{Interpretation, TreeElement, Tree, Empty, Pair, value}
use Rattle.vx_rules.specs.States as rules
use Rattle.vx_rules.specs.Trees.{Step}
use Rattle.vx_rules.specs.Chunks.{field_key, instance_key, put}
use Rattle.vx_rules.specs.Rules.{Going, Outer, field_sort, produced_value, after_value, produced_snapshot, after_snapshot, with_split, with_unit, produce}
use Rattle.vx_types.specs.Typing.{HaveNoPerm, IsTyped, IsTypedFunction}
use Rattle.vx_elements.proofs.Settled.{Meaning, value_kept}
use Rattle.vx_elements.proofs.Built.{Good, good_later}
use Rattle.vx_elements.proofs.Eventually.{one_answer, no_refusal}
use Rattle.vx_sound.proofs.Marks.{Unmarked, MayMark, unrooted}
use Rattle.vx_sound.proofs.World.{World}
use Rattle.vx_sound.proofs.Standard.{IsWritten}
use Rattle.vx_sound.proofs.Speaks.{SpeaksOf}
use Rattle.vx_sound.proofs.Passes.{Cleared}
use Rattle.vx_sound.proofs.Stands.{Stands}
use Rattle.vx_sound.proofs.Goes.{Goes}
use Rattle.vx_sound.proofs.Evaluate.{PartsGo, eval_goes}
use Rattle.vx_sound.proofs.Giving.{ScaleStands, scale_later, located, instance_located}
use Rattle.vx_sound_preds.specs.Bodies.{GoodBodies}
use Rattle.vx_sound_preds.specs.Asking.{IsAsking}
use Rattle.vx_sound_preds.proofs.Adding.{added}
use Rattle.vx_sound_preds.proofs.Holding.{HoldsInstances, Applying, functions_world}
use Rattle.vx_sound_preds.proofs.Given.{holding, gave}
use Rattle.vx_sound_preds.proofs.Asked.{speaks_for}
use Rattle.vx_sound_preds.proofs.Produced.{SnapshotOf, parts_of, produced, picked}

module _ (means : Meaning) (p : Program) (good : GoodBodies p) (Held : Name → Type 0) (no_perm : (x : Name) (d : Predicate) → predicate_named p x ≡ Some d → HaveNoPerm d.parameters) (applying : Applying)
    (o : Outer) (parts : PartsGo means (functions_world p good Held no_perm true applying) o) (unmarked : applying.marks ≡ Unmarked) (functions : (x : Name) (g : Function) → function_named p x ≡ Some g → IsTypedFunction p g)
    (ds : List Declaration) (vs : List Value) (types : run.HaveTypes ds vs) (np : HaveNoPerm ds) (h : Heap) where
  abbrev world : World
  world = functions_world p good Held no_perm true applying

  abbrev at_holdings : Holdings → run.State
  at_holdings hs = holding p good functions Held no_perm ds vs types np h hs

  -- a snapshot that is worth this tree isn't produced by a cleared walk
  abbrev Refutes : Assertion → Holdings → Tree → Type 0
  Refutes a hs u =
      (i : Interpretation) (s : rules.State) (scale t : Term) (on : Going) → Good means s.next i t SnapSort → IsWritten t → value i t ≡ TreeElement u → ScaleStands means world s.next i scale full → Stands means world ds i s (at_holdings hs) →
      Cleared (produce p o a scale (Some t) s on) → ⊥

  pub refuses : (a : Assertion) (hs : Holdings) (place : Place) → IsTyped p ds a → IsAsking p a → SpeaksOf Held applying.Applied a → HoldsInstances p Held true h hs → give p (IsConsistent p) full a (at_holdings hs) (FailsAt place) → (u : Tree) × Refutes a hs u
  refuses (Pure e) hs place ty pl sp k (passes v ev r) = absurd (never (is_true v) r)
    where
      never : (b : Bool) → when b (ends (at_holdings hs)) stops (FailsAt place) → ⊥
      never true r = r
      never false r = r
  refuses (Pure e) hs place ty pl sp k (refused at ev r) = (
    Empty,
    λ i s scale t on gt wt is sc st w.
        let z = eval_goes means world o parts ty sp (λ u s1. Step (on (with_unit (Some t) (rules.with_fact u s1)))) st w in
        no_refusal z.result at z.fits ev,
  )
  refuses (Points at e f share) hs place ty pl sp k (passes part ev (inl r)) = absurd r.1
  refuses (Points at e f share) hs place ty pl sp k (passes part ev (inr r)) = absurd r.1
  refuses (Points at e f share) hs place ty pl sp k (refused other ev r) = (
    Empty,
    λ i s scale t on gt wt is sc st w.
        let after = λ (r a : Term) (s3 : rules.State). Step (on (put (record (field_key f r) { amount = a; value = produced_value (field_sort p f) (Some t) s3; inner = s.inner }) (after_value (field_sort p f) (Some t) s3))) in
        let l = located means world o parts at f scale full after ty.0 sp.0 ty.2 sp.1 sc st w in
        no_refusal (At record { receiver = l.reference; field = f }, l.fraction) other l.part ev,
  )
  refuses (syntax.Instance at x es share) hs place ty pl sp k (passes part ev (inl r)) = absurd r.1
  refuses (syntax.Instance at x es share) hs place ty pl sp k (passes part ev (inr r)) = absurd r.1
  refuses (syntax.Instance at x es share) hs place ty pl sp k (refused other ev r) = (
    Empty,
    λ i s scale t on gt wt is sc st w.
        let after = λ (ts : List Term) (a : Term) (s3 : rules.State). Step (on (put (record (instance_key x ts) { amount = a; value = produced_snapshot (Some t) s3; inner = s.inner }) (after_snapshot (Some t) s3))) in
        let l = instance_located means world o parts at x ty.0.0 scale full after sp.0 ty.0.1 ty.0.2 sp.1 ty.1 sp.2 sc st w in
        no_refusal (Folded record { predicate = x; arguments = l.results }, l.fraction) other l.part ev,
  )
  refuses (Both a b) hs place ty pl sp k (is_over over x) =
      let r = refuses a hs place ty.0 pl.0 sp.0 k x in (
        Pair r.0 Empty,
        λ i s scale t on gt wt is sc st w.
            let m = parts_of means p good Held no_perm true applying t r.0 Empty st gt wt is in
            r.1 i (with_split (Some t) s) scale (first t) (λ s1. produce p o b scale (Some (second t)) s1 on) (subst (λ n. Good means n i (first t) SnapSort) (sym m.next_is) m.first_good) m.first_written m.first_is
            (subst (λ n. ScaleStands means world n i scale full) (sym m.next_is) sc) m.stands w,
      )
  refuses (Both a b) hs place ty pl sp k (goes_on mid x y) =
      let one = gave p good functions Held no_perm ds vs types np h a hs mid ty.0 pl.0 (speaks_for Held applying.Applied a sp.0) k x in
      let r = refuses b (added full one.entries_of hs) place ty.1 pl.1 sp.1 one.holds (subst (λ m. give p (IsConsistent p) full b m (FailsAt place)) one.is y) in (
        Pair one.tree r.0,
        λ i s scale t on gt wt is sc st w.
            let m = parts_of means p good Held no_perm true applying t one.tree r.0 st gt wt is in
            let after : Going = λ s1. produce p o b scale (Some (second t)) s1 on in
            let left : SnapshotOf means p good Held no_perm true applying (with_split (Some t) s).next i (at_holdings hs) a (first t) =
            record { good_term = subst (λ n. Good means n i (first t) SnapSort) (sym m.next_is) m.first_good; written = m.first_written; fuel = one.tree_is.0; tree = one.tree; is = one.tree_is.1; value_is = m.first_is } in
            let z = produced means p good Held no_perm true applying o parts (IsConsistent p) full a (inr (unrooted unmarked)) ds (at_holdings hs) one.fuel one.entries_of ty.0 sp.0 pl.0 one.entries_are one.holds
            i (with_split (Some t) s) scale (Some (first t)) after left (subst (λ n. ScaleStands means world n i scale full) (sym m.next_is) sc) m.stands (λ e. absurd (subst MayMark unmarked (m.stands.marked e))) w in
            let g : Goes means world ds i s.next after (at_holdings (added full one.entries_of hs)) = subst (λ n. Goes means world ds i n after (at_holdings (added full one.entries_of hs))) m.next_is z.goes in
            r.1 g.interp g.state scale (second t) on (good_later means g.later g.extends m.second_good) m.second_written (value_kept means (second t) m.second_good.settled g.extends ∙ m.second_is) (scale_later means world g.later g.extends sc) g.stands g.cleared,
      )
  refuses (Implied c a) hs place ty pl sp k (refused other ev r) = (
    Empty,
    λ i s scale t on gt wt is sc st w.
        let m = picked means p good Held no_perm true applying o parts (IsConsistent p) c (λ s2. produce p o a scale (Some t) s2 on) (λ s2. on (with_unit (Some t) s2)) ty.0 sp.0 st w in
        no_refusal (BoolValue m.test) other m.fits ev,
  )
  refuses (Implied c a) hs place ty pl sp k (passes v ev r) = go (is_true v) refl r (λ g. refuses a hs place ty.1 pl.1 sp.1 k g)
    where
      go : (b : Bool) → is_true v ≡ b → when b (give p (IsConsistent p) full a (at_holdings hs)) (ends (at_holdings hs)) (FailsAt place) → (give p (IsConsistent p) full a (at_holdings hs) (FailsAt place) → (u : Tree) × Refutes a hs u) → (u : Tree) × Refutes (Implied c a) hs u
      go true e r f =
          let z = f r in (
            z.0,
            λ i s scale t on gt wt is sc st w.
                let left : Going = λ s2. produce p o a scale (Some t) s2 on in
                let right : Going = λ s2. on (with_unit (Some t) s2) in
                let m = picked means p good Held no_perm true applying o parts (IsConsistent p) c left right ty.0 sp.0 st w in
                let g : Goes means world ds i s.next left (at_holdings hs) = subst (λ (b : Bool). Goes means world ds i s.next (cond b left right) (at_holdings hs)) (sym (ap is_true (one_answer v (BoolValue m.test) ev m.fits)) ∙ e) m.goes in
                z.1 g.interp g.state scale t on (good_later means g.later g.extends gt) wt (value_kept means t gt.settled g.extends ∙ is) (scale_later means world g.later g.extends sc) g.stands g.cleared,
          )
      go false e r f = absurd r
  refuses (Chosen c a b) hs place ty pl sp k (refused other ev r) = (
    Empty,
    λ i s scale t on gt wt is sc st w.
        let m = picked means p good Held no_perm true applying o parts (IsConsistent p) c (λ s2. produce p o a scale (Some t) s2 on) (λ s2. produce p o b scale (Some t) s2 on) ty.0 sp.0 st w in
        no_refusal (BoolValue m.test) other m.fits ev,
  )
  refuses (Chosen c a b) hs place ty pl sp k (passes v ev r) = go (is_true v) refl r (λ g. refuses a hs place ty.1 pl.1 sp.1 k g) (λ g. refuses b hs place ty.2 pl.2 sp.2 k g)
    where
      taken : (x : Bool) (d : Assertion) → is_true v ≡ x → ((scale t : Term) (on : Going) → (let f : Going = cond x (λ s2. produce p o a scale (Some t) s2 on) (λ s2. produce p o b scale (Some t) s2 on) in f) ≡ (λ s2. produce p o d scale (Some t) s2 on)) → (u : Tree) × Refutes d hs u → (u : Tree) × Refutes (Chosen c a b) hs u
      taken x d e same z = (
        z.0,
        λ i s scale t on gt wt is sc st w.
            let left : Going = λ s2. produce p o a scale (Some t) s2 on in
            let right : Going = λ s2. produce p o b scale (Some t) s2 on in
            let m = picked means p good Held no_perm true applying o parts (IsConsistent p) c left right ty.0 sp.0 st w in
            let g : Goes means world ds i s.next (cond x left right) (at_holdings hs) = subst (λ (b : Bool). Goes means world ds i s.next (cond b left right) (at_holdings hs)) (sym (ap is_true (one_answer v (BoolValue m.test) ev m.fits)) ∙ e) m.goes in
            let g' : Goes means world ds i s.next (λ s2. produce p o d scale (Some t) s2 on) (at_holdings hs) = subst (λ (f : Going). Goes means world ds i s.next f (at_holdings hs)) (same scale t on) g in
            z.1 g'.interp g'.state scale t on (good_later means g'.later g'.extends gt) wt (value_kept means t gt.settled g'.extends ∙ is) (scale_later means world g'.later g'.extends sc) g'.stands g'.cleared,
      )

      go : (x : Bool) → is_true v ≡ x → when x (give p (IsConsistent p) full a (at_holdings hs)) (give p (IsConsistent p) full b (at_holdings hs)) (FailsAt place) → (give p (IsConsistent p) full a (at_holdings hs) (FailsAt place) → (u : Tree) × Refutes a hs u) →
          (give p (IsConsistent p) full b (at_holdings hs) (FailsAt place) → (u : Tree) × Refutes b hs u) → (u : Tree) × Refutes (Chosen c a b) hs u
      go true e r f g = taken true a e (λ scale t on. refl) (f r)
      go false e r f g = taken false b e (λ scale t on. refl) (g r)
