-- At every depth of the rules, and however deep applications are checked, the parts of other members lead on along quiet walks.
use Rattle.std.proofs.Common.{◌≡◌, ℕ, zero, suc, true, false, Option, Some, None, refl, ◌∙◌, ap, subst}
use Rattle.std.specs.Prelude.{Ok, Err}
use Rattle.std.proofs.lemmas.Option.{same_Some}
use Rattle.vx_frac.specs.Fractions.{Fraction}
use Rattle.vx_ast.specs.declared.Place.{Place}
use Rattle.vx_ast.specs.Syntax.{Name, Program, Predicate, Function, predicate_named, function_named, Assertion, Pure, Points, Both, Implied, Chosen, place_of}
use Rattle.vx_ast.specs.Syntax as syntax
use Rattle.vx_meaning.specs.Values.{Value, IntValue, BoolValue, RefValue, PermValue}
use Rattle.vx_meaning.specs.States as run
use Rattle.vx_meaning.specs.States.{Resource}
use Rattle.vx_meaning.specs.Fits.{Checked, ◌>>=◌, to_option, Deeper, choose, fit, field_part, instance_part, add, add_part, exchange}
use Rattle.vx_terms.specs.Interpretations.{Interpretation}
use Rattle.vx_rules.specs.Trees.{AssertCode}
use Rattle.vx_rules.specs.Rules.{outer, nowhere}
use Rattle.vx_types.specs.Typing.{HaveNoPerm, IsTyped, IsTypedFunction}
use Rattle.vx_elements.proofs.Settled.{Meaning}
use Rattle.vx_sound.proofs.World.{World}
use Rattle.vx_sound.proofs.Speaks as instances
use Rattle.vx_sound_preds.specs.Bodies.{GoodBodies}
use Rattle.vx_sound_preds.proofs.Fitting.{undo}
use Rattle.vx_sound_preds.proofs.Framing.{ok_same}
use Rattle.vx_sound_preds.proofs.Holding.{quiet_world}
use Rattle.vx_sound_funcs.specs.Firm.{firmly, GoodFunctions}
use Rattle.vx_live.proofs.Speaks.{SpeaksOf}
use Rattle.vx_live.proofs.Quiet.{outer_left}
use Rattle.vx_law.proofs.Told.{Walk, never_told, on_quiet}
use Rattle.vx_law.proofs.ToldEvaluate.{Kept, PartsTold, eval_told}
use Rattle.vx_sound_funcs.proofs.Firm.{speak_now}
use Rattle.vx_law.proofs.Values.{firm_worth}
use Rattle.vx_law.proofs.ToldProduce.{produce_told, Produced}
use Rattle.vx_law.proofs.ToldUnfold.{unfolded_told}
use Rattle.vx_law.proofs.ToldConsume.{consume_told, Consumed}
use Rattle.vx_law.proofs.Sides.{AllTold}
use Rattle.vx_law.proofs.Applied.{Spoken, Knows, applied_told}

-- An addition changes only what is held.

kept_self : (s : run.State) → Kept s s
kept_self s = record { store = refl; heap = refl; old_heap = refl; old_holdings = refl }

kept_both : {s t u : run.State} → Kept s t → Kept t u → Kept s u
kept_both a b = record { store = b.store ∙ a.store; heap = b.heap ∙ a.heap; old_heap = b.old_heap ∙ a.old_heap; old_holdings = b.old_holdings ∙ a.old_holdings }

kept_if : (s t : run.State) → ◌≡◌ {A = Checked run.State} (Ok s) (Ok t) → Kept s t
kept_if s t e = subst (Kept s) (ok_same s t e) (kept_self s)

kept_choice : (at : Place) (v : Value) (x y : Checked run.State) (s t : run.State) → (x ≡ Ok t → Kept s t) → (y ≡ Ok t → Kept s t) → choose at v x y ≡ Ok t → Kept s t
kept_choice at (BoolValue true) x y s t h k e = h e
kept_choice at (BoolValue false) x y s t h k e = k e
kept_choice at (IntValue z) x y s t h k e = cc
kept_choice at (RefValue z) x y s t h k e = cc
kept_choice at (PermValue z) x y s t h k e = cc

some_of : {A : Type 0} (x : Checked A) (a : A) → to_option x ≡ Some a → x ≡ Ok a
some_of (Ok b) a e = ap Ok (same_Some b a e)
some_of (Err at) a e = cc

module _ (p : Program) (d : Deeper) (q : Fraction) where
  part_kept : (s t : run.State) (part : Resource × Fraction) → add_part p d q s part ≡ Ok t → Kept s t
  part_kept s t part e = subst (Kept s) (ok_same _ t e) (record { store = refl; heap = refl; old_heap = refl; old_holdings = refl })

  add_kept : (a : Assertion) (s t : run.State) → add p d q a s ≡ Ok t → Kept s t
  add_kept (Pure e) s t eq = let x = undo (fit p d s e) (λ _. Ok s) t eq in kept_if s t x.then
  add_kept (Points at e f share) s t eq = let x = undo (field_part p d s at e f share) (add_part p d q s) t eq in part_kept s t x.it x.then
  add_kept (syntax.Instance at i es share) s t eq = let x = undo (instance_part p d s at i es share) (add_part p d q s) t eq in part_kept s t x.it x.then
  add_kept (Both a b) s t eq = let x = undo (add p d q a s) (λ m. add p d q b m) t eq in kept_both (add_kept a s x.it x.is) (add_kept b x.it t x.then)
  add_kept (Implied c a) s t eq =
      let x = undo (fit p d s c) (λ v. choose (place_of c) v (add p d q a s) (Ok s)) t eq in
      kept_choice (place_of c) x.it (add p d q a s) (Ok s) s t (λ e. add_kept a s t e) (λ e. kept_if s t e) x.then
  add_kept (Chosen c a b) s t eq =
      let x = undo (fit p d s c) (λ v. choose (place_of c) v (add p d q a s) (add p d q b s)) t eq in
      kept_choice (place_of c) x.it (add p d q a s) (add p d q b s) s t (λ e. add_kept a s t e) (λ e. add_kept b s t e) x.then

exchange_kept : (p : Program) (d : Deeper) (k : run.Instance) (q : Fraction) (c u : run.State) → exchange p d k q c ≡ Some u → Kept c u
exchange_kept p d k q c u e = by_predicate (predicate_named p k.predicate) e
  where
    start : Predicate → run.State
    start b = run.with_store (run.bind b.parameters k.arguments) (run.with_holdings (run.lost (run.Folded k) q c.holdings) c)

    of_body : Predicate → Option Assertion → Option run.State
    of_body b None = None
    of_body b (Some a) = to_option (add p d q a (start b) >>= λ v. Ok (run.with_store c.store v))

    of_predicate : Option Predicate → Option run.State
    of_predicate None = None
    of_predicate (Some b) = of_body b b.body

    by_body : (b : Predicate) (o : Option Assertion) → of_body b o ≡ Some u → Kept c u
    by_body b None e = cc
    by_body b (Some a) e =
        let x = undo (add p d q a (start b)) (λ v. Ok (run.with_store c.store v)) u (some_of _ u e) in
        let kept = add_kept p d q a (start b) x.it x.is in
        subst (Kept c) (ok_same (run.with_store c.store x.it) u x.then) (record { store = refl; heap = kept.heap; old_heap = kept.old_heap; old_holdings = kept.old_holdings })

    by_predicate : (o : Option Predicate) → of_predicate o ≡ Some u → Kept c u
    by_predicate None e = cc
    by_predicate (Some b) e = by_body b b.body e

opened_kept : (p : Program) (m : ℕ) (k : run.Instance) (q : Fraction) (c u : run.State) → (firmly p m).opened k q c ≡ Some u → Kept c u
opened_kept p zero k q c u e = cc
opened_kept p (suc m) k q c u e = exchange_kept p (firmly p m) k q c u e

module _ (means : Meaning) (p : Program) (good : GoodBodies p) (functions : GoodFunctions p) (Held : Name → Type 0) (no_perm : (x : Name) (d : Predicate) → predicate_named p x ≡ Some d → HaveNoPerm d.parameters) (n : ℕ) (typed_functions : (f : Name) (g : Function) → function_named p f ≡ Some g → IsTypedFunction p g)
    (bodies : (x : Name) (d : Predicate) (e : Assertion) → Held x → predicate_named p x ≡ Some d → d.body ≡ Some e → IsTyped p d.parameters e × SpeaksOf Held e × instances.SpeaksOf Held (λ f. ⊥) e) (spoken : (f : Name) (g : Function) → Held f → function_named p f ≡ Some g → Spoken p Held g) (knows : Knows means p Held) where
  abbrev pub world : World
  world = quiet_world p good Held no_perm true

  none_fits : {A : Type 0} {B : Type 0} (a : A) → ◌≡◌ {A = Option A} None (Some a) → B
  none_fits a e = cc

  parts_told : (k m : ℕ) → ((m : ℕ) → AllTold means p good Held no_perm n (outer p k) (firmly p m)) → (w : Walk means n) → PartsTold means world n w (outer p k) (firmly p m)
  parts_told k zero below w = record {
    unfolds = λ scope i s c u at x ts vs a q on keys ga same pos here has e h off. none_fits u e;
    applies = λ scope i s c at f g ts vs v on held named each here e h off. none_fits v e;
  }
  parts_told k (suc m) below w = record {
    unfolds = unfolded_told means p good Held no_perm n w (outer p k) (firmly p m) (let z = below m w in z.produces) (firm_worth p (speak_now p functions) m) bodies;
    applies = λ scope i s c at f g ts vs v on held named each here e h off. applied_told means p good functions Held no_perm n typed_functions spoken knows k below w m scope i s c at f g ts vs v on held named each here e h off;
  }

  pub all_told : (k m : ℕ) → AllTold means p good Held no_perm n (outer p k) (firmly p m)
  unfolding Produced Consumed
  all_told zero m w = record {
    produces = λ q a scope c u l es ta ka pl listed holds adds i s scale t tree on wo sc here h off. never_told means world n w i s nowhere AssertCode (on_quiet means world n w here);
    consumes = λ q a scope c hs rest ta ka pl e i s x scale h on sc here r f off. never_told means world n w i s nowhere AssertCode (on_quiet means world n w here);
    evals = λ scope e t te ke i s c v on here fits h off. never_told means world n w i s nowhere AssertCode (on_quiet means world n w here);
  }
  all_told (suc k) m w =
      let parts = parts_told k m (λ l. all_told k l) w in
      let left = λ (j : Interpretation). outer_left (w.Tells j) p k in
      record {
        produces = λ q a. produce_told means p good Held no_perm n w (outer p k) (firmly p m) left parts (opened_kept p m) (firm_worth p (speak_now p functions) m) q a;
        consumes = λ q a. consume_told means p good Held no_perm n w (outer p k) (firmly p m) left parts (opened_kept p m) (firm_worth p (speak_now p functions) m) q a;
        evals = λ scope e t te ke i s c v on here fits h off. eval_told means world n w (outer p k) (firmly p m) left parts (opened_kept p m) te ke on here fits h off;
      }
