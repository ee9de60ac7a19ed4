-- An assertion that can be taken leads on along the way of a quiet walk, with a snapshot that is worth its asking tree.
use Rattle.std.proofs.Common.{◌≡◌, ℕ, Bool, true, false, cond, List, Some, refl, sym, ◌∙◌, ap, subst, le_refl, true≢false}
use Rattle.std.specs.Prelude.{Ok}
use Rattle.std.proofs.lemmas.Option.{same_Some}
use Rattle.vx_frac.specs.Fractions.{Fraction, full, at_most, product}
use Rattle.vx_ast.specs.declared.Place.{Place}
use Rattle.vx_ast.specs.declared.ValueType.TheVariants as type
use Rattle.vx_ast.specs.Syntax.{Name, Program, Predicate, predicate_named, place_of, Expr, Exprs, Assertion, Pure, Points, Both, Implied, Chosen}
use Rattle.vx_ast.specs.Syntax as syntax
use Rattle.vx_meaning.specs.Values.{Value, BoolValue, RefValue, type_of, is_true}
use Rattle.vx_meaning.specs.States as run
use Rattle.vx_meaning.specs.Evaluate.{HasValue}
use Rattle.vx_meaning.specs.Fits as fits
use Rattle.vx_meaning.specs.Fits.{◌>>=◌, guard, Deeper, choose, fit, field_part, instance_part, take, take_part}
use Rattle.vx_terms.specs.Sorts as sort
use Rattle.vx_terms.specs.Sorts.{SnapSort}
use Rattle.vx_terms.specs.Terms as term
use Rattle.vx_terms.specs.Terms.{Term, same}
use Rattle.vx_terms.specs.Build.{less_equal, multiply, unit, pair, wrap, unwrap, written_unwrap, written_first, written_second, zero_amount}
use Rattle.vx_terms.specs.Interpretations.{Interpretation, TreeElement, Tree, Empty, Pair, IsOf, as_bool, value, IsTrueIn}
use Rattle.vx_terms.proofs.Values.{value_of_sort}
use Rattle.vx_rules.specs.States as rules
use Rattle.vx_rules.specs.States.{State, sort_of_type, with_heap, with_fact, with_facts}
use Rattle.vx_rules.specs.Trees.{Step, AmountCode}
use Rattle.vx_rules.specs.Chunks.{field_key, instance_key}
use Rattle.vx_rules.specs.Rules as rule
use Rattle.vx_rules.specs.Rules.{Giving, Going, Context, Outer, ask, placed, field_sort, with_built_wrap, with_built_pair, pair_facts, take_chunk, eval, consume}
use Rattle.vx_types.specs.Typing.{Scope, HaveNoPerm, IsTyped}
use Rattle.vx_amounts.proofs.Amounts.{Positive}
use Rattle.vx_amounts.proofs.Products.{product_positive}
use Rattle.vx_elements.proofs.Settled.{Meaning, Extends, extends-trans, value_kept}
use Rattle.vx_elements.proofs.Built.{Good, good_later}
use Rattle.vx_elements.proofs.Elements.{element}
use Rattle.vx_elements.proofs.Values.{ref_value_is, sort_of_field}
use Rattle.vx_sound.specs.Snapshots.{leaf}
use Rattle.vx_sound.proofs.World.{at_field, World}
use Rattle.vx_sound.proofs.Standard.{leaf_of, leaf_is, unit_value, pair_value, first_value, second_value, wrap_value, wrapped_back, good_unit, good_pair, good_first, good_second, good_wrap, good_unwrap, written_equal}
use Rattle.vx_sound.proofs.Stands.{HeapStands, terms_later, heap_later}
use Rattle.vx_sound.proofs.Candidates.{InstanceTerms, Keys, of_field, of_instance}
use Rattle.vx_sound.proofs.Giving.{ScaleStands, scale_later}
use Rattle.vx_sound_preds.specs.Asking.{IsAsking}
use Rattle.vx_sound_preds.specs.Bodies.{GoodBodies}
use Rattle.vx_sound_preds.proofs.Fitting.{Before, undo}
use Rattle.vx_sound_preds.proofs.Framing.{FieldParts, InstanceParts, field_parts, instance_parts, ok_same}
use Rattle.vx_sound_preds.proofs.Holding.{HoldsInstances, quiet_world}
use Rattle.vx_live.proofs.Speaks.{SpeaksOf}
use Rattle.vx_live.proofs.Quiet.{OuterLeft, after, ask_left, amount_left, consume_left, take_left, fact_still, built_wrap_still, built_pair_still, fork_left}
use Rattle.vx_law.proofs.Woken.{with_truth}
use Rattle.vx_law.proofs.Told.{Walk, On, off_still, Told, OffGoing, OffGiving, on_quiet, off_quiet, step_told, ask_told, fork_told}
use Rattle.vx_law.proofs.ToldChunks.{take_told}
use Rattle.vx_law.proofs.ToldEvaluate.{Kept, PartsTold, bool_is, heap_still, eval_told, evals_told}
use Rattle.vx_law.proofs.Values.{FitsWorth, amount_above}
use Rattle.vx_law.proofs.ToldProduce.{side_is, side_yes, side_no, amount_told}
use Rattle.vx_law.proofs.Worth.{OnSide, Snap, OfField, Worth, worth_later, worth_snap}

not_both : (b : Bool) → b ≡ true → b ≡ false → ⊥
not_both b e f = true≢false (sym e ∙ f)

-- a side of what was picked
on_side_of : (b : Bool) (A B : Type 0) → (b ≡ true → A) → (b ≡ false → B) → OnSide b A B
on_side_of true A B f g = f refl
on_side_of false A B f g = g refl

module _ (means : Meaning) (p : Program) (good : GoodBodies p) (Held : Name → Type 0) (no_perm : (x : Name) (d : Predicate) → predicate_named p x ≡ Some d → HaveNoPerm d.parameters) (n : ℕ) (w : Walk means n) where
  abbrev pub world : World
  world = quiet_world p good Held no_perm true

  abbrev Here : Scope → Interpretation → State → run.State → Type 0
  Here scope i s c = On means world n w scope i s c

  also : {i j k : Interpretation} → Extends means n i j → Extends means n j k → Extends means n i k
  also x y = extends-trans means (le_refl n) x y

  -- the heap that expressions are read in
  pub record Reads (i : Interpretation) (h : rules.Heap) (c : run.State) : Type 0 where
    pub heap : HeapStands means world n i h c.heap c.holdings
    pub holds : HoldsInstances p Held true c.heap c.holdings

  reads_later : {i j : Interpretation} {h : rules.Heap} {c : run.State} → Extends means n i j → Reads i h c → Reads j h c
  reads_later {h = h} {c = c} x r = record { heap = heap_later means world (le_refl n) x h c.heap c.holdings r.heap; holds = r.holds }

  -- there, and back to what is taken from
  reading : {scope : Scope} {i : Interpretation} {s : State} {c : run.State} {hs : run.Holdings} {h : rules.Heap} → Here scope i s (run.with_holdings hs c) → Reads i h c → Here scope i (with_heap h s) c
  reading here r = record {
    still = (let z = here.still in record { next = z.next; level = z.level; path = z.path });
    quietly = record { stands = (let st = here.quietly.stands in record { store = st.store; path = st.path; heap = r.heap; old = st.old; awake = st.awake; bounded = st.bounded; null = st.null; standard = st.standard; owned = st.owned; marked = st.marked; holds = r.holds; old_holds = st.old_holds }) };
  }

  switched : {scope : Scope} {i j : Interpretation} {s s1 : State} {c : run.State} {hs : run.Holdings} → Extends means n i j → Here scope i s (run.with_holdings hs c) → Here scope j s1 c → Here scope j (with_heap s.heap s1) (run.with_holdings hs c)
  switched {s = s} {c = c} {hs = hs} x here k = record {
    still = (let z = k.still in record { next = z.next; level = z.level; path = z.path });
    quietly = record {
      stands = (let st = k.quietly.stands in record {
        store = st.store;
        path = st.path;
        heap = heap_later means world (le_refl n) x s.heap c.heap hs here.quietly.stands.heap;
        old = st.old;
        awake = st.awake;
        bounded = st.bounded;
        null = st.null;
        standard = st.standard;
        owned = st.owned;
        marked = st.marked;
        holds = here.quietly.stands.holds;
        old_holds = st.old_holds;
      });
    };
  }

  -- the facts on what is built
  built_told : {scope : Scope} {i : Interpretation} {s : State} {c : run.State} (t : Term) → Here scope i s c → Good means n i t sort.BoolSort × IsTrueIn i t → Here scope i (with_fact t s) c
  built_told t here g = record { still = after here.still (fact_still t _); quietly = with_truth means world n t here.quietly g.0 g.1 }

  wrap_built : {scope : Scope} {i : Interpretation} {s : State} {c : run.State} (x : Context) (f : Name) (v : Term) → Here scope i s c → Good means n i v (field_sort p f) → Here scope i (with_built_wrap x (field_sort p f) v s) c
  wrap_built {scope = scope} {i = i} {s = s} {c = c} x f v here g = go x.builds
    where
      back : value i (written_unwrap (field_sort p f) (wrap (field_sort p f) v)) ≡ value i v
      back = subst (λ z. IsOf z (value i v) → value i (written_unwrap z (wrap z v)) ≡ value i v) (sym (sort_of_field p f)) (wrapped_back i here.quietly.stands.standard (run.field_type p f) v) (value_of_sort i g.formed)

      go : (b : Bool) → Here scope i (cond b (with_fact (term.Binary sort.Equal (written_unwrap (field_sort p f) (wrap (field_sort p f) v)) v) s) s) c
      go true = built_told _ here (written_equal means (good_unwrap means (field_sort p f) (good_wrap means g)) g back)
      go false = here

  pair_built : {scope : Scope} {i : Interpretation} {s : State} {c : run.State} (x : Context) (t u : Term) (a b : Tree) → Here scope i s c → Snap means p n i a t → Snap means p n i b u → Here scope i (with_built_pair x t u s) c
  pair_built {scope = scope} {i = i} {s = s} {c = c} x t u a b here k l = go x.builds
    where
      whole : value i (pair t u) ≡ TreeElement (Pair a b)
      whole = pair_value i here.quietly.stands.standard t u a b k.is l.is

      one : Good means n i (term.Binary sort.Equal (written_first (pair t u)) t) sort.BoolSort × IsTrueIn i (term.Binary sort.Equal (written_first (pair t u)) t)
      one = written_equal means (good_first means (good_pair means k.good l.good)) k.good (first_value i here.quietly.stands.standard (pair t u) a b whole ∙ sym k.is)

      two : Good means n i (term.Binary sort.Equal (written_second (pair t u)) u) sort.BoolSort × IsTrueIn i (term.Binary sort.Equal (written_second (pair t u)) u)
      two = written_equal means (good_second means (good_pair means k.good l.good)) l.good (second_value i here.quietly.stands.standard (pair t u) a b whole ∙ sym l.is)

      go : (y : Bool) → Here scope i (cond y (with_facts (pair_facts t u) s) s) c
      go true = built_told _ (built_told _ here one) two
      go false = here

  -- a value that is wrapped is worth what is there
  field_worth : {scope : Scope} {i : Interpretation} {s : State} {c : run.State} {b : run.State} (e : Expr) (f : Name) (k : ℕ) (u : Term) → Here scope i s b → HasValue p c e (RefValue k) → Good means n i u (field_sort p f) → value i u ≡ element (run.value_at p c.heap (at_field k f)) →
      OfField means p n i c e f (leaf (run.value_at p c.heap (at_field k f))) (wrap (field_sort p f) u)
  field_worth {i = i} {c = c} e f k u here at g is = record { reference = k; receiver = at; tree = refl; snap = record { good = good_wrap means g; is = wrapped_is }; good = part.0; is = part.1 }
    where
      v : Value
      v = run.value_at p c.heap (at_field k f)

      of_sort : IsOf (sort_of_type (run.field_type p f)) (value i u)
      of_sort = subst (λ z. IsOf z (value i u)) (sort_of_field p f) (value_of_sort i g.formed)

      wrapped_is : value i (wrap (field_sort p f) u) ≡ TreeElement (leaf (run.value_at p c.heap (at_field k f)))
      wrapped_is = subst (λ z. value i (wrap z u) ≡ TreeElement (leaf v)) (sym (sort_of_field p f)) (wrap_value i here.quietly.stands.standard (run.field_type p f) u of_sort ∙ ap (λ e. TreeElement (leaf_of e)) is ∙ ap TreeElement (leaf_is v))

      back : value i (written_unwrap (field_sort p f) (wrap (field_sort p f) u)) ≡ value i u
      back = subst (λ z. IsOf z (value i u) → value i (written_unwrap z (wrap z u)) ≡ value i u) (sym (sort_of_field p f)) (wrapped_back i here.quietly.stands.standard (run.field_type p f) u) (value_of_sort i g.formed)

      -- unwrapping what is wrapped
      go : (b : Bool) → Good means n i (cond b u (written_unwrap (field_sort p f) (wrap (field_sort p f) u))) (field_sort p f) × (value i (cond b u (written_unwrap (field_sort p f) (wrap (field_sort p f) u))) ≡ element (run.value_at p c.heap (at_field k f)))
      go true = (g, is)
      go false = (good_unwrap means (field_sort p f) (good_wrap means g), back ∙ is)

      part : Good means n i (unwrap (field_sort p f) (wrap (field_sort p f) u)) (field_sort p f) × (value i (unwrap (field_sort p f) (wrap (field_sort p f) u)) ≡ element (run.value_at p c.heap (at_field k f)))
      part = go (same (wrap (field_sort p f) u) (wrap (field_sort p f) u))

  module _ (o : Outer) (d : Deeper) (left : (j : Interpretation) → OuterLeft (w.Tells j) o) (parts : PartsTold means world n w o d) (keeps : (k : run.Instance) (q : Fraction) (c u : run.State) → d.opened k q c ≡ Some u → Kept c u) (worths : FitsWorth p d) where
    -- what follows, with a snapshot that is worth the tree of the assertion
    abbrev pub FollowsTaken : Scope → Interpretation → run.State → Assertion → run.Holdings → Giving → Type 0
    FollowsTaken scope i c a rest on = (j : Interpretation) (t : Term) (s : State) (u : Tree) → Extends means n i j → Here scope j s (run.with_holdings rest c) → Worth means p n j c a u t → Told means world n w j (on t s)

    -- what is taken leads on
    unfoldable pub Consumed : Fraction → Assertion → Type 0
    Consumed q a =
        (scope : Scope) (c : run.State) (hs rest : run.Holdings) → IsTyped p scope a → SpeaksOf Held a → IsAsking p a → take p d c q a hs ≡ Ok rest →
        (i : Interpretation) (s : State) (x : Context) (scale : Term) (h : rules.Heap) (on : Giving) → ScaleStands means world n i scale q → Here scope i s (run.with_holdings hs c) → Reads i h c → FollowsTaken scope i c a rest on → OffGiving means world n w on →
        Told means world n w i (consume p o a x scale h s on)

    pub off_consume : (a : Assertion) (x : Context) (scale : Term) (h : rules.Heap) (on : Giving) → OffGiving means world n w on → OffGoing means world n w (λ s. consume p o a x scale h s on)
    off_consume a x scale h on off j s z = consume_left (w.Tells j) p o (left j) a x scale h s on (off_quiet means world n w z) (λ t s1 st. off j t s1 (off_still means world n w z st))

    -- the value of what fits
    worth : (c : run.State) (e : Expr) (v u : Value) → fit p d c e ≡ Ok v → v ≡ u → HasValue p c e u
    worth c e v u eq is = (worths.fuel, worths.one c e v eq ∙ ap Some is)

    truth : (v : Value) → type_of v ≡ type.Bool → is_true v ≡ true → v ≡ BoolValue true
    truth v ty z = let b = bool_is means world n w v ty in b.1 ∙ ap BoolValue (sym (ap is_true b.1) ∙ z)

    -- what is left once a part was taken
    taken_rest : (c : run.State) (q : Fraction) (at : Place) (hs rest : run.Holdings) (r : run.Resource) (y : Fraction) → take_part p d c q at hs (r, y) ≡ Ok rest → run.lost r (product q y) hs ≡ rest
    taken_rest c q at hs rest r y e =
        let x = undo (guard at (at_most (product q y) (run.amount hs r))) (λ _. Ok (run.lost r (product q y) hs)) rest e in
        ok_same (run.lost r (product q y) hs) rest x.then

    record PureTaken (c : run.State) (e : Expr) (hs rest : run.Holdings) : Type 0 where
      pub worth : Value
      pub is : fit p d c e ≡ Ok worth
      pub rest_is : hs ≡ rest

    pure_steps : (c : run.State) (e : Expr) (hs rest : run.Holdings) → take p d c full (Pure e) hs ≡ Ok rest → PureTaken c e hs rest
    pure_steps c e hs rest eq =
        let x = undo (fit p d c e) (λ v. guard (place_of e) (is_true v) >>= λ _. Ok hs) rest eq in
        let y = undo (guard (place_of e) (is_true x.it)) (λ _. Ok hs) rest x.then in
        record { worth = x.it; is = x.is; rest_is = ok_same hs rest y.then }

    pure_taken : (q : Fraction) (e : Expr) → Consumed q (Pure e)
    unfolding Consumed
    pure_taken q e scope c hs rest t' k' pl eq i s x scale h on sc here r f off =
        step_told means world n w _ (eval_told means world n w o d left parts keeps t' k' asking (reading here r) v.is (λ j t s1 ext on1 g is ty.
        ask_told means world n w s1 t (placed s1 (place_of e)) x.pure (λ s2. Step (on unit (with_heap s.heap s2))) (on_quiet means world n w on1)
        (step_told means world n w _ (f j unit (with_heap s.heap s1) Empty ext (subst (λ z. Here scope j (with_heap s.heap s1) (run.with_holdings z c)) v.rest_is (switched ext here on1)) (record { good = good_unit means; is = unit_value j on1.quietly.stands.standard }, refl))))
        (λ j t s1 z. off_ask j t s1 z))
      where
        asking : Giving
        asking t s1 = ask t (placed s1 (place_of e)) x.pure s1 (λ s2. Step (on unit (with_heap s.heap s2)))

        v : PureTaken c e hs rest
        v = pure_steps c e hs rest eq

        off_ask : OffGiving means world n w asking
        off_ask j t s1 z = ask_left (w.Tells j) s1 t (placed s1 (place_of e)) x.pure (λ s2. Step (on unit (with_heap s.heap s2))) (off_quiet means world n w z) (λ s2 st. off j unit (with_heap s.heap s2) (off_still means world n w z (after st (heap_still s.heap s2))))

    points_taken : (q : Fraction) (at : Place) (e : Expr) (f : Name) (share : Expr) → Consumed q (Points at e f share)
    unfolding Consumed
    points_taken q at e f share scope c hs rest t' k' pl eq i s x scale h on sc here r g' off =
        step_told means world n w _ (eval_told means world n w o d left parts keeps t'.0 k'.0 (λ v s1. eval p o share s1 (λ a s2. ask (less_equal zero_amount (multiply scale a)) (placed s2 at) AmountCode s2 (taking v (multiply scale a)))) (reading here r) y.receiver_is (λ j v s1 ext on1 g is ty.
        let m = ref_value_is y.receiver ty in
        amount_told means p good Held no_perm n w o d left parts keeps worths at scale q y.worth y.amount (taking v) t'.2 k'.1 (scale_later means world (le_refl n) ext sc) on1 y.worth_is y.amount_is (record { holds = y.sign }) (λ j2 a s2 ext2 on2 ga a_is sign.
        let all = also ext ext2 in
        let back = switched all here on2 in
        take_told means world n w (let z : Keys means world n j2 (field_key f v) (run.At (at_field m.0 f)) (field_sort p f) = of_field f v m.0 (good_later means (le_refl n) ext2 g) (value_kept means v g.settled ext2 ∙ is ∙ ap element m.1) in z) a (product q y.amount) (placed s2 at) x.permission last back ga a_is sign
        (λ ch s4 t.
        let there = t.there (product_positive sc.positive above) in
        let receiver_now = worth c e y.receiver (RefValue m.0) y.receiver_is m.1 in
        step_told means world n w _ (g' j2 (wrap (field_sort p f) ch.value) (with_built_wrap x (field_sort p f) ch.value s4) (leaf (run.value_at p c.heap (at_field m.0 f))) all
        (subst (λ z. Here scope j2 (with_built_wrap x (field_sort p f) ch.value s4) (run.with_holdings z c)) (left_is m.0 m.1) (wrap_built x f ch.value t.on t.good))
        (field_worth e f m.0 ch.value t.on receiver_now t.good there))))
        (λ m. off_taking m v))
        (λ j v s1 z. off_amount v j s1 z))
      where
        b : Before (field_part p d c at e f share) (take_part p d c q at hs) rest
        b = undo (field_part p d c at e f share) (take_part p d c q at hs) rest eq

        y : FieldParts p d c e f share b.it
        y = field_parts p d c at e f share b.it b.is

        above : Positive y.amount
        above = amount_above p d worths c share y.worth y.amount pl.1 y.worth_is y.amount_is

        last : rules.Chunk → Going
        last ch s4 = Step (on (wrap (field_sort p f) ch.value) (with_built_wrap x (field_sort p f) ch.value s4))

        taking : Term → Term → Going
        taking v a s3 = take_chunk (field_key f v) a (field_sort p f) (placed s3 at) x.permission (with_heap s.heap s3) last

        left_is : (k : ℕ) → y.receiver ≡ RefValue k → run.lost (run.At (at_field k f)) (product q y.amount) hs ≡ rest
        left_is k z =
            let part_is : (run.At (at_field k f), y.amount) ≡ b.it = ap (λ (l : run.Location). let z : run.Resource × Fraction = (run.At l, y.amount) in z) (same_Some (at_field k f) y.location (sym (ap (fits.location_of f) z) ∙ y.location_is)) ∙ ok_same {A = run.Resource × Fraction} (run.At y.location, y.amount) b.it y.is in
            taken_rest c q at hs rest (run.At (at_field k f)) y.amount (subst (λ z. take_part p d c q at hs z ≡ Ok rest) (sym part_is) b.then)

        off_taking : (a v : Term) → OffGoing means world n w (taking v a)
        off_taking a v j s3 z =
            take_left (w.Tells j) (with_heap s.heap s3) (field_key f v) a (field_sort p f) (placed s3 at) x.permission last (off_quiet means world n w z) (λ ch s4 st.
            off j (wrap (field_sort p f) ch.value) (with_built_wrap x (field_sort p f) ch.value s4) (off_still means world n w z (after (heap_still s.heap s3) (after st (built_wrap_still x (field_sort p f) ch.value s4)))))

        off_amount : (v : Term) → OffGoing means world n w (λ s1. eval p o share s1 (λ a s2. ask (less_equal zero_amount (multiply scale a)) (placed s2 at) AmountCode s2 (taking v (multiply scale a))))
        off_amount v j s1 z = amount_left (w.Tells j) p o (left j) at share s1 scale (taking v) (off_quiet means world n w z) (λ a s2 st. off_taking a v j s2 (off_still means world n w z st))

    instance_taken : (q : Fraction) (at : Place) (y' : Name) (xs : Exprs) (share : Expr) → Consumed q (syntax.Instance at y' xs share)
    unfolding Consumed
    instance_taken q at y' xs share scope c hs rest t' k' pl eq i s x scale h on sc here r g' off =
        step_told means world n w _ (evals_told means world n w o d left parts keeps t'.0.2 k'.1 (λ vs s1. eval p o share s1 (λ a s2. ask (less_equal zero_amount (multiply scale a)) (placed s2 at) AmountCode s2 (taking vs (multiply scale a)))) (reading here r) y.arguments_are (λ j vs s1 ext on1 each.
        amount_told means p good Held no_perm n w o d left parts keeps worths at scale q y.worth y.amount (taking vs) t'.1 k'.2 (scale_later means world (le_refl n) ext sc) on1 y.worth_is y.amount_is (record { holds = y.sign }) (λ j2 a s2 ext2 on2 ga a_is sign.
        let all = also ext ext2 in
        let back = switched all here on2 in
        let keys = let z : InstanceTerms means world n j2 y' vs y.arguments = record { held = k'.0; predicate = t'.0.0; named = t'.0.1; no_perm = no_perm y' t'.0.0 t'.0.1; each = terms_later means world (le_refl n) ext2 t'.0.0.parameters vs y.arguments each } in z in
        take_told means world n w (let z : Keys means world n j2 (instance_key y' vs) (run.Folded target) SnapSort = of_instance y' vs y.arguments keys in z) a (product q y.amount) (placed s2 at) x.permission last back ga a_is sign
        (λ ch s4 t.
        let there = t.there (product_positive sc.positive above) in
        step_told means world n w _ (g' j2 ch.value s4 there.0 all (subst (λ z. Here scope j2 s4 (run.with_holdings z c)) left_is t.on)
        (record { arguments = y.arguments; arguments_are = (worths.fuel, worths.all c xs y.arguments y.arguments_are); tree = there.1; snap = record { good = t.good; is = there.2 }; written = t.written tt }))))
        (λ m. off_taking m vs))
        (λ j vs s1 z. off_amount vs j s1 z))
      where
        b : Before (instance_part p d c at y' xs share) (take_part p d c q at hs) rest
        b = undo (instance_part p d c at y' xs share) (take_part p d c q at hs) rest eq

        y : InstanceParts p d c y' xs share b.it
        y = instance_parts p d c at y' xs share b.it b.is

        target : run.Instance
        target = record { predicate = y'; arguments = y.arguments }

        above : Positive y.amount
        above = amount_above p d worths c share y.worth y.amount pl.1 y.worth_is y.amount_is

        last : rules.Chunk → Going
        last ch s4 = Step (on ch.value s4)

        taking : List Term → Term → Going
        taking vs a s3 = take_chunk (instance_key y' vs) a SnapSort (placed s3 at) x.permission (with_heap s.heap s3) last

        left_is : run.lost (run.Folded record { predicate = y'; arguments = y.arguments }) (product q y.amount) hs ≡ rest
        left_is = taken_rest c q at hs rest (run.Folded target) y.amount (subst (λ z. take_part p d c q at hs z ≡ Ok rest) (sym (ok_same {A = run.Resource × Fraction} (run.Folded target, y.amount) b.it y.is)) b.then)

        off_taking : (a : Term) (vs : List Term) → OffGoing means world n w (taking vs a)
        off_taking a vs j s3 z =
            take_left (w.Tells j) (with_heap s.heap s3) (instance_key y' vs) a SnapSort (placed s3 at) x.permission last (off_quiet means world n w z) (λ ch s4 st.
            off j ch.value s4 (off_still means world n w z (after (heap_still s.heap s3) st)))

        off_amount : (vs : List Term) → OffGoing means world n w (λ s1. eval p o share s1 (λ a s2. ask (less_equal zero_amount (multiply scale a)) (placed s2 at) AmountCode s2 (taking vs (multiply scale a))))
        off_amount vs j s1 z = amount_left (w.Tells j) p o (left j) at share s1 scale (taking vs) (off_quiet means world n w z) (λ a s2 st. off_taking a vs j s2 (off_still means world n w z st))

    both_taken : (q : Fraction) (a b : Assertion) → Consumed q a → Consumed q b → Consumed q (Both a b)
    unfolding Consumed
    both_taken q a b on_a on_b scope c hs rest t' k' pl eq i s x scale h on sc here r g' off =
        step_told means world n w _ (on_a scope c hs m.it t'.0 k'.0 pl.0 m.is i s x scale h after_a sc here r
        (λ j t s1 u ext on1 wo.
        on_b scope c m.it rest t'.1 k'.1 pl.1 m.then j s1 x scale h (after_b t) (scale_later means world (le_refl n) ext sc) on1 (reads_later ext r)
        (λ j2 t2 s2 u2 ext2 on2 wo2.
        let wo' = worth_later means p n ext2 c a u t wo in
        let one = worth_snap means p n j2 c a u t wo' in
        let two = worth_snap means p n j2 c b u2 t2 wo2 in
        step_told means world n w _ (g' j2 (pair t t2) (with_built_pair x t t2 s2) (Pair u u2) (also ext ext2) (pair_built x t t2 u u2 on2 one two)
        (u, u2, refl, record { good = good_pair means one.good two.good; is = pair_value j2 on2.quietly.stands.standard t t2 u u2 one.is two.is }, wo', wo2)))
        (off_b t))
        (λ j t s1 z. off_consume b x scale h (after_b t) (off_b t) j s1 z))
      where
        m : Before (take p d c q a hs) (λ z. take p d c q b z) rest
        m = undo (take p d c q a hs) (λ z. take p d c q b z) rest eq

        after_b : Term → Giving
        after_b t t2 s2 = Step (on (pair t t2) (with_built_pair x t t2 s2))

        after_a : Giving
        after_a t s1 = consume p o b x scale h s1 (after_b t)

        off_b : (t : Term) → OffGiving means world n w (after_b t)
        off_b t j t2 s2 z = off j (pair t t2) (with_built_pair x t t2 s2) (off_still means world n w z (built_pair_still x t t2 s2))

    implied_taken : (q : Fraction) (e : Expr) (a : Assertion) → Consumed q a → Consumed q (Implied e a)
    unfolding Consumed
    implied_taken q e a on_a scope c hs rest t' k' pl eq i s x scale h on sc here r g' off =
        step_told means world n w _ (eval_told means world n w o d left parts keeps t'.0 k'.0 forks (reading here r) m.is (λ j v s1 ext on1 g is ty.
        let b = bool_is means world n w m.it ty in
        let told = worth c e m.it (BoolValue b.0) m.is b.1 in
        let outcome = side_is (place_of e) b.0 (take p d c q a hs) (Ok hs) rest (sym (ap (λ v. choose (place_of e) v (take p d c q a hs) (Ok hs)) b.1) ∙ m.then) in
        fork_told means world n w v left_on right_on (switched ext here on1) g b.0 (ap as_bool is)
        (λ z j2 s2 ext2 on2. on_a scope c hs rest t'.1 k'.1 pl.1 (side_yes b.0 z _ _ outcome) j2 s2 x scale h on (scale_later means world (le_refl n) (also ext ext2) sc) on2 (reads_later (also ext ext2) r)
        (λ j3 t s3 u ext3 on3 wo. g' j3 t s3 u (also ext (also ext2 ext3)) on3 (b.0, told, on_side_of b.0 _ _ (λ y. wo) (λ y. absurd (not_both b.0 z y)))) off)
        (λ z j2 s2 ext2 on2. g' j2 unit s2 Empty (also ext ext2) (subst (λ y. Here scope j2 s2 (run.with_holdings y c)) (ok_same hs rest (side_no b.0 z _ _ outcome)) on2)
        (b.0, told, on_side_of b.0 _ _ (λ y. absurd (not_both b.0 y z)) (λ y. (record { good = good_unit means; is = unit_value j2 on2.quietly.stands.standard }, refl))))
        off_left off_right)
        (λ j v s1 z. off_forks j v s1 z))
      where
        m : Before (fit p d c e) (λ v. choose (place_of e) v (take p d c q a hs) (Ok hs)) rest
        m = undo (fit p d c e) (λ v. choose (place_of e) v (take p d c q a hs) (Ok hs)) rest eq

        left_on : Going
        left_on s2 = consume p o a x scale h s2 on

        right_on : Going
        right_on s2 = on unit s2

        forks : Giving
        forks v s1 = rule.fork v (with_heap s.heap s1) left_on right_on

        off_left : OffGoing means world n w left_on
        off_left = off_consume a x scale h on off

        off_right : OffGoing means world n w right_on
        off_right j s2 z = off j unit s2 z

        off_forks : OffGiving means world n w forks
        off_forks j v s1 z = fork_left (w.Tells j) (with_heap s.heap s1) v left_on right_on (λ s2 st. off_left j s2 (off_still means world n w z (after (heap_still s.heap s1) st))) (λ s2 st. off_right j s2 (off_still means world n w z (after (heap_still s.heap s1) st)))

    chosen_taken : (q : Fraction) (e : Expr) (a b : Assertion) → Consumed q a → Consumed q b → Consumed q (Chosen e a b)
    unfolding Consumed
    chosen_taken q e a b on_a on_b scope c hs rest t' k' pl eq i s x scale h on sc here r g' off =
        step_told means world n w _ (eval_told means world n w o d left parts keeps t'.0 k'.0 forks (reading here r) m.is (λ j v s1 ext on1 g is ty.
        let y' = bool_is means world n w m.it ty in
        let told = worth c e m.it (BoolValue y'.0) m.is y'.1 in
        let outcome = side_is (place_of e) y'.0 (take p d c q a hs) (take p d c q b hs) rest (sym (ap (λ v. choose (place_of e) v (take p d c q a hs) (take p d c q b hs)) y'.1) ∙ m.then) in
        fork_told means world n w v left_on right_on (switched ext here on1) g y'.0 (ap as_bool is)
        (λ z j2 s2 ext2 on2. on_a scope c hs rest t'.1 k'.1 pl.1 (side_yes y'.0 z _ _ outcome) j2 s2 x scale h on (scale_later means world (le_refl n) (also ext ext2) sc) on2 (reads_later (also ext ext2) r)
        (λ j3 t s3 u ext3 on3 wo. g' j3 t s3 u (also ext (also ext2 ext3)) on3 (y'.0, told, on_side_of y'.0 _ _ (λ y. wo) (λ y. absurd (not_both y'.0 z y)))) off)
        (λ z j2 s2 ext2 on2. on_b scope c hs rest t'.2 k'.2 pl.2 (side_no y'.0 z _ _ outcome) j2 s2 x scale h on (scale_later means world (le_refl n) (also ext ext2) sc) on2 (reads_later (also ext ext2) r)
        (λ j3 t s3 u ext3 on3 wo. g' j3 t s3 u (also ext (also ext2 ext3)) on3 (y'.0, told, on_side_of y'.0 _ _ (λ y. absurd (not_both y'.0 y z)) (λ y. wo))) off)
        off_left off_right)
        (λ j v s1 z. off_forks j v s1 z))
      where
        m : Before (fit p d c e) (λ v. choose (place_of e) v (take p d c q a hs) (take p d c q b hs)) rest
        m = undo (fit p d c e) (λ v. choose (place_of e) v (take p d c q a hs) (take p d c q b hs)) rest eq

        left_on : Going
        left_on s2 = consume p o a x scale h s2 on

        right_on : Going
        right_on s2 = consume p o b x scale h s2 on

        forks : Giving
        forks v s1 = rule.fork v (with_heap s.heap s1) left_on right_on

        off_left : OffGoing means world n w left_on
        off_left = off_consume a x scale h on off

        off_right : OffGoing means world n w right_on
        off_right = off_consume b x scale h on off

        off_forks : OffGiving means world n w forks
        off_forks j v s1 z = fork_left (w.Tells j) (with_heap s.heap s1) v left_on right_on (λ s2 st. off_left j s2 (off_still means world n w z (after (heap_still s.heap s1) st))) (λ s2 st. off_right j s2 (off_still means world n w z (after (heap_still s.heap s1) st)))

    pub consume_told : (q : Fraction) (a : Assertion) → Consumed q a
    consume_told q (Pure e) = pure_taken q e
    consume_told q (Points at e f share) = points_taken q at e f share
    consume_told q (syntax.Instance at x es share) = instance_taken q at x es share
    consume_told q (Both a b) = both_taken q a b (consume_told q a) (consume_told q b)
    consume_told q (Implied e a) = implied_taken q e a (consume_told q a)
    consume_told q (Chosen e a b) = chosen_taken q e a b (consume_told q a) (consume_told q b)
