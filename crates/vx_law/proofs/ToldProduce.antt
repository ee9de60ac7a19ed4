-- An assertion that is given leads on along the way of a quiet walk, with a snapshot that is worth its asking tree.
use Rattle.std.proofs.Common.{◌≡◌, ℕ, Bool, true, false, cond, ◌||◌, List, [], ◌∷◌, ◌++◌, Option, Some, None, refl, sym, ◌∙◌, ap, subst, le_refl, true≢false}
use Rattle.std.specs.Prelude.{Ok, option_and_then}
use Rattle.std.proofs.lemmas.Option.{same_Some}
use Rattle.vx_frac.specs.Fractions.{Fraction, none, product}
use Rattle.vx_ast.specs.declared.Place.{Place}
use Rattle.vx_ast.specs.declared.ValueType.TheVariants.{Perm}
use Rattle.vx_ast.specs.declared.ValueType.TheVariants as type
use Rattle.vx_ast.specs.Syntax.{Name, Program, Predicate, predicate_named, place_of, Expr, Exprs, Assertion, Pure, Points, Both, Implied, Chosen}
use Rattle.vx_ast.specs.Syntax as syntax
use Rattle.vx_meaning.specs.Values.{Value, BoolValue, RefValue, PermValue, type_of, is_true}
use Rattle.vx_meaning.specs.States as run
use Rattle.vx_meaning.specs.Evaluate as plain
use Rattle.vx_meaning.specs.Evaluate.{HasValue, applications}
use Rattle.vx_meaning.specs.Flatten.{no_applications, location_entry, instance_entry}
use Rattle.vx_meaning.specs.Fits.{Checked, Deeper, amount_of, choose, fit, field_part, instance_part, add, add_part}
use Rattle.vx_terms.specs.Sorts.{RealSort, RefSort, SnapSort}
use Rattle.vx_terms.specs.Terms.{Term, sort_of, is_name}
use Rattle.vx_terms.specs.Build.{equals, less_equal, multiply, unit, pair, wrap, first, second, unwrap, zero_amount}
use Rattle.vx_terms.specs.Interpretations.{Interpretation, TreeElement, Tree, Empty, IsOf, as_bool, as_fraction, value}
use Rattle.vx_rules.specs.States as rules
use Rattle.vx_rules.specs.States.{State, sort_of_type, with_fact, is_named}
use Rattle.vx_rules.specs.Trees.{Step, AmountCode}
use Rattle.vx_rules.specs.Chunks.{field_key, instance_key, put}
use Rattle.vx_rules.specs.Rules as rule
use Rattle.vx_rules.specs.Rules.{Going, Outer, ask, placed, field_sort, produced_value, after_value, produced_snapshot, after_snapshot, with_split, with_unit, eval, produce}
use Rattle.vx_types.specs.Typing.{Scope, HaveNoPerm, HasType, IsTyped}
use Rattle.vx_amounts.proofs.Amounts.{Le, Same, same-lowest', same-trans, product_same, le-trans}
use Rattle.vx_amounts.proofs.Products.{product_sign, positive_le}
use Rattle.vx_elements.proofs.Settled.{Meaning, Extends, extends-refl, extends-trans, value_kept}
use Rattle.vx_elements.proofs.Built.{Good, good_later, good_equals}
use Rattle.vx_elements.proofs.Elements.{element, element_is, bool_value_is}
use Rattle.vx_elements.proofs.Truth.{is_equal, good_product, multiply_is}
use Rattle.vx_elements.proofs.Values.{ref_value_is, perm_value_is, value_typed, sort_of_field}
use Rattle.vx_sound.specs.Snapshots.{leaf, IsTree}
use Rattle.vx_sound.proofs.World.{at_field, World}
use Rattle.vx_sound.proofs.Standard.{leaf_of, leaf_is, unit_value, pair_value, wrap_value, good_unit, good_pair, good_wrap}
use Rattle.vx_sound.proofs.Stands.{terms_later}
use Rattle.vx_sound.proofs.Candidates.{InstanceTerms, Keys, of_field, of_instance, keyed}
use Rattle.vx_sound.proofs.Giving.{ScaleStands, scale_later}
use Rattle.vx_sound.proofs.Fuel.{one_value, all_one_value}
use Rattle.vx_sound_preds.specs.Asking.{asking_entries, IsAsking}
use Rattle.vx_sound_preds.specs.Bodies.{GoodBodies}
use Rattle.vx_sound_preds.proofs.Asked.{held_entries, asking_positive}
use Rattle.vx_sound_preds.proofs.Fitting.{Before, undo, step}
use Rattle.vx_sound_preds.proofs.Flats.{After, came}
use Rattle.vx_sound_preds.proofs.Framing.{FieldParts, InstanceParts, field_parts, instance_parts}
use Rattle.vx_sound_preds.proofs.Adding.{added, added_append}
use Rattle.vx_sound_preds.proofs.Holding.{HoldsInstances, added_debts, fewer, quiet_world}
use Rattle.vx_live.proofs.Speaks.{Speaks, SpeaksOf}
use Rattle.vx_live.proofs.Quiet.{Quiet, OuterLeft, after, ask_left, amount_left, produce_left, fact_still, put_still, value_still, name_still, unit_still, split_still, fork_left}
use Rattle.vx_law.proofs.Woken.{with_truth, with_chunk}
use Rattle.vx_law.proofs.Told.{Walk, On, off_still, Told, Follows, OffGoing, on_quiet, off_quiet, step_told, ask_told, fork_told}
use Rattle.vx_law.proofs.ToldEvaluate.{Kept, PartsTold, bool_is, amount_outcome, eval_told, evals_told}
use Rattle.vx_law.proofs.Values.{FitsWorth, follows_value, follow_values, share_is, added_is}
use Rattle.vx_law.proofs.Worth.{OnSide, Snap, snap_later, OfField, OfInstance, Worth, worth_later, worth_held, worth_snap}

-- above level 0 each term names itself
pub named_quietly : (t : Term) (s : State) → Quiet s → is_named t s ≡ true
named_quietly t s q = go (is_name t) (rules.is_quiet s) q
  where
    go : (a b : Bool) → b ≡ true → (a || b) ≡ true
    go true b e = refl
    go false b e = e

pub state_same : (s t : run.State) → s.store ≡ t.store → s.heap ≡ t.heap → s.holdings ≡ t.holdings → s.old_heap ≡ t.old_heap → s.old_holdings ≡ t.old_holdings → s ≡ t
state_same s t a b c d e = λ i. record { store = a i; heap = b i; holdings = c i; old_heap = d i; old_holdings = e i }

-- the side of a choice
pub side_is : {A : Type 0} (at : Place) (b : Bool) (x y : Checked A) (v : A) → choose at (BoolValue b) x y ≡ Ok v → OnSide b (x ≡ Ok v) (y ≡ Ok v)
side_is at true x y v e = e
side_is at false x y v e = e

pub on_yes : {A : Type 0} (b : Bool) → b ≡ true → (x y : Option A) (v : A) → plain.choose (BoolValue b) x y ≡ Some v → x ≡ Some v
on_yes true z x y v e = e
on_yes false z x y v e = cc

pub on_no : {A : Type 0} (b : Bool) → b ≡ false → (x y : Option A) (v : A) → plain.choose (BoolValue b) x y ≡ Some v → y ≡ Some v
on_no false z x y v e = e
on_no true z x y v e = cc

pub side_yes : (b : Bool) → b ≡ true → (A B : Type 0) → OnSide b A B → A
side_yes true z A B k = k
side_yes false z A B k = cc

pub side_no : (b : Bool) → b ≡ false → (A B : Type 0) → OnSide b A B → B
side_no false z A B k = k
side_no true z A B k = cc

pub worth_yes : (b x : Bool) → b ≡ true → b ≡ x → (A B : Type 0) → OnSide x A B → A
worth_yes b x z e A B k = side_yes x (sym e ∙ z) A B k

pub worth_no : (b x : Bool) → b ≡ false → b ≡ x → (A B : Type 0) → OnSide x A B → B
worth_no b x z e A B k = side_no x (sym e ∙ z) A B k

bools_same : (a b : Bool) → BoolValue a ≡ BoolValue b → a ≡ b
bools_same a b e = cc

module _ (means : Meaning) (p : Program) (good : GoodBodies p) (Held : Name → Type 0) (no_perm : (x : Name) (d : Predicate) → predicate_named p x ≡ Some d → HaveNoPerm d.parameters) (n : ℕ) (w : Walk means n) where
  abbrev pub world : World
  world = quiet_world p good Held no_perm true

  module _ (o : Outer) (d : Deeper) (left : (j : Interpretation) → OuterLeft (w.Tells j) o) (parts : PartsTold means world n w o d) (keeps : (k : run.Instance) (q : Fraction) (c u : run.State) → d.opened k q c ≡ Some u → Kept c u) (worths : FitsWorth p d) where
    abbrev Here : Scope → Interpretation → State → run.State → Type 0
    Here scope i s c = On means world n w scope i s c

    -- a condition that fits is decided as it is
    pub decided : (c : run.State) (e : Expr) (v : Value) (b x : Bool) → fit p d c e ≡ Ok v → v ≡ BoolValue b → HasValue p c e (BoolValue x) → b ≡ x
    decided c e v b x eq is h = bools_same b x (one_value p c e (BoolValue b) (BoolValue x) (worths.fuel, worths.one c e v eq ∙ ap Some is) h)

    -- an amount, by a scale
    pub amount_told : {scope : Scope} {share : Expr} {i : Interpretation} {s : State} {c : run.State} (at : Place) (scale : Term) (q : Fraction) (v : Value) (y : Fraction) (on : Term → Going) → HasType p scope share Perm → Speaks Held share → ScaleStands means world n i scale q → Here scope i s c →
        fit p d c share ≡ Ok v → amount_of v ≡ Some y → Le none y →
        ((j : Interpretation) (m : Term) (s1 : State) → Extends means n i j → Here scope j s1 c → Good means n j m RealSort → Same (as_fraction (value j m)) (product q y) → Le none (as_fraction (value j m)) → Told means world n w j (on m s1)) →
        ((m : Term) → OffGoing means world n w (on m)) →
        Told means world n w i (eval p o share s (λ a s1. ask (less_equal zero_amount (multiply scale a)) (placed s1 at) AmountCode s1 (on (multiply scale a))))
    amount_told {scope = scope} {c = c} at scale q v y on ts ks sc here e am sign h off =
        eval_told means world n w o d left parts keeps ts ks _ here e (λ j a s1 ext on1 g is ty.
        let x = perm_value_is v ty in
        let same_y : x.0 ≡ y = amount_outcome v x.0 y x.1 am in
        let sc' = scale_later means world (le_refl n) ext sc in
        let a_is : Same (as_fraction (value j a)) y = subst (λ z. Same (as_fraction (value j a)) z) same_y (subst (λ e. Same (as_fraction e) x.0) (sym (is ∙ ap element x.1)) (same-lowest' x.0)) in
        let m_is = same-trans (multiply_is means sc'.good g) (product_same sc'.is a_is) in
        ask_told means world n w s1 (less_equal zero_amount (multiply scale a)) (placed s1 at) AmountCode (on (multiply scale a)) (on_quiet means world n w on1)
        (h j (multiply scale a) s1 ext on1 (good_product means sc'.good g) m_is (le-trans (product_sign (positive_le sc.positive) sign) m_is.back)))
        (λ j a s1 f. ask_left (w.Tells j) s1 (less_equal zero_amount (multiply scale a)) (placed s1 at) AmountCode (on (multiply scale a)) (off_quiet means world n w f) (λ s2 st. off (multiply scale a) j s2 (off_still means world n w f st)))

    -- what an assertion gives leads on
    unfoldable pub Produced : Fraction → Assertion → Type 0
    Produced q a =
        (scope : Scope) (c u : run.State) (k : ℕ) (es : run.Holdings) → IsTyped p scope a → SpeaksOf Held a → IsAsking p a → asking_entries p (applications p k) c a ≡ Some es → HoldsInstances p Held true c.heap (added q es c.holdings) → add p d q a c ≡ Ok u →
        (i : Interpretation) (s : State) (scale t : Term) (tree : Tree) (on : Going) → Worth means p n i c a tree t → ScaleStands means world n i scale q → Here scope i s c → Follows means world n w scope i (run.with_holdings (added q es c.holdings) c) on → OffGoing means world n w on →
        Told means world n w i (produce p o a scale (Some t) s on)

    also : {i j k : Interpretation} → Extends means n i j → Extends means n j k → Extends means n i k
    also x y = extends-trans means (le_refl n) x y

    -- an assertion off the way
    pub off_produce : (a : Assertion) (scale t : Term) (on : Going) → OffGoing means world n w on → OffGoing means world n w (λ s. produce p o a scale (Some t) s on)
    off_produce a scale t on off j s x = produce_left (w.Tells j) p o (left j) a scale t s on (off_quiet means world n w x) (λ s1 st. off j s1 (off_still means world n w x st))

    unit_told : {scope : Scope} {i : Interpretation} {s : State} {c : run.State} (t : Term) (u : Tree) → Here scope i s c → Snap means p n i u t → u ≡ Empty → Here scope i (with_unit (Some t) s) c
    unit_told {i = i} {s = s} t u here k empty = record {
      still = after here.still (unit_still t s);
      quietly = with_truth means world n (equals t unit) here.quietly (good_equals means k.good (good_unit means)) (is_equal i t unit (k.is ∙ ap TreeElement empty ∙ sym (unit_value i here.quietly.stands.standard)));
    }

    same_values : (v : Value) → type_of v ≡ type.Bool → is_true v ≡ as_bool (element v)
    same_values v e = ap is_true (bool_value_is v e)

    pure_told : (q : Fraction) (e : Expr) → Produced q (Pure e)
    unfolding Produced added
    pure_told q e scope c u k es te ke pl en holds eq i s scale t tree on wo sc here h off =
        step_told means world n w _ (eval_told means world n w o d left parts keeps te ke (λ v s1. Step (on (with_unit (Some t) (with_fact v s1)))) here x.is (λ j v s1 ext on1 g is ty.
        let yes : as_bool (element x.it) ≡ true = sym (same_values x.it ty) ∙ holds_true in
        let on2 : Here scope j (with_fact v s1) c = record { still = after on1.still (fact_still v s1); quietly = with_truth means world n v on1.quietly g (ap as_bool is ∙ yes) } in
        let wo' = worth_later means p n ext c (Pure e) tree t wo in
        step_told means world n w _ (subst (λ hs. Follows means world n w scope i (run.with_holdings (added q hs c.holdings) c) on) none_given h j (with_unit (Some t) (with_fact v s1)) ext (unit_told t tree on2 wo'.0 wo'.1)))
        (λ j v s1 f. off j (with_unit (Some t) (with_fact v s1)) (off_still means world n w f (after (fact_still v s1) (unit_still t (with_fact v s1))))))
      where
        x : Before (fit p d c e) (λ _. Ok c) u
        x = undo (fit p d c e) (λ _. Ok c) u eq

        en' : cond (is_true x.it) (Some []) None ≡ Some es
        en' = follows_value p d worths k c e x.it (λ v. cond (is_true v) (Some []) None) es x.is en

        outcome : (b : Bool) → cond b (Some []) None ≡ Some es → (b ≡ true) × (es ≡ [])
        outcome true e = (refl, sym (same_Some [] es e))
        outcome false e = cc

        holds_true : is_true x.it ≡ true
        holds_true = (outcome (is_true x.it) en').0

        none_given : es ≡ []
        none_given = (outcome (is_true x.it) en').1

    -- the amount and the value of a location are put
    points_put : {scope : Scope} {j : Interpretation} {s3 : State} {c : run.State} (e : Expr) (f : Name) (r a t : Term) (k : ℕ) (y : Fraction) (tree : Tree) (inner : Bool) (on : Going) → Here scope j s3 c → Good means n j r RefSort → value j r ≡ element (RefValue k) →
        Good means n j a RealSort → Same (as_fraction (value j a)) y → Le none (as_fraction (value j a)) → (o : OfField means p n j c e f tree t) → o.reference ≡ k → HoldsInstances p Held true c.heap (run.gained (run.At (at_field k f)) y c.holdings) →
        Follows means world n w scope j (run.with_holdings (run.gained (run.At (at_field k f)) y c.holdings) c) on →
        Told means world n w j (on (put (record (field_key f r) { amount = a; value = produced_value (field_sort p f) (Some t) s3; inner = inner }) (after_value (field_sort p f) (Some t) s3)))
    points_put {scope = scope} {j = j} {s3 = s3} {c = c} e f r a t k y tree inner on here gr is ga a_is sign of at holds h = go (is_named u s3) (named_quietly u s3 (on_quiet means world n w here))
      where
        u : Term
        u = unwrap (field_sort p f) t

        v : Value
        v = run.value_at p c.heap (at_field k f)

        worth : value j (unwrap (field_sort p f) t) ≡ element (run.value_at p c.heap (at_field k f))
        worth = of.is ∙ ap (λ m. element (run.value_at p c.heap (at_field m f))) at

        tree_is : tree ≡ leaf (run.value_at p c.heap (at_field k f))
        tree_is = of.tree ∙ ap (λ m. leaf (run.value_at p c.heap (at_field m f))) at

        sort_is : field_sort p f ≡ sort_of_type (run.field_type p f)
        sort_is = sort_of_field p f

        of_sort : IsOf (sort_of_type (run.field_type p f)) (element (run.value_at p c.heap (at_field k f)))
        of_sort = subst (λ y. IsOf (sort_of_type y) (element (run.value_at p c.heap (at_field k f)))) (value_typed p c.heap (at_field k f)) (element_is (run.value_at p c.heap (at_field k f)))

        wrapped_is : value j (wrap (field_sort p f) (unwrap (field_sort p f) t)) ≡ TreeElement (leaf (run.value_at p c.heap (at_field k f)))
        wrapped_is =
            subst (λ z. value j (wrap z u) ≡ TreeElement (leaf v)) (sym sort_is)
            (wrap_value j here.quietly.stands.standard (run.field_type p f) u (subst (IsOf (sort_of_type (run.field_type p f))) (sym worth) of_sort) ∙ ap (λ e. TreeElement (leaf_of e)) worth ∙ ap TreeElement (leaf_is v))

        fact : Term
        fact = equals t (wrap (field_sort p f) (unwrap (field_sort p f) t))

        told_there : Here scope j (with_fact (equals t (wrap (field_sort p f) (unwrap (field_sort p f) t))) s3) c
        told_there = record {
          still = after here.still (fact_still fact s3);
          quietly = with_truth means world n fact here.quietly (good_equals means of.snap.good (good_wrap means of.good)) (is_equal j t (wrap (field_sort p f) u) (of.snap.is ∙ ap TreeElement tree_is ∙ sym wrapped_is));
        }

        new : rules.Chunk
        new = record (field_key f r) { amount = a; value = unwrap (field_sort p f) t; inner = inner }

        go : (b : Bool) → b ≡ true →
            Told means world n w j (on (put (record (field_key f r) { amount = a; value = cond b (unwrap (field_sort p f) t) (rules.fresh (sort_of (unwrap (field_sort p f) t)) s3); inner = inner })
            (with_fact (equals t (wrap (field_sort p f) (cond b (unwrap (field_sort p f) t) (rules.fresh (sort_of (unwrap (field_sort p f) t)) s3))))
            (cond b s3 (with_fact (equals (rules.fresh (sort_of (unwrap (field_sort p f) t)) s3) (unwrap (field_sort p f) t)) (rules.after_fresh s3))))))
        go true z =
            let keys = (let z : Keys means world n j (field_key f r) (run.At (at_field k f)) (field_sort p f) = of_field f r k gr is in z) in
            let made = keyed means world keys a (unwrap (field_sort p f) t) inner ga sign of.good (λ e. absurd (true≢false e)) (λ pos. worth) (λ e. tt) in
            h j (put new (with_fact fact s3)) (extends-refl means n j) (record { still = after told_there.still (put_still new (with_fact fact s3)); quietly = with_chunk means world n new (run.At (at_field k f)) y told_there.quietly made a_is holds })
        go false z = cc

    same_ref : (a b : ℕ) → RefValue a ≡ RefValue b → a ≡ b
    same_ref a b e = cc

    points_told : (q : Fraction) (at : Place) (e : Expr) (f : Name) (share : Expr) → Produced q (Points at e f share)
    unfolding Produced added
    points_told q at e f share scope c u k es t' k' pl en holds eq i s scale t tree on wo sc here h off =
        step_told means world n w _ (eval_told means world n w o d left parts keeps t'.0 k'.0 (λ r s1. eval p o share s1 (λ a s2. ask (less_equal zero_amount (multiply scale a)) (placed s2 at) AmountCode s2 (last r (multiply scale a)))) here y.receiver_is (λ j r s1 ext on1 g is ty.
        let m = ref_value_is y.receiver ty in
        let entry = one_entry m.0 m.1 in
        amount_told at scale q y.worth y.amount (last r) t'.2 k'.1 (scale_later means world (le_refl n) ext sc) on1 y.worth_is y.amount_is (record { holds = y.sign }) (λ j2 a s2 ext2 on2 ga a_is sign.
        let all = also ext ext2 in
        let o2 = worth_later means p n all c (Points at e f share) tree t wo in
        step_told means world n w _ (points_put e f r a t m.0 (product q y.amount) tree s.inner on on2 (good_later means (le_refl n) ext2 g) (value_kept means r g.settled ext2 ∙ is ∙ ap element m.1) ga a_is sign o2
        (same_ref o2.reference m.0 (one_value p c e (RefValue o2.reference) (RefValue m.0) o2.receiver (worths.fuel, worths.one c e y.receiver y.receiver_is ∙ ap Some m.1)))
        (subst (λ hs. HoldsInstances p Held true c.heap (added q hs c.holdings)) (sym entry) holds)
        (λ j3 s3 ext3 on3. h j3 s3 (also all ext3) (subst (λ hs. Here scope j3 s3 (run.with_holdings (added q hs c.holdings) c)) entry on3))))
        (λ m. off_put m r))
        (λ j r s1 x. off_amount r j s1 x))
      where
        b : Before (field_part p d c at e f share) (add_part p d q c) u
        b = undo (field_part p d c at e f share) (add_part p d q c) u eq

        y : FieldParts p d c e f share b.it
        y = field_parts p d c at e f share b.it b.is

        last : Term → Term → Going
        last r a s3 = Step (on (put (record (field_key f r) { amount = a; value = produced_value (field_sort p f) (Some t) s3; inner = s.inner }) (after_value (field_sort p f) (Some t) s3)))

        off_put : (a r : Term) → OffGoing means world n w (last r a)
        off_put a r j s3 x =
            let new = record (field_key f r) { amount = a; value = produced_value (field_sort p f) (Some t) s3; inner = s.inner } in
            off j (put new (after_value (field_sort p f) (Some t) s3)) (off_still means world n w x (after (value_still (field_sort p f) t s3 (off_quiet means world n w x)) (put_still new (after_value (field_sort p f) (Some t) s3))))

        off_amount : (r : Term) → OffGoing means world n w (λ s1. eval p o share s1 (λ a s2. ask (less_equal zero_amount (multiply scale a)) (placed s2 at) AmountCode s2 (last r (multiply scale a))))
        off_amount r j s1 x = amount_left (w.Tells j) p o (left j) at share s1 scale (last r) (off_quiet means world n w x) (λ a s2 st. off_put a r j s2 (off_still means world n w x st))

        one_entry : (r : ℕ) → y.receiver ≡ RefValue r → (run.At (at_field r f), y.amount) ∷ [] ≡ es
        one_entry r receiver =
            let on = λ (v : Value). option_and_then (location_entry f v) (plain.value p no_applications c share) in
            same_Some ((run.At (at_field r f), y.amount) ∷ []) es
            (sym (step (location_entry f (RefValue r)) (PermValue y.amount) (share_is p d worths c share y.worth y.amount pl.1 y.worth_is y.amount_is)) ∙ sym (ap on receiver) ∙ follows_value p d worths k c e y.receiver on es y.receiver_is en)

    instance_told : (q : Fraction) (at : Place) (x : Name) (xs : Exprs) (share : Expr) → Produced q (syntax.Instance at x xs share)
    unfolding Produced added
    instance_told q at x xs share scope c u k es t' k' pl en holds eq i s scale t tree on wo sc here h off =
        step_told means world n w _ (evals_told means world n w o d left parts keeps t'.0.2 k'.1 (λ ts s1. eval p o share s1 (λ a s2. ask (less_equal zero_amount (multiply scale a)) (placed s2 at) AmountCode s2 (last ts (multiply scale a)))) here y.arguments_are (λ j ts s1 ext on1 each.
        amount_told at scale q y.worth y.amount (last ts) t'.1 k'.2 (scale_later means world (le_refl n) ext sc) on1 y.worth_is y.amount_is (record { holds = y.sign }) (λ j2 a s2 ext2 on2 ga a_is sign.
        let all = also ext ext2 in
        let o2 = worth_later means p n all c (syntax.Instance at x xs share) tree t wo in
        let keys = let z : InstanceTerms means world n j2 x ts y.arguments = record { held = k'.0; predicate = t'.0.0; named = t'.0.1; no_perm = no_perm x t'.0.0 t'.0.1; each = terms_later means world (le_refl n) ext2 t'.0.0.parameters ts y.arguments each } in z in
        step_told means world n w _ (put_there j2 s2 ts a keys on2 ga a_is sign o2 (λ j3 s3 ext3 on3. h j3 s3 (also all ext3) (subst (λ hs. Here scope j3 s3 (run.with_holdings (added q hs c.holdings) c)) entry on3))))
        (λ m. off_put m ts))
        (λ j ts s1 x'. off_amount ts j s1 x'))
      where
        b : Before (instance_part p d c at x xs share) (add_part p d q c) u
        b = undo (instance_part p d c at x xs share) (add_part p d q c) u eq

        y : InstanceParts p d c x xs share b.it
        y = instance_parts p d c at x xs share b.it b.is

        target : run.Instance
        target = record { predicate = x; arguments = y.arguments }

        last : List Term → Term → Going
        last ts a s3 = Step (on (put (record (instance_key x ts) { amount = a; value = produced_snapshot (Some t) s3; inner = s.inner }) (after_snapshot (Some t) s3)))

        off_put : (a : Term) (ts : List Term) → OffGoing means world n w (last ts a)
        off_put a ts j s3 z =
            let new = record (instance_key x ts) { amount = a; value = produced_snapshot (Some t) s3; inner = s.inner } in
            off j (put new (after_snapshot (Some t) s3)) (off_still means world n w z (after (name_still t s3 (off_quiet means world n w z)) (put_still new (after_snapshot (Some t) s3))))

        off_amount : (ts : List Term) → OffGoing means world n w (λ s1. eval p o share s1 (λ a s2. ask (less_equal zero_amount (multiply scale a)) (placed s2 at) AmountCode s2 (last ts (multiply scale a))))
        off_amount ts j s1 z = amount_left (w.Tells j) p o (left j) at share s1 scale (last ts) (off_quiet means world n w z) (λ a s2 st. off_put a ts j s2 (off_still means world n w z st))

        entry : (run.Folded record { predicate = x; arguments = y.arguments }, y.amount) ∷ [] ≡ es
        entry = same_Some ((run.Folded target, y.amount) ∷ []) es
            (sym (step (instance_entry x y.arguments) (PermValue y.amount) (share_is p d worths c share y.worth y.amount pl.1 y.worth_is y.amount_is)) ∙ follow_values p d worths k c xs y.arguments (λ vs. option_and_then (instance_entry x vs) (plain.value p no_applications c share)) es y.arguments_are en)

        put_there : (j : Interpretation) (s3 : State) (ts : List Term) (a : Term) → InstanceTerms means world n j x ts y.arguments → Here scope j s3 c → Good means n j a RealSort → Same (as_fraction (value j a)) (product q y.amount) → Le none (as_fraction (value j a)) →
            OfInstance means p n j c x xs tree t → Follows means world n w scope j (run.with_holdings (run.gained (run.Folded record { predicate = x; arguments = y.arguments }) (product q y.amount) c.holdings) c) on →
            Told means world n w j (on (put (record (instance_key x ts) { amount = a; value = produced_snapshot (Some t) s3; inner = s.inner }) (after_snapshot (Some t) s3)))
        put_there j s3 ts a keys on3 ga a_is sign of h' = go (is_named t s3) (named_quietly t s3 (on_quiet means world n w on3))
          where
            go : (b : Bool) → b ≡ true →
                Told means world n w j (on (put (record (instance_key x ts) { amount = a; value = cond b t (rules.fresh (sort_of t) s3); inner = s.inner }) (cond b s3 (with_fact (equals (rules.fresh (sort_of t) s3) t) (rules.after_fresh s3)))))
            go true z =
                let new = record (instance_key x ts) { amount = a; value = t; inner = s.inner } in
                let key = (let z : Keys means world n j (instance_key x ts) (run.Folded target) SnapSort = of_instance x ts y.arguments keys in z) in
                let is_tree = subst (λ vs. IsTree p c.heap record { predicate = x; arguments = vs } tree) (all_one_value p c xs of.arguments y.arguments of.arguments_are.0 worths.fuel of.arguments_are.1 (worths.all c xs y.arguments y.arguments_are)) of.tree in
                let made = keyed means world key a t s.inner ga sign of.snap.good (λ e. of.written) (λ pos. (tree, is_tree, of.snap.is)) (λ e. tt) in
                let there = subst (λ hs. HoldsInstances p Held true c.heap (added q hs c.holdings)) (sym entry) holds in
                h' j (put new s3) (extends-refl means n j) (record { still = after on3.still (put_still new s3); quietly = with_chunk means world n new (run.Folded target) (product q y.amount) on3.quietly made a_is there })
            go false z = cc

    both_told : (q : Fraction) (a b : Assertion) → Produced q a → Produced q b → Produced q (Both a b)
    unfolding Produced
    both_told q a b on_a on_b scope c u k es t' k' pl en holds eq i s scale t tree on wo sc here h off =
        step_told means world n w _ (on_a scope c x.it k xs.it t'.0 k'.0 pl.0 xs.is half x.is i (with_split (Some t) s) scale (first t) wo.0 after_a wo.4 sc split_here
        (λ j s1 ext on1.
        on_b scope middle u k ys.it t'.1 k'.1 pl.1 (held_entries p k (added q xs.it c.holdings) c b pl.1 ∙ ys.is) all_there (subst (λ z. add p d q b z ≡ Ok u) middle_is x.then) j s1 scale (second t) wo.1 on
        (worth_held means p n j c (added q xs.it c.holdings) b wo.1 (second t) (worth_later means p n ext c b wo.1 (second t) wo.5)) (scale_later means world (le_refl n) ext sc) on1
        (λ j2 s2 ext2 on2. h j2 s2 (also ext ext2) (subst (λ hs. Here scope j2 s2 (run.with_holdings hs c)) whole on2)) off)
        (off_produce b scale (second t) on off))
      where
        x : Before (add p d q a c) (λ m. add p d q b m) u
        x = undo (add p d q a c) (λ m. add p d q b m) u eq

        xs : After (asking_entries p (applications p k) c a) (λ xs. option_and_then (λ ys. Some (xs ++ ys)) (asking_entries p (applications p k) c b)) es
        xs = came (asking_entries p (applications p k) c a) (λ xs. option_and_then (λ ys. Some (xs ++ ys)) (asking_entries p (applications p k) c b)) es en

        ys : After (asking_entries p (applications p k) c b) (λ ys. Some (xs.it ++ ys)) es
        ys = came (asking_entries p (applications p k) c b) (λ ys. Some (xs.it ++ ys)) es xs.then

        joined : xs.it ++ ys.it ≡ es
        joined = same_Some (xs.it ++ ys.it) es ys.then

        after_a : Going
        after_a s1 = produce p o b scale (Some (second t)) s1 on

        middle : run.State
        middle = run.with_holdings (added q xs.it c.holdings) c

        whole : added q ys.it (added q xs.it c.holdings) ≡ added q es c.holdings
        whole = sym (added_append q xs.it ys.it c.holdings) ∙ ap (λ zs. added q zs c.holdings) joined

        all_there : HoldsInstances p Held true c.heap (added q ys.it (added q xs.it c.holdings))
        all_there = subst (HoldsInstances p Held true c.heap) (sym whole) holds

        half : HoldsInstances p Held true c.heap (added q xs.it c.holdings)
        half = fewer p good Held true c.heap q ys.it (added q xs.it c.holdings) sc.positive (asking_positive p (applications p k) c b ys.it pl.1 ys.is)
            (added_debts p good Held true q xs.it c.holdings sc.positive (asking_positive p (applications p k) c a xs.it pl.0 xs.is) here.quietly.stands.holds.debts) all_there

        middle_is : x.it ≡ run.with_holdings (added q xs.it c.holdings) c
        middle_is = added_is p d worths q sc.positive a c x.it k xs.it pl.0 xs.is x.is

        fact : Term
        fact = equals t (pair (first t) (second t))

        split_here : Here scope i (with_split (Some t) s) c
        split_here =
            let k = wo.3 in
            let one = worth_snap means p n i c a wo.0 (first t) wo.4 in
            let two = worth_snap means p n i c b wo.1 (second t) wo.5 in
            record {
              still = after here.still (split_still t s);
              quietly = with_truth means world n fact here.quietly (good_equals means k.good (good_pair means one.good two.good))
                  (is_equal i t (pair (first t) (second t)) (k.is ∙ ap TreeElement wo.2 ∙ sym (pair_value i here.quietly.stands.standard (first t) (second t) wo.0 wo.1 one.is two.is)));
            }

    -- a condition, and the side that it picks
    implied_told : (q : Fraction) (e : Expr) (a : Assertion) → Produced q a → Produced q (Implied e a)
    unfolding Produced added
    implied_told q e a on_a scope c u k es t' k' pl en holds eq i s scale t tree on wo sc here h off =
        step_told means world n w _ (eval_told means world n w o d left parts keeps t'.0 k'.0 (λ v s1. rule.fork v s1 left_on right_on) here x.is (λ j v s1 ext on1 g is ty.
        let b = bool_is means world n w x.it ty in
        let outcome = side_is (place_of e) b.0 (add p d q a c) (Ok c) u (sym (ap (λ v. choose (place_of e) v (add p d q a c) (Ok c)) b.1) ∙ x.then) in
        let on_value = λ (v : Value). plain.choose v (asking_entries p (applications p k) c a) (Some []) in
        let listed = ap on_value (sym b.1) ∙ follows_value p d worths k c e x.it on_value es x.is en in
        fork_told means world n w v left_on right_on on1 g b.0 (ap as_bool is)
        (λ z j2 s2 ext2 on2. on_a scope c u k es t'.1 k'.1 pl.1 (on_yes b.0 z (asking_entries p (applications p k) c a) (Some []) es listed) holds (side_yes b.0 z _ _ outcome) j2 s2 scale t tree on
        (worth_later means p n (also ext ext2) c a tree t (worth_yes b.0 wo.0 z (decided c e x.it b.0 wo.0 x.is b.1 wo.1) _ _ wo.2)) (scale_later means world (le_refl n) (also ext ext2) sc) on2 (λ j3 s3 ext3 on3. h j3 s3 (also ext (also ext2 ext3)) on3) off)
        (λ z j2 s2 ext2 on2.
        let wn = worth_no b.0 wo.0 z (decided c e x.it b.0 wo.0 x.is b.1 wo.1) _ _ wo.2 in
        subst (λ hs. Follows means world n w scope i (run.with_holdings (added q hs c.holdings) c) on) (sym (same_Some [] es (on_no b.0 z (asking_entries p (applications p k) c a) (Some []) es listed))) h j2 (with_unit (Some t) s2) (also ext ext2) (unit_told t tree on2 (snap_later means p n (also ext ext2) wn.0) wn.1))
        off_left off_right)
        (λ j v s1 f. fork_left (w.Tells j) s1 v left_on right_on (λ s2 st. off_left j s2 (off_still means world n w f st)) (λ s2 st. off_right j s2 (off_still means world n w f st))))
      where
        x : Before (fit p d c e) (λ v. choose (place_of e) v (add p d q a c) (Ok c)) u
        x = undo (fit p d c e) (λ v. choose (place_of e) v (add p d q a c) (Ok c)) u eq

        left_on : Going
        left_on s2 = produce p o a scale (Some t) s2 on

        right_on : Going
        right_on s2 = on (with_unit (Some t) s2)

        off_left : OffGoing means world n w left_on
        off_left = off_produce a scale t on off

        off_right : OffGoing means world n w right_on
        off_right j s2 f = off j (with_unit (Some t) s2) (off_still means world n w f (unit_still t s2))

    chosen_told : (q : Fraction) (e : Expr) (a b : Assertion) → Produced q a → Produced q b → Produced q (Chosen e a b)
    unfolding Produced added
    chosen_told q e a b on_a on_b scope c u k es t' k' pl en holds eq i s scale t tree on wo sc here h off =
        step_told means world n w _ (eval_told means world n w o d left parts keeps t'.0 k'.0 (λ v s1. rule.fork v s1 left_on right_on) here x.is (λ j v s1 ext on1 g is ty.
        let y = bool_is means world n w x.it ty in
        let outcome = side_is (place_of e) y.0 (add p d q a c) (add p d q b c) u (sym (ap (λ v. choose (place_of e) v (add p d q a c) (add p d q b c)) y.1) ∙ x.then) in
        let on_value = λ (v : Value). plain.choose v (asking_entries p (applications p k) c a) (asking_entries p (applications p k) c b) in
        let listed = ap on_value (sym y.1) ∙ follows_value p d worths k c e x.it on_value es x.is en in
        fork_told means world n w v left_on right_on on1 g y.0 (ap as_bool is)
        (λ z j2 s2 ext2 on2. on_a scope c u k es t'.1 k'.1 pl.1 (on_yes y.0 z (asking_entries p (applications p k) c a) (asking_entries p (applications p k) c b) es listed) holds (side_yes y.0 z _ _ outcome) j2 s2 scale t tree on
        (worth_later means p n (also ext ext2) c a tree t (worth_yes y.0 wo.0 z (decided c e x.it y.0 wo.0 x.is y.1 wo.1) _ _ wo.2)) (scale_later means world (le_refl n) (also ext ext2) sc) on2 (λ j3 s3 ext3 on3. h j3 s3 (also ext (also ext2 ext3)) on3) off)
        (λ z j2 s2 ext2 on2. on_b scope c u k es t'.2 k'.2 pl.2 (on_no y.0 z (asking_entries p (applications p k) c a) (asking_entries p (applications p k) c b) es listed) holds (side_no y.0 z _ _ outcome) j2 s2 scale t tree on
        (worth_later means p n (also ext ext2) c b tree t (worth_no y.0 wo.0 z (decided c e x.it y.0 wo.0 x.is y.1 wo.1) _ _ wo.2)) (scale_later means world (le_refl n) (also ext ext2) sc) on2 (λ j3 s3 ext3 on3. h j3 s3 (also ext (also ext2 ext3)) on3) off)
        off_left off_right)
        (λ j v s1 f. fork_left (w.Tells j) s1 v left_on right_on (λ s2 st. off_left j s2 (off_still means world n w f st)) (λ s2 st. off_right j s2 (off_still means world n w f st))))
      where
        x : Before (fit p d c e) (λ v. choose (place_of e) v (add p d q a c) (add p d q b c)) u
        x = undo (fit p d c e) (λ v. choose (place_of e) v (add p d q a c) (add p d q b c)) u eq

        left_on : Going
        left_on s2 = produce p o a scale (Some t) s2 on

        right_on : Going
        right_on s2 = produce p o b scale (Some t) s2 on

        off_left : OffGoing means world n w left_on
        off_left = off_produce a scale t on off

        off_right : OffGoing means world n w right_on
        off_right = off_produce b scale t on off

    pub produce_told : (q : Fraction) (a : Assertion) → Produced q a
    produce_told q (Pure e) = pure_told q e
    produce_told q (Points at e f share) = points_told q at e f share
    produce_told q (syntax.Instance at x es share) = instance_told q at x es share
    produce_told q (Both a b) = both_told q a b (produce_told q a) (produce_told q b)
    produce_told q (Implied e a) = implied_told q e a (produce_told q a)
    produce_told q (Chosen e a b) = chosen_told q e a b (produce_told q a) (produce_told q b)
