-- No run of a cleared assertion fails, and what follows one that ends is cleared at its state.
use Rattle.std.proofs.Common.{◌≡◌, ℕ, ◌≤◌, Bool, true, false, cond, List, [], ◌∷◌, inl, inr, None, refl, sym, ◌∙◌, ap, subst, le_refl, le_trans}
use Rattle.std.specs.Prelude.{Ok, Err}
use Rattle.vx_frac.specs.Fractions.{Fraction, product}
use Rattle.vx_ast.specs.declared.Place.{Place}
use Rattle.vx_ast.specs.declared.ValueType.TheVariants as type
use Rattle.vx_ast.specs.Syntax.{Name, Program, place_of, Expr, Exprs, Assertion, Pure, Points, Instance, Both, Implied, Chosen}
use Rattle.vx_meaning.specs.Values.{Value, BoolValue, RefValue, PermValue, type_of, is_true}
use Rattle.vx_meaning.specs.States as run
use Rattle.vx_meaning.specs.Fits.{Checked, ◌>>=◌, guard, Eventually, Fits, fit_by, fit_all, take_by, take_part, field_part, instance_part, deeper}
use Rattle.vx_meaning.specs.Fits as fits
use Rattle.vx_meaning.specs.Outcomes.{Outcome, Ends, FailsAt, Stops, Outcomes, ends, stops, checked, passes, refused, IsOver, and_then, goes_on, is_over}
use Rattle.vx_meaning.specs.Give.{when, side, give, give_pure, give_part}
use Rattle.vx_terms.specs.Sorts as sort
use Rattle.vx_terms.specs.Sorts.{BoolSort, SnapSort}
use Rattle.vx_terms.specs.Terms as term
use Rattle.vx_terms.specs.Terms.{Term}
use Rattle.vx_terms.specs.Build.{unit, pair, wrap, written_unwrap}
use Rattle.vx_terms.specs.Interpretations.{Each, Interpretation, Element, IntElement, BoolElement, RealElement, TreeElement, Tree, IsOf, as_bool, value, IsTrueIn}
use Rattle.vx_terms.proofs.Values.{value_of_sort}
use Rattle.vx_rules.specs.States as rules
use Rattle.vx_rules.specs.States.{sort_of_type}
use Rattle.vx_rules.specs.Trees.{Step}
use Rattle.vx_rules.specs.Chunks.{field_key, instance_key, put}
use Rattle.vx_rules.specs.Rules.{Giving, Going, Context, pair_facts, Outer, ask, fork, placed, field_sort, take_chunk, eval, produce, consume}
use Rattle.vx_types.specs.Typing.{Scope, HasType, IsTyped}
use Rattle.vx_elements.proofs.Settled.{Meaning, Extends, extends-refl, extends-trans, value_kept}
use Rattle.vx_elements.proofs.Built.{Good, good_later}
use Rattle.vx_elements.proofs.Elements.{element, bool_value_is}
use Rattle.vx_elements.proofs.Values.{sort_of_field}
use Rattle.vx_elements.proofs.Eventually.{eventually, both_eventually, one_answer, no_refusal}
use Rattle.vx_amounts.proofs.Amounts.{Le, Positive, le-trans}
use Rattle.vx_amounts.proofs.Products.{product_positive}
use Rattle.vx_sound.proofs.Marks.{Unrooted, inner_anywhere}
use Rattle.vx_sound.proofs.World.{at_field, CanBe, World}
use Rattle.vx_sound.proofs.Evaluated.{PartsMeasured}
use Rattle.vx_sound.proofs.Standard.{IsStandard, pair_value, first_value, second_value, wrapped_back, good_unit, good_pair, good_first, good_second, good_wrap, good_unwrap, written_equal}
use Rattle.vx_sound.proofs.Speaks.{Speaks, SpeaksOf}
use Rattle.vx_sound.proofs.Passes.{Cleared}
use Rattle.vx_sound.proofs.Stands.{IsThere, HeapStands, Stands, heap_later, stands_fact, next_after_fact, facts_stand, next_after_facts}
use Rattle.vx_sound.proofs.Candidates.{Keys, of_instance, keys_typed}
use Rattle.vx_sound.proofs.Puts.{stands_with_holdings}
use Rattle.vx_sound.proofs.Goes.{Goes, Evaluates, goes_after, reached, asked, forked}
use Rattle.vx_sound.proofs.Evaluate.{PartsGo, bind_ok, eval_goes}
use Rattle.vx_sound.proofs.Giving.{ScaleStands, scale_later, put_fresh, Located, located, InstanceLocated, instance_located, Taken, take_one}

pub by_side : {R : Type 0} (x : Bool) (a b : Outcomes) (outcome : Outcome) → when x a b outcome → (x ≡ true → a outcome → R) → (x ≡ false → b outcome → R) → R
by_side true a b outcome h l r = l refl h
by_side false a b outcome h l r = r refl h

tree_of : (e : Element) → IsOf SnapSort e → (t : Tree) × (e ≡ TreeElement t)
tree_of (TreeElement t) h = (t, refl)
tree_of (IntElement z) h = absurd h
tree_of (BoolElement b) h = absurd h
tree_of (RealElement a) h = absurd h

module _ (means : Meaning) (world : World) where
  abbrev p : Program
  p = world.program

  -- what a run of this outcome leaves
  abbrev pub Leaves : Scope → Interpretation → ℕ → Going → Outcome → Type 0
  Leaves scope i n on (Ends c) = Goes means world scope i n on c
  Leaves scope i n on (FailsAt at) = ⊥
  Leaves scope i n on Stops = Unit {0}

  pub leaves_after : {mid : Scope} (scope : Scope) {i : Interpretation} {n : ℕ} {d : Going} {b : run.State} (on : Going) (o : Outcome) (g : Goes means world mid i n d b) →
      Leaves scope g.interp g.state.next on o → Leaves scope i n on o
  leaves_after scope on (Ends c) g r = goes_after means world g r
  leaves_after scope on (FailsAt at) g r = r
  leaves_after scope on Stops g r = r

  pub over_leaves : (mid scope : Scope) (i : Interpretation) (n : ℕ) (d on : Going) (o : Outcome) → IsOver o → Leaves mid i n d o → Leaves scope i n on o
  over_leaves mid scope i n d on (Ends c) over r = absurd over
  over_leaves mid scope i n d on (FailsAt at) over r = r
  over_leaves mid scope i n d on Stops over r = tt

  pub ends_leaves : (scope : Scope) (i : Interpretation) (n : ℕ) (on : Going) (c : run.State) (o : Outcome) → ends c o → Goes means world scope i n on c → Leaves scope i n on o
  ends_leaves scope i n on c (Ends d) e g = subst (λ d. Goes means world scope i n on d) (sym e) g
  ends_leaves scope i n on c (FailsAt at) e g = e
  ends_leaves scope i n on c Stops e g = tt

  pub stops_leaves : (scope : Scope) (i : Interpretation) (n : ℕ) (on : Going) (o : Outcome) → stops o → Leaves scope i n on o
  stops_leaves scope i n on (Ends d) e = absurd e
  stops_leaves scope i n on (FailsAt at) e = e
  stops_leaves scope i n on Stops e = tt

  -- one after the other
  pub then_leaves : (mid scope : Scope) (i : Interpretation) (n : ℕ) (first : Outcomes) (rest : run.State → Outcomes) (d on : Going) (outcome : Outcome) → and_then first rest outcome →
      ((other : Outcome) → first other → Leaves mid i n d other) →
      ((e : run.State) (g : Goes means world mid i n d e) → rest e outcome → Leaves scope g.interp g.state.next on outcome) → Leaves scope i n on outcome
  then_leaves mid scope i n first rest d on outcome (goes_on e h r) left right = let g = left (Ends e) h in leaves_after scope on outcome g (right e g r)
  then_leaves mid scope i n first rest d on outcome (is_over over h) left right = over_leaves mid scope i n d on outcome over (left outcome h)

  -- a failed check fails
  pub refused_leaves : (scope : Scope) (i : Interpretation) (n : ℕ) {A : Type 0} {check : ℕ → Checked A} (on : Going) (o : Outcome) (a : A) (at : Place) →
      Eventually (λ n. check n ≡ Ok a) → Eventually (λ n. check n ≡ Err at) → Leaves scope i n on o
  refused_leaves scope i n on o a at x y = no_refusal a at x y

  -- with the holdings and chunks of another state
  pub stands_at : {scope : Scope} {i : Interpretation} {s : rules.State} {rest : run.Holdings} (c : run.State) (chunks : rules.Heap) → Stands means world scope i s (run.with_holdings rest c) → HeapStands means world s.next i chunks c.heap c.holdings → world.Holds c.heap c.holdings →
      Stands means world scope i (rules.with_heap chunks s) c
  stands_at c chunks st h b = record { store = st.store; path = st.path; heap = h; old = st.old; awake = st.awake; bounded = st.bounded; null = st.null; standard = st.standard; owned = st.owned; marked = st.marked; holds = b; old_holds = st.old_holds }

  module _ (o : Outer) (parts : PartsGo means world o) where
    with_fact_goes : {scope : Scope} {i : Interpretation} {n : ℕ} {c : run.State} {e : Expr} (on : Going) (r : Evaluates means world scope i n (λ t s1. Step (on (rules.with_fact t s1))) c e type.Bool) →
        as_bool (element r.result) ≡ true → Goes means world scope i n on c
    with_fact_goes {n = n} on r h = record {
      interp = r.interp;
      state = rules.with_fact r.term r.state;
      extends = r.extends;
      later = subst (λ m. n ≤ m) (sym (next_after_fact means world r.term r.state)) r.later;
      stands = stands_fact means world r.term r.stands r.good (ap as_bool r.value_is ∙ h);
      cleared = r.cleared;
    }

    pub is_true_of : (v : Value) → type_of v ≡ type.Bool → is_true v ≡ as_bool (element v)
    is_true_of v e = ap is_true (bool_value_is v e)

    pub pure_goes : {scope : Scope} {e : Expr} {c : run.State} (outcome : Outcome) (Possible : run.State → Type 0) (q : Fraction) → give_pure p Possible q e c outcome →
        HasType p scope e type.Bool → Speaks world.Held world.Applied e → {i : Interpretation} {s : rules.State} (on : Going) → Stands means world scope i s c →
        Cleared (eval p o e s (λ t s1. Step (on (rules.with_fact t s1)))) → Leaves scope i s.next on outcome
    pure_goes {scope = scope} {e = e} {c = c} outcome Possible q (passes v h rest) t k {i = i} {s = s} on st w =
        go (as_bool (element r.result)) refl (subst (λ x. when x (ends c) stops outcome) (ap is_true (one_answer v r.result h r.fits) ∙ is_true_of r.result r.typed) rest)
      where
        r : Evaluates means world scope i s.next (λ t s1. Step (on (rules.with_fact t s1))) c e type.Bool
        r = eval_goes means world o parts t k (λ t s1. Step (on (rules.with_fact t s1))) st w

        go : (x : Bool) → as_bool (element r.result) ≡ x → when x (ends c) stops outcome → Leaves scope i s.next on outcome
        go true f rest = ends_leaves scope i s.next on c outcome rest (with_fact_goes on r f)
        go false f rest = stops_leaves scope i s.next on outcome rest
    pure_goes {scope = scope} outcome Possible q (refused at h f) t k {i = i} {s = s} on st w =
        let r = eval_goes means world o parts t k (λ t s1. Step (on (rules.with_fact t s1))) st w in
        refused_leaves scope i s.next on outcome r.result at r.fits h

    -- where what is possible can be
    module _ (Possible : run.State → Type 0) (possible : (c : run.State) → Possible c → CanBe p world.bounded c) (free : Unrooted world.marks) where
      -- what is shown of an assertion that is given
      GiveGoes : Fraction → Assertion → Type 0
      GiveGoes q a =
          (scope : Scope) (c : run.State) (outcome : Outcome) → give p Possible q a c outcome → IsTyped p scope a → SpeaksOf world.Held world.Applied a → (i : Interpretation) (s : rules.State) (scale : Term) (on : Going) →
          ScaleStands means world s.next i scale q → Stands means world scope i s c → Cleared (produce p o a scale None s on) → Leaves scope i s.next on outcome

      pure_given : (q : Fraction) (e : Expr) → GiveGoes q (Pure e)
      unfolding GiveGoes
      pure_given q e scope c outcome g t k i s scale on sc st w = pure_goes outcome Possible q g t k on st w

      both_given : (q : Fraction) (a b : Assertion) → GiveGoes q a → GiveGoes q b → GiveGoes q (Both a b)
      unfolding GiveGoes
      both_given q a b on_a on_b scope c outcome g t k i s scale on sc st w =
          let after = λ (s1 : rules.State). produce p o b scale None s1 on in
          then_leaves scope scope i s.next (give p Possible q a c) (give p Possible q b) after on outcome g
          (λ other h. on_a scope c other h t.0 k.0 i s scale after sc st w)
          (λ e f r. on_b scope e outcome r t.1 k.1 f.interp f.state scale on (scale_later means world f.later f.extends sc) f.stands f.cleared)

      points_given : (q : Fraction) (at : Place) (e : Expr) (f : Name) (share : Expr) → GiveGoes q (Points at e f share)
      unfolding GiveGoes
      points_given q at e f share scope c outcome g t k i s scale on sc st w = go g
        where
          after : Term → Term → Going
          after r a s3 = Step (on (put (record (field_key f r) { amount = a; value = rules.fresh (field_sort p f) s3; inner = s.inner }) (rules.after_fresh s3)))

          l : Located means world o parts scope i s.next after c at e f share q
          l = located means world o parts at f scale q after t.0 k.0 t.2 k.1 sc st w

          given_here : Possible (run.with_holdings (run.gained (run.At (at_field l.reference f)) (product q l.fraction) c.holdings) c) →
              Goes means world scope i s.next on (run.with_holdings (run.gained (run.At (at_field l.reference f)) (product q l.fraction) c.holdings) c)
          given_here can =
              let r = run.At (at_field l.reference f) in
              let holds = world.given c r (product q l.fraction) tt (le-trans l.sign l.amount_is.there) l.stands.holds (possible (run.with_holdings (run.gained r (product q l.fraction) c.holdings) c) can) in
              let g : Goes means world scope l.interp l.state.next on (run.with_holdings (run.gained r (product q l.fraction) c.holdings) c) = put_fresh means world l.keys l.amount (product q l.fraction) s.inner on l.stands l.amount_good l.amount_is l.sign holds (λ e. inner_anywhere p world.marks free (st.marked e) c.heap r) l.cleared in
              record { interp = g.interp; state = g.state; extends = extends-trans means l.later l.extends g.extends; later = le_trans l.later g.later; stands = g.stands; cleared = g.cleared }

          decided : give_part p Possible q c (run.At (at_field l.reference f), l.fraction) outcome → Leaves scope i s.next on outcome
          decided (inl (can, e)) = ends_leaves scope i s.next on (run.with_holdings (run.gained (run.At (at_field l.reference f)) (product q l.fraction) c.holdings) c) outcome e (given_here can)
          decided (inr (never, e)) = stops_leaves scope i s.next on outcome e

          go : checked (λ n. field_part p (deeper p n) c at e f share) (give_part p Possible q c) outcome → Leaves scope i s.next on outcome
          go (passes part h rest) = decided (subst (λ part. give_part p Possible q c part outcome) (one_answer part (run.At (at_field l.reference f), l.fraction) h l.part) rest)
          go (refused place h e) = refused_leaves scope i s.next on outcome (run.At (at_field l.reference f), l.fraction) place l.part h

      instance_given : (q : Fraction) (at : Place) (x : Name) (es : Exprs) (share : Expr) → GiveGoes q (Instance at x es share)
      unfolding GiveGoes
      instance_given q at x es share scope c outcome g t k i s scale on sc st w = go g
        where
          after : List Term → Term → Going
          after ts a s3 = Step (on (put (record (instance_key x ts) { amount = a; value = rules.fresh SnapSort s3; inner = s.inner }) (rules.after_fresh s3)))

          l : InstanceLocated means world o parts scope i s.next after c at x es share q
          l = instance_located means world o parts at x t.0.0 scale q after k.0 t.0.1 t.0.2 k.1 t.1 k.2 sc st w

          target : run.Instance
          target = record { predicate = x; arguments = l.results }

          keys : Keys means world l.state.next l.interp (instance_key x l.terms) (run.Folded record { predicate = x; arguments = l.results }) SnapSort
          keys = of_instance x l.terms l.results l.keys

          given_here : Possible (run.with_holdings (run.gained (run.Folded record { predicate = x; arguments = l.results }) (product q l.fraction) c.holdings) c) →
              Goes means world scope i s.next on (run.with_holdings (run.gained (run.Folded record { predicate = x; arguments = l.results }) (product q l.fraction) c.holdings) c)
          given_here can =
              let r = run.Folded record { predicate = x; arguments = l.results } in
              let holds = world.given c r (product q l.fraction) (keys_typed means world keys) (le-trans l.sign l.amount_is.there) l.stands.holds (possible (run.with_holdings (run.gained r (product q l.fraction) c.holdings) c) can) in
              let g : Goes means world scope l.interp l.state.next on (run.with_holdings (run.gained r (product q l.fraction) c.holdings) c) = put_fresh means world keys l.amount (product q l.fraction) s.inner on l.stands l.amount_good l.amount_is l.sign holds (λ e. inner_anywhere p world.marks free (st.marked e) c.heap r) l.cleared in
              record { interp = g.interp; state = g.state; extends = extends-trans means l.later l.extends g.extends; later = le_trans l.later g.later; stands = g.stands; cleared = g.cleared }

          decided : give_part p Possible q c (run.Folded record { predicate = x; arguments = l.results }, l.fraction) outcome → Leaves scope i s.next on outcome
          decided (inl (can, e)) = ends_leaves scope i s.next on (run.with_holdings (run.gained (run.Folded record { predicate = x; arguments = l.results }) (product q l.fraction) c.holdings) c) outcome e (given_here can)
          decided (inr (never, e)) = stops_leaves scope i s.next on outcome e

          go : checked (λ n. instance_part p (deeper p n) c at x es share) (give_part p Possible q c) outcome → Leaves scope i s.next on outcome
          go (passes part h rest) = decided (subst (λ part. give_part p Possible q c part outcome) (one_answer part (run.Folded target, l.fraction) h l.part) rest)
          go (refused place h e) = refused_leaves scope i s.next on outcome (run.Folded target, l.fraction) place l.part h

      -- a condition's side
      implied_given : (q : Fraction) (d : Expr) (a : Assertion) → GiveGoes q a → GiveGoes q (Implied d a)
      unfolding GiveGoes
      implied_given q d a on_a scope c outcome g t k i s scale on sc st w = go g
        where
          left : Going
          left s2 = produce p o a scale None s2 on

          r : Evaluates means world scope i s.next (λ t s1. fork t s1 left on) c d type.Bool
          r = eval_goes means world o parts t.0 k.0 (λ t s1. fork t s1 left on) st w

          side_goes : (x : Bool) → as_bool (element r.result) ≡ x → Goes means world scope i s.next (cond x left on) c
          side_goes x f = goes_after means world (reached means world r) (forked means world r.term left on r.stands r.good r.cleared x (ap as_bool r.value_is ∙ f))

          go : checked (λ n. fit_by p n c d) (λ v. side v (give p Possible q a c) (ends c)) outcome → Leaves scope i s.next on outcome
          go (passes v h rest) =
              by_side (as_bool (element r.result)) (give p Possible q a c) (ends c) outcome
              (subst (λ x. when x (give p Possible q a c) (ends c) outcome) (ap is_true (one_answer v r.result h r.fits) ∙ is_true_of r.result r.typed) rest)
              (λ f h. let g = side_goes true f in leaves_after scope on outcome g (on_a scope c outcome h t.1 k.1 g.interp g.state scale on (scale_later means world g.later g.extends sc) g.stands g.cleared))
              (λ f h. ends_leaves scope i s.next on c outcome h (side_goes false f))
          go (refused place h e) = refused_leaves scope i s.next on outcome r.result place r.fits h

      chosen_given : (q : Fraction) (d : Expr) (a b : Assertion) → GiveGoes q a → GiveGoes q b → GiveGoes q (Chosen d a b)
      unfolding GiveGoes
      chosen_given q d a b on_a on_b scope c outcome g t k i s scale on sc st w = go g
        where
          left : Going
          left s2 = produce p o a scale None s2 on

          right : Going
          right s2 = produce p o b scale None s2 on

          r : Evaluates means world scope i s.next (λ t s1. fork t s1 left right) c d type.Bool
          r = eval_goes means world o parts t.0 k.0 (λ t s1. fork t s1 left right) st w

          side_goes : (x : Bool) → as_bool (element r.result) ≡ x → Goes means world scope i s.next (cond x left right) c
          side_goes x f = goes_after means world (reached means world r) (forked means world r.term left right r.stands r.good r.cleared x (ap as_bool r.value_is ∙ f))

          go : checked (λ n. fit_by p n c d) (λ v. side v (give p Possible q a c) (give p Possible q b c)) outcome → Leaves scope i s.next on outcome
          go (passes v h rest) =
              by_side (as_bool (element r.result)) (give p Possible q a c) (give p Possible q b c) outcome
              (subst (λ x. when x (give p Possible q a c) (give p Possible q b c) outcome) (ap is_true (one_answer v r.result h r.fits) ∙ is_true_of r.result r.typed) rest)
              (λ f h. let g = side_goes true f in leaves_after scope on outcome g (on_a scope c outcome h t.1 k.1 g.interp g.state scale on (scale_later means world g.later g.extends sc) g.stands g.cleared))
              (λ f h. let g = side_goes false f in leaves_after scope on outcome g (on_b scope c outcome h t.2 k.2 g.interp g.state scale on (scale_later means world g.later g.extends sc) g.stands g.cleared))
          go (refused place h e) = refused_leaves scope i s.next on outcome r.result place r.fits h

      given : (q : Fraction) (a : Assertion) → SpeaksOf world.Held world.Applied a → GiveGoes q a
      given q (Pure e) k = pure_given q e
      given q (Both a b) k = both_given q a b (given q a k.0) (given q b k.1)
      given q (Points at e f share) k = points_given q at e f share
      given q (Instance at i es share) k = instance_given q at i es share
      given q (Implied c a) k = implied_given q c a (given q a k.1)
      given q (Chosen c a b) k = chosen_given q c a b (given q a k.1) (given q b k.2)

      pub give_goes : {scope : Scope} {c : run.State} (outcome : Outcome) (a : Assertion) (q : Fraction) → give p Possible q a c outcome →
          IsTyped p scope a → SpeaksOf world.Held world.Applied a → {i : Interpretation} {s : rules.State} (scale : Term) (on : Going) → ScaleStands means world s.next i scale q → Stands means world scope i s c →
          Cleared (produce p o a scale None s on) → Leaves scope i s.next on outcome
      unfolding GiveGoes
      give_goes {scope = scope} {c = c} outcome a q g t k {i = i} {s = s} scale on sc st w = given q a k scope c outcome g t k i s scale on sc st w

    -- What a consume builds of an assertion, by what its parts are worth: a unit, a wrapped value, an instance's snapshot, a
    -- pair, or that of the side.
    pub data Builds (n : ℕ) (i : Interpretation) (c : run.State) : Assertion → Term → Type 0 where
      built_pure : {e : Expr} → Fits p c e (BoolValue true) → Builds n i c (Pure e) unit
      built_field : {at : Place} {e share : Expr} (f : Name) (r : ℕ) (a : Fraction) (t : Term) → Fits p c e (RefValue r) → Fits p c share (PermValue a) → Good means n i t (field_sort p f) →
          (Positive a → IsThere p c.heap (run.At (at_field r f)) (value i t)) → Builds n i c (Points at e f share) (wrap (field_sort p f) t)
      built_instance : {at : Place} {es : Exprs} {share : Expr} (x : Name) (vs : List Value) (a : Fraction) (t : Term) → Eventually (λ n. fit_all p (deeper p n) c es ≡ Ok vs) → Fits p c share (PermValue a) → Good means n i t SnapSort →
          (Positive a → IsThere p c.heap (run.Folded record { predicate = x; arguments = vs }) (value i t)) → Builds n i c (Instance at x es share) t
      built_both : {a b : Assertion} {t u : Term} → Builds n i c a t → Builds n i c b u → Builds n i c (Both a b) (pair t u)
      built_implied : {d : Expr} {a : Assertion} {t : Term} → Fits p c d (BoolValue true) → Builds n i c a t → Builds n i c (Implied d a) t
      built_nothing : {d : Expr} {a : Assertion} → Fits p c d (BoolValue false) → Builds n i c (Implied d a) unit
      built_left : {d : Expr} {a b : Assertion} {t : Term} → Fits p c d (BoolValue true) → Builds n i c a t → Builds n i c (Chosen d a b) t
      built_right : {d : Expr} {a b : Assertion} {t : Term} → Fits p c d (BoolValue false) → Builds n i c b t → Builds n i c (Chosen d a b) t

    builds_later : {m n : ℕ} {i j : Interpretation} {c : run.State} {a : Assertion} {t : Term} → m ≤ n → Extends means m i j → Builds m i c a t → Builds n j c a t
    builds_later le x (built_pure f) = built_pure f
    builds_later {c = c} le x (built_field f r a t e share g h) = built_field f r a t e share (good_later means le x g) (λ k. subst (IsThere p c.heap (run.At (at_field r f))) (sym (value_kept means t g.settled x)) (h k))
    builds_later {c = c} le x (built_instance z vs a t es share g h) =
        built_instance z vs a t es share (good_later means le x g) (λ k. subst (IsThere p c.heap (run.Folded record { predicate = z; arguments = vs })) (sym (value_kept means t g.settled x)) (h k))
    builds_later le x (built_both f g) = built_both (builds_later le x f) (builds_later le x g)
    builds_later le x (built_implied f g) = built_implied f (builds_later le x g)
    builds_later le x (built_nothing f) = built_nothing f
    builds_later le x (built_left f g) = built_left f (builds_later le x g)
    builds_later le x (built_right f g) = built_right f (builds_later le x g)

    -- what is said of what was built
    record Told (scope : Scope) (i : Interpretation) (n m : ℕ) (j : Interpretation) (on : Going) (c : run.State) : Type 0 where
      pub goes : Goes means world scope i n on c
      pub later : m ≤ goes.state.next
      pub extends : Extends means m j goes.interp

    told : {scope : Scope} {i : Interpretation} {n : ℕ} {c : run.State} (b : Bool) (ts : List Term) (on : Going) (g : Goes means world scope i n (λ s2. Step (on (cond b (rules.with_facts ts s2) s2))) c) →
        Each (λ (t : Term). Good means g.state.next g.interp t BoolSort × IsTrueIn g.interp t) ts → Told scope i n g.state.next g.interp on c
    told {scope = scope} {i = i} {n = n} {c = c} b ts on g facts = go b g.cleared
      where
        go : (b : Bool) → Cleared (on (cond b (rules.with_facts ts g.state) g.state)) → Told scope i n g.state.next g.interp on c
        go false h = record { goes = record { interp = g.interp; state = g.state; extends = g.extends; later = g.later; stands = g.stands; cleared = h }; later = le_refl _; extends = extends-refl means g.state.next g.interp }
        go true h =
            let e = next_after_facts means world ts g.state in
            record {
              goes = record {
                interp = g.interp;
                state = rules.with_facts ts g.state;
                extends = g.extends;
                later = subst (λ m. n ≤ m) (sym e) g.later;
                stands = facts_stand means world ts g.state g.stands facts;
                cleared = h;
              };
              later = subst (λ m. g.state.next ≤ m) (sym e) (le_refl _);
              extends = extends-refl means g.state.next g.interp;
            }

    -- an assertion that was consumed can be taken from what remains, and leaves what the chunks then stand for
    pub record Consumes (scope : Scope) (i : Interpretation) (n : ℕ) (on : Giving) (c : run.State) (a : Assertion) (q : Fraction) (rest : run.Holdings) : Type 0 where
      pub snapshot : Term
      pub left : run.Holdings
      pub goes : Goes means world scope i n (on snapshot) (run.with_holdings left c)
      pub takes : Eventually (λ n. take_by p n c q a rest ≡ Ok left)
      pub measured : PartsMeasured world c a
      pub good : Good means goes.state.next goes.interp snapshot SnapSort
      pub built : Builds goes.state.next goes.interp c a snapshot

    -- the parts of a pair are what it was made of
    pairs_told : {n : ℕ} {i : Interpretation} {t u : Term} → IsStandard i → Good means n i t SnapSort → Good means n i u SnapSort → Each (λ (t : Term). Good means n i t BoolSort × IsTrueIn i t) (pair_facts t u)
    pairs_told {i = i} {t = t} {u = u} st g h =
        let a = tree_of (value i t) (value_of_sort i g.formed) in
        let b = tree_of (value i u) (value_of_sort i h.formed) in
        let whole = pair_value i st t u a.0 b.0 a.1 b.1 in (
          written_equal means (good_first means (good_pair means g h)) g (first_value i st (pair t u) a.0 b.0 whole ∙ sym a.1),
          (written_equal means (good_second means (good_pair means g h)) h (second_value i st (pair t u) a.0 b.0 whole ∙ sym b.1), tt),
        )

    -- what is shown of an assertion that is consumed
    ConsumeGoes : Fraction → Assertion → Type 0
    ConsumeGoes q a =
        (scope : Scope) (c : run.State) (rest : run.Holdings) → IsTyped p scope a → SpeaksOf world.Held world.Applied a → (i : Interpretation) (s : rules.State) (x : Context) (scale : Term) (h : rules.Heap) (on : Giving) →
        ScaleStands means world s.next i scale q → HeapStands means world s.next i h c.heap c.holdings → world.Holds c.heap c.holdings → Stands means world scope i s (run.with_holdings rest c) →
        Cleared (consume p o a x scale h s on) → Consumes scope i s.next on c a q rest

    pure_consumed : (q : Fraction) (e : Expr) → ConsumeGoes q (Pure e)
    unfolding ConsumeGoes
    pure_consumed q e scope c rest t k i s x scale h on sc hs hb st w =
        let after = λ (s2 : rules.State). Step (on unit (rules.with_heap s.heap s2)) in
        let r = eval_goes means world o parts t k (λ t s1. ask t (placed s1 (place_of e)) x.pure s1 after) (stands_at c h st hs hb) w in
        let a = asked means world r.term (placed r.state (place_of e)) x.pure after r.stands r.good r.cleared in
        let g = goes_after means world (reached means world r) a.1 in
        let yes : r.result ≡ BoolValue true = bool_value_is r.result r.typed ∙ ap BoolValue (sym (ap as_bool r.value_is) ∙ a.0) in
        record {
          snapshot = unit;
          left = rest;
          goes = record {
            interp = g.interp;
            state = rules.with_heap s.heap g.state;
            extends = g.extends;
            later = g.later;
            stands = stands_with_holdings means world s.heap rest g.stands (heap_later means world g.later g.extends s.heap c.heap rest st.heap) st.holds;
            cleared = g.cleared;
          };
          takes = eventually r.fits (λ n f. ap (λ y. y >>= λ v. guard (place_of e) (is_true v) >>= λ _. Ok rest) (f ∙ ap Ok yes));
          measured = r.measured;
          good = good_unit means;
          built = built_pure (eventually r.fits (λ n f. f ∙ ap Ok yes));
        }

    -- what is left once a part was taken
    part_taken : (c : run.State) (q : Fraction) (at : Place) (rest : run.Holdings) (r : run.Resource) (a : Fraction) (n : ℕ) (x : Checked (run.Resource × Fraction)) → x ≡ Ok (r, a) → Le (product q a) (run.amount rest r) →
        (x >>= take_part p (deeper p n) c q at rest) ≡ Ok (run.lost r (product q a) rest)
    part_taken c q at rest r a n x e enough = bind_ok (take_part p (deeper p n) c q at rest) (r, a) e ∙ ap tested enough.holds
      where
        tested : Bool → Checked run.Holdings
        tested z = guard at z >>= λ _. Ok (run.lost r (product q a) rest)

    points_consumed : (q : Fraction) (at : Place) (e : Expr) (f : Name) (share : Expr) → ConsumeGoes q (Points at e f share)
    unfolding ConsumeGoes
    points_consumed q at e f share scope c rest t k i s x scale h on sc hs hb st w =
        record {
          snapshot = wrap (field_sort p f) d.chunk.value;
          left = run.lost (run.At (at_field l.reference f)) (product q l.fraction) rest;
          goes = g.goes;
          takes = eventually l.part (λ n m. part_taken c q at rest (run.At (at_field l.reference f)) l.fraction n (field_part p (deeper p n) c at e f share) m d.enough);
          measured = tt;
          good = good_later means g.later g.extends (good_wrap means d.good);
          built = builds_later g.later g.extends (built_field f l.reference l.fraction d.chunk.value l.receiver_fits l.share_fits d.good (λ z. d.there (product_positive sc.positive z)));
        }
      where
        sort_is : field_sort p f ≡ sort_of_type (run.field_type p f)
        sort_is = sort_of_field p f

        fact : Term → Term
        fact v = term.Binary sort.Equal (written_unwrap (field_sort p f) (wrap (field_sort p f) v)) v

        end : rules.Chunk → Going
        end d s4 = Step (on (wrap (field_sort p f) d.value) (cond x.builds (rules.with_facts (fact d.value ∷ []) s4) s4))

        after : Term → Term → Going
        after r a s3 = take_chunk (field_key f r) a (field_sort p f) (placed s3 at) x.permission (rules.with_heap s.heap s3) end

        l : Located means world o parts scope i s.next after c at e f share q
        l = located means world o parts at f scale q after t.0 k.0 t.2 k.1 sc (stands_at c h st hs hb) w

        d : Taken means world scope l.interp l.state.next end (run.with_holdings rest c) (run.At (at_field l.reference f)) (field_sort p f) (product q l.fraction)
        d = take_one means world l.keys l.amount (product q l.fraction) (placed l.state at) x.permission end
            (stands_with_holdings means world s.heap rest l.stands (heap_later means world l.later l.extends s.heap c.heap rest st.heap) st.holds)
            l.amount_good l.amount_is l.sign l.cleared

        back : value d.interp (written_unwrap (field_sort p f) (wrap (field_sort p f) d.chunk.value)) ≡ value d.interp d.chunk.value
        back = subst (λ z. IsOf z (value d.interp d.chunk.value) → value d.interp (written_unwrap z (wrap z d.chunk.value)) ≡ value d.interp d.chunk.value) (sym sort_is)
            (wrapped_back d.interp d.stands.standard (run.field_type p f) d.chunk.value) (value_of_sort d.interp d.good.formed)

        g : Told scope i s.next d.state.next d.interp (on (wrap (field_sort p f) d.chunk.value)) (run.with_holdings (run.lost (run.At (at_field l.reference f)) (product q l.fraction) rest) c)
        g = told x.builds (fact d.chunk.value ∷ []) (on (wrap (field_sort p f) d.chunk.value))
            (record { interp = d.interp; state = d.state; extends = extends-trans means l.later l.extends d.extends; later = le_trans l.later d.later; stands = d.stands; cleared = d.cleared })
            (written_equal means (good_unwrap means (field_sort p f) (good_wrap means d.good)) d.good back, tt)

    instance_consumed : (q : Fraction) (at : Place) (y : Name) (es : Exprs) (share : Expr) → ConsumeGoes q (Instance at y es share)
    unfolding ConsumeGoes
    instance_consumed q at y es share scope c rest t k i s x scale h on sc hs hb st w =
        record {
          snapshot = d.chunk.value;
          left = run.lost (run.Folded record { predicate = y; arguments = l.results }) (product q l.fraction) rest;
          goes = record {
            interp = d.interp;
            state = d.state;
            extends = extends-trans means l.later l.extends d.extends;
            later = le_trans l.later d.later;
            stands = d.stands;
            cleared = d.cleared;
          };
          takes = eventually l.part (λ n m. part_taken c q at rest (run.Folded record { predicate = y; arguments = l.results }) l.fraction n (instance_part p (deeper p n) c at y es share) m d.enough);
          measured = tt;
          good = d.good;
          built = built_instance y l.results l.fraction d.chunk.value l.arguments_fit l.share_fits d.good (λ z. d.there (product_positive sc.positive z));
        }
      where
        end : rules.Chunk → Going
        end d s4 = Step (on d.value s4)

        after : List Term → Term → Going
        after ts a s3 = take_chunk (instance_key y ts) a SnapSort (placed s3 at) x.permission (rules.with_heap s.heap s3) end

        l : InstanceLocated means world o parts scope i s.next after c at y es share q
        l = instance_located means world o parts at y t.0.0 scale q after k.0 t.0.1 t.0.2 k.1 t.1 k.2 sc (stands_at c h st hs hb) w

        d : Taken means world scope l.interp l.state.next end (run.with_holdings rest c) (run.Folded record { predicate = y; arguments = l.results }) SnapSort (product q l.fraction)
        d = take_one means world (of_instance y l.terms l.results l.keys) l.amount (product q l.fraction) (placed l.state at) x.permission end
            (stands_with_holdings means world s.heap rest l.stands (heap_later means world l.later l.extends s.heap c.heap rest st.heap) st.holds)
            l.amount_good l.amount_is l.sign l.cleared

    consumes_after : {mid scope : Scope} {i : Interpretation} {n : ℕ} {before : Going} {b : run.State} {on : Giving} {c : run.State} {a d : Assertion} {q : Fraction} {rest : run.Holdings} (g : Goes means world mid i n before b) →
        (r : Consumes scope g.interp g.state.next on c a q rest) → Eventually (λ n. take_by p n c q d rest ≡ Ok r.left) → PartsMeasured world c d → Builds r.goes.state.next r.goes.interp c d r.snapshot → Consumes scope i n on c d q rest
    consumes_after g r takes measured built = record { snapshot = r.snapshot; left = r.left; goes = goes_after means world g r.goes; takes = takes; measured = measured; good = r.good; built = built }

    both_consumed : (q : Fraction) (a b : Assertion) → ConsumeGoes q a → ConsumeGoes q b → ConsumeGoes q (Both a b)
    unfolding ConsumeGoes
    both_consumed q a b on_a on_b scope c rest t k i s x scale h on sc hs hb st w =
        let after = λ (l : Term) (u : Term) (s2 : rules.State). Step (on (pair l u) (cond x.builds (rules.with_facts (pair_facts l u) s2) s2)) in
        let r = on_a scope c rest t.0 k.0 i s x scale h (λ l s1. consume p o b x scale h s1 (after l)) sc hs hb st w in
        let g = r.goes in
        let z = on_b scope c r.left t.1 k.1 g.interp g.state x scale h (after r.snapshot) (scale_later means world g.later g.extends sc) (heap_later means world g.later g.extends h c.heap c.holdings hs) hb g.stands g.cleared in
        let f = goes_after means world g z.goes in
        let first = good_later means z.goes.later z.goes.extends r.good in
        let m = told x.builds (pair_facts r.snapshot z.snapshot) (on (pair r.snapshot z.snapshot)) f (pairs_told f.stands.standard first z.good) in
        record {
          snapshot = pair r.snapshot z.snapshot;
          left = z.left;
          goes = m.goes;
          takes = both_eventually r.takes z.takes (λ n u v. ap (λ y. y >>= λ h'. take_by p n c q b h') u ∙ v);
          measured = (r.measured, z.measured);
          good = good_later means m.later m.extends (good_pair means first z.good);
          built = builds_later m.later m.extends (built_both (builds_later z.goes.later z.goes.extends r.built) z.built);
        }

    -- the condition of a side is read in the heap of the start
    record Tested (scope : Scope) (i : Interpretation) (s : rules.State) (left right : Going) (c : run.State) (d : Expr) (rest : run.Holdings) : Type 0 where
      pub test : Bool
      pub goes : Goes means world scope i s.next (cond test left right) (run.with_holdings rest c)
      pub fits : Eventually (λ n. fit_by p n c d ≡ Ok (BoolValue test))

    tested : (scope : Scope) (c : run.State) (rest : run.Holdings) (d : Expr) → HasType p scope d type.Bool → Speaks world.Held world.Applied d → (i : Interpretation) (s : rules.State) (h : rules.Heap) (left right : Going) →
        HeapStands means world s.next i h c.heap c.holdings → world.Holds c.heap c.holdings → Stands means world scope i s (run.with_holdings rest c) →
        Cleared (eval p o d (rules.with_heap h s) (λ t s1. fork t (rules.with_heap s.heap s1) left right)) → Tested scope i s left right c d rest
    tested scope c rest d t k i s h left right hs hb st w =
        let r = eval_goes means world o parts t k (λ t s1. fork t (rules.with_heap s.heap s1) left right) (stands_at c h st hs hb) w in
        let back : Stands means world scope r.interp (rules.with_heap s.heap r.state) (run.with_holdings rest c) =
        stands_with_holdings means world s.heap rest r.stands (heap_later means world r.later r.extends s.heap c.heap rest st.heap) st.holds in
        let x = as_bool (element r.result) in
        let f = forked means world r.term left right back r.good r.cleared x (ap as_bool r.value_is) in
        record {
          test = x;
          goes = record { interp = f.interp; state = f.state; extends = extends-trans means r.later r.extends f.extends; later = le_trans r.later f.later; stands = f.stands; cleared = f.cleared };
          fits = eventually r.fits (λ n e. e ∙ ap Ok (bool_value_is r.result r.typed));
        }

    implied_consumed : (q : Fraction) (d : Expr) (a : Assertion) → ConsumeGoes q a → ConsumeGoes q (Implied d a)
    unfolding ConsumeGoes
    implied_consumed q d a on_a scope c rest t k i s x scale h on sc hs hb st w = go r.test r.goes r.fits
      where
        left : Going
        left s2 = consume p o a x scale h s2 on

        r : Tested scope i s left (on unit) c d rest
        r = tested scope c rest d t.0 k.0 i s h left (on unit) hs hb st w

        go : (b : Bool) → Goes means world scope i s.next (cond b left (on unit)) (run.with_holdings rest c) → Eventually (λ n. fit_by p n c d ≡ Ok (BoolValue b)) → Consumes scope i s.next on c (Implied d a) q rest
        go true g f =
            let z = on_a scope c rest t.1 k.1 g.interp g.state x scale h on (scale_later means world g.later g.extends sc) (heap_later means world g.later g.extends h c.heap c.holdings hs) hb g.stands g.cleared in
            consumes_after g z (both_eventually f z.takes (λ n u v. ap (λ y. y >>= λ b. fits.choose (place_of d) b (take_by p n c q a rest) (Ok rest)) u ∙ v)) tt (built_implied f z.built)
        go false g f = record { snapshot = unit; left = rest; goes = g; takes = eventually f (λ n u. ap (λ y. y >>= λ b. fits.choose (place_of d) b (take_by p n c q a rest) (Ok rest)) u); measured = tt; good = good_unit means; built = built_nothing f }

    chosen_consumed : (q : Fraction) (d : Expr) (a b : Assertion) → ConsumeGoes q a → ConsumeGoes q b → ConsumeGoes q (Chosen d a b)
    unfolding ConsumeGoes
    chosen_consumed q d a b on_a on_b scope c rest t k i s x scale h on sc hs hb st w = go r.test r.goes r.fits
      where
        left : Going
        left s2 = consume p o a x scale h s2 on

        right : Going
        right s2 = consume p o b x scale h s2 on

        r : Tested scope i s left right c d rest
        r = tested scope c rest d t.0 k.0 i s h left right hs hb st w

        go : (y : Bool) → Goes means world scope i s.next (cond y left right) (run.with_holdings rest c) → Eventually (λ n. fit_by p n c d ≡ Ok (BoolValue y)) → Consumes scope i s.next on c (Chosen d a b) q rest
        go true g f =
            let z = on_a scope c rest t.1 k.1 g.interp g.state x scale h on (scale_later means world g.later g.extends sc) (heap_later means world g.later g.extends h c.heap c.holdings hs) hb g.stands g.cleared in
            consumes_after g z (both_eventually f z.takes (λ n u v. ap (λ y. y >>= λ y. fits.choose (place_of d) y (take_by p n c q a rest) (take_by p n c q b rest)) u ∙ v)) tt (built_left f z.built)
        go false g f =
            let z = on_b scope c rest t.2 k.2 g.interp g.state x scale h on (scale_later means world g.later g.extends sc) (heap_later means world g.later g.extends h c.heap c.holdings hs) hb g.stands g.cleared in
            consumes_after g z (both_eventually f z.takes (λ n u v. ap (λ y. y >>= λ y. fits.choose (place_of d) y (take_by p n c q a rest) (take_by p n c q b rest)) u ∙ v)) tt (built_right f z.built)

    consumption : (q : Fraction) (a : Assertion) → SpeaksOf world.Held world.Applied a → ConsumeGoes q a
    consumption q (Pure e) k = pure_consumed q e
    consumption q (Both a b) k = both_consumed q a b (consumption q a k.0) (consumption q b k.1)
    consumption q (Points at e f share) k = points_consumed q at e f share
    consumption q (Instance at i es share) k = instance_consumed q at i es share
    consumption q (Implied c a) k = implied_consumed q c a (consumption q a k.1)
    consumption q (Chosen c a b) k = chosen_consumed q c a b (consumption q a k.1) (consumption q b k.2)

    pub consumed : {scope : Scope} {c : run.State} (a : Assertion) (q : Fraction) → IsTyped p scope a → SpeaksOf world.Held world.Applied a → {i : Interpretation} {s : rules.State} (x : Context) (scale : Term) (on : Giving) →
        ScaleStands means world s.next i scale q → Stands means world scope i s c → Cleared (consume p o a x scale s.heap s on) → Consumes scope i s.next on c a q c.holdings
    unfolding ConsumeGoes
    consumed {scope = scope} {c = c} a q t k {i = i} {s = s} x scale on sc st w = consumption q a k scope c c.holdings t k i s x scale s.heap on sc st.heap st.holds st w
