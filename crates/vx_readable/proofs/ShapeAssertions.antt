-- Expressions and assertions are shaped where what follows is, at every depth of the rules.
use Rattle.std.proofs.Common.{ℕ, zero, suc, pos, ◌&&◌, List, [], ◌∷◌, Option}
use Rattle.vx_ast.specs.declared.Place.{Place}
use Rattle.vx_ast.specs.Syntax.{Program, place_of, Expr, Number, Truth, Null, Part, Variable, Not, Operate, Divide, Connect, Choose, Read, Old, Apply, Unfolding, Exprs, NoMore, More, Assertion, Pure, Points, Instance, Both, Implied, Chosen}
use Rattle.vx_terms.specs.Sorts.{SnapSort}
use Rattle.vx_terms.specs.Terms as term
use Rattle.vx_terms.specs.Terms.{Term}
use Rattle.vx_terms.specs.Build.{negate, equals, less, less_equal, ite, multiply, null, unit, pair, wrap, zero_amount}
use Rattle.vx_frac.specs.Fractions.{over, lowest}
use Rattle.vx_rules.specs.States.{found, Chunk, Heap, State, with_heap, with_fact}
use Rattle.vx_rules.specs.Trees.{AssertCode, AmountCode, DivisorCode, Step}
use Rattle.vx_rules.specs.Chunks.{field_key, instance_key, put}
use Rattle.vx_rules.specs.Rules.{Giving, Going, GivingAll, ask, operated, divided, connected, is_total, take_chunk, field_sort, Context, placed, with_built_wrap, with_built_pair, produced_value, after_value, produced_snapshot, after_snapshot, left_part, right_part, with_split, with_unit, Outer, unfolded, eval, evals, produce, consume, nowhere, outer}
use Rattle.vx_readable.specs.Numerals.{IsSmallExpr, AreSmallExprs, IsSmallAssertion, HasSmallNumerals}
use Rattle.vx_readable.proofs.Shapes.{Shaped, truth_shaped, number_shaped, zero_shaped, part_shaped, null_shaped, unit_shaped, zero_amount_shaped, negate_shaped, equals_shaped, ite_shaped, less_equal_shaped, multiply_shaped, positive_shaped, operated_shaped, divided_shaped, connected_shaped, pair_shaped, wrap_shaped}
use Rattle.vx_readable.proofs.States.{ShapedHeap, ShapedSnapshot, Sound, heap_sound, fact_sound, found_shaped, put_sound, produced_shaped, value_sound, snapshot_shaped, snapshot_sound, left_shaped, right_shaped, split_sound, unit_sound, built_wrap_sound, built_pair_sound}
use Rattle.vx_readable.proofs.ShapeSteps.{Good, Follows, FollowsWith, FollowsAll, either_good, ask_good, never_good, fork_good, short_good, take_good, read_good}
use Rattle.vx_readable.proofs.ShapeParts.{OuterGood, applied_good, unfolded_good}

module _ (p : Program) (small : HasSmallNumerals p) (o : Outer) (below : OuterGood o) where
  -- Expressions

  mutual
    pub eval_good : (e : Expr) → IsSmallExpr e → (s : State) → Sound s → (on : Giving) → FollowsWith on → Good (eval p o e s on)
    eval_good (Number at n) se s k on h = h (term.Number (pos n)) s (number_shaped n se) k
    eval_good (Truth at b) se s k on h = h (term.Truth b) s (truth_shaped b) k
    eval_good (Null at) se s k on h = h null s null_shaped k
    eval_good (Part at n d) se s k on h = h (term.Part (lowest (over n d))) s (part_shaped n d se) k
    eval_good (Variable at x) se s k on h = h (found x s.store) s (found_shaped x s.store k.store) k
    eval_good (Not at e) se s k on h = eval_good e se s k _ (λ t s1 ht k1. h (negate t) s1 (negate_shaped ht) k1)
    eval_good (Operate at op a b) se s k on h =
        eval_good a se.0 s k _ (λ t s1 ht k1. eval_good b se.1 s1 k1 _ (λ u s2 hu k2. h (operated op t u) s2 (operated_shaped op ht hu) k2))
    eval_good (Divide at op a b) se s k on h =
        eval_good a se.0 s k _ (λ t s1 ht k1. eval_good b se.1 s1 k1 _ (λ u s2 hu k2.
        ask_good s2 (negate (equals u (term.Number (pos 0)))) (placed s2 at) DivisorCode (on (divided op t u)) (negate_shaped (equals_shaped hu zero_shaped)) k2
        (λ s3 k3. h (divided op t u) s3 (divided_shaped op ht hu) k3)))
    eval_good (Connect at c a b) se s k on h =
        either_good (is_total b) _ _
        (eval_good a se.0 s k _ (λ t s1 ht k1. eval_good b se.1 s1 k1 _ (λ u s2 hu k2. h (connected c t u) s2 (connected_shaped c ht hu) k2)))
        (eval_good a se.0 s k _ (λ t s1 ht k1. short_good s1 c t (λ s2. eval p o b s2 on) on ht k1 (λ s2 k2. eval_good b se.1 s2 k2 on h) h))
    eval_good (Choose at c a b) se s k on h =
        either_good (is_total a && is_total b) _ _
        (eval_good c se.0 s k _ (λ t s1 ht k1. eval_good a se.1 s1 k1 _ (λ u s2 hu k2. eval_good b se.2 s2 k2 _ (λ v s3 hv k3. h (ite t u v) s3 (ite_shaped ht hu hv) k3))))
        (eval_good c se.0 s k _ (λ t s1 ht k1. fork_good s1 t (λ s2. eval p o a s2 on) (λ s2. eval p o b s2 on) ht k1 (λ s2 k2. eval_good a se.1 s2 k2 on h) (λ s2 k2. eval_good b se.2 s2 k2 on h)))
    eval_good (Read at e f) se s k on h = eval_good e se s k _ (λ r s1 hr k1. read_good s1 f r (field_sort p f) (placed s1 at) on hr k1 h)
    eval_good (Old at e) se s k on h = eval_good e se (with_heap s.old s) (heap_sound k.old k) _ (λ t s1 ht k1. h t (with_heap s.heap s1) ht (heap_sound k.heap k1))
    eval_good (Apply at f es) se s k on h = evals_good es se s k _ (λ ts s1 hs k1. applied_good p small o below (placed s1 at) f ts s1 on hs k1 h)
    eval_good (Unfolding at i es share e) se s k on h =
        let inside = λ (s4 : State). eval p o e s4 (λ t s5. Step (on t (with_heap s.heap s5))) in
        let exchanged = λ (a : Term) (ts : List Term) (s3 : State). unfolded p o (placed s3 at) i ts a s3 inside in
        eval_good share se.1 s k _ (λ a s1 ha k1.
        ask_good s1 (less zero_amount a) (placed s1 at) AmountCode (λ s2. evals p o es s2 (exchanged a)) (positive_shaped ha) k1 (λ s2 k2.
        evals_good es se.0 s2 k2 (exchanged a) (λ ts s3 hs k3.
        unfolded_good p small o below (placed s3 at) i ts a s3 inside hs ha k3 (λ s4 k4.
        eval_good e se.2 s4 k4 (λ t s5. Step (on t (with_heap s.heap s5))) (λ t s5 ht k5. h t (with_heap s.heap s5) ht (heap_sound k.heap k5))))))

    pub evals_good : (es : Exprs) → AreSmallExprs es → (s : State) → Sound s → (on : GivingAll) → FollowsAll on → Good (evals p o es s on)
    evals_good NoMore se s k on h = h [] s tt k
    evals_good (More e es) se s k on h = eval_good e se.0 s k _ (λ t s1 ht k1. evals_good es se.1 s1 k1 _ (λ ts s2 hs k2. h (t ∷ ts) s2 (ht, hs) k2))

  -- Assertions

  -- an amount, by a scale
  amount_good : (at : Place) (share : Expr) → IsSmallExpr share → (s : State) → Sound s → (scale : Term) → Shaped scale → (on : Term → Going) → ((a : Term) → Shaped a → Follows (on a)) →
      Good (eval p o share s (λ a s1. ask (less_equal zero_amount (multiply scale a)) (placed s1 at) AmountCode s1 (on (multiply scale a))))
  amount_good at share se s k scale hq on h =
      eval_good share se s k _ (λ a s1 ha k1.
      ask_good s1 (less_equal zero_amount (multiply scale a)) (placed s1 at) AmountCode (on (multiply scale a)) (less_equal_shaped zero_amount_shaped (multiply_shaped hq ha)) k1
      (h (multiply scale a) (multiply_shaped hq ha)))

  pub produce_good : (a : Assertion) → IsSmallAssertion a → (scale : Term) → Shaped scale → (snapshot : Option Term) → ShapedSnapshot snapshot → (s : State) → Sound s → (on : Going) → Follows on
      → Good (produce p o a scale snapshot s on)
  produce_good (Pure e) se scale hq snapshot hn s k on h =
      eval_good e se s k _ (λ t s1 ht k1. h (with_unit snapshot (with_fact t s1)) (unit_sound snapshot hn (fact_sound t ht k1)))
  produce_good (Points at e f share) se scale hq snapshot hn s k on h =
      let new = λ (r a : Term) (s3 : State). record (field_key f r) { amount = a; value = produced_value (field_sort p f) snapshot s3; inner = s.inner } in
      let done = λ (r a : Term) (s3 : State). put (new r a s3) (after_value (field_sort p f) snapshot s3) in
      eval_good e se.0 s k _ (λ r s1 hr k1.
      amount_good at share se.1 s1 k1 scale hq (λ a s3. Step (on (done r a s3))) (λ a ha s3 k3.
      h (done r a s3) (put_sound (new r a s3) (record { arguments = (hr, tt); amount = ha; value = produced_shaped (field_sort p f) snapshot s3 hn }) (value_sound (field_sort p f) snapshot hn k3))))
  produce_good (Instance at i es share) se scale hq snapshot hn s k on h =
      let new = λ (ts : List Term) (a : Term) (s3 : State). record (instance_key i ts) { amount = a; value = produced_snapshot snapshot s3; inner = s.inner } in
      let done = λ (ts : List Term) (a : Term) (s3 : State). put (new ts a s3) (after_snapshot snapshot s3) in
      evals_good es se.0 s k _ (λ ts s1 hs k1.
      amount_good at share se.1 s1 k1 scale hq (λ a s3. Step (on (done ts a s3))) (λ a ha s3 k3.
      h (done ts a s3) (put_sound (new ts a s3) (record { arguments = hs; amount = ha; value = snapshot_shaped snapshot s3 hn }) (snapshot_sound snapshot hn k3))))
  produce_good (Both a b) se scale hq snapshot hn s k on h =
      let other = λ (s1 : State). produce p o b scale (right_part snapshot) s1 on in
      produce_good a se.0 scale hq (left_part snapshot) (left_shaped snapshot hn) (with_split snapshot s) (split_sound snapshot hn k) other
      (λ s1 k1. produce_good b se.1 scale hq (right_part snapshot) (right_shaped snapshot hn) s1 k1 on h)
  produce_good (Implied c a) se scale hq snapshot hn s k on h =
      eval_good c se.0 s k _ (λ t s1 ht k1.
      fork_good s1 t (λ s2. produce p o a scale snapshot s2 on) (λ s2. on (with_unit snapshot s2)) ht k1
      (λ s2 k2. produce_good a se.1 scale hq snapshot hn s2 k2 on h) (λ s2 k2. h (with_unit snapshot s2) (unit_sound snapshot hn k2)))
  produce_good (Chosen c a b) se scale hq snapshot hn s k on h =
      eval_good c se.0 s k _ (λ t s1 ht k1.
      fork_good s1 t (λ s2. produce p o a scale snapshot s2 on) (λ s2. produce p o b scale snapshot s2 on) ht k1
      (λ s2 k2. produce_good a se.1 scale hq snapshot hn s2 k2 on h) (λ s2 k2. produce_good b se.2 scale hq snapshot hn s2 k2 on h))

  pub consume_good : (a : Assertion) → IsSmallAssertion a → (x : Context) (scale : Term) → Shaped scale → (heap : Heap) → ShapedHeap heap → (s : State) → Sound s → (on : Giving) → FollowsWith on
      → Good (consume p o a x scale heap s on)
  consume_good (Pure e) se x scale hq heap hh s k on h =
      eval_good e se (with_heap heap s) (heap_sound hh k) _ (λ t s1 ht k1.
      ask_good s1 t (placed s1 (place_of e)) x.pure (λ s2. Step (on unit (with_heap s.heap s2))) ht k1 (λ s2 k2. h unit (with_heap s.heap s2) unit_shaped (heap_sound k.heap k2)))
  consume_good (Points at e f share) se x scale hq heap hh s k on h =
      let done = λ (c : Chunk) (s4 : State). Step (on (wrap (field_sort p f) c.value) (with_built_wrap x (field_sort p f) c.value s4)) in
      eval_good e se.0 (with_heap heap s) (heap_sound hh k) _ (λ r s1 hr k1.
      amount_good at share se.1 s1 k1 scale hq (λ a s3. take_chunk (field_key f r) a (field_sort p f) (placed s3 at) x.permission (with_heap s.heap s3) done) (λ a ha s3 k3.
      take_good (with_heap s.heap s3) (field_key f r) a (field_sort p f) (placed s3 at) x.permission done (hr, tt) ha (heap_sound k.heap k3) (λ c s4 hc k4.
      h (wrap (field_sort p f) c.value) (with_built_wrap x (field_sort p f) c.value s4) (wrap_shaped (field_sort p f) hc.value) (built_wrap_sound x (field_sort p f) c.value hc.value k4))))
  consume_good (Instance at i es share) se x scale hq heap hh s k on h =
      let done = λ (c : Chunk) (s4 : State). Step (on c.value s4) in
      evals_good es se.0 (with_heap heap s) (heap_sound hh k) _ (λ ts s1 hs k1.
      amount_good at share se.1 s1 k1 scale hq (λ a s3. take_chunk (instance_key i ts) a SnapSort (placed s3 at) x.permission (with_heap s.heap s3) done) (λ a ha s3 k3.
      take_good (with_heap s.heap s3) (instance_key i ts) a SnapSort (placed s3 at) x.permission done hs ha (heap_sound k.heap k3) (λ c s4 hc k4. h c.value s4 hc.value k4)))
  consume_good (Both a b) se x scale hq heap hh s k on h =
      consume_good a se.0 x scale hq heap hh s k _ (λ t s1 ht k1. consume_good b se.1 x scale hq heap hh s1 k1 _ (λ u s2 hu k2.
      h (pair t u) (with_built_pair x t u s2) (pair_shaped ht hu) (built_pair_sound x t u ht hu k2)))
  consume_good (Implied c a) se x scale hq heap hh s k on h =
      eval_good c se.0 (with_heap heap s) (heap_sound hh k) _ (λ t s1 ht k1.
      fork_good (with_heap s.heap s1) t (λ s2. consume p o a x scale heap s2 on) (on unit) ht (heap_sound k.heap k1)
      (λ s2 k2. consume_good a se.1 x scale hq heap hh s2 k2 on h) (λ s2 k2. h unit s2 unit_shaped k2))
  consume_good (Chosen c a b) se x scale hq heap hh s k on h =
      eval_good c se.0 (with_heap heap s) (heap_sound hh k) _ (λ t s1 ht k1.
      fork_good (with_heap s.heap s1) t (λ s2. consume p o a x scale heap s2 on) (λ s2. consume p o b x scale heap s2 on) ht (heap_sound k.heap k1)
      (λ s2 k2. consume_good a se.1 x scale hq heap hh s2 k2 on h) (λ s2 k2. consume_good b se.2 x scale hq heap hh s2 k2 on h))

-- at every depth; past it nothing is allowed
pub outer_good : (p : Program) → HasSmallNumerals p → (n : ℕ) → OuterGood (outer p n)
outer_good p small zero = record {
  eval = λ e se s k on h. never_good s nowhere AssertCode k;
  evals = λ es se s k on h. never_good s nowhere AssertCode k;
  produce = λ a se scale hq snapshot hn s k on h. never_good s nowhere AssertCode k;
  consume = λ a se x scale hq heap hh s k on h. never_good s nowhere AssertCode k;
}
outer_good p small (suc n) =
    let below = outer_good p small n in
    record { eval = eval_good p small (outer p n) below; evals = evals_good p small (outer p n) below; produce = produce_good p small (outer p n) below; consume = consume_good p small (outer p n) below }
