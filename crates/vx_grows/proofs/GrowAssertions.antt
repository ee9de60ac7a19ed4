-- Expressions and assertions grow where what follows does, at every depth of the rules.
use Rattle.std.proofs.Common.{ℕ, zero, suc, pos, ◌&&◌, List, [], ◌∷◌, Option}
use Rattle.vx_ast.specs.declared.Place.{Place}
use Rattle.vx_ast.specs.Syntax.{Program, place_of, Expr, Number, Truth, Null, Part, Variable, Not, Operate, Divide, Connect, Choose, Read, Old, Apply, Unfolding, Exprs, NoMore, More, Assertion, Pure, Points, Instance, Both, Implied, Chosen}
use Rattle.vx_terms.specs.Sorts.{SnapSort}
use Rattle.vx_terms.specs.Terms as term
use Rattle.vx_terms.specs.Terms.{Term}
use Rattle.vx_terms.specs.Build.{negate, equals, less, less_equal, ite, multiply, unit, pair, wrap, zero_amount}
use Rattle.vx_rules.specs.States.{Chunk, Heap, State, with_heap, with_fact}
use Rattle.vx_rules.specs.Trees.{AssertCode, AmountCode, DivisorCode, Step}
use Rattle.vx_rules.specs.Chunks.{field_key, instance_key, put}
use Rattle.vx_rules.specs.Rules.{Giving, Going, GivingAll, ask, operated, divided, connected, is_total, take_chunk, field_sort, Context, placed, with_built_wrap, with_built_pair, produced_value, after_value, produced_snapshot, after_snapshot, left_part, right_part, with_split, with_unit, Outer, unfolded, eval, evals, produce, consume, nowhere, outer}
use Rattle.vx_grows.proofs.Later.{after, fact_later, put_later, value_later, snapshot_later, split_later, unit_later, built_wrap_later, built_pair_later}
use Rattle.vx_grows.proofs.GrowSteps.{GrowsIn, Follows, FollowsWith, FollowsAll, earlier, either_grows, ask_grows, never_grows, fork_grows, short_grows, take_grows, read_grows}
use Rattle.vx_grows.proofs.GrowParts.{OuterGrows, applied_grows, unfolded_grows}

module _ (p : Program) (o : Outer) (below : OuterGrows o) where
  -- Expressions

  mutual
    pub eval_grows : (e : Expr) (s : State) (on : Giving) → FollowsWith on → GrowsIn s (eval p o e s on)
    eval_grows (Number at n) s on h = h _ s
    eval_grows (Truth at b) s on h = h _ s
    eval_grows (Null at) s on h = h _ s
    eval_grows (Part at n d) s on h = h _ s
    eval_grows (Variable at x) s on h = h _ s
    eval_grows (Not at e) s on h = eval_grows e s _ (λ t s1. h (negate t) s1)
    eval_grows (Operate at op a b) s on h = eval_grows a s _ (λ t s1. eval_grows b s1 _ (λ u s2. h (operated op t u) s2))
    eval_grows (Divide at op a b) s on h =
        eval_grows a s _ (λ t s1. eval_grows b s1 _ (λ u s2.
        ask_grows s2 (negate (equals u (term.Number (pos 0)))) (placed s2 at) DivisorCode (on (divided op t u)) (h (divided op t u))))
    eval_grows (Connect at c a b) s on h =
        either_grows s (is_total b) _ _
        (eval_grows a s _ (λ t s1. eval_grows b s1 _ (λ u s2. h (connected c t u) s2)))
        (eval_grows a s _ (λ t s1. short_grows s1 c t (λ s2. eval p o b s2 on) on (λ s2. eval_grows b s2 on h) h))
    eval_grows (Choose at c a b) s on h =
        either_grows s (is_total a && is_total b) _ _
        (eval_grows c s _ (λ t s1. eval_grows a s1 _ (λ u s2. eval_grows b s2 _ (λ v s3. h (ite t u v) s3))))
        (eval_grows c s _ (λ t s1. fork_grows s1 t (λ s2. eval p o a s2 on) (λ s2. eval p o b s2 on) (λ s2. eval_grows a s2 on h) (λ s2. eval_grows b s2 on h)))
    eval_grows (Read at e f) s on h = eval_grows e s _ (λ r s1. read_grows s1 f r (field_sort p f) (placed s1 at) on h)
    eval_grows (Old at e) s on h = eval_grows e (with_heap s.old s) _ (λ t s1. h t (with_heap s.heap s1))
    eval_grows (Apply at f es) s on h = evals_grows es s _ (λ ts s1. applied_grows p o below (placed s1 at) f ts s1 on h)
    eval_grows (Unfolding at i es share e) s on h =
        let inside = λ (s4 : State). eval p o e s4 (λ t s5. Step (on t (with_heap s.heap s5))) in
        let exchanged = λ (a : Term) (ts : List Term) (s3 : State). unfolded p o (placed s3 at) i ts a s3 inside in
        eval_grows share s _ (λ a s1.
        ask_grows s1 (less zero_amount a) (placed s1 at) AmountCode (λ s2. evals p o es s2 (exchanged a)) (λ s2.
        evals_grows es s2 (exchanged a) (λ ts s3.
        unfolded_grows p o below (placed s3 at) i ts a s3 inside (λ s4.
        eval_grows e s4 (λ t s5. Step (on t (with_heap s.heap s5))) (λ t s5. h t (with_heap s.heap s5))))))

    pub evals_grows : (es : Exprs) (s : State) (on : GivingAll) → FollowsAll on → GrowsIn s (evals p o es s on)
    evals_grows NoMore s on h = h [] s
    evals_grows (More e es) s on h = eval_grows e s _ (λ t s1. evals_grows es s1 _ (λ ts s2. h (t ∷ ts) s2))

  -- Assertions

  -- an amount, by a scale
  amount_grows : (at : Place) (share : Expr) (s : State) (scale : Term) (on : Term → Going) → ((a : Term) → Follows (on a)) →
      GrowsIn s (eval p o share s (λ a s1. ask (less_equal zero_amount (multiply scale a)) (placed s1 at) AmountCode s1 (on (multiply scale a))))
  amount_grows at share s scale on h =
      eval_grows share s _ (λ a s1. ask_grows s1 (less_equal zero_amount (multiply scale a)) (placed s1 at) AmountCode (on (multiply scale a)) (h (multiply scale a)))

  pub produce_grows : (a : Assertion) (scale : Term) (snapshot : Option Term) (s : State) (on : Going) → Follows on → GrowsIn s (produce p o a scale snapshot s on)
  produce_grows (Pure e) scale snapshot s on h =
      eval_grows e s _ (λ t s1.
      let s2 = with_unit snapshot (with_fact t s1) in
      earlier (after (fact_later t s1) (unit_later snapshot (with_fact t s1))) (on s2) (h s2))
  produce_grows (Points at e f share) scale snapshot s on h =
      let new = λ (r a : Term) (s3 : State). record (field_key f r) { amount = a; value = produced_value (field_sort p f) snapshot s3; inner = s.inner } in
      let done = λ (r a : Term) (s3 : State). put (new r a s3) (after_value (field_sort p f) snapshot s3) in
      eval_grows e s _ (λ r s1.
      amount_grows at share s1 scale (λ a s3. Step (on (done r a s3))) (λ a s3.
      earlier (after (value_later (field_sort p f) snapshot s3) (put_later (new r a s3) (after_value (field_sort p f) snapshot s3))) (on (done r a s3)) (h (done r a s3))))
  produce_grows (Instance at i es share) scale snapshot s on h =
      let new = λ (ts : List Term) (a : Term) (s3 : State). record (instance_key i ts) { amount = a; value = produced_snapshot snapshot s3; inner = s.inner } in
      let done = λ (ts : List Term) (a : Term) (s3 : State). put (new ts a s3) (after_snapshot snapshot s3) in
      evals_grows es s _ (λ ts s1.
      amount_grows at share s1 scale (λ a s3. Step (on (done ts a s3))) (λ a s3.
      earlier (after (snapshot_later snapshot s3) (put_later (new ts a s3) (after_snapshot snapshot s3))) (on (done ts a s3)) (h (done ts a s3))))
  produce_grows (Both a b) scale snapshot s on h =
      let other = λ (s1 : State). produce p o b scale (right_part snapshot) s1 on in
      earlier (split_later snapshot s) (produce p o a scale (left_part snapshot) (with_split snapshot s) other)
      (produce_grows a scale (left_part snapshot) (with_split snapshot s) other (λ s1. produce_grows b scale (right_part snapshot) s1 on h))
  produce_grows (Implied c a) scale snapshot s on h =
      eval_grows c s _ (λ t s1.
      fork_grows s1 t (λ s2. produce p o a scale snapshot s2 on) (λ s2. on (with_unit snapshot s2))
      (λ s2. produce_grows a scale snapshot s2 on h) (λ s2. earlier (unit_later snapshot s2) (on (with_unit snapshot s2)) (h (with_unit snapshot s2))))
  produce_grows (Chosen c a b) scale snapshot s on h =
      eval_grows c s _ (λ t s1.
      fork_grows s1 t (λ s2. produce p o a scale snapshot s2 on) (λ s2. produce p o b scale snapshot s2 on)
      (λ s2. produce_grows a scale snapshot s2 on h) (λ s2. produce_grows b scale snapshot s2 on h))

  pub consume_grows : (a : Assertion) (x : Context) (scale : Term) (heap : Heap) (s : State) (on : Giving) → FollowsWith on → GrowsIn s (consume p o a x scale heap s on)
  consume_grows (Pure e) x scale heap s on h =
      eval_grows e (with_heap heap s) _ (λ t s1.
      ask_grows s1 t (placed s1 (place_of e)) x.pure (λ s2. Step (on unit (with_heap s.heap s2))) (λ s2. h unit (with_heap s.heap s2)))
  consume_grows (Points at e f share) x scale heap s on h =
      let done = λ (c : Chunk) (s4 : State). Step (on (wrap (field_sort p f) c.value) (with_built_wrap x (field_sort p f) c.value s4)) in
      eval_grows e (with_heap heap s) _ (λ r s1.
      amount_grows at share s1 scale (λ a s3. take_chunk (field_key f r) a (field_sort p f) (placed s3 at) x.permission (with_heap s.heap s3) done) (λ a s3.
      take_grows (with_heap s.heap s3) (field_key f r) a (field_sort p f) (placed s3 at) x.permission done (λ c s4.
      earlier (built_wrap_later x (field_sort p f) c.value s4) (done c s4) (h (wrap (field_sort p f) c.value) (with_built_wrap x (field_sort p f) c.value s4)))))
  consume_grows (Instance at i es share) x scale heap s on h =
      let done = λ (c : Chunk) (s4 : State). Step (on c.value s4) in
      evals_grows es (with_heap heap s) _ (λ ts s1.
      amount_grows at share s1 scale (λ a s3. take_chunk (instance_key i ts) a SnapSort (placed s3 at) x.permission (with_heap s.heap s3) done) (λ a s3.
      take_grows (with_heap s.heap s3) (instance_key i ts) a SnapSort (placed s3 at) x.permission done (λ c s4. h c.value s4)))
  consume_grows (Both a b) x scale heap s on h =
      consume_grows a x scale heap s _ (λ t s1. consume_grows b x scale heap s1 _ (λ u s2.
      earlier (built_pair_later x t u s2) (on (pair t u) (with_built_pair x t u s2)) (h (pair t u) (with_built_pair x t u s2))))
  consume_grows (Implied c a) x scale heap s on h =
      eval_grows c (with_heap heap s) _ (λ t s1.
      fork_grows (with_heap s.heap s1) t (λ s2. consume p o a x scale heap s2 on) (on unit) (λ s2. consume_grows a x scale heap s2 on h) (h unit))
  consume_grows (Chosen c a b) x scale heap s on h =
      eval_grows c (with_heap heap s) _ (λ t s1.
      fork_grows (with_heap s.heap s1) t (λ s2. consume p o a x scale heap s2 on) (λ s2. consume p o b x scale heap s2 on)
      (λ s2. consume_grows a x scale heap s2 on h) (λ s2. consume_grows b x scale heap s2 on h))

-- at every depth; past it nothing is allowed
pub outer_grows : (p : Program) (n : ℕ) → OuterGrows (outer p n)
outer_grows p zero = record {
  eval = λ e s on h. never_grows s nowhere AssertCode;
  evals = λ es s on h. never_grows s nowhere AssertCode;
  produce = λ a scale snapshot s on h. never_grows s nowhere AssertCode;
  consume = λ a x scale heap s on h. never_grows s nowhere AssertCode;
}
outer_grows p (suc n) =
    let below = outer_grows p n in
    record { eval = eval_grows p (outer p n) below; evals = evals_grows p (outer p n) below; produce = produce_grows p (outer p n) below; consume = consume_grows p (outer p n) below }
