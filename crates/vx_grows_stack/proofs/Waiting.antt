-- What waits for a value grows where what waits for the whole does.
use Rattle.std.proofs.Common.{ℕ, List, [], drop, None}
use Rattle.std.specs.Prelude.{string_bytes}
use Rattle.vx_ast.specs.Syntax.{Program, joined, assigned_in}
use Rattle.vx_resolved.specs.Resolved.{operator, division, connective, expr, exprs, assertion, block, method, names_of}
use Rattle.vx_terms.specs.Terms.{Term}
use Rattle.vx_terms.specs.Build.{negate, less, ite, multiply, unit, pair, zero_amount, whole_amount}
use Rattle.vx_heap.specs.Views.{heap, held_term}
use Rattle.vx_rules.specs.States.{State, with_store, with_heap, assign, declare_all, terms_in, leave, with_fact, with_branch, name_of, after_name}
use Rattle.vx_rules.specs.Trees.{AmountCode, MeasureCode, KeptCode, End, Step}
use Rattle.vx_rules.specs.Codes.{code}
use Rattle.vx_rules.specs.Rules.{Giving, Going, operated, divided, connected, field_sort, lesser, placed, with_built_pair, with_unit, unfolded, eval, evals, consume}
use Rattle.vx_rules.specs.Members.{codes, folded, exec_all, rules}
use Rattle.vx_states.specs.SymStates.{optional_term}
use Rattle.vx_states.specs.Entering.{back_to}
use Rattle.vx_stack.specs.declared.waiting.Called.{Called}
use Rattle.vx_stack.specs.declared.waiting.Loop.{Loop}
use Rattle.vx_stack.specs.declared.waiting.Operand.{Operand}
use Rattle.vx_stack.specs.declared.waiting.Operand.TheVariants as operand'
use Rattle.vx_stack.specs.declared.waiting.Produced.{Produced}
use Rattle.vx_stack.specs.declared.waiting.Produced.TheVariants as produced'
use Rattle.vx_stack.specs.declared.waiting.Consumed.{Consumed}
use Rattle.vx_stack.specs.declared.waiting.Consumed.TheVariants as consumed'
use Rattle.vx_stack.specs.declared.waiting.Executed.{Executed}
use Rattle.vx_stack.specs.declared.waiting.Executed.TheVariants as executed'
use Rattle.vx_stack.specs.Values.{values}
use Rattle.vx_stack.specs.Stack.{context, returned, with_instance, told, measuring, operand, producing, consuming, produced, wrapped, consumed, iterated, from_invariant, forgotten, promised, executed}
use Rattle.vx_grows.proofs.Later.{after, branch_later, fact_later, name_later, declared_later, forgotten_later, unit_later, built_pair_later}
use Rattle.vx_grows.proofs.Bases.{sooner}
use Rattle.vx_grows.proofs.GrowSteps.{GrowsIn, Follows, FollowsWith, earlier, ask_grows, fork_grows, short_grows, read_grows, write_grows}
use Rattle.vx_grows.proofs.GrowParts.{OuterGrows, unfolded_grows}
use Rattle.vx_grows.proofs.GrowAssertions.{eval_grows, evals_grows, produce_grows, consume_grows}
use Rattle.vx_grows.proofs.GrowStatements.{folded_grows, exec_all_grows}
use Rattle.vx_grows.proofs.GrowMembers.{rules_grow}
use Rattle.vx_grows_stack.proofs.Parts.{divisor_grows, instance_later, told_grows, measuring_grows, producing_grows, consuming_grows, putting_grows, putting_instance_grows, taking_grows, taking_instance_grows, wrapped_grows}

module _ (p : Program) where
  abbrev below : OuterGrows (rules p)
  below = rules_grow p

  pub operand_grows : (v : Operand) (on : Giving) → FollowsWith on → FollowsWith (operand p v on)
  operand_grows operand'.Negate on h t s = h (negate t) s
  operand_grows (operand'.OperateRight op b) on h t s = eval_grows p (rules p) below (expr b.value) s _ (λ u s1. h (operated (operator op) t u) s1)
  operand_grows (operand'.OperateWith op t) on h u s = h (operated (operator op) (held_term t) u) s
  operand_grows (operand'.DivideRight at op b) on h t s =
      eval_grows p (rules p) below (expr b.value) s _ (λ u s1. divisor_grows at s1 u (on (divided (division op) t u)) (h (divided (division op) t u)))
  operand_grows (operand'.DivideWith at op t) on h u s = divisor_grows at s u (on (divided (division op) (held_term t) u)) (h (divided (division op) (held_term t) u))
  operand_grows (operand'.ConnectRight c b) on h t s = eval_grows p (rules p) below (expr b.value) s _ (λ u s1. h (connected (connective c) t u) s1)
  operand_grows (operand'.ConnectWith c t) on h u s = h (connected (connective c) (held_term t) u) s
  operand_grows (operand'.ConnectSides c b) on h t s =
      short_grows s (connective c) t (λ s1. eval p (rules p) (expr b.value) s1 on) on (λ s1. eval_grows p (rules p) below (expr b.value) s1 on h) h
  operand_grows (operand'.ChooseThen a b) on h t s =
      eval_grows p (rules p) below (expr a.value) s _ (λ u s1. eval_grows p (rules p) below (expr b.value) s1 _ (λ v s2. h (ite t u v) s2))
  operand_grows (operand'.ChooseElse t b) on h u s = eval_grows p (rules p) below (expr b.value) s _ (λ v s1. h (ite (held_term t) u v) s1)
  operand_grows (operand'.ChooseWith t u) on h v s = h (ite (held_term t) (held_term u) v) s
  operand_grows (operand'.ChooseSides a b) on h t s =
      fork_grows s t (λ s1. eval p (rules p) (expr a.value) s1 on) (λ s1. eval p (rules p) (expr b.value) s1 on)
      (λ s1. eval_grows p (rules p) below (expr a.value) s1 on h) (λ s1. eval_grows p (rules p) below (expr b.value) s1 on h)
  operand_grows (operand'.Receiver at f) on h r s = read_grows s (string_bytes f.value) r (field_sort p (string_bytes f.value)) (placed s at) on h
  operand_grows (operand'.Restore k) on h t s = h t (with_heap (heap k.value) s)
  operand_grows (operand'.Unfolding at i es e k) on h a s =
      let inside = λ (s3 : State). eval p (rules p) (expr e.value) s3 (λ t s4. Step (on t (with_heap (heap k.value) s4))) in
      let exchanged = λ (ts : List Term) (s2 : State). unfolded p (rules p) (placed s2 at) (string_bytes i.value) ts a s2 inside in
      ask_grows s (less zero_amount a) (placed s at) AmountCode (λ s1. evals p (rules p) (exprs es.value) s1 exchanged) (λ s1.
      evals_grows p (rules p) below (exprs es.value) s1 exchanged (λ ts s2.
      unfolded_grows p (rules p) below (placed s2 at) (string_bytes i.value) ts a s2 inside (λ s3.
      eval_grows p (rules p) below (expr e.value) s3 (λ t s4. Step (on t (with_heap (heap k.value) s4))) (λ t s4. h t (with_heap (heap k.value) s4)))))
  operand_grows (operand'.Applied x c k) on h snapshot s =
      let s1 = with_heap (heap k.value) (back_to c.value s) in
      sooner (measuring p x.value (name_of snapshot s1) on (after_name snapshot s1)) (name_later snapshot s1).begins (measuring_grows p x.value (name_of snapshot s1) on h (after_name snapshot s1))
  operand_grows (operand'.Measured x own c) on h m s =
      ask_grows (back_to c.value s) (lesser p (rules p) (optional_term own) m) x.value.application.value.place MeasureCode (told p x.value on) (told_grows p x.value on h)

  pub produced_grows : (v : Produced) (on : Going) → Follows on → FollowsWith (produced p v on)
  produced_grows (produced'.Fact snapshot) on h t s =
      let s1 = with_unit (optional_term snapshot) (with_fact t s) in
      earlier (after (fact_later t s) (unit_later (optional_term snapshot) (with_fact t s))) (on s1) (h s1)
  produced_grows (produced'.Share at f e x inside) on h r s =
      eval_grows p (rules p) below (expr e.value) s _ (λ a s1.
      putting_grows p at (string_bytes f.value) r (multiply (held_term x.value.scale) a) (optional_term x.value.snapshot) inside s1 on h)
  produced_grows (produced'.Amount at f r x inside) on h a s =
      putting_grows p at (string_bytes f.value) (held_term r) (multiply (held_term x.value.scale) a) (optional_term x.value.snapshot) inside s on h
  produced_grows (produced'.Held at i ts x inside) on h a s =
      putting_instance_grows p at (string_bytes i.value) (values ts.value) (multiply (held_term x.value.scale) a) (optional_term x.value.snapshot) inside s on h
  produced_grows (produced'.Implied a x) on h t s =
      let done = with_unit (optional_term x.value.snapshot) in
      fork_grows s t (λ s1. producing p (assertion a.value) x.value s1 on) (λ s1. on (done s1))
      (λ s1. producing_grows p (assertion a.value) x.value s1 on h) (λ s1. earlier (unit_later (optional_term x.value.snapshot) s1) (on (done s1)) (h (done s1)))
  produced_grows (produced'.Chosen a b x) on h t s =
      fork_grows s t (λ s1. producing p (assertion a.value) x.value s1 on) (λ s1. producing p (assertion b.value) x.value s1 on)
      (λ s1. producing_grows p (assertion a.value) x.value s1 on h) (λ s1. producing_grows p (assertion b.value) x.value s1 on h)

  pub consumed_grows : (v : Consumed) (on : Giving) → FollowsWith on → FollowsWith (consumed p v on)
  consumed_grows (consumed'.Ask at f k) on h t s =
      ask_grows s t (placed s at) (code f) (λ s1. Step (on unit (with_heap (heap k.value) s1))) (λ s1. h unit (with_heap (heap k.value) s1))
  consumed_grows (consumed'.Right b x) on h t s =
      let done = with_built_pair (context x.value.codes) t in
      consuming_grows p (assertion b.value) x.value s (λ u s1. Step (on (pair t u) (done u s1))) (λ u s1.
      earlier (built_pair_later (context x.value.codes) t u s1) (on (pair t u) (done u s1)) (h (pair t u) (done u s1)))
  consumed_grows (consumed'.With t x) on h u s =
      let s1 = with_built_pair (context x) (held_term t) u s in
      earlier (built_pair_later (context x) (held_term t) u s) (on (pair (held_term t) u) s1) (h (pair (held_term t) u) s1)
  consumed_grows (consumed'.Share at f e x k) on h r s =
      let whole = wrapped p (string_bytes f.value) (context x.value.codes) on in
      eval_grows p (rules p) below (expr e.value) s _ (λ a s1.
      taking_grows p at (string_bytes f.value) r (multiply (held_term x.value.scale) a) (code x.value.codes.permission) (heap k.value) s1 whole
      (wrapped_grows p (string_bytes f.value) (context x.value.codes) on h))
  consumed_grows (consumed'.Amount at f r x k) on h a s =
      let whole = wrapped p (string_bytes f.value) (context x.value.codes) on in
      taking_grows p at (string_bytes f.value) (held_term r) (multiply (held_term x.value.scale) a) (code x.value.codes.permission) (heap k.value) s whole
      (wrapped_grows p (string_bytes f.value) (context x.value.codes) on h)
  consumed_grows (consumed'.Wrap f x) on h v s = wrapped_grows p (string_bytes f.value) (context x) on h v s
  consumed_grows (consumed'.Held at i ts x k) on h a s =
      taking_instance_grows p at (string_bytes i.value) (values ts.value) (multiply (held_term x.value.scale) a) (code x.value.codes.permission) (heap k.value) s
      (λ v s1. Step (on v s1)) (λ v s1. h v s1)
  consumed_grows consumed'.Snapshot on h v s = h v s
  consumed_grows (consumed'.Implied a x k) on h t s =
      fork_grows (with_heap (heap k.value) s) t (λ s1. consuming p (assertion a.value) x.value s1 on) (on unit) (λ s1. consuming_grows p (assertion a.value) x.value s1 on h) (h unit)
  consumed_grows (consumed'.Chosen a b x k) on h t s =
      fork_grows (with_heap (heap k.value) s) t (λ s1. consuming p (assertion a.value) x.value s1 on) (λ s1. consuming p (assertion b.value) x.value s1 on)
      (λ s1. consuming_grows p (assertion a.value) x.value s1 on h) (λ s1. consuming_grows p (assertion b.value) x.value s1 on h)

  -- Statements

  iterated_grows : (l : Loop) (kept : ℕ) → FollowsWith (iterated p l kept)
  iterated_grows l kept u s =
      let again = λ (s2 : State). consume p (rules p) (assertion l.invariant.value) (codes KeptCode KeptCode) whole_amount s2.heap s2 (λ v s3. End) in
      earlier (branch_later u s) (iterated p l kept u s)
      (exec_all_grows p (rules p) below (block l.body.value) (with_branch u s) (λ s1. again (leave kept s1)) (λ s1.
      let s2 = leave kept s1 in
      consume_grows p (rules p) below (assertion l.invariant.value) (codes KeptCode KeptCode) whole_amount s2.heap s2 (λ v s3. End) (λ v s3. tt)))

  invariant_grows : (l : Loop) (s : State) (on : Giving) → FollowsWith on → GrowsIn s (from_invariant p l s on)
  invariant_grows l s on h =
      produce_grows p (rules p) below (assertion l.invariant.value) whole_amount None s (λ s1. eval p (rules p) (expr l.condition.value) s1 on) (λ s1. eval_grows p (rules p) below (expr l.condition.value) s1 on h)

  promised_grows : (c : Called) (on : Going) → Follows on → Follows (promised p c on)
  promised_grows c on h s =
      let m = method c.method.value in
      let begun = record s { old = heap c.heap.value } in
      let inside = declare_all m.returns begun in
      let done = returned (names_of c.targets.value.items) (drop c.count (terms_in inside.store)) c.caller.value (heap c.old_heap.value) in
      sooner (promised p c on s) (declared_later m.returns begun).begins
      (below.produce (joined m.place m.ensures) whole_amount None inside (λ s1. Step (on (done s1))) (λ s1. h (done s1)))

  pub executed_grows : (v : Executed) (on : Going) → Follows on → FollowsWith (executed p v on)
  executed_grows (executed'.Assign x) on h t s =
      let s1 = after_name t s in
      let s2 = with_store (assign (string_bytes x.value) (name_of t s) s1.store) s1 in
      sooner (on s2) (name_later t s).begins (h s2)
  executed_grows executed'.Assume on h t s = earlier (fact_later t s) (on (with_fact t s)) (h (with_fact t s))
  executed_grows (executed'.If a b kept) on h t s =
      let leaving = λ (s2 : State). on (leave kept s2) in
      fork_grows s t (λ s1. exec_all p (rules p) (block a.value) s1 leaving) (λ s1. exec_all p (rules p) (block b.value) s1 leaving)
      (λ s1. exec_all_grows p (rules p) below (block a.value) s1 leaving (λ s2. h (leave kept s2)))
      (λ s1. exec_all_grows p (rules p) below (block b.value) s1 leaving (λ s2. h (leave kept s2)))
  executed_grows (executed'.Asserted k) on h t s = h (with_heap (heap k.value) s)
  executed_grows executed'.Exhaled on h t s = h s
  executed_grows (executed'.Write at f e) on h r s = eval_grows p (rules p) below (expr e.value) s _ (λ t s1. write_grows s1 (string_bytes f.value) r t at on h)
  executed_grows (executed'.WriteWith at f r) on h t s = write_grows s (string_bytes f.value) (held_term r) t at on h
  executed_grows (executed'.Enter l kept) on h t s =
      let s1 = forgotten p l.value s in
      let k = forgotten_later [] (assigned_in (block l.value.body.value)) s in
      let past = λ (u : Term) (s2 : State). Step (on (with_branch (negate u) s2)) in (
        earlier k (from_invariant p l.value (with_heap [] s1) (iterated p l.value kept)) (invariant_grows l.value (with_heap [] s1) (iterated p l.value kept) (iterated_grows l.value kept)),
        earlier k (from_invariant p l.value s1 past) (invariant_grows l.value s1 past (λ u s2. earlier (branch_later (negate u) s2) (past u s2) (h (with_branch (negate u) s2)))),
      )
  executed_grows (executed'.Iterate l kept) on h u s = iterated_grows l.value kept u s
  executed_grows executed'.Pass on h u s = earlier (branch_later (negate u) s) (on (with_branch (negate u) s)) (h (with_branch (negate u) s))
  executed_grows (executed'.Fold at i es) on h a s =
      let exchanged = λ (ts : List Term) (s2 : State). folded p (rules p) at (string_bytes i.value) ts a s2 on in
      ask_grows s (less zero_amount a) at AmountCode (λ s1. evals p (rules p) (exprs es.value) s1 exchanged) (λ s1.
      evals_grows p (rules p) below (exprs es.value) s1 exchanged (λ ts s2. folded_grows p (rules p) below at (string_bytes i.value) ts a s2 on h))
  executed_grows (executed'.Unfold at i es) on h a s =
      let exchanged = λ (ts : List Term) (s2 : State). unfolded p (rules p) at (string_bytes i.value) ts a s2 on in
      ask_grows s (less zero_amount a) at AmountCode (λ s1. evals p (rules p) (exprs es.value) s1 exchanged) (λ s1.
      evals_grows p (rules p) below (exprs es.value) s1 exchanged (λ ts s2. unfolded_grows p (rules p) below at (string_bytes i.value) ts a s2 on h))
  executed_grows (executed'.Folded x c) on h snapshot s =
      let s1 = back_to c.value s in
      let s2 = with_instance (string_bytes x.value.predicate.value) (values x.value.arguments.value) (held_term x.value.amount) snapshot s1 in
      sooner (on s2) (instance_later (string_bytes x.value.predicate.value) (values x.value.arguments.value) (held_term x.value.amount) snapshot s1).begins (h s2)
  executed_grows (executed'.Called c) on h snapshot s = promised_grows c.value on h s
