-- Statements, with calls and instances that are folded, grow where what follows does.
use Rattle.std.proofs.Common.{true, List, [], length, drop, Option, Some, None}
use Rattle.vx_ast.specs.declared.Place.{Place}
use Rattle.vx_ast.specs.Syntax.{Name, Program, Predicate, Method, predicate_named, method_named, joined, Assertion, Stmt, Declare, Assign, Write, New, Call, Inhale, Exhale, Assert, Assume, Fold, Unfold, If, While, Block, Done, Then, assigned_in}
use Rattle.vx_terms.specs.Sorts.{RefSort}
use Rattle.vx_terms.specs.Terms.{Term}
use Rattle.vx_terms.specs.Build.{negate, less, zero_amount, whole_amount}
use Rattle.vx_rules.specs.States.{sort_of_type, assign, assign_all, bind, terms_in, State, with_store, with_heap, leave, with_fact, with_facts, with_branch, fresh, after_fresh, declare_fresh, declare_all, name_of, after_name}
use Rattle.vx_rules.specs.Trees.{AssertCode, PermissionCode, AmountCode, CallCode, EntryCode, KeptCode, FoldCode, Tree, End, Step}
use Rattle.vx_rules.specs.Chunks.{instance_key, put}
use Rattle.vx_rules.specs.Rules.{Giving, Going, Context, Outer, never, entered, back, unfolded, eval, evals, produce, consume}
use Rattle.vx_rules.specs.Members.{codes, forget, distinct, put_fields, names_of, after_names, called, folded, exec, exec_all}
use Rattle.vx_grows.proofs.Bases.{sooner}
use Rattle.vx_grows.proofs.Later.{after, branch_later, fact_later, facts_later, name_later, names_later, declared_later, forgotten_later, put_later, fields_later}
use Rattle.vx_grows.proofs.GrowSteps.{GrowsIn, Follows, FollowsWith, earlier, ask_grows, never_grows, fork_grows, write_grows}
use Rattle.vx_grows.proofs.GrowParts.{OuterGrows, unfolded_grows}
use Rattle.vx_grows.proofs.GrowAssertions.{eval_grows, evals_grows, produce_grows, consume_grows}

module _ (p : Program) (o : Outer) (below : OuterGrows o) where
  -- Calls

  -- once a callee's precondition is taken
  abbrev promised : Method → List Term → List Name → State → Going → Giving
  promised m ts targets s on snapshot s1 =
      let inside = declare_all m.returns (record s1 { old = s.heap }) in
      o.produce (joined m.place m.ensures) whole_amount None inside (λ s2.
      Step (on (with_store (assign_all targets (drop (length ts) (terms_in inside.store)) s.store) (record (back s s2) { old = s.old }))))

  promised_grows : (m : Method) (ts : List Term) (targets : List Name) (s : State) (on : Going) → Follows on → FollowsWith (promised m ts targets s on)
  promised_grows m ts targets s on h snapshot s1 =
      let begun = record s1 { old = s.heap } in
      let inside = declare_all m.returns begun in
      let returned = λ (s2 : State). with_store (assign_all targets (drop (length ts) (terms_in inside.store)) s.store) (record (back s s2) { old = s.old }) in
      earlier (declared_later m.returns begun) (promised m ts targets s on snapshot s1)
      (below.produce (joined m.place m.ensures) whole_amount None inside (λ s2. Step (on (returned s2))) (λ s2. h (returned s2)))

  pub called_grows : (at : Place) (m : Method) (ts : List Term) (targets : List Name) (s : State) (on : Going) → Follows on → GrowsIn s (called p o at m ts targets s on)
  called_grows at m ts targets s on h =
      below.consume (joined m.place m.requires) (codes CallCode CallCode) whole_amount s.heap (entered (bind m.parameters ts) at s) (promised m ts targets s on) (promised_grows m ts targets s on h)

  -- a call whose arguments are evaluated
  pub calling_grows : (at : Place) (m : Name) (ts : List Term) (targets : List Name) (s : State) (on : Going) → Follows on →
      GrowsIn s (elim (method_named p m) as (λ c. Tree) [ None ↦ never at CallCode s | Some c ↦ called p o at c (names_of ts s) targets (after_names ts s) on ])
  calling_grows at m ts targets s on h = go (method_named p m)
    where
      by_method : Option Method → Tree
      by_method None = never at CallCode s
      by_method (Some c) = called p o at c (names_of ts s) targets (after_names ts s) on

      go : (c : Option Method) → GrowsIn s (by_method c)
      go None = never_grows s at CallCode
      go (Some c) = earlier (names_later ts s) (by_method (Some c)) (called_grows at c (names_of ts s) targets (after_names ts s) on h)

  -- Instances

  pub folded_grows : (at : Place) (i : Name) (ts : List Term) (a : Term) (s : State) (on : Going) → Follows on → GrowsIn s (folded p o at i ts a s on)
  folded_grows at i ts a s on h = go (predicate_named p i)
    where
      context : Context
      context = record { pure = FoldCode; permission = FoldCode; builds = true }

      held : Term → State → State
      held snapshot s2 = put (record (instance_key i ts) { amount = a; value = name_of snapshot s2 }) (after_name snapshot s2)

      taken : Giving
      taken snapshot s1 = Step (on (held snapshot (back s s1)))

      taken_grows : FollowsWith taken
      taken_grows snapshot s1 =
          let s2 = back s s1 in
          earlier {s = s2} (after (name_later snapshot s2) (put_later (record (instance_key i ts) { amount = a; value = name_of snapshot s2 }) (after_name snapshot s2))) (on (held snapshot s2)) (h (held snapshot s2))

      by_body : Predicate → Option Assertion → Tree
      by_body d None = never at FoldCode s
      by_body d (Some body) = Step (o.consume body context a s.heap (entered (bind d.parameters ts) at s) taken)

      by_predicate : Option Predicate → Tree
      by_predicate None = never at FoldCode s
      by_predicate (Some d) = by_body d d.body

      of_body : (d : Predicate) (b : Option Assertion) → GrowsIn s (by_body d b)
      of_body d None = never_grows s at FoldCode
      of_body d (Some body) = below.consume body context a s.heap (entered (bind d.parameters ts) at s) taken taken_grows

      go : (d : Option Predicate) → GrowsIn s (by_predicate d)
      go None = never_grows s at FoldCode
      go (Some d) = of_body d d.body

  -- Statements

  mutual
    pub exec_grows : (st : Stmt) (s : State) (on : Going) → Follows on → GrowsIn s (exec p o st s on)
    exec_grows (Declare at x t) s on h = h (declare_fresh x (sort_of_type t) s)
    exec_grows (Assign at x e) s on h =
        eval_grows p o below e s _ (λ t s1.
        let s2 = after_name t s1 in
        let s3 = with_store (assign x (name_of t s1) s2.store) s2 in
        sooner (on s3) (name_later t s1).begins (h s3))
    exec_grows (Write at e f e') s on h = eval_grows p o below e s _ (λ r s1. eval_grows p o below e' s1 _ (λ t s2. write_grows s2 f r t at on h))
    exec_grows (New at x fs) s on h =
        let v = fresh RefSort s in
        let begun = with_facts (distinct v s) (after_fresh s) in
        let s1 = put_fields p fs v begun in
        let s2 = with_store (assign x v s1.store) s1 in
        let l = after (facts_later (distinct v s) (after_fresh s)) (fields_later p fs v begun) in
        sooner (on s2) l.begins (h s2)
    exec_grows (Call at targets m es) s on h = evals_grows p o below es s _ (λ ts s1. calling_grows at m ts targets s1 on h)
    exec_grows (Inhale at a) s on h = produce_grows p o below a whole_amount None s on h
    exec_grows (Exhale at a) s on h = consume_grows p o below a (codes AssertCode PermissionCode) whole_amount s.heap s _ (λ t s1. h s1)
    exec_grows (Assert at a) s on h = consume_grows p o below a (codes AssertCode PermissionCode) whole_amount s.heap s _ (λ t s1. h (with_heap s.heap s1))
    exec_grows (Assume at e) s on h = eval_grows p o below e s _ (λ t s1. earlier (fact_later t s1) (on (with_fact t s1)) (h (with_fact t s1)))
    exec_grows (Fold at i es share) s on h =
        let exchanged = λ (a : Term) (ts : List Term) (s3 : State). folded p o at i ts a s3 on in
        eval_grows p o below share s _ (λ a s1.
        ask_grows s1 (less zero_amount a) at AmountCode (λ s2. evals p o es s2 (exchanged a)) (λ s2.
        evals_grows p o below es s2 (exchanged a) (λ ts s3. folded_grows at i ts a s3 on h)))
    exec_grows (Unfold at i es share) s on h =
        let exchanged = λ (a : Term) (ts : List Term) (s3 : State). unfolded p o at i ts a s3 on in
        eval_grows p o below share s _ (λ a s1.
        ask_grows s1 (less zero_amount a) at AmountCode (λ s2. evals p o es s2 (exchanged a)) (λ s2.
        evals_grows p o below es s2 (exchanged a) (λ ts s3. unfolded_grows p o below at i ts a s3 on h)))
    exec_grows (If at c a b) s on h =
        let leaving = λ (s1 : State). on (leave (length s.store) s1) in
        eval_grows p o below c s _ (λ t s1.
        fork_grows s1 t (λ s2. exec_all p o a s2 leaving) (λ s2. exec_all p o b s2 leaving)
        (λ s2. exec_all_grows a s2 leaving (λ s3. h (leave (length s.store) s3))) (λ s2. exec_all_grows b s2 leaving (λ s3. h (leave (length s.store) s3))))
    exec_grows (While at c is body) s on h =
        let invariant = joined at is in
        let kept = λ (s5 : State). consume p o invariant (codes KeptCode KeptCode) whole_amount s5.heap s5 (λ v s6. End) in
        let iterated = λ (u : Term) (s3 : State). exec_all p o body (with_branch u s3) (λ s4. kept (leave (length s.store) s4)) in
        let past = λ (u : Term) (s3 : State). Step (on (with_branch (negate u) s3)) in
        consume_grows p o below invariant (codes EntryCode EntryCode) whole_amount s.heap s _ (λ t s1.
        let s2 = forget [] (assigned_in body) s1 in
        let l = forgotten_later [] (assigned_in body) s1 in (
          earlier l (produce p o invariant whole_amount None (with_heap [] s2) (λ s3. eval p o c s3 iterated))
              (produce_grows p o below invariant whole_amount None (with_heap [] s2) (λ s3. eval p o c s3 iterated) (λ s3.
              eval_grows p o below c s3 iterated (λ u s4.
              earlier (branch_later u s4) (iterated u s4)
              (exec_all_grows body (with_branch u s4) (λ s5. kept (leave (length s.store) s5)) (λ s5.
              let s6 = leave (length s.store) s5 in
              consume_grows p o below invariant (codes KeptCode KeptCode) whole_amount s6.heap s6 (λ v s7. End) (λ v s7. tt)))))),
          earlier l (produce p o invariant whole_amount None s2 (λ s3. eval p o c s3 past))
              (produce_grows p o below invariant whole_amount None s2 (λ s3. eval p o c s3 past) (λ s3.
              eval_grows p o below c s3 past (λ u s4.
              earlier (branch_later (negate u) s4) (on (with_branch (negate u) s4)) (h (with_branch (negate u) s4))))),
        ))

    pub exec_all_grows : (b : Block) (s : State) (on : Going) → Follows on → GrowsIn s (exec_all p o b s on)
    exec_all_grows Done s on h = h s
    exec_all_grows (Then st b) s on h = exec_grows st s (λ s1. exec_all p o b s1 on) (λ s1. exec_all_grows b s1 on h)
