-- Statements, with calls and instances that are folded, are shaped where what follows is.
use Rattle.std.proofs.Common.{true, List, [], length, drop, Option, Some, None}
use Rattle.std.specs.Prelude.{IfSome}
use Rattle.vx_ast.specs.declared.Place.{Place}
use Rattle.vx_ast.specs.Syntax.{Name, Program, Predicate, Method, predicate_named, method_named, joined, Assertion, Stmt, Declare, Assign, Write, New, Call, Inhale, Exhale, Assert, Assume, Fold, Unfold, If, While, Block, Done, Then, assigned_in}
use Rattle.vx_terms.specs.Sorts.{RefSort}
use Rattle.vx_terms.specs.Terms.{Term}
use Rattle.vx_terms.specs.Build.{negate, less, zero_amount, whole_amount}
use Rattle.vx_terms.specs.Interpretations.{Each}
use Rattle.vx_rules.specs.States.{sort_of_type, assign, assign_all, bind, terms_in, State, with_store, with_heap, leave, with_fact, with_facts, with_branch, fresh, after_fresh, declare_fresh, declare_all, name_of, after_name}
use Rattle.vx_rules.specs.Trees.{AssertCode, PermissionCode, AmountCode, CallCode, EntryCode, KeptCode, FoldCode, Tree, End, Step}
use Rattle.vx_rules.specs.Chunks.{instance_key, put}
use Rattle.vx_rules.specs.Rules.{Giving, Going, Context, Outer, never, entered, back, unfolded, eval, evals, consume}
use Rattle.vx_rules.specs.Members.{codes, forget, distinct, put_fields, names_of, after_names, called, folded, exec, exec_all}
use Rattle.vx_readable.specs.Numerals.{IsSmallAssertion, IsSmallStmt, IsSmallBlock, IsSmallMethod, HasSmallNumerals}
use Rattle.vx_readable.proofs.Shapes.{Shaped, whole_amount_shaped, negate_shaped, positive_shaped}
use Rattle.vx_readable.proofs.States.{each_drop, ShapedHeap, Sound, store_sound, heap_sound, fresh_sound, fresh_shaped, branch_sound, fact_sound, facts_sound, assign_shaped, assign_all_shaped, bind_shaped, terms_shaped, leave_sound, declare_fresh_sound, declare_all_sound, name_shaped, name_sound, names_shaped, names_sound, forget_sound, put_sound, fields_sound, distinct_shaped}
use Rattle.vx_readable.proofs.ShapeSteps.{Good, Follows, FollowsWith, ask_good, never_good, fork_good, write_good}
use Rattle.vx_readable.proofs.Programs.{predicate_small, method_small, joined_small}
use Rattle.vx_readable.proofs.ShapeParts.{OuterGood, entered_sound, back_sound, unfolded_good}
use Rattle.vx_readable.proofs.ShapeAssertions.{eval_good, evals_good, produce_good, consume_good}

old_sound : {s : State} (h : _) → ShapedHeap h → Sound s → Sound (record s { old = h })
old_sound h g k = record { store = k.store; heap = k.heap; old = g; path = k.path; own = k.own }

module _ (p : Program) (small : HasSmallNumerals p) (o : Outer) (below : OuterGood o) where
  -- Calls

  -- once a callee's precondition is taken
  abbrev promised : Method → List Term → List Name → State → Going → Giving
  promised m ts targets s on snapshot s1 =
      let inside = declare_all m.returns (record s1 { old = s.heap }) in
      o.produce (joined m.place m.ensures) whole_amount None inside (λ s2.
      Step (on (with_store (assign_all targets (drop (length ts) (terms_in inside.store)) s.store) (record (back s s2) { old = s.old }))))

  promised_good : (m : Method) (ts : List Term) (targets : List Name) (s : State) (on : Going) → IsSmallMethod m → Sound s → Follows on → FollowsWith (promised m ts targets s on)
  promised_good m ts targets s on sm k h snapshot s1 hn k1 =
      let begun = record s1 { old = s.heap } in
      let inside = declare_all m.returns begun in
      let k2 : Sound inside = declare_all_sound m.returns (old_sound s.heap k.heap k1) in
      let given = drop (length ts) (terms_in inside.store) in
      let returned = λ (s2 : State). with_store (assign_all targets given s.store) (record (back s s2) { old = s.old }) in
      below.produce (joined m.place m.ensures) (joined_small m.place m.ensures sm.ensures) whole_amount whole_amount_shaped None tt inside k2 (λ s2. Step (on (returned s2))) (λ s2 k3.
      h (returned s2)
      (store_sound (assign_all_shaped targets given s.store (each_drop Shaped (length ts) (terms_in inside.store) (terms_shaped inside.store k2.store)) k.store) (old_sound {s = back s s2} s.old k.old (back_sound k k3))))

  called_good : (at : Place) (m : Method) (ts : List Term) (targets : List Name) (s : State) (on : Going) → IsSmallMethod m → Each Shaped ts → Sound s → Follows on → Good (called p o at m ts targets s on)
  called_good at m ts targets s on sm hs k h =
      below.consume (joined m.place m.requires) (joined_small m.place m.requires sm.requires) (codes CallCode CallCode) whole_amount whole_amount_shaped s.heap k.heap (entered (bind m.parameters ts) at s)
      (entered_sound (bind m.parameters ts) at (bind_shaped m.parameters ts hs) k) (promised m ts targets s on) (promised_good m ts targets s on sm k h)

  -- a call whose arguments are evaluated
  calling_good : (at : Place) (m : Name) (ts : List Term) (targets : List Name) (s : State) (on : Going) → Each Shaped ts → Sound s → Follows on →
      Good (elim (method_named p m) as (λ c. Tree) [ None ↦ never at CallCode s | Some c ↦ called p o at c (names_of ts s) targets (after_names ts s) on ])
  calling_good at m ts targets s on hs k h = go (method_named p m) (method_small p m small)
    where
      by_method : Option Method → Tree
      by_method None = never at CallCode s
      by_method (Some c) = called p o at c (names_of ts s) targets (after_names ts s) on

      go : (c : Option Method) → IfSome c IsSmallMethod → Good (by_method c)
      go None sm = never_good s at CallCode k
      go (Some c) sm = called_good at c (names_of ts s) targets (after_names ts s) on sm (names_shaped ts s hs) (names_sound ts hs k) h

  -- Instances

  folded_good : (at : Place) (i : Name) (ts : List Term) (a : Term) (s : State) (on : Going) → Each Shaped ts → Shaped a → Sound s → Follows on → Good (folded p o at i ts a s on)
  folded_good at i ts a s on hs ha k h = go (predicate_named p i) (predicate_small p i small)
    where
      context : Context
      context = record { pure = FoldCode; permission = FoldCode; builds = true }

      held : Term → State → State
      held snapshot s2 = put (record (instance_key i ts) { amount = a; value = name_of snapshot s2 }) (after_name snapshot s2)

      taken : Giving
      taken snapshot s1 = Step (on (held snapshot (back s s1)))

      taken_good : FollowsWith taken
      taken_good snapshot s1 hn k1 =
          let s2 = back s s1 in
          let k2 : Sound s2 = back_sound k k1 in
          h (held snapshot s2)
          (put_sound (record (instance_key i ts) { amount = a; value = name_of snapshot s2 }) (record { arguments = hs; amount = ha; value = name_shaped snapshot s2 hn }) (name_sound snapshot hn k2))

      by_body : Predicate → Option Assertion → Tree
      by_body d None = never at FoldCode s
      by_body d (Some body) = Step (o.consume body context a s.heap (entered (bind d.parameters ts) at s) taken)

      by_predicate : Option Predicate → Tree
      by_predicate None = never at FoldCode s
      by_predicate (Some d) = by_body d d.body

      of_body : (d : Predicate) (b : Option Assertion) → IfSome b IsSmallAssertion → Good (by_body d b)
      of_body d None sb = never_good s at FoldCode k
      of_body d (Some body) sb =
          below.consume body sb context a ha s.heap k.heap (entered (bind d.parameters ts) at s) (entered_sound (bind d.parameters ts) at (bind_shaped d.parameters ts hs) k) taken taken_good

      go : (d : Option Predicate) → IfSome d (λ (d : Predicate). IfSome d.body IsSmallAssertion) → Good (by_predicate d)
      go None sd = never_good s at FoldCode k
      go (Some d) sd = of_body d d.body sd

  -- Statements

  mutual
    pub exec_good : (st : Stmt) → IsSmallStmt st → (s : State) → Sound s → (on : Going) → Follows on → Good (exec p o st s on)
    exec_good (Declare at x t) ss s k on h = h (declare_fresh x (sort_of_type t) s) (declare_fresh_sound x (sort_of_type t) k)
    exec_good (Assign at x e) ss s k on h =
        eval_good p small o below e ss s k _ (λ t s1 ht k1.
        let s2 = after_name t s1 in
        let k2 : Sound s2 = name_sound t ht k1 in
        h (with_store (assign x (name_of t s1) s2.store) s2) (store_sound (assign_shaped x (name_of t s1) s2.store (name_shaped t s1 ht) k2.store) k2))
    exec_good (Write at e f e') ss s k on h =
        eval_good p small o below e ss.0 s k _ (λ r s1 hr k1. eval_good p small o below e' ss.1 s1 k1 _ (λ t s2 ht k2. write_good s2 f r t at on hr ht k2 h))
    exec_good (New at x fs) ss s k on h =
        let v = fresh RefSort s in
        let hv = fresh_shaped RefSort s in
        let begun = with_facts (distinct v s) (after_fresh s) in
        let s1 = put_fields p fs v begun in
        let k1 : Sound s1 = fields_sound p fs v {s = begun} hv (facts_sound (distinct v s) (distinct_shaped v s hv k) (fresh_sound k)) in
        h (with_store (assign x v s1.store) s1) (store_sound (assign_shaped x v s1.store hv k1.store) k1)
    exec_good (Call at targets m es) ss s k on h = evals_good p small o below es ss s k _ (λ ts s1 hs k1. calling_good at m ts targets s1 on hs k1 h)
    exec_good (Inhale at a) ss s k on h = produce_good p small o below a ss whole_amount whole_amount_shaped None tt s k on h
    exec_good (Exhale at a) ss s k on h = consume_good p small o below a ss (codes AssertCode PermissionCode) whole_amount whole_amount_shaped s.heap k.heap s k _ (λ t s1 ht k1. h s1 k1)
    exec_good (Assert at a) ss s k on h =
        consume_good p small o below a ss (codes AssertCode PermissionCode) whole_amount whole_amount_shaped s.heap k.heap s k _ (λ t s1 ht k1. h (with_heap s.heap s1) (heap_sound k.heap k1))
    exec_good (Assume at e) ss s k on h = eval_good p small o below e ss s k _ (λ t s1 ht k1. h (with_fact t s1) (fact_sound t ht k1))
    exec_good (Fold at i es share) ss s k on h =
        let exchanged = λ (a : Term) (ts : List Term) (s3 : State). folded p o at i ts a s3 on in
        eval_good p small o below share ss.1 s k _ (λ a s1 ha k1.
        ask_good s1 (less zero_amount a) at AmountCode (λ s2. evals p o es s2 (exchanged a)) (positive_shaped ha) k1 (λ s2 k2.
        evals_good p small o below es ss.0 s2 k2 (exchanged a) (λ ts s3 hs k3. folded_good at i ts a s3 on hs ha k3 h)))
    exec_good (Unfold at i es share) ss s k on h =
        let exchanged = λ (a : Term) (ts : List Term) (s3 : State). unfolded p o at i ts a s3 on in
        eval_good p small o below share ss.1 s k _ (λ a s1 ha k1.
        ask_good s1 (less zero_amount a) at AmountCode (λ s2. evals p o es s2 (exchanged a)) (positive_shaped ha) k1 (λ s2 k2.
        evals_good p small o below es ss.0 s2 k2 (exchanged a) (λ ts s3 hs k3. unfolded_good p small o below at i ts a s3 on hs ha k3 h)))
    exec_good (If at c a b) ss s k on h =
        let leaving = λ (s1 : State). on (leave (length s.store) s1) in
        let left = λ (s3 : State) (k3 : Sound s3). h (leave (length s.store) s3) (leave_sound (length s.store) k3) in
        eval_good p small o below c ss.0 s k _ (λ t s1 ht k1.
        fork_good s1 t (λ s2. exec_all p o a s2 leaving) (λ s2. exec_all p o b s2 leaving) ht k1
        (λ s2 k2. exec_all_good a ss.1 s2 k2 leaving left) (λ s2 k2. exec_all_good b ss.2 s2 k2 leaving left))
    exec_good (While at c is body) ss s k on h =
        let invariant = joined at is in
        let si = joined_small at is ss.1 in
        let kept = λ (s5 : State). consume p o invariant (codes KeptCode KeptCode) whole_amount s5.heap s5 (λ v s6. End) in
        let iterated = λ (u : Term) (s3 : State). exec_all p o body (with_branch u s3) (λ s4. kept (leave (length s.store) s4)) in
        let past = λ (u : Term) (s3 : State). Step (on (with_branch (negate u) s3)) in
        consume_good p small o below invariant si (codes EntryCode EntryCode) whole_amount whole_amount_shaped s.heap k.heap s k _ (λ t s1 ht k1.
        let s2 = forget [] (assigned_in body) s1 in
        let k2 : Sound s2 = forget_sound [] (assigned_in body) k1 in (
          produce_good p small o below invariant si whole_amount whole_amount_shaped None tt (with_heap [] s2) (heap_sound tt k2) (λ s3. eval p o c s3 iterated) (λ s3 k3.
              eval_good p small o below c ss.0 s3 k3 iterated (λ u s4 hu k4.
              exec_all_good body ss.2 (with_branch u s4) (branch_sound u hu k4) (λ s5. kept (leave (length s.store) s5)) (λ s5 k5.
              let s6 = leave (length s.store) s5 in
              let k6 : Sound s6 = leave_sound (length s.store) k5 in
              consume_good p small o below invariant si (codes KeptCode KeptCode) whole_amount whole_amount_shaped s6.heap k6.heap s6 k6 (λ v s7. End) (λ v s7 hv k7. tt)))),
          produce_good p small o below invariant si whole_amount whole_amount_shaped None tt s2 k2 (λ s3. eval p o c s3 past) (λ s3 k3.
              eval_good p small o below c ss.0 s3 k3 past (λ u s4 hu k4. h (with_branch (negate u) s4) (branch_sound (negate u) (negate_shaped hu) k4))),
        ))

    pub exec_all_good : (b : Block) → IsSmallBlock b → (s : State) → Sound s → (on : Going) → Follows on → Good (exec_all p o b s on)
    exec_all_good Done ss s k on h = h s k
    exec_all_good (Then st b) ss s k on h = exec_good st ss.0 s k (λ s1. exec_all p o b s1 on) (λ s1 k1. exec_all_good b ss.1 s1 k1 on h)
