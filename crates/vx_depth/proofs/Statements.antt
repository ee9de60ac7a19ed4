-- Statements over the rules of two depths.
use Rattle.std.proofs.Common.{◌≡◌, ℕ, suc, ◌*◌, ◌<◌, ◌≤◌, true, List, [], length, drop, Option, Some, None, refl, ap, ap₂, arith}
use Rattle.vx_ast.specs.declared.Place.{Place}
use Rattle.vx_ast.specs.Syntax.{Name, Program, Method, Predicate, method_named, predicate_named, joined, Assertion, Stmt, Declare, Assign, Write, New, Call, Inhale, Exhale, Assert, Assume, Fold, Unfold, If, While, Block, Done, Then, assigned_in}
use Rattle.vx_terms.specs.Sorts.{RefSort}
use Rattle.vx_terms.specs.Terms.{Term}
use Rattle.vx_terms.specs.Build.{negate, whole_amount}
use Rattle.vx_rules.specs.States.{State, sort_of_type, fresh, after_fresh, with_facts, with_fact, with_store, with_heap, with_branch, assign, assign_all, bind, terms_in, leave, declare_all, declare_fresh, name_of, after_name}
use Rattle.vx_rules.specs.Trees.{AssertCode, PermissionCode, AmountCode, CallCode, EntryCode, KeptCode, FoldCode, Tree, Step, Fork}
use Rattle.vx_rules.specs.Chunks.{instance_key, put}
use Rattle.vx_rules.specs.Rules.{Going, Outer, outer, never, entered, back, eval, evals, produce, consume}
use Rattle.vx_rules.specs.Members.{codes, distinct, put_fields, names_of, after_names, called, folded, forget, exec, exec_all, depth, rules}
use Rattle.vx_depth.specs.Entering.{IsWithin, NoneWithinItself}
use Rattle.vx_depth.specs.Depths.{SameGoing, ExecSame, SameRules, ReadsItself}
use Rattle.vx_depth.proofs.Levels.{fact_level, facts_level, name_level, names_level, put_level, declare_level, forget_level, fields_level}
use Rattle.vx_depth.proofs.Same.{ask_same, fork_same, write_same, Opens, unfolded_same}
use Rattle.vx_depth.proofs.Chains.{all_within}
use Rattle.vx_depth.proofs.Descends.{each_of_all, Agree, ground_level, any_level, ground_opens}

module _ (p : Program) (n : ℕ) (all : (x : Name) → IsWithin p n x) (o o' : Outer) (outside : Agree p n 0 o o')
    (opens : Opens p (IsWithin p n) 0 o o') (here : Agree p n 0 record { eval = eval p o; evals = evals p o; produce = produce p o; consume = consume p o } record { eval = eval p o'; evals = evals p o'; produce = produce p o'; consume = consume p o' }) where
  called_same : (at : Place) (m : Method) (ts : List Term) (targets : List Name) (s : State) {on other : Going} → s.level ≡ 0 → SameGoing 0 on other →
      called p o at m ts targets s on ≡ called p o' at m ts targets s other
  called_same at m ts targets s v h =
      ap Step (outside.consume (joined m.place m.requires) (each_of_all all _) (codes CallCode CallCode) whole_amount s.heap (entered (bind m.parameters ts) at s) v _ _ (λ snapshot s1 v1.
      let inside = declare_all m.returns (record s1 { old = s.heap }) in
      outside.produce (joined m.place m.ensures) (each_of_all all _) whole_amount None inside (declare_level m.returns (record s1 { old = s.heap }) v1) _ _ (λ s2 v2.
      ap Step (h (with_store (assign_all targets (drop (length ts) (terms_in inside.store)) s.store) (record (back s s2) { old = s.old })) v2))))

  folded_same : (at : Place) (i : Name) (ts : List Term) (a : Term) (s : State) {on other : Going} → s.level ≡ 0 → SameGoing 0 on other → folded p o at i ts a s on ≡ folded p o' at i ts a s other
  folded_same at i ts a s {on = on} {other = other} v h = go (predicate_named p i)
    where
      built : (o : Outer) (on : Going) → Predicate → Option Assertion → Tree
      built o on d b = elim b as (λ b. Tree) [
        | None ↦ never at FoldCode s
        | Some body ↦ Step (o.consume body (record { pure = FoldCode; permission = FoldCode; builds = true }) a s.heap (entered (bind d.parameters ts) at s) (λ snapshot s1.
            let s2 = back s s1 in
            let value = name_of snapshot s2 in
            Step (on (put (record (instance_key i ts) { amount = a; value = value }) (after_name snapshot s2)))))
      ]

      inside : (d : Predicate) (b : Option Assertion) → built o on d b ≡ built o' other d b
      inside d None = refl
      inside d (Some body) = ap Step (outside.consume body (each_of_all all _) _ a s.heap (entered (bind d.parameters ts) at s) v _ _ (λ snapshot s1 v1.
          let s2 = back s s1 in
          let chunk = record (instance_key i ts) { amount = a; value = name_of snapshot s2 } in
          ap Step (h (put chunk (after_name snapshot s2)) (put_level chunk (after_name snapshot s2) (name_level snapshot s2 v1)))))

      go : (d : Option Predicate) → elim d as (λ d. Tree) [ None ↦ never at FoldCode s | Some d ↦ built o on d d.body ] ≡ elim d as (λ d. Tree) [ None ↦ never at FoldCode s | Some d ↦ built o' other d d.body ]
      go None = refl
      go (Some d) = inside d d.body

  mutual
    pub exec_same : (st : Stmt) → ExecSame (exec p o) (exec p o') st
    exec_same (Declare at x t) s v on other h = ap Step (h (declare_fresh x (sort_of_type t) s) v)
    exec_same (Assign at x e) s v on other h =
        ap Step (here.eval e (each_of_all all _) s v _ _ (λ t s1 v1. ap Step (h (with_store (assign x (name_of t s1) (after_name t s1).store) (after_name t s1)) (name_level t s1 v1))))
    exec_same (Write at e f e') s v on other h =
        ap Step (here.eval e (each_of_all all _) s v _ _ (λ r s1 v1. ap Step (here.eval e' (each_of_all all _) s1 v1 _ _ (λ t s2 v2.
        write_same f r t at s2 v2 h))))
    exec_same (New at x fs) s v on other h =
        let w = fresh RefSort s in
        let s1 = put_fields p fs w (with_facts (distinct w s) (after_fresh s)) in
        ap Step (h (with_store (assign x w s1.store) s1) (fields_level p fs w (with_facts (distinct w s) (after_fresh s)) (facts_level (distinct w s) (after_fresh s) v)))
    exec_same (Call at targets m es) s v on other h =
        ap Step (here.evals es (each_of_all all _) s v _ _ (λ ts s1 v1. go ts s1 v1 (method_named p m)))
      where
        go : (ts : List Term) (s1 : State) → s1.level ≡ 0 → (c : Option Method) →
            elim c as (λ c. Tree) [ None ↦ never at CallCode s1 | Some c ↦ called p o at c (names_of ts s1) targets (after_names ts s1) on ]
            ≡ elim c as (λ c. Tree) [ None ↦ never at CallCode s1 | Some c ↦ called p o' at c (names_of ts s1) targets (after_names ts s1) other ]
        go ts s1 v1 None = refl
        go ts s1 v1 (Some c) = called_same at c (names_of ts s1) targets (after_names ts s1) (names_level ts s1 v1) h
    exec_same (Inhale at a) s v on other h = ap Step (here.produce a (each_of_all all _) whole_amount None s v on other h)
    exec_same (Exhale at a) s v on other h =
        ap Step (here.consume a (each_of_all all _) (codes AssertCode PermissionCode) whole_amount s.heap s v _ _ (λ t s1 v1. ap Step (h s1 v1)))
    exec_same (Assert at a) s v on other h =
        ap Step (here.consume a (each_of_all all _) (codes AssertCode PermissionCode) whole_amount s.heap s v _ _ (λ t s1 v1. ap Step (h (with_heap s.heap s1) v1)))
    exec_same (Assume at e) s v on other h =
        ap Step (here.eval e (each_of_all all _) s v _ _ (λ t s1 v1. ap Step (h (with_fact t s1) (fact_level t s1 v1))))
    exec_same (Fold at i es share) s v on other h =
        ap Step (here.eval share (each_of_all all _) s v _ _ (λ a s1 v1. ask_same _ at AmountCode s1 v1 (λ s2 v2.
        here.evals es (each_of_all all _) s2 v2 _ _ (λ ts s3 v3. folded_same at i ts a s3 v3 h))))
    exec_same (Unfold at i es share) s v on other h =
        ap Step (here.eval share (each_of_all all _) s v _ _ (λ a s1 v1. ask_same _ at AmountCode s1 v1 (λ s2 v2.
        here.evals es (each_of_all all _) s2 v2 _ _ (λ ts s3 v3. unfolded_same p (IsWithin p n) 0 o o' opens at i ts a s3 (all i) v3 h))))
    exec_same (If at c a b) s v on other h =
        ap Step (here.eval c (each_of_all all _) s v _ _ (λ t s1 v1. fork_same t s1 v1
        (λ s2 v2. exec_all_same a s2 v2 _ _ (λ s3 v3. h (leave (length s.store) s3) v3))
        (λ s2 v2. exec_all_same b s2 v2 _ _ (λ s3 v3. h (leave (length s.store) s3) v3))))
    exec_same (While at c is body) s v on other h =
        let invariant = joined at is in
        let xs = assigned_in body in
        ap Step (here.consume invariant (each_of_all all _) (codes EntryCode EntryCode) whole_amount s.heap s v _ _ (λ t s1 v1. ap₂ Fork
        (here.produce invariant (each_of_all all _) whole_amount None (with_heap [] (forget [] xs s1)) (forget_level [] xs s1 v1) _ _ (λ s2 v2.
        here.eval c (each_of_all all _) s2 v2 _ _ (λ u s3 v3.
        exec_all_same body (with_branch u s3) v3 _ _ (λ s4 v4.
        here.consume invariant (each_of_all all _) (codes KeptCode KeptCode) whole_amount (leave (length s.store) s4).heap (leave (length s.store) s4) v4 _ _ (λ w s6 v6. refl)))))
        (here.produce invariant (each_of_all all _) whole_amount None (forget [] xs s1) (forget_level [] xs s1 v1) _ _ (λ s2 v2.
        here.eval c (each_of_all all _) s2 v2 _ _ (λ u s3 v3. ap Step (h (with_branch (negate u) s3) v3))))))

    pub exec_all_same : (b : Block) → ExecSame (exec_all p o) (exec_all p o') b
    exec_all_same Done s v on other h = ap Step (h s v)
    exec_all_same (Then st b) s v on other h = ap Step (exec_same st s v _ _ (λ s1 v1. exec_all_same b s1 v1 on other h))

pub same_rules : (p : Program) (n c d : ℕ) → ((x : Name) → IsWithin p n x) → 4 * n < c → 4 * n < d → SameRules p c d
same_rules p n c d all m m' =
    let outside = ground_level p n all n c d (omega (arith, m)) (omega (arith, m')) in
    let here = ground_level p n all n (suc c) (suc d) (omega (arith, m)) (omega (arith, m')) in
    let opens = ground_opens p n all c d m m' in
    record {
      eval = λ e. here.eval e (each_of_all all _);
      evals = λ es. here.evals es (each_of_all all _);
      produce = λ a. here.produce a (each_of_all all _);
      consume = λ a. here.consume a (each_of_all all _);
      exec = exec_same p n all (outer p c) (outer p d) outside opens here;
      exec_all = exec_all_same p n all (outer p c) (outer p d) outside opens here;
    }

pub depth_suffices : (p : Program) (d : ℕ) → NoneWithinItself p → depth p ≤ d → SameRules p (depth p) d
depth_suffices p d apart m = same_rules p (length p) (depth p) d (all_within p apart) (omega arith) (omega (arith, m))

pub reads_itself : (p : Program) (l : ℕ) → NoneWithinItself p → ReadsItself p l
unfolding rules
reads_itself p l apart =
    let all = all_within p apart in
    let h = any_level p (length p) all l (length p) (depth p) (suc (depth p)) (omega arith) (omega arith) in
    record {
      eval = λ e. h.eval e (each_of_all all _);
      evals = λ es. h.evals es (each_of_all all _);
      produce = λ a. h.produce a (each_of_all all _);
      consume = λ a. h.consume a (each_of_all all _);
    }
