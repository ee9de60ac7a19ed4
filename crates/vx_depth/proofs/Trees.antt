-- The trees of members over the rules of two depths.
use Rattle.std.proofs.Common.{◌≡◌, ℕ, ◌≤◌, [], Option, Some, None, refl, sym, ap, ap₂, false}
use Rattle.vx_ast.specs.Syntax.{Name, result_name, Program, Kind, IsField, IsPredicate, IsFunction, IsMethod, Predicate, Function, Method, Assertion, Block, joined, conjoined, as_assertion, Measure, ByNumber, ByInstance}
use Rattle.vx_terms.specs.Sorts.{SnapSort}
use Rattle.vx_terms.specs.Terms.{Term}
use Rattle.vx_terms.specs.Build.{whole_amount}
use Rattle.vx_rules.specs.States.{with_heap, declare, declare_all, fresh, after_fresh}
use Rattle.vx_rules.specs.Trees.{PostCode, MeasureCode, Tree, End, Step, Fork}
use Rattle.vx_rules.specs.Chunks.{instance_key, candidates, holds_some}
use Rattle.vx_rules.specs.Rules.{outer, produce}
use Rattle.vx_rules.specs.Members.{codes, depth, rules, blank, ended, with_new_returns, rooted, promise_side, body_side, both_sides, method_over, function_body, from_measure, function_over, predicate_over, tree_over, tree}
use Rattle.vx_depth.specs.Entering.{NoneWithinItself}
use Rattle.vx_depth.specs.Depths.{SameGoing, SameRules}
use Rattle.vx_depth.proofs.Levels.{declare_level}
use Rattle.vx_depth.proofs.Same.{first_same}
use Rattle.vx_depth.proofs.Statements.{depth_suffices}

module _ (p : Program) (c d : ℕ) (same : SameRules p c d) where
  promise_same : (m : Method) → SameGoing 0 (promise_side p (outer p c) m) (promise_side p (outer p d) m)
  promise_same m s v = same.produce (joined m.place m.ensures) whole_amount None (with_new_returns m (with_heap [] s)) (declare_level m.returns _ v) ended ended (λ s1 v1. refl)

  body_same : (m : Method) (b : Block) → SameGoing 0 (body_side p (outer p c) m b) (body_side p (outer p d) m b)
  body_same m b s v = same.exec_all b s v _ _ (λ s1 v1.
      same.consume (joined m.place m.ensures) (codes PostCode PostCode) whole_amount s1.heap s1 v1 _ _ (λ t s2 v2. refl))

  sides_same : (m : Method) → SameGoing 0 (both_sides p (outer p c) m) (both_sides p (outer p d) m)
  sides_same m s v = go m.body
    where
      go : (b : Option Block) → elim b as (λ b. Tree) [ None ↦ promise_side p (outer p c) m s | Some b ↦ Fork (promise_side p (outer p c) m s) (body_side p (outer p c) m b s) ]
          ≡ elim b as (λ b. Tree) [ None ↦ promise_side p (outer p d) m s | Some b ↦ Fork (promise_side p (outer p d) m s) (body_side p (outer p d) m b s) ]
      go None = promise_same m s v
      go (Some b) = ap₂ Fork (promise_same m s v) (body_same m b s v)

  method_same : (m : Method) → method_over p (outer p c) m ≡ method_over p (outer p d) m
  method_same m =
      same.produce (joined m.place m.requires) whole_amount None (declare_all m.returns (declare_all m.parameters blank)) (declare_level m.returns (declare_all m.parameters blank) (declare_level m.parameters blank refl)) _ _
      (λ s v. sides_same m (record s { old = s.heap }) v)

  function_body_same : (f : Name) (g : Function) (m : Option Term) → SameGoing 0 (function_body p (outer p c) f g m) (function_body p (outer p d) f g m)
  function_body_same f g m s v = ap Step (same.eval g.body (record s { own = Some (record { function = f; measure = m }) }) v _ _ (λ w s1 v1.
      same.consume (as_assertion (conjoined g.place g.ensures)) (codes PostCode PostCode) whole_amount s1.heap (declare result_name w s1) v1 _ _ (λ t s2 v2. refl)))

  from_measure_same : (f : Name) (g : Function) (m : Option Measure) → SameGoing 0 (from_measure p (outer p c) f g m) (from_measure p (outer p d) f g m)
  from_measure_same f g None s v = function_body_same f g None s v
  from_measure_same f g (Some (ByNumber e)) s v = ap Step (same.eval e s v _ _ (λ m s1 v1. function_body_same f g (Some m) s1 v1))
  from_measure_same f g (Some (ByInstance at i es)) s v =
      ap Step (same.evals es s v _ _ (λ ts s1 v1. first_same (holds_some ts) (candidates (instance_key i ts) s1.heap) at MeasureCode s1 (λ c. function_body_same f g None (rooted c s1) v1) refl))

  function_same : (f : Name) (g : Function) → function_over p (outer p c) f g ≡ function_over p (outer p d) f g
  function_same f g =
      let s = declare_all g.parameters blank in
      same.produce (joined g.place g.requires) whole_amount (Some (fresh SnapSort s)) (after_fresh s) (declare_level g.parameters blank refl) _ _ (from_measure_same f g g.decreases)

  predicate_same : (e : Predicate) → predicate_over p (outer p c) e ≡ predicate_over p (outer p d) e
  predicate_same e = go e.body
    where
      go : (b : Option Assertion) → elim b as (λ b. Tree) [ None ↦ End | Some body ↦ produce p (outer p c) body whole_amount None (record (declare_all e.parameters blank) { bounded = false }) ended ]
          ≡ elim b as (λ b. Tree) [ None ↦ End | Some body ↦ produce p (outer p d) body whole_amount None (record (declare_all e.parameters blank) { bounded = false }) ended ]
      go None = refl
      go (Some body) = same.produce body whole_amount None (record (declare_all e.parameters blank) { bounded = false }) (declare_level e.parameters blank refl) ended ended (λ s v. refl)

  over_same : (x : Name) (k : Kind) → tree_over p (outer p c) x k ≡ tree_over p (outer p d) x k
  over_same x (IsField t) = refl
  over_same x (IsPredicate e) = predicate_same e
  over_same x (IsFunction g) = function_same x g
  over_same x (IsMethod m) = method_same m

pub over_more : (p : Program) (d : ℕ) → NoneWithinItself p → depth p ≤ d → (x : Name) (k : Kind) → tree_over p (outer p d) x k ≡ tree p x k
unfolding rules
over_more p d apart m x k = sym (over_same p (depth p) d (depth_suffices p d apart m) x k)
