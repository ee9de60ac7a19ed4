-- Members grow from the path that has nothing.
use Rattle.std.proofs.Common.{false, List, [], Option, Some, None, length}
use Rattle.vx_ast.specs.declared.Place.{Place}
use Rattle.vx_ast.specs.Syntax.{Name, result_name, Program, IsField, IsPredicate, IsFunction, IsMethod, Predicate, Function, Method, Assertion, Block, joined, conjoined, as_assertion, Measure, ByNumber, ByInstance}
use Rattle.vx_terms.specs.Sorts.{SnapSort}
use Rattle.vx_terms.specs.Terms.{Term}
use Rattle.vx_terms.specs.Build.{whole_amount}
use Rattle.vx_rules.specs.States.{State, declare, leave, with_heap, fresh, after_fresh, declare_all}
use Rattle.vx_rules.specs.Trees.{PostCode, MeasureCode, Tree, End, Fork}
use Rattle.vx_rules.specs.Chunks.{instance_key, candidates, holds_some}
use Rattle.vx_rules.specs.Rules.{Outer, never, first_with, produce, consume}
use Rattle.vx_rules.specs.Members.{codes, depth, rules, blank, ended, with_new_returns, rooted, promise_side, body_side, both_sides, sides, method_over, function_body, from_measure, function_over, predicate_over}
use Rattle.vx_grows.specs.Grows.{Grows, GrowthLaw}
use Rattle.vx_grows.proofs.Bases.{at_first, sooner}
use Rattle.vx_grows.proofs.Later.{declared_later}
use Rattle.vx_grows.proofs.GrowSteps.{GrowsIn, Follows, never_grows, first_grows}
use Rattle.vx_grows.proofs.GrowParts.{OuterGrows}
use Rattle.vx_grows.proofs.GrowAssertions.{eval_grows, evals_grows, produce_grows, consume_grows, outer_grows}
use Rattle.vx_grows.proofs.GrowStatements.{exec_all_grows}

module _ (p : Program) (o : Outer) (below : OuterGrows o) where
  -- Methods

  promise_grows : (m : Method) → Follows (promise_side p o m)
  promise_grows m s =
      let front = leave (length m.parameters) (with_heap [] s) in
      sooner (promise_side p o m s) (declared_later m.returns front).begins
      (produce_grows p o below (joined m.place m.ensures) whole_amount None (with_new_returns m (with_heap [] s)) ended (λ s1. tt))

  body_grows : (m : Method) (b : Block) → Follows (body_side p o m b)
  body_grows m b s =
      exec_all_grows p o below b s _ (λ s1.
      consume_grows p o below (joined m.place m.ensures) (codes PostCode PostCode) whole_amount s1.heap s1 (λ t s2. End) (λ t s2. tt))

  both_grow : (m : Method) → Follows (both_sides p o m)
  both_grow m s = go m.body
    where
      by_body : Option Block → Tree
      by_body None = promise_side p o m s
      by_body (Some b) = Fork (promise_side p o m s) (body_side p o m b s)

      go : (b : Option Block) → GrowsIn s (by_body b)
      go None = promise_grows m s
      go (Some b) = (promise_grows m s, body_grows m b s)

  pub sides_grow : (m : Method) → Follows (sides p o m)
  sides_grow m s = both_grow m (record s { old = s.heap })

  method_grows : (m : Method) → Grows [] (method_over p o m)
  method_grows m =
      let s = declare_all m.returns (declare_all m.parameters blank) in
      sooner (method_over p o m) at_first (produce_grows p o below (joined m.place m.requires) whole_amount None s (sides p o m) (sides_grow m))

  -- Functions

  pub concluding_grows : (g : Function) (w : Term) (s : State) → GrowsIn s (consume p o (as_assertion (conjoined g.place g.ensures)) (codes PostCode PostCode) whole_amount s.heap (declare result_name w s) (λ t s1. End))
  concluding_grows g w s =
      consume_grows p o below (as_assertion (conjoined g.place g.ensures)) (codes PostCode PostCode) whole_amount s.heap (declare result_name w s) (λ t s1. End) (λ t s1. tt)

  pub function_body_grows : (f : Name) (g : Function) (measure : Option Term) → Follows (function_body p o f g measure)
  function_body_grows f g measure s =
      eval_grows p o below g.body (record s { own = Some (record { function = f; measure = measure }) }) _ (λ w s1. concluding_grows g w s1)

  -- from the instance that a measure names
  pub rooted_grows : (f : Name) (g : Function) (at : Place) (i : Name) (ts : List Term) (s : State) → GrowsIn s (first_with (holds_some ts) (candidates (instance_key i ts) s.heap) at MeasureCode s (λ c. function_body p o f g None (rooted c s)) (never at MeasureCode s))
  rooted_grows f g at i ts s =
      first_grows s (holds_some ts) (candidates (instance_key i ts) s.heap) at MeasureCode (λ c. function_body p o f g None (rooted c s)) (never at MeasureCode s)
      (λ c. function_body_grows f g None (rooted c s)) (never_grows s at MeasureCode)

  pub measure_grows : (f : Name) (g : Function) (m : Option Measure) → Follows (from_measure p o f g m)
  measure_grows f g None s = function_body_grows f g None s
  measure_grows f g (Some (ByNumber e)) s = eval_grows p o below e s _ (λ m s1. function_body_grows f g (Some m) s1)
  measure_grows f g (Some (ByInstance at i es)) s = evals_grows p o below es s _ (λ ts s1. rooted_grows f g at i ts s1)

  function_grows : (f : Name) (g : Function) → Grows [] (function_over p o f g)
  function_grows f g =
      let s = declare_all g.parameters blank in
      sooner (function_over p o f g) at_first
      (produce_grows p o below (joined g.place g.requires) whole_amount (Some (fresh SnapSort s)) (after_fresh s) (from_measure p o f g g.decreases) (measure_grows f g g.decreases))

  -- Predicates

  predicate_grows : (d : Predicate) → Grows [] (predicate_over p o d)
  predicate_grows d = go d.body
    where
      s : State
      s = record (declare_all d.parameters blank) { bounded = false }

      by_body : Option Assertion → Tree
      by_body None = End
      by_body (Some body) = produce p o body whole_amount None s ended

      go : (b : Option Assertion) → Grows [] (by_body b)
      go None = tt
      go (Some body) = sooner (by_body (Some body)) at_first (produce_grows p o below body whole_amount None s ended (λ s1. tt))

pub rules_grow : (p : Program) → OuterGrows (rules p)
unfolding rules
rules_grow p = outer_grows p (depth p)

pub members_grow : GrowthLaw
members_grow p x (IsField t) = tt
members_grow p x (IsPredicate d) = predicate_grows p (rules p) (rules_grow p) d
members_grow p x (IsFunction g) = function_grows p (rules p) (rules_grow p) x g
members_grow p x (IsMethod m) = method_grows p (rules p) (rules_grow p) m
