-- The questions of members are shaped.
use Rattle.std.proofs.Common.{false, List, [], Option, Some, None, length}
use Rattle.std.specs.Prelude.{IfSome}
use Rattle.vx_ast.specs.declared.Place.{Place}
use Rattle.vx_ast.specs.Syntax.{Name, result_name, Program, Kind, IsField, IsPredicate, IsFunction, IsMethod, Predicate, Function, Method, Assertion, Block, joined, conjoined, as_assertion, Measure, ByNumber, ByInstance}
use Rattle.vx_terms.specs.Sorts.{SnapSort}
use Rattle.vx_terms.specs.Terms.{Term}
use Rattle.vx_terms.specs.Build.{whole_amount}
use Rattle.vx_terms.specs.Interpretations.{Each}
use Rattle.vx_rules.specs.States.{State, declare, with_heap, fresh, after_fresh, declare_all}
use Rattle.vx_rules.specs.Trees.{PostCode, MeasureCode, Tree, End, Fork}
use Rattle.vx_rules.specs.Chunks.{instance_key, candidates, holds_some}
use Rattle.vx_rules.specs.Rules.{Outer, never, first_with, produce}
use Rattle.vx_rules.specs.Members.{codes, depth, rules, blank, ended, with_new_returns, rooted, promise_side, body_side, both_sides, sides, method_over, function_body, from_measure, function_over, predicate_over, tree_over}
use Rattle.vx_readable.specs.Numerals.{IsSmallAssertion, IsSmallBlock, IsSmallMeasure, IsSmallFunction, IsSmallMethod, IsSmallKind, HasSmallNumerals}
use Rattle.vx_readable.specs.Readable.{ShapedLaw}
use Rattle.vx_readable.proofs.Shapes.{Shaped, whole_amount_shaped}
use Rattle.vx_readable.proofs.States.{Sound, heap_sound, fresh_sound, fresh_shaped, leave_sound, declare_sound, declare_all_sound, candidates_shaped, holds_some_shaped, rooted_sound}
use Rattle.vx_readable.proofs.ShapeSteps.{Good, good_all, Follows, never_good, first_good}
use Rattle.vx_readable.proofs.Programs.{kind_small, joined_small, conjoined_small, asserted_small}
use Rattle.vx_readable.proofs.ShapeParts.{OuterGood}
use Rattle.vx_readable.proofs.ShapeAssertions.{eval_good, evals_good, produce_good, consume_good, outer_good}
use Rattle.vx_readable.proofs.ShapeStatements.{exec_all_good}

blank_sound : Sound blank
blank_sound = record { store = tt; heap = tt; old = tt; path = tt; own = tt }

module _ (p : Program) (small : HasSmallNumerals p) (o : Outer) (below : OuterGood o) where
  -- Methods

  promise_good : (m : Method) → IsSmallMethod m → Follows (promise_side p o m)
  promise_good m sm s k =
      produce_good p small o below (joined m.place m.ensures) (joined_small m.place m.ensures sm.ensures) whole_amount whole_amount_shaped None tt (with_new_returns m (with_heap [] s))
      (declare_all_sound m.returns (leave_sound (length m.parameters) (heap_sound tt k))) ended (λ s1 k1. tt)

  body_good : (m : Method) (b : Block) → IsSmallMethod m → IsSmallBlock b → Follows (body_side p o m b)
  body_good m b sm sb s k =
      exec_all_good p small o below b sb s k _ (λ s1 k1.
      consume_good p small o below (joined m.place m.ensures) (joined_small m.place m.ensures sm.ensures) (codes PostCode PostCode) whole_amount whole_amount_shaped s1.heap k1.heap s1 k1 (λ t s2. End) (λ t s2 ht k2. tt))

  both_good : (m : Method) → IsSmallMethod m → Follows (both_sides p o m)
  both_good m sm s k = go m.body sm.body
    where
      by_body : Option Block → Tree
      by_body None = promise_side p o m s
      by_body (Some b) = Fork (promise_side p o m s) (body_side p o m b s)

      go : (b : Option Block) → IfSome b IsSmallBlock → Good (by_body b)
      go None sb = promise_good m sm s k
      go (Some b) sb = (promise_good m sm s k, body_good m b sm sb s k)

  sides_good : (m : Method) → IsSmallMethod m → Follows (sides p o m)
  sides_good m sm s k = both_good m sm (record s { old = s.heap }) (record { store = k.store; heap = k.heap; old = k.heap; path = k.path; own = k.own })

  method_good : (m : Method) → IsSmallMethod m → Good (method_over p o m)
  method_good m sm =
      produce_good p small o below (joined m.place m.requires) (joined_small m.place m.requires sm.requires) whole_amount whole_amount_shaped None tt (declare_all m.returns (declare_all m.parameters blank))
      (declare_all_sound m.returns (declare_all_sound m.parameters blank_sound)) (sides p o m) (sides_good m sm)

  -- Functions

  measured_sound : {s : State} (f : Name) (measure : Option Term) → IfSome measure Shaped → Sound s → Sound (record s { own = Some (record { function = f; measure = measure }) })
  measured_sound f measure h k = record { store = k.store; heap = k.heap; old = k.old; path = k.path; own = h }

  function_body_good : (f : Name) (g : Function) (measure : Option Term) → IsSmallFunction g → IfSome measure Shaped → Follows (function_body p o f g measure)
  function_body_good f g measure sg h s k =
      let promise = as_assertion (conjoined g.place g.ensures) in
      eval_good p small o below g.body sg.body (record s { own = Some (record { function = f; measure = measure }) }) (measured_sound f measure h k) _ (λ w s1 hw k1.
      consume_good p small o below promise (asserted_small (conjoined g.place g.ensures) (conjoined_small g.place g.ensures sg.ensures)) (codes PostCode PostCode) whole_amount whole_amount_shaped s1.heap k1.heap
      (declare result_name w s1) (declare_sound result_name w hw k1) (λ t s2. End) (λ t s2 ht k2. tt))

  -- from the instance that a measure names
  rooted_good : (f : Name) (g : Function) (at : Place) (i : Name) (ts : List Term) (s : State) → IsSmallFunction g → Each Shaped ts → Sound s
      → Good (first_with (holds_some ts) (candidates (instance_key i ts) s.heap) at MeasureCode s (λ c. function_body p o f g None (rooted c s)) (never at MeasureCode s))
  rooted_good f g at i ts s sg hs k =
      first_good s (holds_some ts) (candidates (instance_key i ts) s.heap) at MeasureCode (λ c. function_body p o f g None (rooted c s)) (never at MeasureCode s) (λ c hc. holds_some_shaped ts c hs hc)
      (candidates_shaped (instance_key i ts) s.heap k.heap) k (λ c hc. function_body_good f g None sg tt (rooted c s) (rooted_sound c hc k)) (never_good s at MeasureCode k)

  measure_good : (f : Name) (g : Function) (m : Option Measure) → IsSmallFunction g → IfSome m IsSmallMeasure → Follows (from_measure p o f g m)
  measure_good f g None sg sm s k = function_body_good f g None sg tt s k
  measure_good f g (Some (ByNumber e)) sg sm s k = eval_good p small o below e sm s k _ (λ m s1 hm k1. function_body_good f g (Some m) sg hm s1 k1)
  measure_good f g (Some (ByInstance at i es)) sg sm s k = evals_good p small o below es sm s k _ (λ ts s1 hs k1. rooted_good f g at i ts s1 sg hs k1)

  function_good : (f : Name) (g : Function) → IsSmallFunction g → Good (function_over p o f g)
  function_good f g sg =
      let s = declare_all g.parameters blank in
      produce_good p small o below (joined g.place g.requires) (joined_small g.place g.requires sg.requires) whole_amount whole_amount_shaped (Some (fresh SnapSort s)) (fresh_shaped SnapSort s) (after_fresh s)
      (fresh_sound {s = s} (declare_all_sound g.parameters blank_sound)) (from_measure p o f g g.decreases) (measure_good f g g.decreases sg sg.decreases)

  -- Predicates

  predicate_good : (d : Predicate) → IfSome d.body IsSmallAssertion → Good (predicate_over p o d)
  predicate_good d sd = go d.body sd
    where
      s : State
      s = record (declare_all d.parameters blank) { bounded = false }

      begun : Sound s
      begun =
          let k = declare_all_sound d.parameters blank_sound in
          record { store = k.store; heap = k.heap; old = k.old; path = k.path; own = k.own }

      by_body : Option Assertion → Tree
      by_body None = End
      by_body (Some body) = produce p o body whole_amount None s ended

      go : (b : Option Assertion) → IfSome b IsSmallAssertion → Good (by_body b)
      go None sb = tt
      go (Some body) sb = produce_good p small o below body sb whole_amount whole_amount_shaped None tt s begun ended (λ s1 k1. tt)

  kind_good : (x : Name) (k : Kind) → IsSmallKind k → Good (tree_over p o x k)
  kind_good x (IsField t) sk = tt
  kind_good x (IsPredicate d) sk = predicate_good d sk
  kind_good x (IsFunction g) sk = function_good x g sk
  kind_good x (IsMethod m) sk = method_good m sk

rules_good : (p : Program) → HasSmallNumerals p → OuterGood (rules p)
unfolding rules
rules_good p small = outer_good p small (depth p)

pub members_shaped : ShapedLaw
members_shaped p n m small is = good_all (tree_over p (rules p) m.name m.kind) (kind_good p small (rules p) (rules_good p small) m.name m.kind (kind_small p n m small is))
